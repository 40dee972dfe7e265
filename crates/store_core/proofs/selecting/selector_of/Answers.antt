use Rattle.std.proofs.Common.{ap, subst, sym, ◌∙◌}
use Rattle.plain_tree.specs.Tree.{none, more}
use Rattle.text_list.specs.Marking.{mark_of}
use Rattle.value_tests.specs.MarkedCodes.{CodesMarked}
use Rattle.xpath_parser.specs.Comparing.{literals_of}
use Rattle.xpath_parser.specs.Meaning.{selected}
use Rattle.xpath_parser.specs.Queries as queries
use Rattle.store_core.proofs.Asked.{states-spelled, within-inside, within-outside}
use Rattle.store_core.proofs.selecting.selector_of.Goals as goal

pub compile-requires-clause-few : goal.compile-requires-clause-few
compile-requires-clause-few c = let r = c.requires in within-inside c.args.text.now r.paths _ r.spelled r.within r.means

pub compile-requires-clause-short : goal.compile-requires-clause-short
compile-requires-clause-short c = let r = c.requires in within-outside c.args.text.now r.paths _ r.spelled r.within r.means

pub returns : goal.returns
returns c =
    let r = c.requires in
    record {
      paths = r.paths;
      spelled = r.spelled;
      within = r.within;
      selects = λ tree term code.
          let marked : queries.Paths → Type 0 = λ ps. CodesMarked c.args.names.now (mark_of (literals_of ps)) (more tree none) term in
          c.in_ok-selector.ensures.selects tree term (subst marked (sym r.means) code) ∙ ap (selected tree) r.means;
      states = states-spelled c.args.text.now r.paths _ _ _ r.spelled r.means c.in_ok-selector.ensures.states;
    }
