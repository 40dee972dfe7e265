use Rattle.std.proofs.Common.{arith}
use Rattle.slt_grammar.specs.Grammars.{value}
use Rattle.slt_grammar.specs.Keyed.{rules_of}
use Rattle.store_core.proofs.Encoded.{stands-same}
use Rattle.segment_counts.proofs.Coded.{weight-coded}
use Rattle.store_core.proofs.loading.store_of.Goals as goal

pub tables_of-requires-clause-few : goal.tables_of-requires-clause-few
tables_of-requires-clause-few c =
    let rules = rules_of c.in_ok-grammar.grammar.rules in
    let names = c.args.folded.names in
    let same = c.in_ok-grammar.ensures.same in
    let tree = c.requires.fold.0 in
    let fold = c.requires.fold.1.0 in
    let small = c.requires.fold.1.1 in
    let stand = stands-same (rules_of c.args.folded.grammar.rules) rules names c.args.folded.texts.texts tree same fold.stand in
    omega (arith, weight-coded names tree (value rules) stand.code, small)

pub returns-clause-encoded : goal.returns-clause-encoded
returns-clause-encoded c = λ t fold.
    let rules = rules_of c.in_ok-grammar.grammar.rules in
    let same = c.in_ok-grammar.ensures.same in
    record {
      stand = stands-same (rules_of c.args.folded.grammar.rules) rules c.args.folded.names c.args.folded.texts.texts t same fold.stand;
      names = fold.names;
      settled = c.in_ok-grammar.ensures.settled;
      ranks = omega (arith, c.in_ok-grammar.ensures.ranks, fold.ranks, c.requires.rank);
    }
