use Rattle.std.proofs.Common.{length, Some, refl, ap, ◌∙◌}
use Rattle.tree_outside.proofs.Beside.{Stays-refl}
use Rattle.slt_grammar.specs.Keyed.{rules_of}
use Rattle.store_core.specs.StoreOf.{parts_of}
use Rattle.store_core.specs.Texts.{answer_line}
use Rattle.store_core.specs.Worlds.{told_files}
use Rattle.store_core.specs.declared.answer.Answer.TheVariants.{Repaired}
use Rattle.store_core.proofs.Encoded.{stands-same}
use Rattle.store_core.proofs.repairing.repair_document.Goals as goal

pub returns-clause-repairs : goal.returns-clause-repairs
returns-clause-repairs c = λ told count.
    let store = c.args.loaded.now.store in
    let held = c.requires.held in
    let rules = rules_of c.in_ok-settled.settled.grammar.rules in
    let settles = c.in_ok-settled.ensures.settles in
    record {
      parts = parts_of store;
      tree = held.tree;
      rules = rules;
      held = refl;
      stand = held.stand;
      state = ap Some c.in_ok-rules.ensures.replaced;
      still = stands-same (rules_of store.grammar.rules) rules store.names store.texts.texts held.tree settles.same held.stand;
      settled = settles.settled;
      ranks = c.in_ok-settled.ensures.ranks;
      smaller = settles.nodes;
      files = Stays-refl (told_files told);
      printed = ap (λ n. answer_line (Repaired n c.in_ok-rules.size)) c.in_ok-rules.ensures.told.0 ∙ ap (λ n. answer_line (Repaired (length rules) n)) c.in_ok-rules.ensures.told.1;
    }
