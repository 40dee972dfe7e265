use Rattle.std.proofs.Common.{length, ap, ◌∙◌, sym}
use Rattle.slt_grammar.proofs.KeyedLemmas.{length-rules_of}
use Rattle.slt_grammar.specs.Keyed.{rules_of}
use Rattle.store_core.proofs.Following.{values-followed}
use Rattle.tree_updates.proofs.CopiedStores.{roomy-counts}
use Rattle.store_core.proofs.repairing.settle_in_place.Goals as goal

pub settle_edited-settled-requires-clause-marked : goal.settle_edited-settled-requires-clause-marked
settle_edited-settled-requires-clause-marked c =
    let store = c.args.store.now in
    c.mark_nodes.ensures.stand store.names store.grammar.rules c.requires.marks

pub follow-requires-clause-same : goal.follow-requires-clause-same
follow-requires-clause-same c =
    let store = c.args.store.now in
    let G = store.grammar.rules in
    let settled = c.settle_edited-settled in
    let n = c.numbers.ensures in
    let many = n.length ∙ c.requires.store.1.index.rules in
    let was = c.as_slice.ensures.value ∙ c.in_ok-numbers.ensures.items_if_clones_equal (λ x y e. e) ∙ n.value in
    let r = c.reserve.ensures in (
      rules_of G,
      c.rules-before.ensures.grammar,
      roomy-counts store.names (rules_of G) store.counts c.reserve.new.self r.rules r.grown r.kept c.requires.store.1.counts,
      ap length was ∙ many ∙ sym (length-rules_of G),
      settled.ensures.kept.same,
      values-followed c.as_slice.result.now c.numbers-2.result.now G settled.new.grammar.rules store.index c.mark_nodes.new.index settled.new.index
          c.mark_nodes.ensures.index was c.numbers-2.ensures.value many n.distinct n.below settled.ensures.marks,
    )

pub returns-clause-marks : goal.returns-clause-marks
returns-clause-marks c =
    let store = c.args.store.now in
    c.keep_marked.ensures.stay store.names store.grammar.rules c.settle_edited-settled.new.grammar.rules c.mark_nodes.new.index c.requires.marks c.settle_edited-settled.ensures.marks
