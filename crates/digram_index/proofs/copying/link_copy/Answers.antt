use Rattle.std.proofs.Common.{◌≡◌, ◌+◌, ℕ, Bool, true, Option, Some, None, IsSome, ap, ◌∙◌}
use Rattle.std.specs.Prelude.{is_some}
use Rattle.rule_arena.specs.declared.key.Key.{Key}
use Rattle.digram_index.proofs.CopyLinks.{copy-ends, is-copy, is-room, next-at, walking-begins, walking-next}
use Rattle.digram_index.proofs.copying.link_copy.Goals as goal

pub loop-model-init : goal.loop-model-init
loop-model-init g c =
    walking-begins c.args.grammar.now c.limit-limit.ensures.keyed c.args.rule c.args.index.now c.root.result (Some c.args.first) c.new-steps.result c.root.ensures (c.requires.copy c.root.result c.root.ensures)

pub unwrap-here-requires : goal.unwrap-here-requires
unwrap-here-requires g c =
    let W = rw c.in-Some.is at c.loop-model.invariant in
    is-copy c.args.grammar.now c.limit-limit.ensures.keyed c.args.rule c.loop-model.index c.in-Some.node c.loop-model.copy W.left

pub link_node-requires-clause-room : goal.link_node-requires-clause-room
link_node-requires-clause-room g c =
    let W = rw c.in-Some.is at c.loop-model.invariant in
    is-room c.args.grammar.now c.limit-limit.ensures.keyed c.args.rule c.loop-model.index c.in-Some.node c.loop-model.copy W.left c.args.index.now.spare_links c.requires.room c.loop-model.index.spare_links W.spare

more-left : (o : Option Key) (b : Bool) → b ≡ is_some o → IsSome o → b ≡ true
more-left None b e s = absurd (cc)
more-left (Some k) b e s = e

pub loop-model-preserved : goal.loop-model-preserved
loop-model-preserved g c =
    let W = rw c.in-Some.is at c.loop-model.invariant in
    let L = c.link_node.ensures in
    let told = c.label-label.ensures.node c.args.rule in
    let m = c.next_in_preorder-model.result in
    let next = λ (s : IsSome m).
    let b = more-left m c.is_some.result c.is_some.ensures s in
    next-at c.args.grammar.now c.limit-limit.ensures.keyed c.args.rule c.loop-model.index c.in-Some.node c.loop-model.copy W.left c.label-label.result told c.unwrap-here.result c.unwrap-here.ensures c.next_of_copy-copy.result
    (c.next_of_copy-copy.ensures.argument b) (c.next_of_copy-copy.ensures.node b) in
    walking-next c.args.grammar.now c.limit-limit.ensures.keyed c.args.rule c.loop-model.index c.in-Some.node c.loop-model.copy W.left c.label-label.result told
    c.unwrap-here.result c.unwrap-here.ensures c.link_node.new.index L.part L.right L.others c.next_of_copy-copy.result m (c.next_in_preorder-model.ensures.next c.args.rule)
    next c.args.index.now c.new-steps.result c.loop-model.steps c.next_in_preorder-model.new.steps W.cells W.spare W.counted L.cells L.spare W.spare_rules L.spare_rules
    (c.next_in_preorder-model.ensures.step ∙ ap (λ (n : ℕ). n + 1) c.label-label.ensures.step) W.marks L.marks

pub returns-clause-marks : goal.returns-clause-marks
returns-clause-marks g c = c.loop-model.invariant.marks

pub returns-clause-index : goal.returns-clause-index
returns-clause-index g c =
    let W = rw c.in_default.is at c.loop-model.invariant in
    copy-ends c.args.grammar.now c.limit-limit.ensures.keyed c.args.rule c.loop-model.index c.loop-model.copy W.left
