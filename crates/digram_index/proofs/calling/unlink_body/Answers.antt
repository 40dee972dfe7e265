use Rattle.std.proofs.Common.{◌≡◌, ◌+◌, ℕ, Bool, true, Option, Some, None, IsSome, ap, ◌∙◌, arith}
use Rattle.std.specs.Prelude.{is_some}
use Rattle.rule_arena.specs.declared.key.Key.{Key}
use Rattle.digram_index.proofs.BodyUnlinks.{fewer, some-here, stands, unlinking-begins, walked-all, walked-next}
use Rattle.digram_index.proofs.CopyLinks.{next-at}
use Rattle.digram_index.proofs.NodeLinks.{stays-free}
use Rattle.digram_index.proofs.Numbered.{fewer-both}
use Rattle.digram_index.proofs.calling.unlink_body.Goals as goal

pub loop-model-init : goal.loop-model-init
loop-model-init g c = unlinking-begins c.args.grammar.now c.limit-limit.ensures.keyed c.args.at c.args.rule c.args.index.now c.requires.index c.root.result c.new-steps.result c.root.ensures

pub unwrap-here-requires : goal.unwrap-here-requires
unwrap-here-requires g c =
    let B = c.requires.begins in
    let U = rw c.in-Some.is at c.loop-model.invariant in
    some-here c.args.grammar.now c.limit-limit.ensures.keyed c.args.at c.args.rule c.args.index.now c.requires.index c.loop-model.index c.in-Some.node c.loop-model.copy B.0 B.1 _ _ (U.each B.0 B.1)

pub label-label-requires : goal.label-label-requires
label-label-requires g c =
    let B = c.requires.begins in
    let U = rw c.in-Some.is at c.loop-model.invariant in
    let W = U.each B.0 B.1 in
    (c.args.rule, W.walk.at, W.walk.model_at)

pub next_in_preorder-model-requires : goal.next_in_preorder-model-requires
next_in_preorder-model-requires g c =
    let B = c.requires.begins in
    let U = rw c.in-Some.is at c.loop-model.invariant in
    let W = U.each B.0 B.1 in
    (c.args.rule, W.walk.at, W.walk.model_at)

pub next_of_copy-copy-requires : goal.next_of_copy-copy-requires
next_of_copy-copy-requires g c =
    let B = c.requires.begins in
    let U = rw c.in-Some.is at c.loop-model.invariant in
    let W = U.each B.0 B.1 in
    let S = stands c.args.grammar.now c.limit-limit.ensures.keyed c.args.at c.args.rule c.args.index.now c.requires.index c.loop-model.index c.in-Some.node c.loop-model.copy B.0 B.1 _ _ W
    c.label-label.result (c.label-label.ensures.node c.args.rule) c.unwrap-here.result c.unwrap-here.ensures in
    (S.rule, S.place, S.there)

pub loop-model-smaller : goal.loop-model-smaller
loop-model-smaller g c =
    let B = c.requires.begins in
    let U = rw c.in-Some.is at c.loop-model.invariant in
    let W = U.each B.0 B.1 in
    omega (
      arith,
      W.counted,
      c.next_in_preorder-model.ensures.step,
      c.label-label.ensures.step,
      fewer c.args.grammar.now c.limit-limit.ensures.keyed c.args.at c.args.rule c.args.index.now c.requires.index c.loop-model.index c.in-Some.node c.loop-model.copy B.0 B.1 _ _ W
          c.label-label.result (c.label-label.ensures.node c.args.rule) c.unwrap-here.result c.unwrap-here.ensures,
    )

more-left : (o : Option Key) (b : Bool) → b ≡ is_some o → IsSome o → b ≡ true
more-left None b e s = absurd (cc)
more-left (Some k) b e s = e

pub loop-model-preserved : goal.loop-model-preserved
loop-model-preserved g c =
    let U = rw c.in-Some.is at c.loop-model.invariant in
    let N = c.unlink_node.ensures in
    let told = c.label-label.ensures.node c.args.rule in
    let m = c.next_in_preorder-model.result in
    record {
      each = λ arguments B.
          let W = U.each arguments B in
          let next = λ (s : IsSome m).
          let b = more-left m c.is_some.result c.is_some.ensures s in
          next-at c.args.grammar.now c.limit-limit.ensures.keyed c.args.rule c.args.index.now c.in-Some.node c.loop-model.copy W.walk c.label-label.result told c.unwrap-here.result c.unwrap-here.ensures c.next_of_copy-copy.result
          (c.next_of_copy-copy.ensures.argument b) (c.next_of_copy-copy.ensures.node b) in
          walked-next c.args.grammar.now c.limit-limit.ensures.keyed c.args.at c.args.rule c.args.index.now c.requires.index c.loop-model.index c.in-Some.node c.loop-model.copy arguments B _ _ W
          c.label-label.result told c.unwrap-here.result c.unwrap-here.ensures m c.next_of_copy-copy.result (c.next_in_preorder-model.ensures.next c.args.rule) next
          c.unlink_node.new.index c.next_in_preorder-model.new.steps N.free N.others
          (c.next_in_preorder-model.ensures.step ∙ ap (λ (n : ℕ). n + 1) c.label-label.ensures.step);
      stays = λ n z. stays-free c.loop-model.index c.unlink_node.new.index c.unwrap-here.result N.free N.others n (U.stays n z);
      rules = N.rules ∙ U.rules;
      room = N.room ∙ U.room;
      spares = (N.spares.0 ∙ U.spares.0, N.spares.1 ∙ U.spares.1);
      marks = fewer-both c.args.index.now c.loop-model.index c.unlink_node.new.index U.marks N.marks;
    }

pub returns-clause-free : goal.returns-clause-free
returns-clause-free g c = λ arguments B.
    let U = rw c.in_default.is at c.loop-model.invariant in
    walked-all c.args.grammar.now c.limit-limit.ensures.keyed c.args.at c.args.rule c.args.index.now c.requires.index c.loop-model.index c.loop-model.copy arguments B _ _ (U.each arguments B)

pub returns-clause-others : goal.returns-clause-others
returns-clause-others g c = λ arguments B. (c.loop-model.invariant.each arguments B).others

pub returns-clause-stays : goal.returns-clause-stays
returns-clause-stays g c = c.loop-model.invariant.stays

pub returns-clause-rules : goal.returns-clause-rules
returns-clause-rules g c = c.loop-model.invariant.rules

pub returns-clause-room : goal.returns-clause-room
returns-clause-room g c = c.loop-model.invariant.room

pub returns-clause-marks : goal.returns-clause-marks
returns-clause-marks g c = c.loop-model.invariant.marks

pub returns-clause-spares : goal.returns-clause-spares
returns-clause-spares g c = c.loop-model.invariant.spares
