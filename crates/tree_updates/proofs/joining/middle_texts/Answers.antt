use Rattle.std.proofs.Common.{◌++◌, ◌∷◌, [], ◌-◌, ℕ, List, take, drop, ap, sym, ◌∙◌, arith}
use Rattle.std.specs.Option.{option_copied}
use Rattle.tree_updates.proofs.JoinedEnds.{middle-done, middle-next, middle-starts}
use Rattle.tree_updates.proofs.joining.middle_texts.Goals as goal

pub loop-at-init : goal.loop-at-init
loop-at-init c = (omega arith, (omega (arith, c.ends-from.ensures, c.len.ensures, c.ends.ensures, c.requires), c.new-values.ensures ∙ middle-starts c.ends-from.result c.args.texts.now))

pub loop-at-preserved : goal.loop-at-preserved
loop-at-preserved c =
    let I = c.loop-at.invariant in
    let from = c.ends-from.result in
    let xs = c.args.texts.now in
    let there = sym c.get.ensures ∙ ap option_copied c.unwrap-text.ensures in (
      omega (arith, I.0),
      (
        omega (arith, c.loop-at-test.true),
        c.in_ok-push.ensures.ok ∙ ap (λ (ys : List (List ℕ)). ys ++ c.in_ok-from_slice.field-0 ∷ []) I.1.1
            ∙ ap (λ (y : List ℕ). take (c.loop-at.at - from) (drop from xs) ++ y ∷ []) (c.in_ok-from_slice.ensures ∙ c.as_slice.ensures) ∙ sym (middle-next from xs c.loop-at.at c.unwrap-text.result.now I.0 there),
      ),
    )

pub returns : goal.returns
returns c =
    let I = c.loop-at.invariant in
    I.1.1 ∙ middle-done c.args.texts.now c.loop-at.at c.ends-from.result c.ends.result c.len.result _ _ I.0 c.len.ensures c.ends-from.ensures c.ends.ensures c.requires c.loop-at-test.false I.1.0
