use Rattle.std.proofs.Common.{ℕ, ap, ◌∙◌, arith}
use Rattle.std.specs.Int.{w128}
use Rattle.std.specs.Prelude.{◌*ℤ◌, ◌-ℤ◌, pos}
use Rattle.std.proofs.lemmas.Int.{to_z-of_z, to_z_pos}
use Rattle.slt_grammar.specs.Grammars.{calls_of}
use Rattle.slt_grammar.specs.Keyed.{rules_of}
use Rattle.rule_pruning.proofs.SavingLemmas.{less-fits, product-fits, saving-fits}
use Rattle.rule_pruning.proofs.savings.saving.Goals as goal

pub overflow_mul-result : goal.overflow_mul-result
overflow_mul-result c =
    let r : ℕ = c.calls-calls.result in
    let s : ℕ = c.body_size-nodes.result in
    rw (to_z_pos w128 s (omega (arith, c.body_size-nodes.ensures.few)), to_z_pos w128 r (omega (arith, c.calls-calls.type_inv)), to_z-of_z w128 (pos s -ℤ pos 1) (less-fits s c.body_size-nodes.ensures.few))
    (product-fits r s (omega (arith, c.calls-calls.type_inv)) c.body_size-nodes.ensures.few)

pub overflow_sub-result-2 : goal.overflow_sub-result-2
overflow_sub-result-2 c =
    let r : ℕ = c.calls-calls.result in
    let s : ℕ = c.body_size-nodes.result in
    let hr = c.calls-calls.type_inv in
    let hs = c.body_size-nodes.ensures.few in
    rw (
      to_z_pos w128 s (omega (arith, hs)),
      to_z_pos w128 r (omega (arith, hr)),
      to_z-of_z w128 (pos s -ℤ pos 1) (less-fits s hs),
      to_z-of_z w128 (pos r *ℤ (pos s -ℤ pos 1)) (product-fits r s (omega (arith, hr)) hs),
    )
    (saving-fits r s (omega (arith, hr)) hs)

pub returns : goal.returns
returns c =
    let r : ℕ = c.calls-calls.result in
    let s : ℕ = c.body_size-nodes.result in
    let hr = c.calls-calls.type_inv in
    let hs = c.body_size-nodes.ensures.few in
    rw (
      to_z_pos w128 s (omega (arith, hs)),
      to_z_pos w128 r (omega (arith, hr)),
      to_z-of_z w128 (pos s -ℤ pos 1) (less-fits s hs),
      to_z-of_z w128 (pos r *ℤ (pos s -ℤ pos 1)) (product-fits r s (omega (arith, hr)) hs),
      to_z-of_z w128 ((pos r *ℤ (pos s -ℤ pos 1)) -ℤ pos s) (saving-fits r s (omega (arith, hr)) hs),
    )
    (ap (λ (n : ℕ). (pos n *ℤ (pos s -ℤ pos 1)) -ℤ pos s) c.calls-calls.ensures
    ∙ ap (λ (m : ℕ). (pos (calls_of (rules_of c.args.grammar.now.rules) c.args.rule) *ℤ (pos m -ℤ pos 1)) -ℤ pos m) c.body_size-nodes.ensures.size)
