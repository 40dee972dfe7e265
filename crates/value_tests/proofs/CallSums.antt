-- Sums over the calls of bodies.
use Rattle.std.proofs.Common.{◌≡◌, ℕ, suc, ◌+◌, ◌-◌, ◌*◌, ◌<◌, ◌≤◌, if◌then◌else◌, eqb, List, [], ◌∷◌, length, sym, ap, ◌∙◌, arith}
use Rattle.std.proofs.Math.Nat.{mul-le-mul_right}
use Rattle.rule_arena.specs.declared.label.Label.{Label}
use Rattle.rule_arena.specs.declared.label.Label.TheVariants.{Bottom, Symbol, Call, Param}
use Rattle.slt_grammar.specs.Bodies.{CallsBelow, calls_in}
use Rattle.slt_grammar.specs.Grammars.{IsGrammar, IsSwept, body_at, calls_of, no_rule}
use Rattle.slt_grammar.specs.declared.rules.Rule.{Rule}
use Rattle.slt_grammar.proofs.Adding.{CallsBelow-le}
use Rattle.value_tests.specs.Isolated.{sum_below}
use Rattle.value_tests.proofs.Sums.{sum_below-le, sum_below-same, sum_below-add, sum_below-zero, sum_below-one, sum_below-all, sum_below-swap, sum_below-times}

module _ (give : ℕ → ℕ) where
  -- what the rules give that labels call
  abbrev pub given : List Label → ℕ
  given [] = 0
  given (Call q ∷ ls) = give q + given ls
  given (l ∷ ls) = given ls

  -- as often as they call it
  given-calls : (n : ℕ) (ls : List Label) → CallsBelow n ls → given ls ≡ sum_below n (λ q. calls_in q ls * give q)
  given-calls n [] c = sym (sum_below-zero n (λ q. 0 * give q) (λ q l. omega arith))
  given-calls n (Bottom ∷ ls) c = given-calls n ls c
  given-calls n (Symbol f ∷ ls) c = given-calls n ls c
  given-calls n (Param ∷ ls) c = given-calls n ls c
  given-calls n (Call p ∷ ls) c =
      let one = sum_below-one n p give c.0 in
      let rest = given-calls n ls c.1 in
      let both = sum_below-add n (λ q. (if eqb p q then 1 else 0) * give q) (λ q. calls_in q ls * give q) in
      let same = sum_below-same n (λ q. (if eqb p q then 1 else 0) * give q + calls_in q ls * give q) (λ q. ((if eqb p q then 1 else 0) + calls_in q ls) * give q) (λ q l. spread (if eqb p q then 1 else 0) (calls_in q ls) (give q)) in
      omega (arith, one, rest, both, same)
    where
      spread : (a b k : ℕ) → a * k + b * k ≡ (a + b) * k
      spread a b k = grind arith

  -- Where each rule gives no less than its own and what those give that it calls, and each but the start is called, the start gives no
  -- less than all rules' own.
  pub own-within : (H : List Rule) (own : ℕ → ℕ) → IsGrammar H → IsSwept H → ((r : ℕ) → r < length H → own r + given (body_at H r) ≤ give r) → sum_below (length H) own ≤ give (length H - 1)
  own-within H own g swept each =
      let n : ℕ = length H in
      let m : ℕ = length H - 1 in
      let some = g.some in
      let step : n ≡ suc m = omega arith in
      let all = sum_below-le n (λ r. own r + given (body_at H r)) give each in
      let split = sum_below-add n own (λ r. given (body_at H r)) in
      let by_rule = sum_below-same n (λ r. given (body_at H r)) (λ r. sum_below m (λ q. calls_in q (body_at H r) * give q))
      (λ r l. given-calls m (body_at H r) (CallsBelow-le r m (body_at H r) (omega arith) (g.each r l).earlier)) in
      let swap = sum_below-swap n m (λ r q. calls_in q (body_at H r) * give q) in
      let counted = sum_below-same m (λ q. sum_below n (λ r. calls_in q (body_at H r) * give q)) (λ q. calls_of H q * give q)
      (λ q l. sum_below-times n (give q) (λ r. calls_in q (body_at H r)) ∙ ap (λ k. k * give q) (sum_below-all (λ (R : Rule). calls_in q R.body) H no_rule)) in
      let often = sum_below-le m give (λ q. calls_of H q * give q) (λ q l. (let s = swept q (omega arith) in let t : 1 * give q ≤ calls_of H q * give q = mul-le-mul_right (give q) (omega arith) in omega arith)) in
      let last : sum_below n give ≡ sum_below m give + give m = ap (λ k. sum_below k give) step in
      omega (arith, all, split, by_rule, swap, counted, often, last)
