-- Steps that keep the value around a change.
use Rattle.std.proofs.Common.{◌≡◌, ◌≢◌, ℕ, ◌-◌, List, [], ◌++◌, All, Some, length, sym, ap, ◌∙◌, arith, sum_by}
use Rattle.rule_arena.specs.declared.key.Key.{Key}
use Rattle.rule_arena.specs.declared.label.Label.{Label}
use Rattle.slt_grammar.specs.Grammars.{value}
use Rattle.slt_grammar.specs.Keyed.{KeyedRule, key_at, rules_of}
use Rattle.slt_grammar.specs.Segments.{listed}
use Rattle.slt_grammar.specs.Terms.{Term}
use Rattle.start_fronts.specs.Before.{KeepsBefore}
use Rattle.start_fronts.specs.Moved.{MovesBefore, value_labels, weight_before, weight_in}
use Rattle.start_fronts.proofs.Composing.{all-back, all-front}

pub old-keys-go : (gone fewer : List Key) (G H : List KeyedRule) → ((key : Key) (place : ℕ) → key_at G (length G - 1) place ≡ Some key → All (λ k. k ≢ key) fewer → All (λ k. k ≢ key) gone) → KeepsBefore gone G H → KeepsBefore fewer G H
old-keys-go gone fewer G H old keeps key place there apart = keeps key place there (old key place there apart)

same-labels : (G H : List KeyedRule) → value (rules_of H) ≡ value (rules_of G) → value_labels H ≡ value_labels G
same-labels G H same = ap (λ (t : Term). listed t []) same

same-total : (w : Label → ℕ) (G H : List KeyedRule) → value (rules_of H) ≡ value (rules_of G) → weight_in w H ≡ weight_in w G
same-total w G H same = ap (sum_by w) (same-labels G H same)

module _ (w : Label → ℕ) (first second : List Key) (number : ℕ) (G H K : List KeyedRule) where
  pub kept-then-moved : value (rules_of H) ≡ value (rules_of G) → KeepsBefore first G H → MovesBefore w second number H K → MovesBefore w (first ++ second) number G K
  kept-then-moved same keeps moves =
      record {
        early = λ key place there apart h.
            let s = keeps key place there (all-front (λ k. k ≢ key) first second apart) in
            let e : weight_before w H s.now ≡ weight_before w G place = ap (sum_by w) s.same in
            let t = moves.early key s.now s.there (all-back (λ k. k ≢ key) first second apart) (omega (arith, h, e)) in
            record { now = t.now; there = t.there; same = t.same ∙ s.same };
        late = λ key place there apart h l.
            let s = keeps key place there (all-front (λ k. k ≢ key) first second apart) in
            let e : weight_before w H s.now ≡ weight_before w G place = ap (sum_by w) s.same in
            let t = moves.late key s.now s.there (all-back (λ k. k ≢ key) first second apart) (omega (arith, h, e)) (omega (arith, l, e, same-total w G H same)) in
            record { now = t.now; there = t.there; rest = t.rest; first = sym (same-labels G H same) ∙ t.first ∙ ap (λ ls. ls ++ t.rest) s.same; second = t.second };
      }

  pub moved-then-kept : value (rules_of K) ≡ value (rules_of H) → MovesBefore w first number G H → KeepsBefore second H K → MovesBefore w (first ++ second) number G K
  moved-then-kept same moves keeps =
      record {
        early = λ key place there apart h.
            let s = moves.early key place there (all-front (λ k. k ≢ key) first second apart) h in
            let t = keeps key s.now s.there (all-back (λ k. k ≢ key) first second apart) in
            record { now = t.now; there = t.there; same = t.same ∙ s.same };
        late = λ key place there apart h l.
            let s = moves.late key place there (all-front (λ k. k ≢ key) first second apart) h (omega (arith, l, same-total w H K same)) in
            let t = keeps key s.now s.there (all-back (λ k. k ≢ key) first second apart) in
            record { now = t.now; there = t.there; rest = s.rest; first = s.first; second = same-labels H K same ∙ s.second ∙ ap (λ ls. ls ++ s.rest) (sym t.same) };
      }
