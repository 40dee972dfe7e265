-- Each rule of a table but the last is called.
use Rattle.std.proofs.Common.{◌≡◌, ℕ, zero, suc, ◌+◌, ◌<◌, ◌≤◌, Bool, true, false, List, [], ◌∷◌, ◌++◌, length, get_or, Some, slice_get, ap, sym, ◌∙◌, subst, ◌⊎◌, inl, inr, arith}
use Rattle.std.specs.Prelude.{if◌then◌else◌}
use Rattle.std.proofs.lemmas.List.Sums.{sum_by-cons}
use Rattle.std.proofs.lemmas.Bool.{eq-eqb}
use Rattle.std.proofs.lemmas.Bool.Decides.{eqb_tells}
use Rattle.rule_arena.specs.declared.label.Label.{Label}
use Rattle.rule_arena.specs.declared.label.Label.TheVariants.{Bottom, Symbol, Call, Param}
use Rattle.slt_grammar.specs.Bodies.{calls_in}
use Rattle.slt_grammar.specs.Grammars.{IsSwept, calls_of}
use Rattle.slt_grammar.specs.declared.rules.Rule.{Rule}
use Rattle.fcns_encoding.specs.Cells.{AreEarlier, IsUsed, AreUsed}
use Rattle.fcns_encoding.specs.Marks.{one_if}
use Rattle.fcns_encoding.specs.Sharing.{is_ruled, rule_place, part_at, body_of, rule_of, rules_for, rules_of_cells}
use Rattle.fcns_encoding.specs.declared.subterms.Cell.{Cell}
use Rattle.fcns_encoding.proofs.CellLemmas.{has_get, got_within}
use Rattle.fcns_encoding.proofs.RuleLemmas.{no_cell, ruled_or, with_rule, without_rule, last-ruled, rules-count}
use Rattle.fcns_encoding.proofs.SharingLemmas.{part-ruled, part-whole}

calls-append : (q : ℕ) (xs ys : List Label) → calls_in q (xs ++ ys) ≡ calls_in q xs + calls_in q ys
calls-append q [] ys = omega arith
calls-append q (Bottom ∷ xs) ys = calls-append q xs ys
calls-append q (Symbol f ∷ xs) ys = calls-append q xs ys
calls-append q (Call p ∷ xs) ys = omega (arith, calls-append q xs ys)
calls-append q (Param ∷ xs) ys = calls-append q xs ys

calls-first : (q : ℕ) (R : Rule) (G : List Rule) → calls_of (R ∷ G) q ≡ calls_in q R.body + calls_of G q
calls-first q R G = sum_by-cons (λ (Q : Rule). calls_in q Q.body) R G

-- each number but the last is used by a cell
pub used-cell : (cells : List Cell) → AreUsed cells (length cells ∷ []) → (i : ℕ) → suc i < length cells → IsUsed cells (suc i)
used-cell cells used i h =
    elim (used i (omega (arith, h))) [
      | inl u ↦ let n : i + 1 ≡ suc i = omega arith in subst (IsUsed cells) n u
      | inr w ↦ absurd (other w.0 w.1)
    ]
  where
    other : (k : ℕ) → slice_get (length cells ∷ []) k ≡ Some (i + 1) → ⊥
    other zero e = let same : length cells ≡ i + 1 = cc in omega (arith, same, h)
    other (suc k) e = cc

-- a cell's body has what stands for each of its numbers
part-within : (marks : List Bool) (cells : List Cell) (d : Cell) (number q : ℕ) → (d.first ≡ number) ⊎ (d.second ≡ number) → calls_in q (part_at marks cells number) ≤ calls_in q (body_of marks cells d)
part-within marks cells d number q (inl e) = omega (arith, calls-append q (part_at marks cells d.first) (part_at marks cells d.second), ap (λ k. calls_in q (part_at marks cells k)) e)
part-within marks cells d number q (inr e) = omega (arith, calls-append q (part_at marks cells d.first) (part_at marks cells d.second), ap (λ k. calls_in q (part_at marks cells k)) e)

-- a number that a cell uses is earlier than the cell's
pub user-later : (cells : List Cell) → AreEarlier cells → (i j : ℕ) (d : Cell) → slice_get cells j ≡ Some d → (d.first ≡ suc i) ⊎ (d.second ≡ suc i) → suc i ≤ j
user-later cells low i j d e (inl f) = omega (arith, (low j d e).0, f)
user-later cells low i j d e (inr f) = omega (arith, (low j d e).1, f)

module _ (marks : List Bool) (cells : List Cell) (low : AreEarlier cells) (m : ℕ) (n : length cells ≡ suc m) (used : AreUsed cells (length cells ∷ [])) where
  -- the calls of a cell's body stand in a rule
  pub record Written (c : Cell) : Type 0 where
    pub place : ℕ
    pub cell : Cell
    pub there : slice_get cells place ≡ Some cell
    pub ruled : is_ruled marks cells (suc place) ≡ true
    pub calls : (q : ℕ) → calls_in q (body_of marks cells c) ≤ calls_in q (body_of marks cells cell)

  written : (left i : ℕ) (c : Cell) → slice_get cells i ≡ Some c → length cells ≤ i + left → Written c
  written zero i c e h = absurd (omega (arith, h, got_within cells i c e))
  written (suc left) i c e h =
      elim (ruled_or marks cells (suc i)) [
        | inl r ↦ record { place = i; cell = c; there = e; ruled = r; calls = λ q. omega arith }
        | inr r ↦
            let below : suc i < length cells = not-last i r (got_within cells i c e) in
            let u = used-cell cells used i below in
            let w = written left u.0 u.1 u.2 (omega (arith, h, user-later cells low i u.0 u.1 u.2 u.3)) in
            record {
              place = w.place;
              cell = w.cell;
              there = w.there;
              ruled = w.ruled;
              calls = λ q. omega (arith, w.calls q, part-within marks cells u.1 (suc i) q u.3, ap (calls_in q) (part-whole marks cells i c low e r));
            }
      ]
    where
      not-last : (i : ℕ) → is_ruled marks cells (suc i) ≡ false → i < length cells → suc i < length cells
      not-last i r h =
          elim (eqb_tells (suc i) (length cells)) [
            | inl w ↦ let yes : is_ruled marks cells (suc i) ≡ true = ap (is_ruled marks cells) (w.1 ∙ n) ∙ last-ruled marks cells low m n in cc
            | inr w ↦ let ne = w.1 in omega (arith, h, ne)
          ]

  -- the number of a rule
  number-of : (top r : ℕ) → r < rule_place marks cells top → (k : ℕ) × (k < top) × (is_ruled marks cells k ≡ true) × (rule_place marks cells k ≡ r)
  number-of zero r h = absurd (omega (arith, h))
  number-of (suc top) r h =
      elim (ruled_or marks cells top) [
        | inl t ↦ elim (eqb_tells r (rule_place marks cells top)) [
          | inl w ↦ (top, omega arith, t, sym w.1)
          | inr w ↦ let ne = w.1 in let b = number-of top r (omega (arith, h, ap one_if t, ne)) in (b.0, omega (arith, b.1), b.2, b.3)
        ]
        | inr f ↦ let b = number-of top r (omega (arith, h, ap one_if f)) in (b.0, omega (arith, b.1), b.2, b.3)
      ]

  -- a rule of the table is among its rules
  rule-among : (at : ℕ) (cs : List Cell) (i : ℕ) (c : Cell) (q : ℕ) → slice_get cs i ≡ Some c → is_ruled marks cells (suc at + i) ≡ true → calls_in q (body_of marks cells c) ≤ calls_of (rules_for marks cells (suc at) cs) q
  rule-among at [] i c q e r = cc
  rule-among at (d ∷ cs) zero c q e r =
      let z : suc at + 0 ≡ suc at = omega arith in
      let here : is_ruled marks cells (suc at) ≡ true = ap (is_ruled marks cells) (sym z) ∙ r in
      let same : d ≡ c = cc in
      omega (arith, ap (λ G. calls_of G q) (with_rule marks cells (suc at) d cs here), ap (λ x. calls_in q (body_of marks cells x)) same, calls-first q (rule_of marks cells d) (rules_for marks cells (suc (suc at)) cs))
  rule-among at (d ∷ cs) (suc i) c q e r =
      let z : suc at + suc i ≡ suc (suc at) + i = omega arith in
      let rest = rule-among (suc at) cs i c q e (ap (is_ruled marks cells) (sym z) ∙ r) in
      elim (ruled_or marks cells (suc at)) [
        | inl t ↦ omega (arith, rest, ap (λ G. calls_of G q) (with_rule marks cells (suc at) d cs t), calls-first q (rule_of marks cells d) (rules_for marks cells (suc (suc at)) cs))
        | inr t ↦ omega (arith, rest, ap (λ G. calls_of G q) (without_rule marks cells (suc at) d cs t))
      ]

  called : (i r : ℕ) → suc i < length cells → is_ruled marks cells (suc i) ≡ true → rule_place marks cells (suc i) ≡ r → 0 < calls_of (rules_of_cells marks cells) r
  called i r h t e =
      let c : Cell = get_or cells i no_cell in
      let here : slice_get cells i ≡ Some c = has_get cells i no_cell (omega (arith, h)) in
      let u = used-cell cells used i h in
      let w = written (length cells) u.0 u.1 u.2 (omega arith) in
      let one : calls_in r (Call (rule_place marks cells (suc i)) ∷ []) ≡ 1 = ap (λ b. (if b then 1 else 0) + 0) (eq-eqb (rule_place marks cells (suc i)) r e) in
      let z : suc 0 + w.place ≡ suc w.place = omega arith in
      omega (
        arith,
        one,
        ap (calls_in r) (part-ruled marks cells i c low here t),
        part-within marks cells u.1 (suc i) r u.3,
        w.calls r,
        rule-among 0 cells w.place w.cell r w.there (ap (is_ruled marks cells) z ∙ w.ruled),
      )

  pub rules-swept : IsSwept (rules_of_cells marks cells)
  rules-swept r h =
      let b = number-of (suc m) r (omega (arith, h, rules-count marks cells low m n)) in by_number b.0 b.1 b.2 b.3
    where
      by_number : (k : ℕ) → k < suc m → is_ruled marks cells k ≡ true → rule_place marks cells k ≡ r → 0 < calls_of (rules_of_cells marks cells) r
      by_number zero l t e = cc
      by_number (suc i) l t e = called i r (omega (arith, l, n)) t e
