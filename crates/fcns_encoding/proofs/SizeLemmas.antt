-- How large the rules of a table are, where each number that is used twice has one: at most three labels a cell.
use Rattle.std.proofs.Common.{◌≡◌, ℕ, zero, suc, ◌+◌, ◌*◌, ◌<◌, ◌≤◌, nat_le, eqb, Bool, true, false, ◌||◌, List, [], ◌∷◌, length, get_or, Some, slice_get, refl, ap, subst, inl, inr, arith, length-append}
use Rattle.std.specs.Prelude.{sum_by, if◌then◌else◌}
use Rattle.std.proofs.lemmas.List.Sums.{sum_by-cons}
use Rattle.std.proofs.lemmas.Bool.{leb-true, leb-false, eq-eqb}
use Rattle.std.proofs.lemmas.Bool.Decides.{eqb_tells}
use Rattle.slt_grammar.proofs.CallCounts.{real_nodes-are}
use Rattle.slt_grammar.specs.Bodies.{real_nodes}
use Rattle.slt_grammar.specs.Grammars.{size, whole}
use Rattle.slt_grammar.specs.declared.rules.Rule.{Rule}
use Rattle.fcns_encoding.specs.Cells.{AreEarlier}
use Rattle.fcns_encoding.specs.Marks.{used_by, one_if, times}
use Rattle.fcns_encoding.specs.Sharing.{is_ruled, part_at, body_of, rule_of, rules_for, rules_of_cells, AreBelow}
use Rattle.fcns_encoding.specs.declared.subterms.Cell.{Cell}
use Rattle.fcns_encoding.proofs.CellLemmas.{has_get, got_within}
use Rattle.fcns_encoding.proofs.RuleLemmas.{no_cell, ruled_or, with_rule, without_rule}
use Rattle.fcns_encoding.proofs.SharingLemmas.{part-zero, part-ruled, part-whole}

-- the sum over some numbers from one on
abbrev spread : (ℕ → ℕ) → ℕ → ℕ → ℕ
spread f from zero = 0
spread f from (suc n) = f from + spread f (suc from) n

-- the same, but for one number
abbrev but : (ℕ → ℕ) → ℕ → ℕ → ℕ
but f k j = if eqb j k then 0 else f j

but-here : (f : ℕ → ℕ) (k j : ℕ) → j ≡ k → but f k j ≡ 0
but-here f k j e = ap (λ b. if b then 0 else f j) (eq-eqb j k e)

but-there : (f : ℕ → ℕ) (k j : ℕ) → (j ≡ k → ⊥) → but f k j ≡ f j
but-there f k j n = elim (eqb_tells j k) [ inl w ↦ absurd (n w.1) | inr w ↦ ap (λ b. if b then 0 else f j) w.0 ]

but-less : (f : ℕ → ℕ) (k j : ℕ) → but f k j ≤ f j
but-less f k j = elim (eqb_tells j k) [ inl w ↦ omega (arith, but-here f k j w.1) | inr w ↦ omega (arith, but-there f k j w.1) ]

spread-past : (f : ℕ → ℕ) (k from n : ℕ) → k < from → spread (but f k) from n ≡ spread f from n
spread-past f k from zero h = refl
spread-past f k from (suc n) h = omega (arith, but-there f k from (λ e. omega (arith, e, h)), spread-past f k (suc from) n (omega (arith, h)))

spread-but : (f : ℕ → ℕ) (k from n : ℕ) → from ≤ k → k < from + n → spread f from n ≡ f k + spread (but f k) from n
spread-but f k from zero a b = absurd (omega (arith, a, b))
spread-but f k from (suc n) a b =
    elim (eqb_tells from k) [
      | inl w ↦ omega (arith, but-here f k from w.1, ap f w.1, spread-past f k (suc from) n (omega (arith, w.1)))
      | inr w ↦ let ne = w.1 in omega (arith, but-there f k from ne, spread-but f k (suc from) n (omega (arith, a, ne)) (omega (arith, b)))
    ]

sum-but : (f : ℕ → ℕ) (k : ℕ) (ks : List ℕ) → times k ks ≡ 0 → sum_by (but f k) ks ≡ sum_by f ks
sum-but f k [] e = refl
sum-but f k (j ∷ ks) e =
    elim (eqb_tells j k) [
      | inl w ↦ absurd (omega (arith, e, ap one_if w.0))
      | inr w ↦ omega (arith, but-there f k j w.1, sum-but f k ks (omega (arith, e)), sum_by-cons f j ks, sum_by-cons (but f k) j ks)
    ]

-- numbers below another, each that counts at most once, add up to at most all
pub few-add : (f : ℕ → ℕ) (ks : List ℕ) (n : ℕ) → AreBelow n ks → ((k : ℕ) → k ≤ n → 0 < f k → times k ks ≤ 1) → sum_by f ks ≤ spread f 0 (suc n)
few-add f [] n below once = omega arith
few-add f (k ∷ ks) n below once =
    elim (eqb_tells (f k) 0) [
      | inl w ↦ omega (arith, w.1, few-add f ks n below.1 (λ j l h. omega (arith, once j l h)), sum_by-cons f k ks)
      | inr w ↦ let ne = w.1 in
          let self : one_if (eqb k k) ≡ 1 = ap one_if (eq-eqb k k refl) in
          let none : times k ks ≡ 0 = omega (arith, once k below.0 (omega (arith, ne)), self) in
          let rest = few-add (but f k) ks n below.1 (λ j l h. omega (arith, once j l (omega (arith, h, but-less f k j)))) in
          omega (arith, rest, sum-but f k ks none, spread-but f k 0 (suc n) (omega arith) (omega (arith, below.0)), sum_by-cons f k ks)
    ]

size-whole : (G : List Rule) → size G ≤ whole G
size-whole [] = omega arith
size-whole (R ∷ G) = omega (arith, size-whole G, real_nodes-are R.body, sum_by-cons (λ (Q : Rule). real_nodes Q.body) R G, sum_by-cons (λ (Q : Rule). length Q.body) R G)

-- how many labels a number has of its own: those of the numbers that have no rule
abbrev own : List Bool → List Cell → ℕ → ℕ
own marks cells zero = 0
own marks cells (suc i) = if is_ruled marks cells (suc i) then 0 else length (part_at marks cells (suc i))

-- each number of a cell that is used twice or more is marked
abbrev pub AreTwiceMarked : List Bool → List Cell → Type 0
AreTwiceMarked marks cells = (i : ℕ) → i < length cells → 2 ≤ times (suc i) (used_by cells) → get_or marks (suc i) false ≡ true

module _ (marks : List Bool) (cells : List Cell) (low : AreEarlier cells) where
  own-ruled : (i : ℕ) → is_ruled marks cells (suc i) ≡ true → own marks cells (suc i) ≡ 0
  own-ruled i r = ap (λ b. if b then 0 else length (part_at marks cells (suc i))) r

  own-whole : (i : ℕ) → is_ruled marks cells (suc i) ≡ false → own marks cells (suc i) ≡ length (part_at marks cells (suc i))
  own-whole i r = ap (λ b. if b then 0 else length (part_at marks cells (suc i))) r

  -- what stands for a number is one label, but for its own
  part-length : (k : ℕ) → k ≤ length cells → length (part_at marks cells k) ≤ 1 + own marks cells k
  part-length zero h = omega (arith, ap length (part-zero marks cells))
  part-length (suc i) h =
      elim (ruled_or marks cells (suc i)) [
        | inl r ↦ omega (arith, ap length (part-ruled marks cells i _ low (has_get cells i no_cell (omega (arith, h))) r))
        | inr r ↦ omega (arith, own-whole i r)
      ]

  body-length : (i : ℕ) (c : Cell) → slice_get cells i ≡ Some c → length (body_of marks cells c) ≤ 3 + (own marks cells c.first + own marks cells c.second)
  body-length i c e =
      let l = low i c e in
      let there = got_within cells i c e in
      omega (
        arith,
        length-append (part_at marks cells c.first) (part_at marks cells c.second),
        part-length c.first (omega (arith, l.0, there)),
        part-length c.second (omega (arith, l.1, there)),
      )

  -- the rules and the numbers' own labels, by cells
  rules-whole : (at : ℕ) (cs : List Cell) → ((i : ℕ) (c : Cell) → slice_get cs i ≡ Some c → slice_get cells (at + i) ≡ Some c)
      → whole (rules_for marks cells (suc at) cs) + spread (own marks cells) (suc at) (length cs) ≤ 3 * length cs + sum_by (own marks cells) (used_by cs)
  rules-whole at [] rest = omega arith
  rules-whole at (c ∷ cs) rest =
      let z : at + 0 ≡ at = omega arith in
      let here : slice_get cells at ≡ Some c = subst (λ k. slice_get cells k ≡ Some c) z (rest 0 c refl) in
      let others = rules-whole (suc at) cs (λ i d e. let s : at + suc i ≡ suc at + i = omega arith in subst (λ k. slice_get cells k ≡ Some d) s (rest (suc i) d e)) in
      let body = body-length at c here in
      let first = sum_by-cons (own marks cells) c.first (c.second ∷ used_by cs) in
      let second = sum_by-cons (own marks cells) c.second (used_by cs) in
      let rule = sum_by-cons (λ (Q : Rule). length Q.body) (rule_of marks cells c) (rules_for marks cells (suc (suc at)) cs) in
      elim (ruled_or marks cells (suc at)) [
        | inl r ↦ omega (arith, others, body, first, second, rule, ap whole (with_rule marks cells (suc at) c cs r), own-ruled at r)
        | inr r ↦ omega (arith, others, body, first, second, ap whole (without_rule marks cells (suc at) c cs r), own-whole at r, ap length (part-whole marks cells at c low here r))
      ]

  -- a number with labels of its own is used at most once
  own-once : AreTwiceMarked marks cells → (k : ℕ) → k ≤ length cells → 0 < own marks cells k → times k (used_by cells) ≤ 1
  own-once twice zero l h = absurd (omega (arith, h))
  own-once twice (suc i) l h =
      elim (ruled_or marks cells (suc i)) [
        | inl r ↦ absurd (omega (arith, h, own-ruled i r))
        | inr r ↦ by_test (nat_le 2 (times (suc i) (used_by cells))) refl (second (eqb (suc i) (length cells)) (get_or marks (suc i) false) r)
      ]
    where
      second : (a b : Bool) → (a || b) ≡ false → b ≡ false
      second true b e = cc
      second false b e = e

      by_test : (b : Bool) → nat_le 2 (times (suc i) (used_by cells)) ≡ b → get_or marks (suc i) false ≡ false → times (suc i) (used_by cells) ≤ 1
      by_test true e none = let marked = twice i l (leb-true 2 (times (suc i) (used_by cells)) e) in cc
      by_test false e none = omega (arith, leb-false 2 (times (suc i) (used_by cells)) e)

  uses-below : (at : ℕ) (cs : List Cell) → ((i : ℕ) (c : Cell) → slice_get cs i ≡ Some c → slice_get cells (at + i) ≡ Some c) → AreBelow (length cells) (used_by cs)
  uses-below at [] rest = tt
  uses-below at (c ∷ cs) rest =
      let l = low (at + 0) c (rest 0 c refl) in
      let there = got_within cells (at + 0) c (rest 0 c refl) in (
        omega (arith, l.0, there),
        (omega (arith, l.1, there), uses-below (suc at) cs (λ i d e. let s : at + suc i ≡ suc at + i = omega arith in subst (λ k. slice_get cells k ≡ Some d) s (rest (suc i) d e))),
      )

  pub rules-small : AreTwiceMarked marks cells → size (rules_of_cells marks cells) ≤ 3 * length cells
  rules-small twice =
      let rest : (i : ℕ) (c : Cell) → slice_get cells i ≡ Some c → slice_get cells (0 + i) ≡ Some c = λ i c e. let z : i ≡ 0 + i = omega arith in subst (λ k. slice_get cells k ≡ Some c) z e in
      omega (
        arith,
        size-whole (rules_of_cells marks cells),
        rules-whole 0 cells rest,
        few-add (own marks cells) (used_by cells) (length cells) (uses-below 0 cells rest) (own-once twice),
      )
