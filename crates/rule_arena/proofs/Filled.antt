-- All terms together have no more nodes than there are filled slots.
use Rattle.std.proofs.Common.{◌≡◌, inl, inr, ℕ, zero, suc, ◌+◌, ◌^◌, ◌<◌, ◌≤◌, List, [], ◌∷◌, get_or, count_by, is_some, cond, Option, Some, None, IsSome, refl, arith}
use Rattle.std.proofs.lemmas.Bool.{cases_lt}
use Rattle.std.proofs.lemmas.List.Sums.{sum_by-cons}
use Rattle.slab.specs.Slab.{Slab, get, slab_len}
use Rattle.rule_arena.specs.declared.key.Key.{Key}
use Rattle.rule_arena.specs.Linked.{Cell}
use Rattle.rule_arena.specs.Slots.{KeysFit, Standing, terms_of, room}
use Rattle.rule_arena.specs.Terms.{Terms, At, node_count}
use Rattle.rule_arena.proofs.CellLemmas.{has}
use Rattle.rule_arena.proofs.NodeCounts.{count_below, count_ranked}
use Rattle.rule_arena.proofs.RoomLemmas.{room-fits, room-is}
use Rattle.rule_arena.proofs.SpliceLemmas.{one_place}
use Rattle.rule_arena.proofs.Told.{told}

-- how many slots before one are filled
rank : List (Option Cell) → ℕ → ℕ
rank [] x = 0
rank (o ∷ os) zero = 0
rank (o ∷ os) (suc x) = cond (is_some o) 1 0 + rank os x

filled-cons : (o : Option Cell) (os : List (Option Cell)) → count_by is_some (o ∷ os) ≡ cond (is_some o) 1 0 + count_by is_some os
filled-cons o os = sum_by-cons (λ s. cond (is_some s) 1 0) o os

rank-below : (os : List (Option Cell)) (x : ℕ) → IsSome (get_or os x None) → rank os x < count_by is_some os
unfolding rank
rank-below [] x h = absurd (cc)
rank-below (None ∷ os) zero h = absurd (cc)
rank-below (Some c ∷ os) zero h = omega (arith, filled-cons (Some c) os)
rank-below (o ∷ os) (suc x) h = omega (arith, filled-cons o os, rank-below os x h)

rank-apart : (os : List (Option Cell)) (x y : ℕ) → IsSome (get_or os x None) → IsSome (get_or os y None) → rank os x ≡ rank os y → x ≡ y
unfolding rank
rank-apart [] x y h k e = absurd (cc)
rank-apart (None ∷ os) zero y h k e = absurd (cc)
rank-apart (None ∷ os) (suc x) zero h k e = absurd (cc)
rank-apart (None ∷ os) (suc x) (suc y) h k e = omega (arith, rank-apart os x y h k (omega (arith, e)))
rank-apart (Some c ∷ os) zero zero h k e = refl
rank-apart (Some c ∷ os) zero (suc y) h k e = absurd (omega (arith, e))
rank-apart (Some c ∷ os) (suc x) zero h k e = absurd (omega (arith, e))
rank-apart (Some c ∷ os) (suc x) (suc y) h k e = omega (arith, rank-apart os x y h k (omega (arith, e)))

module _ (slots : Slab Cell) (s : Standing slots) (a : Terms) (v : terms_of slots s ≡ a) where
  filled : (key : Key) → At a key → IsSome (get slots key.number)
  filled key x = let t = told slots s a v key x in has _ t.cell t.slot

  pub count_filled : node_count a ≤ slab_len slots
  count_filled = count_ranked a (one_place slots s a v) (rank slots.slots) (slab_len slots) (λ key x. rank-below slots.slots key.number (filled key x))
      (λ x y m n e. rank-apart slots.slots x y (filled (record { number = x }) m) (filled (record { number = y }) n) e)

  pub count_fits : KeysFit slots → node_count a ≤ 2 ^ 32
  count_fits fit = count_below a (one_place slots s a v) (2 ^ 32) (λ key x. fit key.number (filled key x))

  -- as many more as there is room for have keys
  pub count_more : KeysFit slots → (more : ℕ) → more ≤ room slots → node_count a + more ≤ 2 ^ 32
  count_more fit more h = elim (cases_lt 0 more) [
    | inl p ↦
        let c = room-fits slots (omega (arith, p, h)) in
        omega (arith, c, h, room-is slots c, count_filled, p)
    | inr z ↦ omega (arith, z, count_fits fit)
  ]
