-- What a row of places tells of each model.
use Rattle.std.proofs.Common.{◌≡◌, ℕ, zero, suc, ◌+◌, ◌^◌, ◌<◌, ◌≤◌, ◌≢◌, List, [], ◌∷◌, Option, Some, None, slice_get, map, get_or, refl, ap, sym, ◌∙◌, arith}
use Rattle.std.specs.Prelude.{◌==◌, bit_and, Bool, true, false, ◌||◌, ◌&&◌, not}
use Rattle.std.specs.List.{list_any}
use Rattle.std.specs.Str.{bytes_eq}
use Rattle.std.proofs.lemmas.Bool.{eq-eqb, ne_eqb}
use Rattle.std.proofs.lemmas.Nat.{and_comm}
use Rattle.content_models.specs.declared.states.Chain.{Chain}
use Rattle.content_models.specs.declared.states.Chain.TheVariants.{Empty, Stuck, Near, Far}
use Rattle.content_models.specs.declared.ways.Spot.{Spot}
use Rattle.content_models.specs.declared.ways.Way.{Way}
use Rattle.content_models.specs.Checking.{no_sets, opened, sets_of, has_ended, goes_on, before, behind}
use Rattle.content_models.specs.Compiled.{any_place, any_spot, spot_at}
use Rattle.content_models.specs.Models.{Model}
use Rattle.content_models.specs.Places.{Agree}
use Rattle.content_models.specs.Ways.{Place, leads, marks, places_of, takes, to_end}
use Rattle.content_models.proofs.Marks.{before-sets, is_here, is_next, marks-none, marks-pow, next-marks, none-in}

abbrev Schema : Type 0
Schema = List (List ℕ × Model)

itself : (i : ℕ) → (i == i) ≡ true
itself i = eq-eqb i i refl

other : (i j : ℕ) → i ≢ j → (i == j) ≡ false
other i j n = ne_eqb i j n

never : (a : Bool) → (a && false) ≡ false
never true = refl
never false = refl

pub agree-same : (bs : List Bool) (at : ℕ) (f g : ℕ → Bool) → ((p : ℕ) → at ≤ p → g p ≡ f p) → Agree at bs f → Agree at bs g
agree-same [] at f g h a = tt
agree-same (b ∷ bs) at f g h a = (h at (omega arith) ∙ a.0, agree-same bs (suc at) f g (λ p l. h p (omega arith)) a.1)

module _ (name : List ℕ) (sets : List ℕ) (ended : Bool) where
  -- a place of this model with another number
  elsewhere : (i at p : ℕ) (next : Way) → at ≢ p → is_next sets ended i p (spot_at i at next) ≡ false
  elsewhere i at p next n = ap (λ b. ((i == i) && b) && goes_on sets ended (spot_at i at next)) (marks-pow at p ∙ other at p n) ∙ ap (λ b. b && goes_on sets ended (spot_at i at next)) (never (i == i))

  none-below : (ps : List Place) (i at p : ℕ) → p < at → any_place name (is_next sets ended i p) i at ps ≡ false
  none-below [] i at p l = refl
  none-below (x ∷ ps) i at p l =
      ap (λ b. (bytes_eq x.name name && b) || any_place name (is_next sets ended i p) i (suc at) ps) (elsewhere i at p x.next (λ e. omega (arith, e)))
      ∙ ap (λ b. b || any_place name (is_next sets ended i p) i (suc at) ps) (never (bytes_eq x.name name))
      ∙ none-below ps i (suc at) p (omega arith)

  -- a place of another model
  none-other : (ps : List Place) (i j at p : ℕ) → j ≢ i → any_place name (is_next sets ended i p) j at ps ≡ false
  none-other [] i j at p n = refl
  none-other (x ∷ ps) i j at p n =
      ap (λ b. (bytes_eq x.name name && ((b && marks (2 ^ at) p) && goes_on sets ended (spot_at j at x.next))) || any_place name (is_next sets ended i p) j (suc at) ps) (other j i n)
      ∙ ap (λ b. b || any_place name (is_next sets ended i p) j (suc at) ps) (never (bytes_eq x.name name))
      ∙ none-other ps i j (suc at) p n

  here : (i at : ℕ) (next : Way) → is_next sets ended i at (spot_at i at next) ≡ leads next (get_or sets i 0) ended
  here i at next =
      ap (λ b. (b && marks (2 ^ at) at) && goes_on sets ended (spot_at i at next)) (itself i)
      ∙ ap (λ b. b && goes_on sets ended (spot_at i at next)) (marks-pow at at ∙ itself at)

  or_none : (b : Bool) → (b || false) ≡ b
  or_none true = refl
  or_none false = refl

  pub places-agree : (ps : List Place) (i at : ℕ) → Agree at (map (takes name (get_or sets i 0) ended) ps) (λ p. any_place name (is_next sets ended i p) i at ps)
  places-agree [] i at = tt
  places-agree (x ∷ ps) i at = (
    ap (λ b. (bytes_eq x.name name && b) || any_place name (is_next sets ended i at) i (suc at) ps) (here i at x.next)
        ∙ ap (λ b. (bytes_eq x.name name && leads x.next (get_or sets i 0) ended) || b) (none-below ps i (suc at) at (omega arith))
        ∙ or_none (bytes_eq x.name name && leads x.next (get_or sets i 0) ended),
    agree-same (map (takes name (get_or sets i 0) ended) ps) (suc at) (λ p. any_place name (is_next sets ended i p) i (suc at) ps) (λ p. any_place name (is_next sets ended i p) i at (x ∷ ps))
        (λ p l. ap (λ b. (bytes_eq x.name name && b) || any_place name (is_next sets ended i p) i (suc at) ps) (elsewhere i at p x.next (λ e. omega (arith, e)))
        ∙ ap (λ b. b || any_place name (is_next sets ended i p) i (suc at) ps) (never (bytes_eq x.name name)))
        (places-agree ps i (suc at)),
  )

  -- the places of all models, at one of them
  none-later : (S : Schema) (i j p : ℕ) → i < j → any_spot name (is_next sets ended i p) j S ≡ false
  none-later [] i j p l = refl
  none-later (x ∷ S) i j p l =
      ap (λ b. b || any_spot name (is_next sets ended i p) (suc j) S) (none-other (places_of 0 x.1 to_end) i j 0 p (λ e. omega (arith, e)))
      ∙ none-later S i (suc j) p (omega arith)

  none_some : (x : List ℕ × Model) → ◌≡◌ {A = Option (List ℕ × Model)} None (Some x) → ⊥
  none_some x e = cc

  some_same : (x y : List ℕ × Model) → ◌≡◌ {A = Option (List ℕ × Model)} (Some x) (Some y) → x ≡ y
  some_same x y e = ap (λ (o : Option (List ℕ × Model)). elim o [ Some p ↦ p | None ↦ y ]) e

  pub at-model : (S : Schema) (j k i p : ℕ) (x : List ℕ × Model) → slice_get S k ≡ Some x → i ≡ j + k
      → any_spot name (is_next sets ended i p) j S ≡ any_place name (is_next sets ended i p) i 0 (places_of 0 x.1 to_end)
  at-model [] j k i p x e n = absurd (none_some x e)
  at-model (y ∷ S) j zero i p x e n =
      let same : j ≡ i = omega (arith, n) in
      ap (λ b. any_place name (is_next sets ended i p) j 0 (places_of 0 y.1 to_end) || b) (none-later S i (suc j) p (omega (arith, n)))
      ∙ or_none (any_place name (is_next sets ended i p) j 0 (places_of 0 y.1 to_end))
      ∙ ap (λ m. any_place name (is_next sets ended i p) m 0 (places_of 0 y.1 to_end)) same
      ∙ ap (λ z. any_place name (is_next sets ended i p) i 0 (places_of 0 z.1 to_end)) (some_same y x e)
  at-model (y ∷ S) j (suc k) i p x e n =
      ap (λ b. b || any_spot name (is_next sets ended i p) (suc j) S) (none-other (places_of 0 y.1 to_end) i j 0 p (λ f. omega (arith, n, f)))
      ∙ at-model S (suc j) k i p x e (omega (arith, n))

-- where no place is open and some name stands before, no place is behind
and_none : (n : ℕ) → (bit_and n 0 == 0) ≡ true
and_none n = eq-eqb (bit_and n 0) 0 (and_comm n 0)

stuck-leads : (w : Way) (set : ℕ) → set ≡ 0 → leads w set false ≡ false
stuck-leads w set e =
    ap (λ n. not (bit_and w.set n == 0) || (w.end && false)) e ∙ ap (λ b. not b || (w.end && false)) (and_none w.set) ∙ never w.end

stuck-row : (row : List Spot) (i p : ℕ) → list_any (is_next no_sets false i p) row ≡ false
stuck-row [] i p = refl
stuck-row (s ∷ row) i p =
    ap (λ b. (is_here i p s && b) || list_any (is_next no_sets false i p) row) (stuck-leads s.next (get_or no_sets s.model 0) (none-in 64 s.model))
    ∙ ap (λ b. b || list_any (is_next no_sets false i p) row) (never (is_here i p s)) ∙ stuck-row row i p

none-marked : (i p : ℕ) → marks (get_or no_sets i 0) p ≡ false
none-marked i p = ap (λ n. marks n p) (none-in 64 i) ∙ marks-none p

-- the places that are marked behind a chain
before-marks : (rows : List (List Spot)) (f : ℕ) (sets : List ℕ) (ended : Bool) (i p : ℕ) → i < 64
    → marks (get_or (sets_of rows (before f (get_or rows f []) sets ended)) i 0) p ≡ list_any (is_next sets ended i p) (get_or rows f [])
before-marks rows f sets ended i p l =
    ap (λ n. marks n p) (before-sets rows f sets ended i)
    ∙ next-marks sets ended (get_or rows f []) no_sets i p l
    ∙ ap (λ b. b || list_any (is_next sets ended i p) (get_or rows f [])) (none-marked i p)

pub behind-marks : (rows : List (List Spot)) (f : ℕ) (rest : Chain) (i p : ℕ) → i < 64
    → marks (get_or (sets_of rows (behind rows f rest)) i 0) p ≡ list_any (is_next (sets_of rows rest) (has_ended rest) i p) (get_or rows f [])
behind-marks rows f Empty i p l = before-marks rows f no_sets true i p l
behind-marks rows f Stuck i p l = none-marked i p ∙ sym (stuck-row (get_or rows f []) i p)
behind-marks rows f (Near g bits) i p l = before-marks rows f (opened (get_or rows g []) bits no_sets) false i p l
behind-marks rows f (Far sets) i p l = before-marks rows f sets false i p l
