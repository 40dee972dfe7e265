-- Ways and places in words are as models are read.
use Rattle.std.proofs.Common.{◌≡◌, ◌⊎◌, inl, inr, ℕ, zero, suc, ◌+◌, ◌*◌, ◌/◌, ◌%◌, ◌^◌, ◌<◌, ◌≢◌, List, [], ◌∷◌, ◌++◌, map, refl, ap, sym, ◌∙◌, arith}
use Rattle.std.specs.Prelude.{◌==◌, bit_and, bit_or, Bool, true, false, ◌||◌, ◌&&◌, not}
use Rattle.std.specs.Int.{bit_at}
use Rattle.std.proofs.lemmas.Nat.Bits.{bit_at_and, bit_at_or, bit_at-suc, bit_at_lowest, same_from_bits, and_pow, bit_at-lt}
use Rattle.std.proofs.lemmas.Bool.{eq-eqb, ne_eqb}
use Rattle.std.proofs.lemmas.Bool.Decides.{eqb_tells}
use Rattle.std.proofs.lemmas.Nat.{and_comm, le_or_l, le_or_r}
use Rattle.std.proofs.Math.Pow.{pow_pos}
use Rattle.content_models.specs.Models.{Model, Named, Nothing, Then, Either, Optional, Any, Some}
use Rattle.content_models.specs.Matching.{places, enter, read}
use Rattle.content_models.specs.Places.{Agree}
use Rattle.content_models.specs.Ways.{Place, only, front_of, way_of, places_of, leads, marks, truth, word, takes}
use Rattle.content_models.specs.declared.ways.Way.{Way}

-- the bits of a union meet where the bits of a side do
and_or : (a b c : ℕ) → bit_and (bit_or a b) c ≡ bit_or (bit_and a c) (bit_and b c)
and_or a b c = same_from_bits (bit_and (bit_or a b) c) (bit_or (bit_and a c) (bit_and b c)) by_bit where
  by_bit : (i : ℕ) → bit_at (bit_and (bit_or a b) c) i ≡ bit_at (bit_or (bit_and a c) (bit_and b c)) i
  by_bit i = omega (arith, bit_at_and (bit_or a b) c i, bit_at_or a b i, bit_at_or (bit_and a c) (bit_and b c) i, bit_at_and a c i, bit_at_and b c i)

or_none : (a b : ℕ) → bit_or a b ≡ 0 → (a ≡ 0) × (b ≡ 0)
or_none a b e = let l = le_or_l a b in let r = le_or_r a b in (omega arith, omega arith)

some : (a b c : ℕ) → c ≡ bit_or a b → not (c == 0) ≡ (not (a == 0) || not (b == 0))
some a b c e = by_cases (eqb_tells c 0) (eqb_tells a 0) (eqb_tells b 0) where
  goal : Type 0
  goal = not (c == 0) ≡ (not (a == 0) || not (b == 0))

  by_cases : (((c == 0) ≡ true) × (c ≡ 0)) ⊎ (((c == 0) ≡ false) × (c ≢ 0)) → (((a == 0) ≡ true) × (a ≡ 0)) ⊎ (((a == 0) ≡ false) × (a ≢ 0)) → (((b == 0) ≡ true) × (b ≡ 0)) ⊎ (((b == 0) ≡ false) × (b ≢ 0)) → not (c == 0) ≡ (not (a == 0) || not (b == 0))
  by_cases (inl x) (inl y) (inl z) = rw (x.0, y.0, z.0) refl
  by_cases (inl x) (inr y) z = absurd (y.1 (or_none a b (sym e ∙ x.1)).0)
  by_cases (inl x) y (inr z) = absurd (z.1 (or_none a b (sym e ∙ x.1)).1)
  by_cases (inr x) (inl y) (inl z) = absurd (x.1 (e ∙ ap (λ n. bit_or n b) y.1 ∙ ap (bit_or 0) z.1))
  by_cases (inr x) (inr y) z = rw (x.0, y.0) refl
  by_cases (inr x) (inl y) (inr z) = rw (x.0, y.0, z.0) refl

abbrev meets : ℕ → ℕ → Bool
meets a set = not (bit_and a set == 0)

pub meets-or : (a b set : ℕ) → meets (bit_or a b) set ≡ (meets a set || meets b set)
meets-or a b set = some (bit_and a set) (bit_and b set) (bit_and (bit_or a b) set) (and_or a b set)

or_false : (b : Bool) → (b || false) ≡ b
or_false true = refl
or_false false = refl

pow_pos2 : (n : ℕ) → 0 < 2 ^ n
pow_pos2 n = pow_pos n

bit_test : (a bit p : ℕ) → a ≡ bit * p → bit < 2 → 0 < p → not (a == 0) ≡ (bit == 1)
bit_test a zero p e l h = ap not (eq-eqb a 0 (omega arith))
bit_test a (suc zero) p e l h = ap not (ne_eqb a 0 (λ z. omega arith))
bit_test a (suc (suc n)) p e l h = absurd (omega arith)

named-leads : (at set : ℕ) (ended : Bool) → leads (record { set = 2 ^ at; end = false }) set ended ≡ marks set at
named-leads at set ended = or_false (not (bit_and (2 ^ at) set == 0)) ∙ bit_test (bit_and (2 ^ at) set) (bit_at set at) (2 ^ at) (and_comm (2 ^ at) set ∙ and_pow set at) (bit_at-lt set at) (pow_pos2 at)

-- or and and, regrouped
only-meets : (n : Bool) (a b set : ℕ) → meets (bit_or a (only n b)) set ≡ (meets a set || (n && meets b set))
only-meets true a b set = meets-or a b set
only-meets false a b set = meets-or a 0 set

spread : (a n b e : Bool) → ((a || (n && b)) || e) ≡ (a || ((n && b) || e))
spread true n b e = refl
spread false n b e = refl

within : (n b w e : Bool) → ((n && b) || ((n && w) && e)) ≡ (n && (b || (w && e)))
within true b w e = refl
within false b w e = refl

sides : (a m b n k : Bool) → ((a || (m && k)) || (b || (n && k))) ≡ ((a || b) || ((m || n) && k))
sides true m b n k = refl
sides false true true n true = refl
sides false true false n true = refl
sides false true true true false = refl
sides false true true false false = refl
sides false true false true false = refl
sides false true false false false = refl
sides false false b n k = refl

maybe : (k a n : Bool) → (k || (a || (n && k))) ≡ (a || (true && k))
maybe true true n = refl
maybe true false n = refl
maybe false true n = refl
maybe false false true = refl
maybe false false false = refl

-- a model is entered at its front, or behind it where it matches no names
pub fronts : (m : Model) (at set : ℕ) (behind : Bool) → enter at m (marks set) behind ≡ (meets (front_of at m).set set || ((front_of at m).nullable && behind))
fronts (Named name) at set behind = sym (named-leads at set behind)
fronts Nothing at set behind = refl
fronts (Then a b) at set behind =
    let f = front_of at a in
    let g = front_of (at + places a) b in
    fronts a at set (enter (at + places a) b (marks set) behind)
    ∙ ap (λ x. meets f.set set || (f.nullable && x)) (fronts b (at + places a) set behind)
    ∙ ap (λ x. meets f.set set || x) (sym (within f.nullable (meets g.set set) g.nullable behind))
    ∙ sym (spread (meets f.set set) f.nullable (meets g.set set) ((f.nullable && g.nullable) && behind))
    ∙ ap (λ x. x || ((f.nullable && g.nullable) && behind)) (sym (only-meets f.nullable f.set g.set set))
fronts (Either a b) at set behind =
    let f = front_of at a in
    let g = front_of (at + places a) b in
    ap (λ x. x || enter (at + places a) b (marks set) behind) (fronts a at set behind)
    ∙ ap (λ x. (meets f.set set || (f.nullable && behind)) || x) (fronts b (at + places a) set behind)
    ∙ sides (meets f.set set) f.nullable (meets g.set set) g.nullable behind
    ∙ ap (λ x. x || ((f.nullable || g.nullable) && behind)) (sym (meets-or f.set g.set set))
fronts (Optional a) at set behind = ap (λ x. behind || x) (fronts a at set behind) ∙ maybe behind (meets (front_of at a).set set) (front_of at a).nullable
fronts (Any a) at set behind = ap (λ x. behind || x) (fronts a at set behind) ∙ maybe behind (meets (front_of at a).set set) (front_of at a).nullable
fronts (Some a) at set behind = fronts a at set behind

pub ways : (m : Model) (at : ℕ) (behind : Way) (set : ℕ) (ended : Bool) → leads (way_of at m behind) set ended ≡ enter at m (marks set) (leads behind set ended)
ways m at behind set ended =
    let f = front_of at m in
    ap (λ x. x || ((f.nullable && behind.end) && ended)) (only-meets f.nullable f.set behind.set set)
    ∙ spread (meets f.set set) f.nullable (meets behind.set set) ((f.nullable && behind.end) && ended)
    ∙ ap (λ x. meets f.set set || x) (within f.nullable (meets behind.set set) behind.end ended)
    ∙ sym (fronts m at set (leads behind set ended))

map-append : (f : Place → Bool) (xs ys : List Place) → map f (xs ++ ys) ≡ map f xs ++ map f ys
map-append f [] ys = refl
map-append f (x ∷ xs) ys = ap (λ z. f x ∷ z) (map-append f xs ys)

pub places-read : (name : List ℕ) (m : Model) (at : ℕ) (behind : Way) (set : ℕ) (ended : Bool) → map (takes name set ended) (places_of at m behind) ≡ read name at m (marks set) (leads behind set ended)
places-read name (Named wanted) at behind set ended = refl
places-read name Nothing at behind set ended = refl
places-read name (Then a b) at behind set ended =
    map-append (takes name set ended) (places_of at a (way_of (at + places a) b behind)) (places_of (at + places a) b behind)
    ∙ ap (λ z. z ++ map (takes name set ended) (places_of (at + places a) b behind)) (places-read name a at (way_of (at + places a) b behind) set ended ∙ ap (read name at a (marks set)) (ways b (at + places a) behind set ended))
    ∙ ap (λ z. read name at a (marks set) (enter (at + places a) b (marks set) (leads behind set ended)) ++ z) (places-read name b (at + places a) behind set ended)
places-read name (Either a b) at behind set ended =
    map-append (takes name set ended) (places_of at a behind) (places_of (at + places a) b behind)
    ∙ ap (λ z. z ++ map (takes name set ended) (places_of (at + places a) b behind)) (places-read name a at behind set ended)
    ∙ ap (λ z. read name at a (marks set) (leads behind set ended) ++ z) (places-read name b (at + places a) behind set ended)
places-read name (Optional a) at behind set ended = places-read name a at behind set ended
places-read name (Any a) at behind set ended = places-read name a at (way_of at (Any a) behind) set ended ∙ ap (read name at a (marks set)) (ways (Any a) at behind set ended)
places-read name (Some a) at behind set ended = places-read name a at (way_of at (Any a) behind) set ended ∙ ap (read name at a (marks set)) (ways (Any a) at behind set ended)

-- the bits of a word are its truths
pub word-half : (b : Bool) (n : ℕ) → (truth b + 2 * n) / 2 ≡ n
word-half true n = omega arith
word-half false n = omega arith

pub low : (b : Bool) (n : ℕ) → ((truth b + 2 * n) % 2 == 1) ≡ b
low true n = eq-eqb ((1 + 2 * n) % 2) 1 (omega arith)
low false n = ne_eqb ((0 + 2 * n) % 2) 1 (λ e. omega arith)

word-low : (b : Bool) (n : ℕ) → marks (truth b + 2 * n) 0 ≡ b
word-low b n = ap (λ x. x == 1) (bit_at_lowest (truth b + 2 * n)) ∙ low b n

shifted : (bs : List Bool) (at : ℕ) (f g : ℕ → Bool) → ((i : ℕ) → g (suc i) ≡ f i) → Agree at bs f → Agree (suc at) bs g
shifted [] at f g h a = tt
shifted (b ∷ bs) at f g h a = (h at ∙ a.0, shifted bs (suc at) f g h a.1)

pub words : (bs : List Bool) → Agree 0 bs (marks (word bs))
words [] = tt
words (b ∷ bs) = (word-low b (word bs), shifted bs 0 (marks (word bs)) (marks (truth b + 2 * word bs)) (λ i. ap (λ x. x == 1) (bit_at-suc (truth b + 2 * word bs) i ∙ ap (λ x. bit_at x i) (word-half b (word bs)))) (words bs))
