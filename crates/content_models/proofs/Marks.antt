-- Which places are marked.
use Rattle.std.proofs.Common.{◌≡◌, ℕ, zero, suc, ◌%◌, ◌^◌, ◌<◌, ◌≢◌, max, List, [], ◌∷◌, map, length, get_or, set, refl, ap, sym, ◌∙◌, arith}
use Rattle.std.specs.Prelude.{◌==◌, bit_or, Bool, true, false, ◌||◌, ◌&&◌, nat_le, if◌then◌else◌, replicate}
use Rattle.std.specs.Int.{bit_at}
use Rattle.std.specs.List.{list_all, list_any}
use Rattle.std.proofs.lemmas.Bool.{eq-eqb, eqb-true, false≢true, and_parts}
use Rattle.std.proofs.lemmas.Nat.Bits.{bit_at_or, bit_at-lt, bit_at-zero, bit_at-pow_same, bit_at-pow_other}
use Rattle.content_models.specs.declared.states.Chain.TheVariants.{Stuck, Near, Far}
use Rattle.content_models.specs.declared.ways.Spot.{Spot}
use Rattle.content_models.specs.Checking.{no_sets, marked, opened, sets_of, goes_on, next_sets, next_bits, near, far, before}
use Rattle.content_models.specs.Ways.{marks, word}
use Rattle.content_models.proofs.Forms.{low, word-half}

-- a word read bit by bit
word-bit : (b : Bool) (bs : List Bool) → (word (b ∷ bs) % 2 == 1) ≡ b
word-bit b bs = low b (word bs)

-- the places of a row that are marked by their bits are those behind which the chain can be read
pub opened-next : (sets : List ℕ) (ended : Bool) (row : List Spot) (next : List ℕ) → opened row (next_bits sets ended row) next ≡ next_sets sets ended row next
opened-next sets ended [] next = refl
opened-next sets ended (s ∷ row) next =
    let b = goes_on sets ended s in
    ap (λ w. opened row w (if (next_bits sets ended (s ∷ row)) % 2 == 1 then marked next s else next)) (word-half b (next_bits sets ended row))
    ∙ ap (λ x. opened row (next_bits sets ended row) (if x then marked next s else next)) (word-bit b (map (goes_on sets ended) row))
    ∙ opened-next sets ended row (if b then marked next s else next)

opened-none : (row : List Spot) (sets : List ℕ) → opened row 0 sets ≡ sets
opened-none [] sets = refl
opened-none (s ∷ row) sets = opened-none row sets

near-sets : (rows : List (List Spot)) (f bits : ℕ) (b : Bool) → (bits == 0) ≡ b → sets_of rows (if b then Stuck else Near f bits) ≡ opened (get_or rows f []) bits no_sets
near-sets rows f bits true e = sym (ap (λ w. opened (get_or rows f []) w no_sets) (eqb-true bits 0 e) ∙ opened-none (get_or rows f []) no_sets)
near-sets rows f bits false e = refl

-- words that are all nothing
nothing-in : (sets : List ℕ) (i : ℕ) → list_all (λ w. w == 0) sets ≡ true → get_or sets i 0 ≡ 0
nothing-in [] i e = refl
nothing-in (w ∷ sets) zero e = eqb-true w 0 (and_parts (w == 0) (list_all (λ x. x == 0) sets) e).0
nothing-in (w ∷ sets) (suc i) e = nothing-in sets i (and_parts (w == 0) (list_all (λ x. x == 0) sets) e).1

pub none-in : (n i : ℕ) → ◌≡◌ {A = ℕ} (get_or (replicate n 0) i 0) 0
none-in zero i = refl
none-in (suc n) zero = refl
none-in (suc n) (suc i) = none-in n i

far-sets : (rows : List (List Spot)) (sets : List ℕ) (i : ℕ) (b : Bool) → list_all (λ w. w == 0) sets ≡ b → get_or (sets_of rows (if b then Stuck else Far sets)) i 0 ≡ get_or sets i 0
far-sets rows sets i true e = none-in 64 i ∙ sym (nothing-in sets i e)
far-sets rows sets i false e = refl

-- the sets of the state of a longer chain
pub before-sets : (rows : List (List Spot)) (f : ℕ) (sets : List ℕ) (ended : Bool) (i : ℕ)
    → get_or (sets_of rows (before f (get_or rows f []) sets ended)) i 0 ≡ get_or (next_sets sets ended (get_or rows f []) no_sets) i 0
before-sets rows f sets ended i = by_length (nat_le (length row) 64) where
  row : List Spot
  row = get_or rows f []

  by_length : (b : Bool) → get_or (sets_of rows (if b then near f (next_bits sets ended row) else far (next_sets sets ended row no_sets))) i 0 ≡ get_or (next_sets sets ended row no_sets) i 0
  by_length true = ap (λ x. get_or x i 0) (near-sets rows f (next_bits sets ended row) (next_bits sets ended row == 0) refl ∙ opened-next sets ended row no_sets)
  by_length false = far-sets rows (next_sets sets ended row no_sets) i (list_all (λ w. w == 0) (next_sets sets ended row no_sets)) refl

-- bits of a union
is_one : (z n : ℕ) (b : Bool) → z ≡ n → (n == 1) ≡ b → (z == 1) ≡ b
is_one z n b e f = ap (λ k. k == 1) e ∙ f

or-bit : (x y z : ℕ) → x < 2 → y < 2 → z ≡ max x y → (z == 1) ≡ ((x == 1) || (y == 1))
or-bit zero zero z p q e = is_one z 0 false (omega (arith, e)) refl
or-bit zero (suc zero) z p q e = is_one z 1 true (omega (arith, e)) refl
or-bit (suc zero) zero z p q e = is_one z 1 true (omega (arith, e)) refl
or-bit (suc zero) (suc zero) z p q e = is_one z 1 true (omega (arith, e)) refl
or-bit zero (suc (suc y)) z p q e = absurd (omega arith)
or-bit (suc zero) (suc (suc y)) z p q e = absurd (omega arith)
or-bit (suc (suc x)) y z p q e = absurd (omega arith)

pub marks-or : (a b i : ℕ) → marks (bit_or a b) i ≡ (marks a i || marks b i)
marks-or a b i = or-bit (bit_at a i) (bit_at b i) (bit_at (bit_or a b) i) (bit_at-lt a i) (bit_at-lt b i) (bit_at_or a b i)

pub marks-none : (i : ℕ) → marks 0 i ≡ false
marks-none i = ap (λ b. b == 1) (bit_at-zero i)

pub marks-pow : (a i : ℕ) → marks (2 ^ a) i ≡ (a == i)
marks-pow a i = by_case (a == i) refl where
  by_case : (b : Bool) → (a == i) ≡ b → marks (2 ^ a) i ≡ (a == i)
  by_case true e = ap (λ x. x == 1) (ap (bit_at (2 ^ a)) (sym (eqb-true a i e)) ∙ bit_at-pow_same a) ∙ sym e
  by_case false e = ap (λ x. x == 1) (bit_at-pow_other a i (λ z. false≢true (sym e ∙ eq-eqb a i (sym z)))) ∙ sym e

-- one place is marked
get-same : (sets : List ℕ) (i x : ℕ) → i < length sets → get_or (set sets i x) i 0 ≡ x
get-same [] i x l = absurd (omega arith)
get-same (s ∷ sets) zero x l = refl
get-same (s ∷ sets) (suc i) x l = get-same sets i x (omega arith)

get-other : (sets : List ℕ) (i j x : ℕ) → j ≢ i → get_or (set sets j x) i 0 ≡ get_or sets i 0
get-other [] i j x n = refl
get-other (s ∷ sets) zero zero x n = absurd (n refl)
get-other (s ∷ sets) zero (suc j) x n = refl
get-other (s ∷ sets) (suc i) zero x n = refl
get-other (s ∷ sets) (suc i) (suc j) x n = get-other sets i j x (λ e. n (ap suc e))

set-length : (sets : List ℕ) (j x : ℕ) → length (set sets j x) ≡ length sets
set-length [] j x = refl
set-length (s ∷ sets) zero x = refl
set-length (s ∷ sets) (suc j) x = ap suc (set-length sets j x)

-- whether a place is this one, of this model
abbrev pub is_here : ℕ → ℕ → Spot → Bool
is_here i p s = (s.model == i) && marks s.bit p

marked-here : (sets : List ℕ) (s : Spot) (i p : ℕ) → i < length sets → marks (get_or (marked sets s) i 0) p ≡ (marks (get_or sets i 0) p || is_here i p s)
marked-here sets s i p l = by_case (s.model == i) refl where
  or_none : (b : Bool) → b ≡ (b || false)
  or_none true = refl
  or_none false = refl

  by_case : (b : Bool) → (s.model == i) ≡ b → marks (get_or (marked sets s) i 0) p ≡ (marks (get_or sets i 0) p || (b && marks s.bit p))
  by_case true e =
      let same = eqb-true s.model i e in
      ap (λ k. marks (get_or (set sets k (bit_or (get_or sets k 0) s.bit)) i 0) p) same
      ∙ ap (λ w. marks w p) (get-same sets i (bit_or (get_or sets i 0) s.bit) l) ∙ marks-or (get_or sets i 0) s.bit p
  by_case false e = ap (λ w. marks w p) (get-other sets i s.model (bit_or (get_or sets s.model 0) s.bit) (λ f. false≢true (sym e ∙ eq-eqb s.model i f))) ∙ or_none (marks (get_or sets i 0) p)

or-assoc : (a b c : Bool) → ((a || b) || c) ≡ (a || (b || c))
or-assoc true b c = refl
or-assoc false b c = refl

-- a place is marked where it was, or stands in the row with the chain behind it
abbrev pub is_next : List ℕ → Bool → ℕ → ℕ → Spot → Bool
is_next sets ended i p s = is_here i p s && goes_on sets ended s

next-step : (s : Spot) (next : List ℕ) (i p : ℕ) → i < length next → (b rest : Bool) (after : List ℕ → List ℕ) → ((new : List ℕ) → i < length new → marks (get_or (after new) i 0) p ≡ (marks (get_or new i 0) p || rest))
    → marks (get_or (after (if b then marked next s else next)) i 0) p ≡ (marks (get_or next i 0) p || ((is_here i p s && b) || rest))
next-step s next i p l true rest after h =
    h (marked next s) (omega (arith, l, set-length next s.model (bit_or (get_or next s.model 0) s.bit)))
    ∙ ap (λ x. x || rest) (marked-here next s i p l)
    ∙ or-assoc (marks (get_or next i 0) p) (is_here i p s) rest
    ∙ ap (λ x. marks (get_or next i 0) p || (x || rest)) (also (is_here i p s)) where
      also : (b : Bool) → b ≡ (b && true)
      also true = refl
      also false = refl
next-step s next i p l false rest after h = h next l ∙ ap (λ x. marks (get_or next i 0) p || (x || rest)) (never (is_here i p s)) where
  never : (b : Bool) → false ≡ (b && false)
  never true = refl
  never false = refl

pub next-marks : (sets : List ℕ) (ended : Bool) (row : List Spot) (next : List ℕ) (i p : ℕ) → i < length next
    → marks (get_or (next_sets sets ended row next) i 0) p ≡ (marks (get_or next i 0) p || list_any (is_next sets ended i p) row)
next-marks sets ended [] next i p l = or_none (marks (get_or next i 0) p) where
  or_none : (b : Bool) → b ≡ (b || false)
  or_none true = refl
  or_none false = refl
next-marks sets ended (s ∷ row) next i p l =
    next-step s next i p l (goes_on sets ended s) (list_any (is_next sets ended i p) row) (λ x. next_sets sets ended row x) (λ new n. next-marks sets ended row new i p n)
