-- What stacks of parts count, and which numbers wait on them.
use Rattle.std.proofs.Common.{◌≡◌, ℕ, zero, suc, ◌+◌, ◌<◌, List, [], ◌∷◌, ◌++◌, Some, slice_get, length, refl, ap, sym, ◌∙◌, subst, ◌⊎◌, inl, inr, arith, length-append, append-nil}
use Rattle.fcns_encoding.specs.Cells.{Extends, IsUsed, AreUsed}
use Rattle.fcns_encoding.specs.Folding.{begun_in, waiting}
use Rattle.fcns_encoding.specs.declared.part.Part.{Part}
use Rattle.fcns_encoding.specs.declared.part.Part.TheVariants.{Begun, Whole}
use Rattle.fcns_encoding.specs.declared.subterms.Cell.{Cell}
use Rattle.fcns_encoding.proofs.CellLemmas.{front_get}

pub begun-append : (xs ys : List Part) → begun_in (xs ++ ys) ≡ begun_in xs + begun_in ys
begun-append [] ys = omega arith
begun-append (Begun symbol ∷ xs) ys = omega (arith, begun-append xs ys)
begun-append (Whole symbol below ∷ xs) ys = begun-append xs ys

pub waiting-append : (xs ys : List Part) → waiting (xs ++ ys) ≡ waiting xs ++ waiting ys
waiting-append [] ys = refl
waiting-append (Begun symbol ∷ xs) ys = waiting-append xs ys
waiting-append (Whole symbol below ∷ xs) ys = ap (λ ks. below ∷ ks) (waiting-append xs ys)

-- a number stands in a list
abbrev pub IsAmong : ℕ → List ℕ → Type 0
IsAmong k others = (i : ℕ) × (slice_get others i ≡ Some k)

-- a number is in the one list, or in the other
pub among-more : (xs ys : List ℕ) (k : ℕ) → IsAmong k (xs ++ ys) → IsAmong k xs ⊎ IsAmong k ys
among-more [] ys k h = inr h
among-more (x ∷ xs) ys k (zero, e) = inl (zero, e)
among-more (x ∷ xs) ys k (suc i, e) = elim (among-more xs ys k (i, e)) [ inl h ↦ inl (suc h.0, h.1) | inr h ↦ inr h ]

pub among-front : (xs ys : List ℕ) (k : ℕ) → IsAmong k xs → IsAmong k (xs ++ ys)
among-front xs ys k (i, e) = (i, front_get xs ys i k e)

pub among-back : (xs ys : List ℕ) (k : ℕ) → IsAmong k ys → IsAmong k (xs ++ ys)
among-back [] ys k h = h
among-back (x ∷ xs) ys k h = let w = among-back xs ys k h in (suc w.0, w.1)

one-among : (x k : ℕ) → IsAmong k (x ∷ []) → x ≡ k
one-among x k (zero, e) = cc
one-among x k (suc i, e) = cc

-- where each of these numbers is among those, they serve as well
pub used-others : (cells : List Cell) (others more : List ℕ) → ((k : ℕ) → IsAmong k others → IsAmong k more) → AreUsed cells others → AreUsed cells more
used-others cells others more go used k h = elim (used k h) [ inl u ↦ inl u | inr w ↦ inr (go (k + 1) w) ]

-- a cell over two of the numbers takes their place
pub used-over : (old new : List Cell) (c : Cell) (number : ℕ) (others : List ℕ) → Extends old c number new → AreUsed old (c.second ∷ c.first ∷ others) → AreUsed new (number ∷ others)
used-over old new c number others g used =
    elim g.way [
      | inl same ↦ λ k h. elim (used k (subst (λ cs. k < length cs) same h)) [
        | inl u ↦ inl (u.0, u.1, subst (λ cs. slice_get cs u.0 ≡ Some u.1) (sym same) u.2, u.3)
        | inr w ↦ taken k w.0 w.1
      ]
      | inr more ↦ λ k h. elim (within k (length old) (omega (arith, subst (λ cs. k < length cs) more.0 h, length-append old (c ∷ [])))) [
        | inl low ↦ elim (used k low) [
          | inl u ↦ inl (u.0, u.1, subst (λ cs. slice_get cs u.0 ≡ Some u.1) (sym more.0) (front_get old (c ∷ []) u.0 u.1 u.2), u.3)
          | inr w ↦ taken k w.0 w.1
        ]
        | inr e ↦ inr (0, ap Some (let n : number ≡ k + 1 = omega (arith, g.is, more.1, e) in n))
      ]
    ]
  where
    within : (k n : ℕ) → k < n + 1 → (k < n) ⊎ (k ≡ n)
    within zero zero h = inr refl
    within zero (suc n) h = inl (omega arith)
    within (suc k) zero h = absurd (omega (arith, h))
    within (suc k) (suc n) h = elim (within k n (omega (arith, h))) [ inl l ↦ inl (omega (arith, l)) | inr e ↦ inr (ap suc e) ]

    taken : (k i : ℕ) → slice_get (c.second ∷ c.first ∷ others) i ≡ Some (k + 1) → IsUsed new (k + 1) ⊎ IsAmong (k + 1) (number ∷ others)
    taken k zero e = inl (g.place, c, g.stands, inr cc)
    taken k (suc zero) e = inl (g.place, c, g.stands, inl cc)
    taken k (suc (suc i)) e = inr (suc i, e)

-- a whole node on top of the stack is put before the kids so far
pub used-whole : (old new : List Cell) (c : Cell) (number : ℕ) (parts all : List Part) (symbol : ℕ) → all ≡ parts ++ Whole symbol c.first ∷ [] → Extends old c number new
    → AreUsed old (c.second ∷ waiting all) → AreUsed new (number ∷ waiting parts)
used-whole old new c number parts all symbol e g used =
    let is : waiting all ≡ waiting parts ++ c.first ∷ [] = ap waiting e ∙ waiting-append parts (Whole symbol c.first ∷ []) in
    used-over old new c number (waiting parts) g (used-others old (c.second ∷ waiting all) (c.second ∷ c.first ∷ waiting parts) (λ k w. front k w.0 (subst (λ ks. slice_get (c.second ∷ ks) w.0 ≡ Some k) is w.1)) used)
  where
    front : (k i : ℕ) → slice_get (c.second ∷ (waiting parts ++ c.first ∷ [])) i ≡ Some k → IsAmong k (c.second ∷ c.first ∷ waiting parts)
    front k zero e = (0, e)
    front k (suc i) e = elim (among-more (waiting parts) (c.first ∷ []) k (i, e)) [ inl h ↦ (suc (suc h.0), h.1) | inr h ↦ (1, ap Some (one-among c.first k h)) ]

-- an element that was begun is taken from the stack
pub used-begun : (cells : List Cell) (code : ℕ) (parts all : List Part) (symbol : ℕ) → all ≡ parts ++ Begun symbol ∷ [] → AreUsed cells (code ∷ waiting all) → AreUsed cells (code ∷ waiting parts)
used-begun cells code parts all symbol e used =
    let is : waiting all ≡ waiting parts = ap waiting e ∙ waiting-append parts (Begun symbol ∷ []) ∙ append-nil (waiting parts) in
    subst (λ ks. AreUsed cells (code ∷ ks)) is used

-- and put on it
pub used-open : (cells : List Cell) (parts all : List Part) (symbol : ℕ) → all ≡ parts ++ Begun symbol ∷ [] → AreUsed cells (waiting parts) → AreUsed cells (waiting all)
used-open cells parts all symbol e used =
    let is : waiting all ≡ waiting parts = ap waiting e ∙ waiting-append parts (Begun symbol ∷ []) ∙ append-nil (waiting parts) in
    subst (AreUsed cells) (sym is) used

-- before any kids are taken their code is bottom's number
pub used-none : (cells : List Cell) (others : List ℕ) (code : ℕ) → AreUsed cells others → AreUsed cells (code ∷ others)
used-none cells others code used = used-others cells others (code ∷ others) (λ k w. (suc w.0, w.1)) used

-- a whole node is put on the stack
pub used-put : (cells : List Cell) (parts all : List Part) (symbol below : ℕ) → all ≡ parts ++ Whole symbol below ∷ [] → AreUsed cells (below ∷ waiting parts) → AreUsed cells (waiting all)
used-put cells parts all symbol below e used =
    let is : waiting all ≡ waiting parts ++ below ∷ [] = ap waiting e ∙ waiting-append parts (Whole symbol below ∷ []) in
    subst (AreUsed cells) (sym is) (used-others cells (below ∷ waiting parts) (waiting parts ++ below ∷ []) back used)
  where
    back : (k : ℕ) → IsAmong k (below ∷ waiting parts) → IsAmong k (waiting parts ++ below ∷ [])
    back k (zero, e) = among-back (waiting parts) (below ∷ []) k (0, e)
    back k (suc i, e) = among-front (waiting parts) (below ∷ []) k (i, e)

-- a leaf has no kids
pub used-leaf : (cells : List Cell) (parts all : List Part) (symbol : ℕ) → all ≡ parts ++ Whole symbol 0 ∷ [] → AreUsed cells (waiting parts) → AreUsed cells (waiting all)
used-leaf cells parts all symbol e used = used-put cells parts all symbol 0 e (used-none cells (waiting parts) 0 used)
