-- Tables of names that grow.
use Rattle.std.proofs.Common.{◌≡◌, ◌≢◌, ℕ, zero, suc, List, [], ◌∷◌, ◌++◌, length, Some, slice_get, refl, ap, sym, ◌∙◌, subst, ◌⊎◌, inl, inr}
use Rattle.std.specs.Prelude.{Result, Ok, Err, OnErr}
use Rattle.plain_tree.specs.declared.kind.Kind.{Kind}
use Rattle.plain_tree.specs.Tree.{node, Trees, none, more, kind_code, kind_code-inj}
use Rattle.plain_tree.specs.NameTable.{AreDistinct}
use Rattle.slt_grammar.specs.Terms.{Term}
use Rattle.slt_grammar.specs.Coding.{Codes}
use Rattle.fcns_encoding.specs.Interning.{Pair, IsIn, Interns}

same_number : (x y : ℕ) → (x ≡ y) ⊎ (x ≡ y → ⊥)
same_number zero zero = inl refl
same_number zero (suc y) = inr (λ e. cc)
same_number (suc x) zero = inr (λ e. cc)
same_number (suc x) (suc y) = elim (same_number x y) [ inl e ↦ inl (ap suc e) | inr ne ↦ inr (λ e. ne cc) ]

same_bytes : (a b : List ℕ) → (a ≡ b) ⊎ (a ≡ b → ⊥)
same_bytes [] [] = inl refl
same_bytes [] (y ∷ ys) = inr (λ e. cc)
same_bytes (x ∷ xs) [] = inr (λ e. cc)
same_bytes (x ∷ xs) (y ∷ ys) =
    elim (same_number x y) [
      | inl e ↦ elim (same_bytes xs ys) [ inl d ↦ inl cc | inr other ↦ inr (λ f. other cc) ]
      | inr other ↦ inr (λ f. other cc)
    ]

same_kind : (k l : Kind) → (k ≡ l) ⊎ (k ≡ l → ⊥)
same_kind k l = elim (same_number (kind_code k) (kind_code l)) [ inl e ↦ inl (kind_code-inj k l e) | inr other ↦ inr (λ e. other (ap kind_code e)) ]

same_pair : (p q : Pair) → (p ≡ q) ⊎ (p ≡ q → ⊥)
same_pair (k, n) (l, m) =
    elim (same_kind k l) [
      | inl e ↦ elim (same_bytes n m) [ inl d ↦ inl cc | inr other ↦ inr (λ f. other (ap (λ (r : Pair). r.1) f)) ]
      | inr other ↦ inr (λ f. other (ap (λ (r : Pair). r.0) f))
    ]

some_one : (p q : Pair) → Some p ≡ Some q → p ≡ q
some_one p q e = cc

-- a pair is in a table or it isn't
pub is_in : (p : Pair) (names : List Pair) → IsIn p names ⊎ (IsIn p names → ⊥)
is_in p [] = inr (λ h. let e = h.1 in cc)
is_in p (q ∷ qs) =
    elim (same_pair q p) [
      | inl e ↦ inl (0, ap Some e)
      | inr ne ↦ elim (is_in p qs) [ inl h ↦ inl (suc h.0, h.1) | inr other ↦ inr (λ h. nowhere ne other h.0 h.1) ]
    ]
  where
    nowhere : (q ≡ p → ⊥) → (IsIn p qs → ⊥) → (i : ℕ) → slice_get (q ∷ qs) i ≡ Some p → ⊥
    nowhere ne other zero e = ne (some_one q p e)
    nowhere ne other (suc i) e = other (i, e)

-- what a call of intern says, for a name that is the one given
pub interned : (old new : List Pair) (kind : Kind) (given name : List ℕ) → given ≡ name
    → ((i : ℕ) → slice_get old i ≡ Some (kind, given) → new ≡ old) → (((i : ℕ) → slice_get old i ≢ Some (kind, given)) → new ≡ old ++ (kind, given) ∷ []) → Interns old ((kind, name) ∷ []) new
interned old new kind given name same kept added =
    let it : Interns old ((kind, given) ∷ []) new =
    elim (is_in (kind, given) old) [ inl h ↦ inl (h, kept h.0 h.1) | inr other ↦ inr (other, added (λ i e. other (i, e))) ] in
    subst (λ n. Interns old ((kind, n) ∷ []) new) same it

-- what holds anyhow holds at a refusal
pub on-err : {T E P : Type 0} (r : Result T E) → P → OnErr r P
on-err (Ok x) p = tt
on-err (Err e) p = p

pub Interns-append : (a b c ps qs : List Pair) → Interns a ps b → Interns b qs c → Interns a (ps ++ qs) c
Interns-append a b c [] qs h k = subst (λ x. Interns x qs c) h k
Interns-append a b c (p ∷ ps) qs h k =
    elim h [
      | inl w ↦ inl (w.0, Interns-append a b c ps qs w.1 k)
      | inr w ↦ inr (w.0, Interns-append (a ++ p ∷ []) b c ps qs w.1 k)
    ]

pub get-front : (xs ys : List Pair) (i : ℕ) (p : Pair) → slice_get xs i ≡ Some p → slice_get (xs ++ ys) i ≡ Some p
get-front [] ys i p e = cc
get-front (x ∷ xs) ys zero p e = e
get-front (x ∷ xs) ys (suc i) p e = get-front xs ys i p e

-- what stands behind the others is the last
pub get-end : (xs : List Pair) (p : Pair) (i : ℕ) (q : Pair) → slice_get (xs ++ p ∷ []) i ≡ Some q → (slice_get xs i ≡ Some q) ⊎ ((i ≡ length xs) × (p ≡ q))
get-end [] p zero q e = inr (refl, some_one p q e)
get-end [] p (suc i) q e = cc
get-end (x ∷ xs) p zero q e = inl e
get-end (x ∷ xs) p (suc i) q e = elim (get-end xs p i q e) [ inl h ↦ inl h | inr w ↦ inr (ap suc w.0, w.1) ]

-- each pair of the one table stands at its place in the other
abbrev pub KeepsPlaces : List Pair → List Pair → Type 0
KeepsPlaces old new = (i : ℕ) (pair : Pair) → slice_get old i ≡ Some pair → slice_get new i ≡ Some pair

pub Interns-keeps : (old ps new : List Pair) → Interns old ps new → KeepsPlaces old new
Interns-keeps old [] new h i p e = ap (λ ns. slice_get ns i) h ∙ e
Interns-keeps old (q ∷ ps) new h i p e =
    elim h [
      | inl w ↦ Interns-keeps old ps new w.1 i p e
      | inr w ↦ Interns-keeps (old ++ q ∷ []) ps new w.1 i p (get-front old (q ∷ []) i p e)
    ]

pub Codes-keeps : (old new : List Pair) → KeepsPlaces old new → (ts : Trees) (term : Term) → Codes old ts term → Codes new ts term
Codes-keeps old new keeps none term c = c
Codes-keeps old new keeps (more (node k n v ks) ts) term c =
    (c.0, c.1, c.2, keeps c.0 (k, n) c.3, Codes-keeps old new keeps ks c.1 c.4, Codes-keeps old new keeps ts c.2 c.5, c.6)

pub codes-kept : (old ps new : List Pair) → Interns old ps new → KeepsPlaces old new × ((ts : Trees) (term : Term) → Codes old ts term → Codes new ts term)
codes-kept old ps new h = (Interns-keeps old ps new h, Codes-keeps old new (Interns-keeps old ps new h))

distinct-push : (names : List Pair) (p : Pair) → (IsIn p names → ⊥) → AreDistinct names → AreDistinct (names ++ p ∷ [])
distinct-push names p other one kind name i j a b =
    elim (get-end names p i (kind, name) a) [
      | inl c ↦ elim (get-end names p j (kind, name) b) [
        | inl d ↦ one kind name i j c d
        | inr w ↦ absurd (other (i, c ∙ ap Some (sym w.1)))
      ]
      | inr v ↦ elim (get-end names p j (kind, name) b) [
        | inl d ↦ absurd (other (j, d ∙ ap Some (sym v.1)))
        | inr w ↦ v.0 ∙ sym w.0
      ]
    ]

pub Interns-distinct : (old ps new : List Pair) → Interns old ps new → AreDistinct old → AreDistinct new
Interns-distinct old [] new h one = subst AreDistinct (sym h) one
Interns-distinct old (q ∷ ps) new h one =
    elim h [
      | inl w ↦ Interns-distinct old ps new w.1 one
      | inr w ↦ Interns-distinct (old ++ q ∷ []) ps new w.1 (distinct-push old q w.0 one)
    ]
