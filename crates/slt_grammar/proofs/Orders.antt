-- Identities that are put in and taken out.
use Rattle.std.proofs.Common.{◌≡◌, ◌⊎◌, inl, inr, ℕ, zero, suc, ◌+◌, ◌-◌, ◌<◌, ◌≤◌, List, [], ◌∷◌, ◌++◌, length, get_or, set, take, Bool, true, false, refl, sym, ap, ◌∙◌, subst, arith, insert, remove, length-append}
use Rattle.std.specs.Prelude.{eqb, cond}
use Rattle.std.specs.List.{CopiedTo, SameBelow, SameFrom}
use Rattle.std.proofs.lemmas.Bool.{ne_eqb, eq-eqb, cases_eq, cases_lt}
use Rattle.std.proofs.lemmas.List.{ext_get_or, get_or-set_other, get_or-set_same, length-set, length-take-le}
use Rattle.std.proofs.lemmas.List.Edits.{get_or-insert_at, get_or-insert_above, get_or-insert_below, get_or-remove_above, get_or-remove_below}
use Rattle.slt_grammar.specs.Ordering.{Ordered, place_of, IsThere, Fresh, Distinct, AllBelow, IsOrder}

pub fresh-index : (x : ℕ) (xs : List ℕ) (p : ℕ) → Fresh x xs → p < length xs → get_or xs p 0 ≡ x → ⊥
fresh-index x [] p f h e = omega arith
fresh-index x (y ∷ ys) zero f h e = f.0 e
fresh-index x (y ∷ ys) (suc p) f h e = fresh-index x ys p f.1 (omega arith) e

pub distinct-index : (xs : List ℕ) (p q : ℕ) → Distinct xs → p < length xs → q < length xs → get_or xs p 0 ≡ get_or xs q 0 → p ≡ q
distinct-index [] p q d h k e = absurd (omega arith)
distinct-index (x ∷ xs) zero zero d h k e = refl
distinct-index (x ∷ xs) zero (suc q) d h k e = absurd (fresh-index x xs q d.0 (omega arith) (sym e))
distinct-index (x ∷ xs) (suc p) zero d h k e = absurd (fresh-index x xs p d.0 (omega arith) e)
distinct-index (x ∷ xs) (suc p) (suc q) d h k e = ap suc (distinct-index xs p q d.1 (omega arith) (omega arith) e)

fresh-insert : (x : ℕ) (xs : List ℕ) (i y : ℕ) → Fresh x xs → (y ≡ x → ⊥) → Fresh x (insert xs i y)
fresh-insert x xs zero y f n = (n, f)
fresh-insert x [] (suc i) y f n = (n, tt)
fresh-insert x (z ∷ xs) (suc i) y f n = (f.0, fresh-insert x xs i y f.1 n)

pub distinct-insert : (xs : List ℕ) (i y : ℕ) → Distinct xs → Fresh y xs → Distinct (insert xs i y)
distinct-insert xs zero y d f = (f, d)
distinct-insert [] (suc i) y d f = (tt, tt)
distinct-insert (x ∷ xs) (suc i) y d f = (fresh-insert x xs i y d.0 (λ e. f.0 (sym e)), distinct-insert xs i y d.1 f.1)

pub below-insert : (n : ℕ) (xs : List ℕ) (i y : ℕ) → AllBelow n xs → y < n → AllBelow n (insert xs i y)
below-insert n xs zero y b h = (h, b)
below-insert n [] (suc i) y b h = (h, tt)
below-insert n (x ∷ xs) (suc i) y b h = (b.0, below-insert n xs i y b.1 h)

fresh-remove : (x : ℕ) (xs : List ℕ) (i : ℕ) → Fresh x xs → Fresh x (remove xs i)
fresh-remove x [] zero f = tt
fresh-remove x [] (suc i) f = tt
fresh-remove x (y ∷ xs) zero f = f.1
fresh-remove x (y ∷ xs) (suc i) f = (f.0, fresh-remove x xs i f.1)

pub distinct-remove : (xs : List ℕ) (i : ℕ) → Distinct xs → Distinct (remove xs i)
distinct-remove [] zero d = tt
distinct-remove [] (suc i) d = tt
distinct-remove (x ∷ xs) zero d = d.1
distinct-remove (x ∷ xs) (suc i) d = (fresh-remove x xs i d.0, distinct-remove xs i d.1)

pub below-remove : (n : ℕ) (xs : List ℕ) (i : ℕ) → AllBelow n xs → AllBelow n (remove xs i)
below-remove n [] zero b = tt
below-remove n [] (suc i) b = tt
below-remove n (x ∷ xs) zero b = b.1
below-remove n (x ∷ xs) (suc i) b = (b.0, below-remove n xs i b.1)

pub fresh-removed : (xs : List ℕ) (i x : ℕ) → Distinct xs → i < length xs → x ≡ get_or xs i 0 → Fresh x (remove xs i)
fresh-removed [] i x d h e = absurd (omega arith)
fresh-removed (y ∷ xs) zero x d h e = subst (λ (z : ℕ). Fresh z xs) (sym e) d.0
fresh-removed (y ∷ xs) (suc i) x d h e = (λ z. fresh-index y xs i d.0 (omega arith) (sym e ∙ sym z), fresh-removed xs i x d.1 (omega arith) e)

pub below-index : (n : ℕ) (xs : List ℕ) (p : ℕ) → AllBelow n xs → p < length xs → get_or xs p 0 < n
below-index n [] p b h = absurd (omega arith)
below-index n (x ∷ xs) zero b h = b.0
below-index n (x ∷ xs) (suc p) b h = below-index n xs p b.1 (omega arith)

-- one behind the others
pub distinct-push : (xs : List ℕ) (y : ℕ) → Distinct xs → Fresh y xs → Distinct (xs ++ y ∷ [])
distinct-push [] y d f = (tt, tt)
distinct-push (x ∷ xs) y d f = (more xs d.0, distinct-push xs y d.1 f.1)
  where
    more : (zs : List ℕ) → Fresh x zs → Fresh x (zs ++ y ∷ [])
    more [] g = (λ e. f.0 (sym e), tt)
    more (z ∷ zs) g = (g.0, more zs g.1)

pub below-push : (n : ℕ) (xs : List ℕ) (y : ℕ) → AllBelow n xs → y < n → AllBelow n (xs ++ y ∷ [])
below-push n [] y b h = (h, tt)
below-push n (x ∷ xs) y b h = (b.0, below-push n xs y b.1 h)

pub below-more : (n m : ℕ) (xs : List ℕ) → AllBelow n xs → n ≤ m → AllBelow m xs
below-more n m [] b h = tt
below-more n m (x ∷ xs) b h = (let z = b.0 in omega arith, below-more n m xs b.1 h)

pub below-fresh : (n : ℕ) (xs : List ℕ) → AllBelow n xs → Fresh n xs
below-fresh n [] b = tt
below-fresh n (x ∷ xs) b = (λ e. let z = b.0 in omega arith, below-fresh n xs b.1)

-- a list that begins as before
pub take-insert : (xs : List ℕ) (i y n : ℕ) → i ≤ n → n ≤ length xs → take (n + 1) (insert xs i y) ≡ insert (take n xs) i y
take-insert xs zero y n h l = let e : n + 1 ≡ suc n = omega arith in rw e refl
take-insert xs (suc i) y zero h l = absurd (omega arith)
take-insert [] (suc i) y (suc n) h l = absurd (omega arith)
take-insert (x ∷ xs) (suc i) y (suc n) h l = let e : suc n + 1 ≡ suc (n + 1) = omega arith in rw e (ap (λ zs. x ∷ zs) (take-insert xs i y n (omega arith) (omega arith)))

pub take-remove : (xs : List ℕ) (i n : ℕ) → i < n → n ≤ length xs → take (n - 1) (remove xs i) ≡ remove (take n xs) i
take-remove xs i zero h l = absurd (omega arith)
take-remove [] i (suc n) h l = absurd (omega arith)
take-remove (x ∷ xs) zero (suc n) h l = let e : suc n - 1 ≡ n = omega arith in rw e refl
take-remove (x ∷ xs) (suc i) (suc zero) h l = absurd (omega arith)
take-remove (x ∷ xs) (suc i) (suc (suc n)) h l =
    let e : suc (suc n) - 1 ≡ suc n = omega arith in
    let f : suc n - 1 ≡ n = omega arith in
    rw e (ap (λ zs. x ∷ zs) (sym (ap (λ (m : ℕ). take m (remove xs i)) f) ∙ take-remove xs i (suc n) (omega arith) (omega arith)))

-- what is changed behind the first n doesn't change these
pub take-inserted : (xs : List ℕ) (n y : ℕ) → n ≤ length xs → take n (insert xs n y) ≡ take n xs
take-inserted xs zero y h = refl
take-inserted [] (suc n) y h = absurd (omega arith)
take-inserted (x ∷ xs) (suc n) y h = ap (λ zs. x ∷ zs) (take-inserted xs n y (omega arith))

pub take-removed : (xs : List ℕ) (n : ℕ) → take n (remove xs n) ≡ take n xs
take-removed xs zero = refl
take-removed [] (suc n) = refl
take-removed (x ∷ xs) (suc n) = ap (λ zs. x ∷ zs) (take-removed xs n)

pub fresh-take : (x : ℕ) (xs : List ℕ) (n : ℕ) → Fresh x xs → Fresh x (take n xs)
fresh-take x xs zero f = tt
fresh-take x [] (suc n) f = tt
fresh-take x (y ∷ ys) (suc n) f = (f.0, fresh-take x ys n f.1)

-- the place of an identity that stands at a place
pub place-there : (xs : List ℕ) (p : ℕ) → Distinct xs → p < length xs → place_of xs (get_or xs p 0) ≡ p
place-there [] p d h = absurd (omega arith)
place-there (x ∷ xs) zero d h = rw (eq-eqb x x refl) refl
place-there (x ∷ xs) (suc p) d h =
    let n : eqb x (get_or xs p 0) ≡ false = ne_eqb x (get_or xs p 0) (λ e. fresh-index x xs p d.0 (omega arith) (sym e)) in
    rw n (ap suc (place-there xs p d.1 (omega arith)))

pub get-any : (xs : List ℕ) (p a b : ℕ) → p < length xs → get_or xs p a ≡ get_or xs p b
get-any [] p a b h = absurd (omega arith)
get-any (x ∷ xs) zero a b h = refl
get-any (x ∷ xs) (suc p) a b h = get-any xs p a b (omega arith)

-- one more place is written
pub written : (ids places : List ℕ) (p x : ℕ) → Distinct ids → x < length places → p < length ids → x ≡ get_or ids p 0
    → (q : ℕ) → q < length ids → ((q ≡ p → ⊥) → get_or places (get_or ids q 0) 0 ≡ q) → get_or (set places x p) (get_or ids q 0) 0 ≡ q
written ids places p x d b h e q k I = elim (cases_eq q p) [
  | inl z ↦ ap (λ (j : ℕ). get_or (set places x p) (get_or ids j 0) 0) z ∙ ap (λ (j : ℕ). get_or (set places x p) j 0) (sym e) ∙ get_or-set_same places x p 0 b ∙ sym z
  | inr n ↦ get_or-set_other places x (get_or ids q 0) p 0 (λ w. n (distinct-index ids q p d k h (w ∙ e))) ∙ I n
]

pub length-insert : (xs : List ℕ) (i y : ℕ) → length (insert xs i y) ≡ suc (length xs)
length-insert xs zero y = refl
length-insert [] (suc i) y = refl
length-insert (x ∷ xs) (suc i) y = ap suc (length-insert xs i y)

pub length-remove : (xs : List ℕ) (i : ℕ) → i < length xs → length (remove xs i) + 1 ≡ length xs
length-remove [] i h = absurd (omega arith)
length-remove (x ∷ xs) zero h = omega arith
length-remove (x ∷ xs) (suc i) h = omega (arith, length-remove xs i (omega arith))

pub length-order : (ids order : List ℕ) (used : ℕ) → take used ids ≡ order → used ≤ length ids → length order ≡ used
length-order ids order used t h = sym (ap length t) ∙ length-take-le used ids h

-- what is left where an item is put at another place
pub record Moved (ids new : List ℕ) (from to : ℕ) : Type 0 where
  pub distinct : Distinct new
  pub below : AllBelow (length ids) new
  pub same : length new ≡ length ids
  pub before : (p : ℕ) → p < from → p < to → get_or new p 0 ≡ get_or ids p 0
  pub behind : (p : ℕ) → from < p → to < p → get_or new p 0 ≡ get_or ids p 0

moved : (ids new : List ℕ) (from to id : ℕ) → Distinct ids → AllBelow (length ids) ids → from < length ids → to < length ids → id ≡ get_or ids from 0
    → new ≡ insert (remove ids from) to id → Moved ids new from to
moved ids new from to id d b h k e f =
    let n : length (remove ids from) + 1 ≡ length ids = length-remove ids from h in
    let u : id < length ids = let z = below-index (length ids) ids from b h in omega (arith, e) in
    record {
      distinct = subst Distinct (sym f) (distinct-insert (remove ids from) to id (distinct-remove ids from d) (fresh-removed ids from id d h e));
      below = subst (AllBelow (length ids)) (sym f) (below-insert (length ids) (remove ids from) to id (below-remove (length ids) ids from b) u);
      same = omega (arith, ap length f, length-insert (remove ids from) to id, n);
      before = λ p l m. ap (λ zs. get_or zs p 0) f ∙ get_or-insert_below (remove ids from) to id 0 p m (omega (arith, n)) ∙ get_or-remove_below ids from 0 p l h;
      behind = λ p l m.
          let e1 : p ≡ (p - 1) + 1 = omega arith in
          ap (λ zs. get_or zs p 0) f ∙ ap (λ (j : ℕ). get_or (insert (remove ids from) to id) j 0) e1
          ∙ get_or-insert_above (remove ids from) to id 0 (p - 1) (omega arith) (omega (arith, n))
          ∙ get_or-remove_above ids from 0 (p - 1) (omega arith) h ∙ ap (λ (j : ℕ). get_or ids j 0) (sym e1);
    }

-- the second list still tells the places of those that were not moved
untouched : (ids places new : List ℕ) (used from to begin end : ℕ) → IsOrder ids places used → Moved ids new from to → begin ≤ from → begin ≤ to → from < end → to < end
    → (p : ℕ) → (p < begin) ⊎ (end ≤ p) → p < length new → get_or places (get_or new p 0) 0 ≡ p
untouched ids places new used from to begin end O M a b c d p (inl h) l =
    ap (λ (j : ℕ). get_or places j 0) (M.before p (omega arith) (omega arith)) ∙ O.inverse.at p (omega (arith, M.same))
untouched ids places new used from to begin end O M a b c d p (inr h) l =
    ap (λ (j : ℕ). get_or places j 0) (M.behind p (omega arith) (omega arith)) ∙ O.inverse.at p (omega (arith, M.same))

-- what an insertion and a removal do to the order
pub record Reordered (ids places new after : List ℕ) (used begin end : ℕ) : Type 0 where
  pub distinct : Distinct new
  pub below : AllBelow (length places) new
  pub within : end ≤ length new
  pub same : length new ≡ length ids
  pub kept : (p : ℕ) → (p < begin) ⊎ (end ≤ p) → p < length new → get_or places (get_or new p 0) 0 ≡ p
  pub order_is : take used new ≡ after

module _ (ids places : List ℕ) (used : ℕ) (v : Ordered) (O : IsOrder ids places used) (t : record { order = take used ids; spare = length ids - used } ≡ v) (new : List ℕ) (place : ℕ) where
  order_is : take used ids ≡ v.order
  order_is = ap (λ (w : Ordered). w.order) t

  many : length v.order ≡ used
  many = length-order ids v.order used order_is O.within

  -- a free identity is put before the one at a place
  pub inserted : (id d : ℕ) → place ≤ length v.order → 0 < v.spare → id ≡ get_or ids used d → new ≡ insert (remove ids used) place (get_or ids used 0)
      → Reordered ids places new (insert v.order place id) (used + 1) place (used + 1) × Fresh id v.order
  inserted id d h r e f =
      let u : used < length ids = omega (arith, ap (λ (w : Ordered). w.spare) t) in
      let s = O.same in
      let w : place ≤ used = omega (arith, many) in
      let e0 : id ≡ get_or ids used 0 = e ∙ get-any ids used d 0 u in
      let f0 : new ≡ insert (remove ids used) place id = f ∙ ap (insert (remove ids used) place) (sym e0) in
      let M : Moved ids new used place = moved ids new used place id O.distinct O.below u (omega arith) e0 f0 in
      let l : length (remove ids used) + 1 ≡ length ids = length-remove ids used u in
      let k : take used (remove ids used) ≡ v.order = take-removed ids used ∙ order_is in (
        record {
          distinct = M.distinct;
          below = subst (λ (m : ℕ). AllBelow m new) (sym s) M.below;
          within = omega (arith, M.same);
          same = M.same;
          kept = untouched ids places new used used place place (used + 1) O M w (omega arith) (omega arith) (omega arith);
          order_is = ap (take (used + 1)) f0 ∙ take-insert (remove ids used) place id used w (omega arith) ∙ ap (λ zs. insert zs place id) k;
        },
        subst (Fresh id) k (fresh-take id (remove ids used) used (fresh-removed ids used id O.distinct u e0)),
      )

  -- the identity at a place becomes the first of the free ones
  pub removed : place < length v.order → new ≡ insert (remove ids place) (used - 1) (get_or ids place 0)
      → Reordered ids places new (remove v.order place) (used - 1) place used
  removed h f =
      let w = O.within in
      let s = O.same in
      let k : place < length ids = omega (arith, many) in
      let M : Moved ids new place (used - 1) = moved ids new place (used - 1) (get_or ids place 0) O.distinct O.below k (omega (arith, many)) refl f in
      let l : length (remove ids place) + 1 ≡ length ids = length-remove ids place k in
      record {
        distinct = M.distinct;
        below = subst (λ (m : ℕ). AllBelow m new) (sym s) M.below;
        within = omega (arith, M.same);
        same = M.same;
        kept = untouched ids places new used place (used - 1) place used O M (omega arith) (omega (arith, many)) (omega (arith, many)) (omega (arith, many));
        order_is = ap (take (used - 1)) f ∙ take-inserted (remove ids place) (used - 1) (get_or ids place 0) (omega arith)
            ∙ take-remove ids place used (omega (arith, many)) w ∙ ap (λ zs. remove zs place) order_is;
      }

-- an item that is put at an earlier or a later place, by a copy of those between
carried : (xs ys : List ℕ) (from to : ℕ) (x : ℕ) → from < length xs → to < length xs → x ≡ get_or xs from 0 → length ys ≡ length xs
    → ((p : ℕ) → (p ≡ to → ⊥) → p < length xs → get_or ys p 0 ≡ get_or (insert (remove xs from) to x) p 0) → set ys to x ≡ insert (remove xs from) to x
carried xs ys from to x h k e l g =
    let n : length (remove xs from) + 1 ≡ length xs = length-remove xs from h in
    let m : length (insert (remove xs from) to x) ≡ suc (length (remove xs from)) = length-insert (remove xs from) to x in
    ext_get_or 0 (set ys to x) (insert (remove xs from) to x) (length-set ys to x ∙ omega arith) (λ p q. at p (omega (arith, length-set ys to x)) (cases_eq p to))
  where
    at : (p : ℕ) → p < length xs → (p ≡ to) ⊎ (p ≡ to → ⊥) → get_or (set ys to x) p 0 ≡ get_or (insert (remove xs from) to x) p 0
    at p q (inl z) =
        let n : length (remove xs from) + 1 ≡ length xs = length-remove xs from h in
        ap (λ (j : ℕ). get_or (set ys to x) j 0) z ∙ get_or-set_same ys to x 0 (omega arith) ∙ sym (ap (λ (j : ℕ). get_or (insert (remove xs from) to x) j 0) z ∙ get_or-insert_at (remove xs from) to x 0 (omega arith))
    at p q (inr d) = get_or-set_other ys to p x 0 d ∙ g p d q

pub carried-up : (xs ys : List ℕ) (from to x : ℕ) → from < to → to < length xs → x ≡ get_or xs from 0 → length ys ≡ length xs
    → CopiedTo xs ys (from + 1) from (to + 1 - (from + 1)) × SameBelow xs ys from × SameFrom xs ys (from + (to + 1 - (from + 1))) → set ys to x ≡ insert (remove xs from) to x
carried-up xs ys from to x u k e l c = carried xs ys from to x (omega arith) k e l (λ p d q. by p d q (cases_lt p from) (cases_lt p to))
  where
    n : length (remove xs from) + 1 ≡ length xs
    n = length-remove xs from (omega arith)

    by : (p : ℕ) → (p ≡ to → ⊥) → p < length xs → (p < from) ⊎ (from ≤ p) → (p < to) ⊎ (to ≤ p) → get_or ys p 0 ≡ get_or (insert (remove xs from) to x) p 0
    by p d q (inl a) b = c.1 p 0 a ∙ sym (get_or-insert_below (remove xs from) to x 0 p (omega arith) (omega (arith, n)) ∙ get_or-remove_below xs from 0 p a (omega arith))
    by p d q (inr a) (inl b) =
        let z : from + 1 + (p - from) ≡ p + 1 = omega arith in
        c.0 p 0 a (omega arith) ∙ ap (λ (j : ℕ). get_or xs j 0) z ∙ sym (get_or-insert_below (remove xs from) to x 0 p b (omega (arith, n)) ∙ get_or-remove_above xs from 0 p a (omega arith))
    by p d q (inr a) (inr b) =
        let z : p ≡ (p - 1) + 1 = omega arith in
        c.2 p 0 (omega arith) ∙ sym (ap (λ (j : ℕ). get_or (insert (remove xs from) to x) j 0) z ∙ get_or-insert_above (remove xs from) to x 0 (p - 1) (omega arith) (omega (arith, n))
        ∙ get_or-remove_above xs from 0 (p - 1) (omega arith) (omega arith) ∙ ap (λ (j : ℕ). get_or xs j 0) (sym z))

pub carried-down : (xs ys : List ℕ) (from to x : ℕ) → to ≤ from → from < length xs → x ≡ get_or xs from 0 → length ys ≡ length xs
    → CopiedTo xs ys to (to + 1) (from - to) × SameBelow xs ys (to + 1) × SameFrom xs ys (to + 1 + (from - to)) → set ys to x ≡ insert (remove xs from) to x
carried-down xs ys from to x u h e l c = carried xs ys from to x h (omega arith) e l (λ p d q. by p d q (cases_lt p to) (cases_lt from p))
  where
    n : length (remove xs from) + 1 ≡ length xs
    n = length-remove xs from h

    by : (p : ℕ) → (p ≡ to → ⊥) → p < length xs → (p < to) ⊎ (to ≤ p) → (from < p) ⊎ (p ≤ from) → get_or ys p 0 ≡ get_or (insert (remove xs from) to x) p 0
    by p d q (inl a) b = c.1 p 0 (omega arith) ∙ sym (get_or-insert_below (remove xs from) to x 0 p a (omega (arith, n)) ∙ get_or-remove_below xs from 0 p (omega arith) h)
    by p d q (inr a) (inr b) =
        let z : to + (p - (to + 1)) ≡ p - 1 = omega arith in
        let y : p ≡ (p - 1) + 1 = omega arith in
        c.0 p 0 (omega arith) (omega arith) ∙ ap (λ (j : ℕ). get_or xs j 0) z
        ∙ sym (ap (λ (j : ℕ). get_or (insert (remove xs from) to x) j 0) y ∙ get_or-insert_above (remove xs from) to x 0 (p - 1) (omega arith) (omega (arith, n))
        ∙ get_or-remove_below xs from 0 (p - 1) (omega arith) h)
    by p d q (inr a) (inl b) =
        let y : p ≡ (p - 1) + 1 = omega arith in
        c.2 p 0 (omega arith)
        ∙ sym (ap (λ (j : ℕ). get_or (insert (remove xs from) to x) j 0) y ∙ get_or-insert_above (remove xs from) to x 0 (p - 1) (omega arith) (omega (arith, n))
        ∙ get_or-remove_above xs from 0 (p - 1) (omega arith) h ∙ ap (λ (j : ℕ). get_or xs j 0) (sym y))

-- one more free identity
pub freed : (ids places ids' places' : List ℕ) (used : ℕ) → IsOrder ids places used → ids' ≡ ids ++ length ids ∷ [] → places' ≡ places ++ length ids ∷ [] → IsOrder ids' places' used
freed ids places ids' places' used O e f =
    let n : length ids' ≡ length ids + 1 = ap length e ∙ length-append ids (length ids ∷ []) in
    let w = O.within in
    let s = O.same in
    record {
      within = omega arith;
      same = omega (arith, ap length f, length-append places (length ids ∷ []));
      distinct = subst Distinct (sym e) (distinct-push ids (length ids) O.distinct (below-fresh (length ids) ids O.below));
      below = subst (AllBelow (length ids')) (sym e) (below-push (length ids') ids (length ids) (below-more (length ids) (length ids') ids O.below (omega arith)) (omega arith));
      inverse = record { at = λ p h. rw (e, f) (at p (omega arith) (cases_eq p (length ids))) };
    }
  where
    left : (xs : List ℕ) (y p : ℕ) → p < length xs → get_or (xs ++ y ∷ []) p 0 ≡ get_or xs p 0
    left [] y p m = absurd (omega arith)
    left (x ∷ xs) y zero m = refl
    left (x ∷ xs) y (suc p) m = left xs y p (omega arith)

    end : (xs : List ℕ) (y : ℕ) → get_or (xs ++ y ∷ []) (length xs) 0 ≡ y
    end [] y = refl
    end (x ∷ xs) y = end xs y

    at : (p : ℕ) → p < length ids + 1 → (p ≡ length ids) ⊎ (p ≡ length ids → ⊥) → get_or (places ++ length ids ∷ []) (get_or (ids ++ length ids ∷ []) p 0) 0 ≡ p
    at p h (inl z) =
        let s = O.same in
        ap (λ j. get_or (places ++ length ids ∷ []) (get_or (ids ++ length ids ∷ []) j 0) 0) z
        ∙ ap (λ j. get_or (places ++ length ids ∷ []) j 0) (end ids (length ids) ∙ sym s) ∙ end places (length ids) ∙ sym z
    at p h (inr d) =
        let s = O.same in
        let k : p < length ids = omega arith in
        let b = below-index (length ids) ids p O.below k in
        ap (λ j. get_or (places ++ length ids ∷ []) j 0) (left ids (length ids) p k) ∙ left places (length ids) (get_or ids p 0) (omega arith) ∙ O.inverse.at p k

-- what an inverse tells of the order
pub told-place : (ids places order : List ℕ) (used id d : ℕ) → IsOrder ids places used → take used ids ≡ order → IsThere order id → id < length places × (get_or places id d ≡ place_of order id)
told-place ids places order used id d O t h =
    let p : ℕ = h.0 in
    let w = O.within in
    let s = O.same in
    let n : length order ≡ used = length-order ids order used t w in
    let u = h.1.0 in
    let l : p < used = omega arith in
    let k : p < length ids = omega arith in
    let e : get_or ids p 0 ≡ id = sym (front ids used p l) ∙ ap (λ zs. get_or zs p 0) t ∙ h.1.1 in
    let b : id < length places = let z = below-index (length ids) ids p O.below k in omega (arith, e) in (
      b,
      get-any places id d 0 b ∙ ap (λ j. get_or places j 0) (sym e) ∙ O.inverse.at p k
          ∙ sym (ap (place_of order) (sym h.1.1) ∙ place-there order p (subst Distinct t (distinct-take ids used O.distinct)) h.1.0),
    )
  where
    front : (xs : List ℕ) (n p : ℕ) → p < n → get_or (take n xs) p 0 ≡ get_or xs p 0
    front [] zero p h = refl
    front [] (suc n) p h = refl
    front (x ∷ xs) zero p h = absurd (omega arith)
    front (x ∷ xs) (suc n) zero h = refl
    front (x ∷ xs) (suc n) (suc p) h = front xs n p (omega arith)

    distinct-take : (xs : List ℕ) (n : ℕ) → Distinct xs → Distinct (take n xs)
    distinct-take xs zero d = tt
    distinct-take [] (suc n) d = tt
    distinct-take (x ∷ xs) (suc n) d = (fresh-take x xs n d.0, distinct-take xs n d.1)

pub order-distinct : (ids order : List ℕ) (used : ℕ) → take used ids ≡ order → Distinct ids → Distinct order
order-distinct ids order used t d = subst Distinct t (front ids used d)
  where
    front : (xs : List ℕ) (n : ℕ) → Distinct xs → Distinct (take n xs)
    front xs zero d = tt
    front [] (suc n) d = tt
    front (x ∷ xs) (suc n) d = (fresh-take x xs n d.0, front xs n d.1)

pub told-id : (ids order : List ℕ) (used place id d : ℕ) → take used ids ≡ order → Distinct ids → place < length order → id ≡ get_or ids place d → used ≤ length ids → place_of order id ≡ place
told-id ids order used place id d t u h e w =
    let n : length order ≡ used = length-order ids order used t w in
    let k : place < length ids = omega arith in
    let z : get_or order place 0 ≡ id = ap (λ zs. get_or zs place 0) (sym t) ∙ front ids used place (omega arith) ∙ get-any ids place 0 d k ∙ sym e in
    ap (place_of order) (sym z) ∙ place-there order place (order-distinct ids order used t u) h
  where
    front : (xs : List ℕ) (n p : ℕ) → p < n → get_or (take n xs) p 0 ≡ get_or xs p 0
    front [] zero p h = refl
    front [] (suc n) p h = refl
    front (x ∷ xs) zero p h = absurd (omega arith)
    front (x ∷ xs) (suc n) zero h = refl
    front (x ∷ xs) (suc n) (suc p) h = front xs n p (omega arith)

-- each of these is its own place
pub record AreOwnPlaces (ids : List ℕ) (n : ℕ) : Type 0 where
  pub many : length ids ≡ n
  pub own : (p : ℕ) → p < n → get_or ids p 0 ≡ p

pub own-none : AreOwnPlaces [] 0
own-none = record { many = refl; own = λ p h. absurd (omega arith) }

pub own-more : (ids : List ℕ) (n : ℕ) → AreOwnPlaces ids n → AreOwnPlaces (ids ++ n ∷ []) (n + 1)
own-more ids n O = record {
  many = length-append ids (n ∷ []) ∙ ap (λ (m : ℕ). m + 1) O.many;
  own = λ p h. at ids p O.many (λ i k. O.own i k) h;
}
  where
    at : (xs : List ℕ) (p : ℕ) → length xs ≡ n → ((i : ℕ) → i < n → get_or xs i 0 ≡ i) → p < n + 1 → get_or (xs ++ n ∷ []) p 0 ≡ p
    at xs p l o h = elim (cases_eq p n) [
      | inl z ↦ ap (λ (j : ℕ). get_or (xs ++ n ∷ []) j 0) (z ∙ sym l) ∙ last xs ∙ sym z
      | inr d ↦ left xs p (omega (arith, l)) ∙ o p (omega arith)
    ]
      where
        last : (zs : List ℕ) → get_or (zs ++ n ∷ []) (length zs) 0 ≡ n
        last [] = refl
        last (z ∷ zs) = last zs

        left : (zs : List ℕ) (i : ℕ) → i < length zs → get_or (zs ++ n ∷ []) i 0 ≡ get_or zs i 0
        left [] i m = absurd (omega arith)
        left (z ∷ zs) zero m = refl
        left (z ∷ zs) (suc i) m = left zs i (omega arith)

-- what is its own place is distinct from the others
own-distinct : (xs : List ℕ) (n : ℕ) → ((p : ℕ) → p < length xs → get_or xs p 0 ≡ p + n) → Distinct xs
own-distinct [] n o = tt
own-distinct (x ∷ xs) n o = (apart xs (suc n) x (omega (arith, o 0 (omega arith))) (λ p h. omega (arith, o (suc p) (omega arith))), own-distinct xs (suc n) (λ p h. omega (arith, o (suc p) (omega arith))))
  where
    apart : (ys : List ℕ) (m z : ℕ) → z < m → ((p : ℕ) → p < length ys → get_or ys p 0 ≡ p + m) → Fresh z ys
    apart [] m z e h = tt
    apart (y ∷ ys) m z e h = (λ q. omega (arith, h 0 (omega arith)), apart ys (suc m) z (omega arith) (λ p k. omega (arith, h (suc p) (omega arith))))

pub own-order : (ids places : List ℕ) (n : ℕ) → AreOwnPlaces ids n → places ≡ ids → IsOrder ids places n
own-order ids places n O e = record {
  within = omega (arith, O.many);
  same = ap length e;
  distinct = own-distinct ids 0 (λ p h. O.own p (omega (arith, O.many)) ∙ omega arith);
  below = below 0 ids (λ p h. O.own p (omega (arith, O.many)) ∙ omega arith) (omega arith);
  inverse = record { at = λ p h. ap (λ (zs : List ℕ). get_or zs (get_or ids p 0) 0) e ∙ ap (λ (j : ℕ). get_or ids j 0) (O.own p (omega (arith, O.many))) ∙ O.own p (omega (arith, O.many)) };
}
  where
    below : (m : ℕ) (xs : List ℕ) → ((p : ℕ) → p < length xs → get_or xs p 0 ≡ p + m) → m + length xs ≤ length ids → AllBelow (length ids) xs
    below m [] h w = tt
    below m (x ∷ xs) h w = (let z = h 0 (omega arith) in omega arith, below (suc m) xs (λ p k. omega (arith, h (suc p) (omega arith))) (omega arith))

-- what an order of own places tells
take-whole : (xs : List ℕ) (n : ℕ) → length xs ≡ n → take n xs ≡ xs
take-whole [] zero e = refl
take-whole [] (suc n) e = refl
take-whole (x ∷ xs) zero e = absurd (omega arith)
take-whole (x ∷ xs) (suc n) e = ap (λ (ys : List ℕ). x ∷ ys) (take-whole xs n (omega arith))

module _ (ids order : List ℕ) (n : ℕ) (O : AreOwnPlaces ids n) (t : take n ids ≡ order) where
  ids-are : order ≡ ids
  ids-are = sym t ∙ take-whole ids n O.many

  pub own-many : length order ≡ n
  own-many = ap length ids-are ∙ O.many

  pub own-there : (q : ℕ) → q < n → IsThere order q
  own-there q h = (q, (omega (arith, own-many), ap (λ (xs : List ℕ). get_or xs q 0) ids-are ∙ O.own q h))

  pub own-place : (q : ℕ) → q < n → place_of order q ≡ q
  own-place q h =
      let d : Distinct order = subst Distinct (sym ids-are) (own-distinct ids 0 (λ p k. O.own p (omega (arith, O.many)) ∙ omega arith)) in
      ap (place_of order) (sym (ap (λ (xs : List ℕ). get_or xs q 0) ids-are ∙ O.own q h)) ∙ place-there order q d (omega (arith, own-many))

-- an identity that is there has a place
pub place-within : (order : List ℕ) (id : ℕ) → IsThere order id → place_of order id < length order
place-within order id h = find order h.0 h.1.0 h.1.1
  where
    find : (xs : List ℕ) (i : ℕ) → i < length xs → get_or xs i 0 ≡ id → place_of xs id < length xs
    find [] i h e = absurd (omega arith)
    find (x ∷ xs) zero h e = rw (eq-eqb x id e) (omega arith)
    find (x ∷ xs) (suc i) h e = by (eqb x id) (find xs i (omega arith) e)
      where
        by : (b : Bool) → place_of xs id < length xs → cond b 0 (suc (place_of xs id)) < suc (length xs)
        by true l = omega arith
        by false l = omega arith
