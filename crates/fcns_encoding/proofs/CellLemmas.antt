-- What numbers have in a table of subterms.
use Rattle.std.proofs.Common.{◌&&◌, ◌||◌, if◌then◌else◌, ◌≡◌, ℕ, zero, suc, ◌+◌, ◌<◌, ◌≤◌, nat_eq, Bool, true, false, List, [], ◌∷◌, ◌++◌, length, map, take, get_or, Some, slice_get, slice_set, refl, ap, sym, ◌∙◌, subst, ◌⊎◌, inl, inr, arith, length-append}
use Rattle.std.proofs.lemmas.List.{take_more}
use Rattle.std.proofs.lemmas.Bool.{eqb-true, eq-eqb}
use Rattle.std.specs.List.{list_any}
use Rattle.slt_grammar.specs.Terms.{Term, Leaf, Node}
use Rattle.fcns_encoding.specs.declared.subterms.Cell.{Cell}
use Rattle.fcns_encoding.specs.Cells.{numbered_after, numbered, term_of, terms_of, term_at, AreEarlier, AreDistinctCells, AreCells, KeepsTerms, Extends}

pub front_get : {X : Type 0} (xs ys : List X) (i : ℕ) (x : X) → slice_get xs i ≡ Some x → slice_get (xs ++ ys) i ≡ Some x
front_get [] ys i x e = cc
front_get (z ∷ zs) ys zero x e = e
front_get (z ∷ zs) ys (suc i) x e = front_get zs ys i x e

pub end_get : {X : Type 0} (xs : List X) (x : X) (i : ℕ) (y : X) → slice_get (xs ++ x ∷ []) i ≡ Some y → (slice_get xs i ≡ Some y) ⊎ ((i ≡ length xs) × (x ≡ y))
end_get [] x zero y e = inr (refl, cc)
end_get [] x (suc i) y e = cc
end_get (z ∷ zs) x zero y e = inl e
end_get (z ∷ zs) x (suc i) y e = elim (end_get zs x i y e) [ inl h ↦ inl h | inr w ↦ inr (ap suc w.0, w.1) ]

pub last_get : {X : Type 0} (xs : List X) (x : X) (n : ℕ) → n ≡ length xs → slice_get (xs ++ x ∷ []) n ≡ Some x
last_get [] x zero e = refl
last_get [] x (suc n) e = cc
last_get (z ∷ zs) x zero e = cc
last_get (z ∷ zs) x (suc n) e = last_get zs x n cc

pub get_is : {X : Type 0} (xs : List X) (i : ℕ) (x d : X) → slice_get xs i ≡ Some x → get_or xs i d ≡ x
get_is [] i x d e = cc
get_is (z ∷ zs) zero x d e = cc
get_is (z ∷ zs) (suc i) x d e = get_is zs i x d e

pub has_get : {X : Type 0} (xs : List X) (i : ℕ) (d : X) → i < length xs → slice_get xs i ≡ Some (get_or xs i d)
has_get [] i d h = absurd (omega arith)
has_get (z ∷ zs) zero d h = refl
has_get (z ∷ zs) (suc i) d h = has_get zs i d (omega (arith, h))

pub got_within : {X : Type 0} (xs : List X) (i : ℕ) (x : X) → slice_get xs i ≡ Some x → i < length xs
got_within [] i x e = cc
got_within (z ∷ zs) zero x e = omega arith
got_within (z ∷ zs) (suc i) x e = omega (arith, got_within zs i x e)

-- what a function makes of an item
pub got_map : {X Y : Type 0} (f : X → Y) (xs : List X) (i : ℕ) (x : X) (d : Y) → slice_get xs i ≡ Some x → get_or (map f xs) i d ≡ f x
got_map f [] i x d e = cc
got_map f (z ∷ zs) zero x d e = let same : z ≡ x = cc in ap f same
got_map f (z ∷ zs) (suc i) x d e = got_map f zs i x d e

-- one item more
pub take-more : {X : Type 0} (xs : List X) (i : ℕ) (x : X) → slice_get xs i ≡ Some x → take (i + 1) xs ≡ take i xs ++ x ∷ []
take-more xs i x e = take_more xs i x (got_within xs i x e) ∙ ap (λ y. take i xs ++ y ∷ []) (get_is xs i x x e)

pub get_set : {X : Type 0} (xs : List X) (i k : ℕ) (x : X) → k < length xs → ((i ≡ k) × (slice_get (slice_set xs i x) k ≡ Some x)) ⊎ ((i ≡ k → ⊥) × (slice_get (slice_set xs i x) k ≡ slice_get xs k))
get_set [] i k x h = absurd (omega (arith, h))
get_set (z ∷ zs) zero zero x h = inl (refl, refl)
get_set (z ∷ zs) zero (suc k) x h = inr (λ e. cc, refl)
get_set (z ∷ zs) (suc i) zero x h = inr (λ e. cc, refl)
get_set (z ∷ zs) (suc i) (suc k) x h = elim (get_set zs i k x (omega (arith, h))) [ inl w ↦ inl (ap suc w.0, w.1) | inr w ↦ inr (λ e. w.0 cc, w.1) ]

pub set_length : {X : Type 0} (xs : List X) (i : ℕ) (x : X) → length (slice_set xs i x) ≡ length xs
set_length [] i x = refl
set_length (z ∷ zs) zero x = refl
set_length (z ∷ zs) (suc i) x = omega (arith, set_length zs i x)

pub length_take : {X : Type 0} (xs : List X) (i : ℕ) (x : X) → slice_get xs i ≡ Some x → length (take i xs) ≡ i
length_take [] i x e = cc
length_take (y ∷ xs) zero x e = refl
length_take (y ∷ xs) (suc i) x e = ap suc (length_take xs i x e)

-- What all numbers have, made one after another.
module _ {X : Type 0} (none : X) (make : ℕ → Cell → X → X → X) where
  made : List X → Cell → X
  made before c = make (length before) c (get_or before c.first none) (get_or before c.second none)

  -- what earlier numbers have stays
  numbered_front : (b : List X) (cs : List Cell) (i : ℕ) (x : X) → slice_get b i ≡ Some x → slice_get (numbered_after none make b cs) i ≡ Some x
  numbered_front b [] i x e = e
  numbered_front b (c ∷ cs) i x e =
      let m : X = make (length b) c (get_or b c.first none) (get_or b c.second none) in numbered_front (b ++ m ∷ []) cs i x (front_get b (m ∷ []) i x e)

  numbered_length : (b : List X) (cs : List Cell) → length (numbered_after none make b cs) ≡ length b + length cs
  numbered_length b [] = omega arith
  numbered_length b (c ∷ cs) =
      let m : X = make (length b) c (get_or b c.first none) (get_or b c.second none) in omega (arith, numbered_length (b ++ m ∷ []) cs, length-append b (m ∷ []))

  numbered_same : (b : List X) (cs : List Cell) (i : ℕ) → i < length b → get_or b i none ≡ get_or (numbered_after none make b cs) i none
  numbered_same b cs i h =
      sym (get_is (numbered_after none make b cs) i (get_or b i none) none (numbered_front b cs i (get_or b i none) (has_get b i none h)))

  numbered_from : (b : List X) (cs : List Cell) (i : ℕ) (c : Cell) → ((i : ℕ) (c : Cell) → slice_get cs i ≡ Some c → (c.first < length b + i) × (c.second < length b + i)) → slice_get cs i ≡ Some c
      → let all = numbered_after none make b cs in slice_get all (length b + i) ≡ Some (make (length b + i) c (get_or all c.first none) (get_or all c.second none))
  numbered_from b [] i c low e = cc
  numbered_from b (d ∷ cs) zero c low e =
      let all = numbered_after none make b (d ∷ cs) in
      let m : X = make (length b) d (get_or b d.first none) (get_or b d.second none) in
      let same : d ≡ c = cc in
      let n : length b + 0 ≡ length b = omega arith in
      let f : d.first < length b = omega (arith, (low 0 d refl).0) in
      let s : d.second < length b = omega (arith, (low 0 d refl).1) in
      let here = numbered_front (b ++ m ∷ []) cs (length b + 0) m (last_get b m (length b + 0) n) in
      let made_is : m ≡ make (length b + 0) c (get_or all c.first none) (get_or all c.second none) =
      ap (λ x. make (length b) d x (get_or b d.second none)) (numbered_same b (d ∷ cs) d.first f)
      ∙ ap (λ x. make (length b) d (get_or all d.first none) x) (numbered_same b (d ∷ cs) d.second s)
      ∙ ap (λ k. make k d (get_or all d.first none) (get_or all d.second none)) (sym n)
      ∙ ap (λ (z : Cell). make (length b + 0) z (get_or all z.first none) (get_or all z.second none)) same in
      here ∙ ap Some made_is
  numbered_from b (d ∷ cs) (suc i) c low e =
      let all = numbered_after none make b (d ∷ cs) in
      let m : X = make (length b) d (get_or b d.first none) (get_or b d.second none) in
      let longer = length-append b (m ∷ []) in
      let n : length (b ++ m ∷ []) + i ≡ length b + suc i = omega (arith, longer) in
      let low' : (j : ℕ) (x : Cell) → slice_get cs j ≡ Some x → (x.first < length (b ++ m ∷ []) + j) × (x.second < length (b ++ m ∷ []) + j) =
      λ j x h. (omega (arith, longer, (low (suc j) x h).0), omega (arith, longer, (low (suc j) x h).1)) in
      subst (λ k. slice_get all k ≡ Some (make k c (get_or all c.first none) (get_or all c.second none))) n (numbered_from (b ++ m ∷ []) cs i c low' e)

  pub numbered_zero : (cs : List Cell) → slice_get (numbered none make cs) 0 ≡ Some none
  numbered_zero cs = numbered_front (none ∷ []) cs 0 none refl

  pub numbered_long : (cs : List Cell) → length (numbered none make cs) ≡ length cs + 1
  numbered_long cs = omega (arith, numbered_length (none ∷ []) cs)

  -- what a cell's number has
  pub numbered_is : (cs : List Cell) (i : ℕ) (c : Cell) → AreEarlier cs → slice_get cs i ≡ Some c
      → slice_get (numbered none make cs) (suc i) ≡ Some (make (suc i) c (get_or (numbered none make cs) c.first none) (get_or (numbered none make cs) c.second none))
  numbered_is cs i c low e =
      let n : 1 + i ≡ suc i = omega arith in
      let all = numbered none make cs in
      subst (λ k. slice_get all k ≡ Some (make k c (get_or all c.first none) (get_or all c.second none))) n
      (numbered_from (none ∷ []) cs i c (λ j x h. (omega (arith, (low j x h).0), omega (arith, (low j x h).1))) e)

  -- what one cell more has
  numbered_after_push : (b : List X) (cs : List Cell) (c : Cell)
      → numbered_after none make b (cs ++ c ∷ []) ≡ (let all = numbered_after none make b cs in all ++ make (length all) c (get_or all c.first none) (get_or all c.second none) ∷ [])
  numbered_after_push b [] c = refl
  numbered_after_push b (d ∷ cs) c = numbered_after_push (b ++ make (length b) d (get_or b d.first none) (get_or b d.second none) ∷ []) cs c

  pub numbered_push : (cs : List Cell) (c : Cell)
      → numbered none make (cs ++ c ∷ []) ≡ (let all = numbered none make cs in all ++ make (length all) c (get_or all c.first none) (get_or all c.second none) ∷ [])
  numbered_push cs c = numbered_after_push (none ∷ []) cs c

  -- what numbers have stays when a cell comes
  pub numbered_keeps : (cs : List Cell) (c : Cell) (i : ℕ) (x : X) → slice_get (numbered none make cs) i ≡ Some x → slice_get (numbered none make (cs ++ c ∷ [])) i ≡ Some x
  numbered_keeps cs c i x e =
      subst (λ xs. slice_get xs i ≡ Some x) (sym (numbered_push cs c)) (front_get (numbered none make cs) (make (length (numbered none make cs)) c (get_or (numbered none make cs) c.first none) (get_or (numbered none make cs) c.second none) ∷ []) i x e)

pub terms_zero : (cs : List Cell) → slice_get (terms_of cs) 0 ≡ Some Leaf
terms_zero cs = numbered_zero Leaf term_of cs

-- the term of a cell is its symbol over the terms of its numbers
pub term_is : (cs : List Cell) (i : ℕ) (c : Cell) → AreEarlier cs → slice_get cs i ≡ Some c → slice_get (terms_of cs) (suc i) ≡ Some (Node c.symbol (term_at cs c.first) (term_at cs c.second))
term_is cs i c low e = numbered_is Leaf term_of cs i c low e

pub earlier_none : AreEarlier []
earlier_none i c e = cc

pub distinct_none : AreDistinctCells []
distinct_none i j c e f = cc

pub no_cells : (cs : List Cell) → cs ≡ [] → AreCells cs
no_cells cs e = subst AreCells (sym e) (record { earlier = earlier_none; distinct = distinct_none })

and_true : (a b : Bool) → (a && b) ≡ true → (a ≡ true) × (b ≡ true)
and_true true b e = (refl, e)
and_true false b e = cc

-- as the derived test has it
abbrev pub same_cell : Cell → Cell → Bool
same_cell a b = nat_eq a.symbol b.symbol && (nat_eq a.first b.first && nat_eq a.second b.second)

-- cells are equal where the test says so
cell_is : (a b : Cell) → same_cell a b ≡ true → a ≡ b
cell_is a b e =
    let x = and_true (nat_eq a.symbol b.symbol) (nat_eq a.first b.first && nat_eq a.second b.second) e in
    let y = and_true (nat_eq a.first b.first) (nat_eq a.second b.second) x.1 in
    let s : a.symbol ≡ b.symbol = eqb-true a.symbol b.symbol x.0 in
    let f : a.first ≡ b.first = eqb-true a.first b.first y.0 in
    let g : a.second ≡ b.second = eqb-true a.second b.second y.1 in
    ap (λ z. record a { symbol = z }) s ∙ ap (λ z. record b { first = z; second = a.second }) f ∙ ap (λ z. record b { second = z }) g

same_self : (c : Cell) → same_cell c c ≡ true
same_self c =
    ap (λ b. b && (nat_eq c.first c.first && nat_eq c.second c.second)) (eq-eqb c.symbol c.symbol refl)
    ∙ ap (λ b. b && nat_eq c.second c.second) (eq-eqb c.first c.first refl) ∙ eq-eqb c.second c.second refl

absent : (c : Cell) (ks : List Cell) → list_any (same_cell c) ks ≡ false → (i : ℕ) → slice_get ks i ≡ Some c → ⊥
absent c [] n i e = cc
absent c (k ∷ ks) n zero e = let same : k ≡ c = cc in let t : same_cell c k ≡ true = ap (same_cell c) same ∙ same_self c in absurd (both (same_cell c k) (list_any (same_cell c) ks) t n)
  where
    both : (a b : Bool) → a ≡ true → (a || b) ≡ false → ⊥
    both true b e f = cc
    both false b e f = cc
absent c (k ∷ ks) n (suc i) e = absent c ks (second (same_cell c k) (list_any (same_cell c) ks) n) i e
  where
    second : (a b : Bool) → (a || b) ≡ false → b ≡ false
    second true b e = cc
    second false b e = e

-- A cell is in the table, or came to its end.
module _ (old new : List Cell) (c : Cell) (number : ℕ) (g : Extends old c number new) where
  pub extends_earlier : c.first ≤ length old → c.second ≤ length old → AreEarlier old → AreEarlier new
  extends_earlier f s low =
      elim g.way [
        | inl e ↦ subst AreEarlier (sym e) low
        | inr e ↦ subst AreEarlier (sym e.0) (λ i x h. elim (end_get old c i x h) [ inl k ↦ low i x k | inr w ↦ at_end i x w.0 w.1 ])
      ]
    where
      at_end : (i : ℕ) (x : Cell) → i ≡ length old → c ≡ x → (x.first ≤ i) × (x.second ≤ i)
      at_end i x n same = subst (λ y. (y.first ≤ i) × (y.second ≤ i)) same (omega (arith, n, f), omega (arith, n, s))

  pub extends_keeps : KeepsTerms old new
  extends_keeps i t e =
      elim g.way [
        | inl same ↦ subst (λ cs. slice_get (terms_of cs) i ≡ Some t) (sym same) e
        | inr more ↦ subst (λ cs. slice_get (terms_of cs) i ≡ Some t) (sym more.0) (numbered_keeps Leaf term_of old c i t e)
      ]

  pub extends_term : (a b : Term) → AreEarlier new → slice_get (terms_of old) c.first ≡ Some a → slice_get (terms_of old) c.second ≡ Some b → slice_get (terms_of new) number ≡ Some (Node c.symbol a b)
  extends_term a b low ea eb =
      let n : number ≡ suc g.place = omega (arith, g.is) in
      subst (λ k. slice_get (terms_of new) k ≡ Some (Node c.symbol a b)) (sym n)
      (term_is new g.place c low g.stands
      ∙ ap (λ x. Some (Node c.symbol x (get_or (terms_of new) c.second Leaf))) (get_is (terms_of new) c.first a Leaf (extends_keeps c.first a ea))
      ∙ ap (λ x. Some (Node c.symbol a x)) (get_is (terms_of new) c.second b Leaf (extends_keeps c.second b eb)))

-- what insert_full says: the cell was there, or came to the end of cells that lack it
added : (inside old new : List Cell) (c : Cell) (place number : ℕ) → inside ≡ old → AreDistinctCells inside → new ≡ (if list_any (same_cell c) inside then inside else inside ++ c ∷ [])
    → ((k : Cell) × (slice_get new place ≡ Some k) × (same_cell c k ≡ true)) → number ≡ place + 1 → Extends old c number new × AreDistinctCells new
added inside old new c place number same one keys s is =
    let stands : slice_get new place ≡ Some c = s.1 ∙ ap Some (sym (cell_is c s.0 s.2)) in by_test (list_any (same_cell c) inside) refl keys stands
  where
    there : (i j : ℕ) (x : Cell) → (slice_get inside i ≡ Some c → ⊥) → (slice_get inside i ≡ Some x) → c ≡ x → ⊥
    there i j x none e f = none (e ∙ ap Some (sym f))

    by_test : (b : Bool) → list_any (same_cell c) inside ≡ b → new ≡ (if b then inside else inside ++ c ∷ []) → slice_get new place ≡ Some c → Extends old c number new × AreDistinctCells new
    by_test true t e h = (record { place = place; is = is; stands = h; way = inl (e ∙ same) }, subst AreDistinctCells (sym e) one)
    by_test false t e h =
        let none = absent c inside t in
        let distinct : AreDistinctCells (inside ++ c ∷ []) = λ i j x a b.
        elim (end_get inside c i x a) [
          | inl p ↦ elim (end_get inside c j x b) [ inl q ↦ one i j x p q | inr q ↦ absurd (there i j x (none i) p q.1) ]
          | inr p ↦ elim (end_get inside c j x b) [ inl q ↦ absurd (there j i x (none j) q p.1) | inr q ↦ p.0 ∙ sym q.0 ]
        ] in
        let last : place ≡ length inside =
        distinct place (length inside) c (subst (λ cs. slice_get cs place ≡ Some c) e h) (last_get inside c (length inside) refl) in (
          record {
            place = place;
            is = is;
            stands = h;
            way = inr (e ∙ ap (λ cs. cs ++ c ∷ []) same, last ∙ ap length same);
          },
          subst AreDistinctCells (sym e) distinct,
        )

pub record Inserted (old new : List Cell) (c : Cell) (place : ℕ) : Type 0 where
  pub extends : (number : ℕ) → number ≡ place + 1 → Extends old c number new
  pub cells : AreCells new

pub inserted : (inside old new : List Cell) (c : Cell) (place : ℕ) → inside ≡ old → AreCells inside → c.first ≤ length old → c.second ≤ length old
    → new ≡ (if list_any (same_cell c) inside then inside else inside ++ c ∷ []) → ((k : Cell) × (slice_get new place ≡ Some k) × (same_cell c k ≡ true)) → Inserted old new c place
inserted inside old new c place same are f s keys stored =
    record {
      extends = λ number e. (added inside old new c place number same are.distinct keys stored e).0;
      cells = let a = added inside old new c place (place + 1) same are.distinct keys stored refl in
          record { earlier = extends_earlier old new c (place + 1) a.0 f s (subst AreEarlier same are.earlier); distinct = a.1 };
    }

-- a number that has a term is within the table
pub number_within : (cs : List Cell) (i : ℕ) (t : Term) → slice_get (terms_of cs) i ≡ Some t → i ≤ length cs
number_within cs i t e = omega (arith, got_within (terms_of cs) i t e, numbered_long Leaf term_of cs)
