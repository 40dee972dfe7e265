-- Rules that are put in, as they are held and seen.
use Rattle.std.proofs.Common.{◌≡◌, ◌⊎◌, inl, inr, ℕ, zero, suc, ◌<◌, ◌≤◌, List, [], ◌∷◌, length, get_or, map, Some, IsSome, slice_get, refl, sym, ap, ◌∙◌, subst, arith, insert}
use Rattle.std.proofs.lemmas.Bool.{eq-eqb, ne_eqb}
use Rattle.rule_arena.specs.Terms.{Node, Terms, Apart, term_at, or_nothing}
use Rattle.rule_arena.specs.declared.key.Key.{Key}
use Rattle.rule_arena.specs.declared.label.Label.{Label}
use Rattle.rule_arena.specs.declared.label.Label.TheVariants.{Bottom, Symbol, Call, Param}
use Rattle.slt_grammar.specs.Holding.{seen, terms_of, AllKnown, AreHeld}
use Rattle.slt_grammar.specs.Keyed.{KeyedRule}
use Rattle.slt_grammar.specs.KeyedEdits.{shifted_keyed}
use Rattle.slt_grammar.specs.Ordering.{IsThere, Fresh, place_of}
use Rattle.slt_grammar.specs.Placing.{placed, IsKnown, AreKnown}
use Rattle.slt_grammar.proofs.Placings.{placed-inserted}

-- an item of a list with one more
insert-get : (xs : List Key) (n i : ℕ) (y x : Key) → n ≤ length xs → slice_get (insert xs n y) i ≡ Some x → ((i < n) × (slice_get xs i ≡ Some x)) ⊎ (((i ≡ n) × (y ≡ x)) ⊎ ((j : ℕ) × ((i ≡ suc j) × ((n ≤ j) × (slice_get xs j ≡ Some x)))))
insert-get xs zero zero y x h e = inr (inl (refl, cc))
insert-get xs zero (suc i) y x h e = inr (inr (i, (refl, (omega arith, e))))
insert-get [] (suc n) i y x h e = absurd (omega arith)
insert-get (z ∷ xs) (suc n) zero y x h e = inl (omega arith, e)
insert-get (z ∷ xs) (suc n) (suc i) y x h e =
    elim (insert-get xs n i y x (omega arith) e) [
      | inl w ↦ inl (let a = w.0 in omega arith, w.1)
      | inr w ↦ elim w [ inl v ↦ inr (inl (ap suc v.0, v.1)) | inr v ↦ inr (inr (suc v.0, (ap suc v.1.0, (let a = v.1.1.0 in omega arith, v.1.1.1)))) ]
    ]

pub held-put : (a : Terms) (rs : List Key) (place : ℕ) (new : Key) → AreHeld a rs → place ≤ length rs → IsSome (term_at a new.number) → Apart rs new.number → AreHeld a (insert rs place new)
held-put a rs place new H h s d = record {
  stands = λ i k e. elim (insert-get rs place i new k h e) [
    | inl w ↦ H.stands i k w.1
    | inr w ↦ elim w [ inl v ↦ subst (λ (q : Key). IsSome (term_at a q.number)) v.1 s | inr v ↦ H.stands v.0 k v.1.1.1 ]
  ];
  distinct = λ i j k m e f n. elim (insert-get rs place i new k h e) [
    | inl w ↦ elim (insert-get rs place j new m h f) [
      | inl x ↦ H.distinct i j k m w.1 x.1 n
      | inr x ↦ elim x [
        | inl y ↦ absurd (d i k w.1 (n ∙ ap (λ (q : Key). q.number) (sym y.1)))
        | inr y ↦ absurd (let z = H.distinct i y.0 k m w.1 y.1.1.1 n in let a = w.0 in let b = y.1.1.0 in omega arith)
      ]
    ]
    | inr w ↦ elim w [
      | inl v ↦ elim (insert-get rs place j new m h f) [
        | inl x ↦ absurd (d j m x.1 (sym n ∙ ap (λ (q : Key). q.number) (sym v.1)))
        | inr x ↦ elim x [ inl y ↦ v.0 ∙ sym y.0 | inr y ↦ absurd (d y.0 m y.1.1.1 (sym n ∙ ap (λ (q : Key). q.number) (sym v.1))) ]
      ]
      | inr v ↦ elim (insert-get rs place j new m h f) [
        | inl x ↦ absurd (let z = H.distinct v.0 j k m v.1.1.1 x.1 n in let a = x.0 in let b = v.1.1.0 in omega arith)
        | inr x ↦ elim x [
          | inl y ↦ absurd (d v.0 k v.1.1.1 (n ∙ ap (λ (q : Key). q.number) (sym y.1)))
          | inr y ↦ let z = H.distinct v.0 y.0 k m v.1.1.1 y.1.1.1 n in let a = v.1.0 in let b = y.1.0 in omega arith
        ]
      ]
    ]
  ];
}

pub terms-put : (a : Terms) (rs : List Key) (place : ℕ) (new : Key) → terms_of a (insert rs place new) ≡ insert (terms_of a rs) place (or_nothing (term_at a new.number))
terms-put a rs zero new = refl
terms-put a [] (suc place) new = refl
terms-put a (k ∷ rs) (suc place) new = ap (λ (xs : List (List Node)). or_nothing (term_at a k.number) ∷ xs) (terms-put a rs place new)

-- the rules with another among them are those of before, with calls of the new places
pub seen-put : (order ranks : List ℕ) (bodies : List (List Node)) (place id rank : ℕ) (b : List Node) → length ranks ≡ length bodies → place ≤ length order → Fresh id order → AllKnown order bodies → (at : ℕ) → at ≤ length bodies
    → seen (insert order place id) (insert ranks at rank) (insert bodies at b) ≡ insert (map (shifted_keyed place) (seen order ranks bodies)) at (record { rank = rank; nodes = placed (insert order place id) b })
seen-put order ranks bodies place id rank b e h f k zero l =
    let R : KeyedRule = record { rank = rank; nodes = placed (insert order place id) b } in
    ap (λ (G : List KeyedRule). R ∷ G) (all ranks bodies e k)
  where
    all : (rs : List ℕ) (bs : List (List Node)) → length rs ≡ length bs → AllKnown order bs → seen (insert order place id) rs bs ≡ map (shifted_keyed place) (seen order rs bs)
    all [] bs e k = refl
    all (r ∷ rs) [] e k = refl
    all (r ∷ rs) (b ∷ bs) e k = rw (placed-inserted order place id h f b k.0, all rs bs (omega arith) k.1) refl
seen-put order [] [] place id rank b e h f k (suc at) l = absurd (omega arith)
seen-put order [] (c ∷ bodies) place id rank b e h f k (suc at) l = absurd (omega arith)
seen-put order (r ∷ ranks) [] place id rank b e h f k (suc at) l = absurd (omega arith)
seen-put order (r ∷ ranks) (c ∷ bodies) place id rank b e h f k (suc at) l =
    rw (placed-inserted order place id h f c k.0, seen-put order ranks bodies place id rank b (omega arith) h f k.1 at (omega arith)) refl

-- what is there is there still
there-put : (xs : List ℕ) (place new id : ℕ) → IsThere xs id → IsThere (insert xs place new) id
there-put xs place new id h = find xs place h.0 h.1.0 h.1.1
  where
    find : (xs : List ℕ) (place i : ℕ) → i < length xs → get_or xs i 0 ≡ id → IsThere (insert xs place new) id
    find [] place i h e = absurd (omega arith)
    find (x ∷ xs) zero i h e = (suc i, (omega arith, e))
    find (x ∷ xs) (suc place) zero h e = (0, (omega arith, e))
    find (x ∷ xs) (suc place) (suc i) h e = let w = find xs place i (omega arith) e in let l = w.1.0 in (suc w.0, (omega arith, w.1.1))

label-put : (order : List ℕ) (place new : ℕ) (l : Label) → IsKnown order l → IsKnown (insert order place new) l
label-put order place new Bottom k = tt
label-put order place new (Symbol f) k = tt
label-put order place new (Call id) k = there-put order place new id k
label-put order place new Param k = tt

pub known-put : (order : List ℕ) (place new : ℕ) (ns : List Node) → AreKnown order ns → AreKnown (insert order place new) ns
known-put order place new [] k = tt
known-put order place new (n ∷ ns) k = (label-put order place new n.label k.0, known-put order place new ns k.1)

pub all-put : (order : List ℕ) (place new : ℕ) (bodies : List (List Node)) (b : List Node) → AllKnown order bodies → AreKnown (insert order place new) b → (at : ℕ) → AllKnown (insert order place new) (insert bodies at b)
all-put order place new bodies b k m zero = (m, all bodies k)
  where
    all : (bs : List (List Node)) → AllKnown order bs → AllKnown (insert order place new) bs
    all [] k = tt
    all (c ∷ bs) k = (known-put order place new c k.0, all bs k.1)
all-put order place new [] b k m (suc at) = (m, tt)
all-put order place new (c ∷ bodies) b k m (suc at) = (known-put order place new c k.0, all-put order place new bodies b k.1 m at)

-- the new identity stands at its place
pub place-put : (order : List ℕ) (place new : ℕ) → place ≤ length order → Fresh new order → IsThere (insert order place new) new × (place_of (insert order place new) new ≡ place)
place-put xs zero new h f = ((0, (omega arith, refl)), rw (eq-eqb new new refl) refl)
place-put [] (suc place) new h f = absurd (omega arith)
place-put (x ∷ xs) (suc place) new h f =
    let w = place-put xs place new (omega arith) f.1 in
    let l = w.0.1.0 in
    ((suc w.0.0, (omega arith, w.0.1.1)), rw (ne_eqb x new f.0) (ap suc w.1))
