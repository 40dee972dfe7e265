-- A root in the place of a child, as it is written.
use Rattle.std.proofs.Common.{◌≡◌, ◌≢◌, inl, inr, ℕ, zero, suc, ◌<◌, List, ◌∷◌, length, set, Option, Some, None, IsSome, IfSome, IsSomeAnd, slice_get, refl, sym, ap, ◌∙◌, subst, arith}
use Rattle.std.proofs.lemmas.Bool.{cases_eq}
use Rattle.std.proofs.lemmas.List.{length-set}
use Rattle.std.proofs.lemmas.Option.{slice_get_within}
use Rattle.slab.specs.Slab.{Slab, get}
use Rattle.rule_arena.specs.Changing.{changed, with_kid}
use Rattle.rule_arena.specs.Linked.{Cell, Raw}
use Rattle.rule_arena.specs.Linking.{with_next, with_first, first_in, first_key, led}
use Rattle.rule_arena.specs.Siblings.{after, row, step, linked, linked_slot, seen, parent_at, Tied, IsNoChild}
use Rattle.rule_arena.specs.declared.key.Key.{Key}
use Rattle.rule_arena.proofs.CellLemmas.{has, some_of}
use Rattle.rule_arena.proofs.ChangeLemmas.{changed-same, changed-other}
use Rattle.rule_arena.proofs.ListLemmas.{set_same, set_other}
use Rattle.rule_arena.proofs.ShapeLemmas.{alike-trans, alike-sym, alike-changed}
use Rattle.rule_arena.proofs.SeenLemmas.{Follows, length-row, get-row, row-all, row-follows, get-seen, seen-some, raw_of, raw_as, alike-seen, seen-is, linked-same, links_kept, seen-write, raw_some}
use Rattle.rule_arena.proofs.TiedLemmas.{no_child, one_place, filled, tied_filled}

-- another next sibling of a node that is no child is not seen
pub seen-next : (s : Slab Raw) (k : ℕ) (m : Key) → IsSome (get (seen s) k) → IsNoChild (seen s) k → seen (changed s k (with_next m)) ≡ seen s
seen-next s k m there free =
    seen-is (changed s k (with_next m)) (seen s) (alike-trans (changed s k (with_next m)) s (seen s) (alike-changed s k (with_next m)) (alike-sym (seen s) s (alike-seen s))) (λ j. elim (cases_eq j k) [
      | inl e ↦
          let r = raw_of s k there in
          subst (λ (i : ℕ). linked_slot (get (changed s k (with_next m))) (get (changed s k (with_next m)) i) ≡ get (seen s) i) (sym e)
          (ap (λ (o : Option Raw). linked_slot (get (changed s k (with_next m))) o) (changed-same s k (with_next m) r.0 r.1) ∙ ap Some (same k r.0 r.1) ∙ sym (seen-some s k r.0 r.1))
      | inr d ↦ ap (λ (o : Option Raw). linked_slot (get (changed s k (with_next m))) o) (changed-other s k (with_next m) j d) ∙ at j (get s j) refl ∙ sym (get-seen s j)
    ])
  where
    same : (j : ℕ) (r : Raw) → get s j ≡ Some r → linked (get (changed s k (with_next m))) r ≡ linked (get s) r
    same j r e = linked-same (get s) (get (changed s k (with_next m))) r (λ i x f. ap after (changed-other s k (with_next m) x.number (free j (linked (get s) r) i x (seen-some s j r e) f)))

    at : (j : ℕ) (o : Option Raw) → get s j ≡ o → linked_slot (get (changed s k (with_next m))) o ≡ linked_slot (get s) o
    at j None e = refl
    at j (Some r) e = ap Some (same j r e)

-- the first child is another, which the second follows
pub seen-first : (s : Slab Raw) (up kid old : Key) (r : Raw) → get s up.number ≡ Some r → slice_get (row (get s) r.count r.first) 0 ≡ Some old → after (get s kid.number) ≡ after (get s old.number) → seen (changed s up.number (with_first kid)) ≡ changed (seen s) up.number (with_kid 0 kid)
seen-first s up kid old r e child follow =
    seen-write s up.number (with_first kid) (with_kid 0 kid) (λ x. refl) (λ x f. let i : r ≡ x = let z : Some r ≡ Some x = sym e ∙ f in cc in subst (λ (y : Raw). linked (get (changed s up.number (with_first kid))) (with_first kid y) ≡ with_kid 0 kid (linked (get (changed s up.number (with_first kid))) y)) i shows) (has _ _ (seen-some s up.number r e))
  where
    links : (j : ℕ) → after ((get (changed s up.number (with_first kid))) j) ≡ after (get s j)
    links = links_kept s up.number (with_first kid) (λ x. refl)

    kids : (n : ℕ) → slice_get (row (get s) n r.first) 0 ≡ Some old → row (get (changed s up.number (with_first kid))) n kid ≡ set (row (get (changed s up.number (with_first kid))) n r.first) 0 kid
    kids zero c = absurd (cc)
    kids (suc n) c =
        let i : r.first ≡ old = cc in
        let z : after ((get (changed s up.number (with_first kid))) kid.number) ≡ after ((get (changed s up.number (with_first kid))) r.first.number) = links kid.number ∙ follow ∙ ap (λ (x : Key). after (get s x.number)) (sym i) ∙ sym (links r.first.number) in
        ap (λ (x : Key). kid ∷ row (get (changed s up.number (with_first kid))) n x) z

    shows : linked (get (changed s up.number (with_first kid))) (with_first kid r) ≡ with_kid 0 kid (linked (get (changed s up.number (with_first kid))) r)
    shows = ap (λ (ks : List Key). let c : Cell = record { label = r.label; parent = r.parent; kids = ks } in c) (kids r.count child)

-- a later child is another
module _ (s : Slab Raw) (T : Tied (seen s)) (up kid old : Key) (a : ℕ) (r : Raw) (e : get s up.number ≡ Some r) (child : slice_get (row (get s) r.count r.first) (suc a) ≡ Some old) (free : IsNoChild (seen s) kid.number) (follow : after (get s kid.number) ≡ after (get s old.number)) where
  abbrev ks : List Key
  ks = row (get s) r.count r.first

  abbrev b : Key
  b = step (get s) a r.first

  abbrev t : Slab Raw
  t = changed s (step (get s) a r.first).number (with_next kid)

  many : suc a < r.count
  many = omega (arith, slice_get_within ks (suc a) old child, length-row (get s) r.count r.first)

  b_in : slice_get (row (get s) r.count r.first) a ≡ Some (step (get s) a r.first)
  b_in = get-row (get s) r.count r.first a (omega (arith, many))

  b_there : (w : Raw) × (get s (step (get s) a r.first).number ≡ Some w)
  b_there = raw_of s (step (get s) a r.first).number (tied_filled s T up.number r e a (omega (arith, many)))

  only_up : (n : ℕ) (d : Raw) (i : ℕ) (x : Key) → get s n ≡ Some d → slice_get (row (get s) d.count d.first) i ≡ Some x → x.number ≡ (step (get s) a r.first).number → (n ≡ up.number) × (i ≡ a)
  only_up n d i x f g h = one_place (seen s) T n up.number (linked (get s) d) (linked (get s) r) i a x (step (get s) a r.first) (seen-some s n d f) g (seen-some s up.number r e) b_in h

  link_b : after (get t (step (get s) a r.first).number) ≡ kid
  link_b = ap after (changed-same s (step (get s) a r.first).number (with_next kid) b_there.0 b_there.1)

  link_other : (x : ℕ) → x ≢ (step (get s) a r.first).number → after (get t x) ≡ after (get s x)
  link_other x n = ap after (changed-other s (step (get s) a r.first).number (with_next kid) x n)

  follows : Follows (get t) (set ks (suc a) kid)
  follows i x y f g = elim (cases_eq i a) [
    | inl h ↦
        let u : y ≡ kid = set_same ks (suc a) kid y (ap (λ (j : ℕ). slice_get (set ks (suc a) kid) (suc j)) (sym h) ∙ g) in
        let w : slice_get ks a ≡ Some x = set_other ks (suc a) kid a (λ z. absurd (omega (arith, z))) ∙ ap (λ (j : ℕ). slice_get (set ks (suc a) kid) j) (sym h) ∙ f in
        let v : x ≡ step (get s) a r.first = let z : Some x ≡ Some (step (get s) a r.first) = sym w ∙ b_in in cc in
        ap (λ (z : Key). after (get t z.number)) v ∙ link_b ∙ sym u
    | inr n ↦ elim (cases_eq i (suc a)) [
      | inl h ↦
          let u : x ≡ kid = set_same ks (suc a) kid x (ap (λ (j : ℕ). slice_get (set ks (suc a) kid) j) (sym h) ∙ f) in
          let w : slice_get ks (suc (suc a)) ≡ Some y = set_other ks (suc a) kid (suc (suc a)) (λ z. absurd (omega (arith, z))) ∙ ap (λ (j : ℕ). slice_get (set ks (suc a) kid) (suc j)) (sym h) ∙ g in
          ap (λ (z : Key). after (get t z.number)) u
          ∙ link_other kid.number (λ z. free up.number (linked (get s) r) a (step (get s) a r.first) (seen-some s up.number r e) b_in (sym z))
          ∙ follow ∙ row-follows (get s) r.count r.first (suc a) old y child w
      | inr m ↦
          let w : slice_get ks i ≡ Some x = set_other ks (suc a) kid i m ∙ f in
          let v : slice_get ks (suc i) ≡ Some y = set_other ks (suc a) kid (suc i) (λ z. n (let q : i ≡ a = omega (arith, z) in q)) ∙ g in
          link_other x.number (λ z. n (only_up up.number r i x e w z).1) ∙ row-follows (get s) r.count r.first i x y w v
    ]
  ]

  first_of : (n : ℕ) (k : Key) → 0 < n → first_key (set (row (get s) n k) (suc a) kid) ≡ k
  first_of zero k h = absurd (omega arith)
  first_of (suc n) k h = refl

  new_row : row (get t) r.count r.first ≡ set ks (suc a) kid
  new_row =
      let n : r.count ≡ length (set ks (suc a) kid) = sym (length-set ks (suc a) kid ∙ length-row (get s) r.count r.first) in
      ap (λ (m : ℕ). row (get t) m r.first) n
      ∙ ap (λ (k : Key). row (get t) (length (set ks (suc a) kid)) k) (sym (first_of r.count r.first (omega (arith, many))))
      ∙ row-all (get t) (set ks (suc a) kid) follows

  slot_seen : (j : ℕ) (d : Raw) → get s j ≡ Some d → linked_slot (get t) (get t j) ≡ Some (linked (get t) d)
  slot_seen j d f = elim (cases_eq j (step (get s) a r.first).number) [
    | inl h ↦
        let q : get s (step (get s) a r.first).number ≡ Some d = ap (λ (i : ℕ). get s i) (sym h) ∙ f in
        ap (λ (i : ℕ). linked_slot (get t) (get t i)) h ∙ ap (λ (o : Option Raw). linked_slot (get t) o) (changed-same s (step (get s) a r.first).number (with_next kid) d q)
    | inr n ↦ ap (λ (o : Option Raw). linked_slot (get t) o) (changed-other s (step (get s) a r.first).number (with_next kid) j n ∙ f)
  ]

  pub seen-later : seen (changed s (step (get s) a r.first).number (with_next kid)) ≡ changed (seen s) up.number (with_kid (suc a) kid)
  seen-later =
      let v : Slab Cell = changed (seen s) up.number (with_kid (suc a) kid) in
      seen-is t v
      (alike-trans t s v (alike-changed s (step (get s) a r.first).number (with_next kid)) (alike-sym v s (alike-trans v (seen s) s (alike-changed (seen s) up.number (with_kid (suc a) kid)) (alike-seen s))))
      (λ j. elim (cases_eq j up.number) [
        | inl h ↦
            subst (λ (i : ℕ). linked_slot (get t) (get t i) ≡ get (changed (seen s) up.number (with_kid (suc a) kid)) i) (sym h)
            (slot_seen up.number r e
            ∙ ap (λ (xs : List Key). let c : Cell = record { label = r.label; parent = r.parent; kids = xs } in Some c) new_row
            ∙ sym (changed-same (seen s) up.number (with_kid (suc a) kid) (linked (get s) r) (seen-some s up.number r e)))
        | inr n ↦ other j n (get s j) refl ∙ sym (changed-other (seen s) up.number (with_kid (suc a) kid) j n)
      ])
    where
      other : (j : ℕ) → j ≢ up.number → (o : Option Raw) → get s j ≡ o → linked_slot (get t) (get t j) ≡ get (seen s) j
      other j n None f =
          let d : j ≢ (step (get s) a r.first).number = λ h. let z : None ≡ Some b_there.0 = sym f ∙ ap (λ (i : ℕ). get s i) h ∙ b_there.1 in absurd (cc) in
          ap (λ (x : Option Raw). linked_slot (get t) x) (changed-other s (step (get s) a r.first).number (with_next kid) j d ∙ f) ∙ sym (get-seen s j ∙ ap (λ (x : Option Raw). linked_slot (get s) x) f)
      other j n (Some d) f =
          slot_seen j d f
          ∙ ap Some (linked-same (get s) (get t) d (λ i x g. link_other x.number (λ z. n (only_up j d i x f g z).0)))
          ∙ sym (seen-some s j d f)

-- what is so of a value that there is
pub of_some : {X : Type 0} (o : Option X) (P : X → Type 0) → IsSomeAnd o P → (x : X) × ((o ≡ Some x) × P x)
of_some None P h = absurd h
of_some (Some x) P h = (x, (refl, h))

-- both writes
module _ (s : Slab Raw) (T : Tied (seen s)) (up kid old : Key) (at : ℕ) (child : IsSomeAnd (get (seen s) up.number) (λ c. slice_get c.kids at ≡ Some old)) (root : IsSomeAnd (get (seen s) kid.number) (λ c. c.parent ≡ None)) (apart : kid.number ≢ up.number) where
  above : (c : Cell) × ((get (seen s) up.number ≡ Some c) × (slice_get c.kids at ≡ Some old))
  above = of_some (get (seen s) up.number) (λ c. slice_get c.kids at ≡ Some old) child

  free : IsNoChild (seen s) kid.number
  free = let c = of_some (get (seen s) kid.number) (λ c. c.parent ≡ None) root in no_child (seen s) kid.number T (ap parent_at c.1.0 ∙ c.1.1)

  pub old_there : IsSome (get (seen s) old.number)
  old_there = filled (get (seen s) old.number) _ (T up.number above.0 at old above.1.0 above.1.1)

  kid_seen : IsSome (get (seen s) kid.number)
  kid_seen = let c = of_some (get (seen s) kid.number) (λ c. c.parent ≡ None) root in has _ c.0 c.1.0

  pub kid_there : IsSome (get s kid.number)
  kid_there = raw_some s kid.number kid_seen

  up_raw : (r : Raw) × ((get s up.number ≡ Some r) × (linked (get s) r ≡ above.0))
  up_raw = raw_as s up.number above.0 above.1.0

  module _ (m : Key) (im : m ≡ after (get s old.number)) (S1 : Slab Raw) (i1 : S1 ≡ changed s kid.number (with_next m)) where
    seen1 : seen S1 ≡ seen s
    seen1 = ap (λ (x : Slab Raw). seen x) i1 ∙ seen-next s kid.number m kid_seen free

    T1 : Tied (seen S1)
    T1 = subst (λ (x : Slab Cell). Tied x) (sym seen1) T

    free1 : IsNoChild (seen S1) kid.number
    free1 = subst (λ (x : Slab Cell). IsNoChild x kid.number) (sym seen1) free

    up1 : get S1 up.number ≡ Some up_raw.0
    up1 = ap (λ (x : Slab Raw). get x up.number) i1 ∙ changed-other s kid.number (with_next m) up.number (λ z. apart (sym z)) ∙ up_raw.1.0

    child1 : slice_get (row (get S1) up_raw.0.count up_raw.0.first) at ≡ Some old
    child1 =
        let z : Some (linked (get S1) up_raw.0) ≡ Some above.0 = sym (seen-some S1 up.number up_raw.0 up1) ∙ ap (λ (x : Slab Cell). get x up.number) seen1 ∙ above.1.0 in
        let w : linked (get S1) up_raw.0 ≡ above.0 = cc in
        ap (λ (c : Cell). slice_get c.kids at) w ∙ above.1.1

    within : at < up_raw.0.count
    within = omega (arith, slice_get_within (row (get S1) up_raw.0.count up_raw.0.first) at old child1, length-row (get S1) up_raw.0.count up_raw.0.first)

    follow1 : after (get S1 kid.number) ≡ after (get S1 old.number)
    follow1 =
        let q = some_of (get s kid.number) kid_there in
        ap (λ (x : Slab Raw). after (get x kid.number)) i1 ∙ ap after (changed-same s kid.number (with_next m) q.0 q.1) ∙ im
        ∙ sym (ap (λ (x : Slab Raw). after (get x old.number)) i1 ∙ ap after (changed-other s kid.number (with_next m) old.number (free up.number above.0 at old above.1.0 above.1.1)))

    pub up_there1 : IsSome (get (seen S1) up.number)
    up_there1 = has _ _ (seen-some S1 up.number up_raw.0 up1)

    pub steps_there1 : IfSome (get S1 up.number) (λ c. (i : ℕ) → i < at → IsSome (get (seen S1) (step (get S1) i c.first).number))
    steps_there1 =
        subst (λ (o : Option Raw). IfSome o (λ c. (i : ℕ) → i < at → IsSome (get (seen S1) (step (get S1) i c.first).number))) (sym up1)
        (λ i w. tied_filled S1 T1 up.number up_raw.0 up1 i (omega (arith, w, within)))

    pub done : (S2 : Slab Raw) → S2 ≡ led S1 up at kid → seen S2 ≡ changed (seen s) up.number (with_kid at kid)
    done S2 i2 = ap (λ (x : Slab Raw). seen x) i2 ∙ by at refl ∙ ap (λ (x : Slab Cell). changed x up.number (with_kid at kid)) seen1
      where
        by : (n : ℕ) → at ≡ n → seen (led S1 up n kid) ≡ changed (seen S1) up.number (with_kid n kid)
        by zero h = seen-first S1 up kid old up_raw.0 up1 (subst (λ (j : ℕ). slice_get (row (get S1) up_raw.0.count up_raw.0.first) j ≡ Some old) h child1) follow1
        by (suc a) h =
            ap (λ (o : Option Raw). seen (changed S1 (step (get S1) a (first_in o)).number (with_next kid))) up1
            ∙ seen-later S1 T1 up kid old a up_raw.0 up1 (subst (λ (j : ℕ). slice_get (row (get S1) up_raw.0.count up_raw.0.first) j ≡ Some old) h child1) free1 follow1
