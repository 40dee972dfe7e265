-- Children name their parents, whatever is written.
use Rattle.std.proofs.Common.{◌≡◌, ◌≢◌, ◌⊎◌, inl, inr, ℕ, suc, ◌+◌, ◌-◌, ◌<◌, List, set, Option, Some, None, IsSome, slice_get, refl, sym, ap, ◌∙◌, subst, arith}
use Rattle.std.proofs.lemmas.Bool.{cases_eq}
use Rattle.slab.specs.Slab.{Slab, get}
use Rattle.rule_arena.specs.Changing.{changed}
use Rattle.rule_arena.specs.Cutting.{Freed}
use Rattle.rule_arena.specs.Linked.{Cell, Raw}
use Rattle.rule_arena.specs.Siblings.{row, step, linked, seen, parent_at, Tied, IsNoChild}
use Rattle.rule_arena.specs.Slots.{Forest, tops, RootAt}
use Rattle.rule_arena.specs.Slots.Forest.{End}
use Rattle.rule_arena.specs.Terms.{Node, key_in}
use Rattle.rule_arena.specs.declared.label.Label.{Label}
use Rattle.rule_arena.specs.declared.key.Key.{Key}
use Rattle.rule_arena.proofs.AddLemmas.{Adds, among}
use Rattle.rule_arena.proofs.CellLemmas.{key_is, same_cell}
use Rattle.rule_arena.proofs.ChangeLemmas.{changed-same, changed-other, changed-none}
use Rattle.rule_arena.proofs.SeenLemmas.{get-row, seen-some}
use Rattle.rule_arena.proofs.Climbs.{step_up}
use Rattle.rule_arena.proofs.CutLemmas as cutting
use Rattle.rule_arena.proofs.Families.{child_slot}
use Rattle.rule_arena.proofs.ListLemmas.{set_same, set_other}
use Rattle.rule_arena.proofs.Puts.{Puts}
use Rattle.rule_arena.proofs.Swaps.{Tree, Splices}
use Rattle.rule_arena.proofs.Told.{told_root}

-- a node that names no parent is no child
pub no_child : (s : Slab Cell) (a : ℕ) → Tied s → parent_at (get s a) ≡ None → IsNoChild s a
no_child s a T p n c i k e f h =
    let v : Key × ℕ = (record { number = n }, suc i) in
    let z : None ≡ Some v = sym p ∙ ap (λ (j : ℕ). parent_at (get s j)) (sym h) ∙ T n c i k e f in
    absurd (cc)

-- a child stands in one place
pub one_place : (s : Slab Cell) → Tied s → (n m : ℕ) (c d : Cell) (i j : ℕ) (k l : Key) → get s n ≡ Some c → slice_get c.kids i ≡ Some k → get s m ≡ Some d → slice_get d.kids j ≡ Some l → k.number ≡ l.number → (n ≡ m) × (i ≡ j)
one_place s T n m c d i j k l e f g h q =
    let u : Key × ℕ = (record { number = n }, suc i) in
    let v : Key × ℕ = (record { number = m }, suc j) in
    let z : Some u ≡ Some v = sym (T n c i k e f) ∙ ap (λ (x : ℕ). parent_at (get s x)) q ∙ T m d j l g h in
    let w : u ≡ v = cc in
    (ap (λ (x : Key × ℕ). x.0.number) w, omega (arith, ap (λ (x : Key × ℕ). x.1) w))

-- a child's slot is filled
pub filled : (o : Option Cell) (v : Key × ℕ) → parent_at o ≡ Some v → IsSome o
filled None v e = absurd (cc)
filled (Some c) v e = refl

-- where each cell has its children from before, and their parents stay
pub tied_by : (s t : Slab Cell) → Tied s → ((n : ℕ) (c : Cell) → get t n ≡ Some c → (d : Cell) × ((get s n ≡ Some d) × (d.kids ≡ c.kids))) → ((k : ℕ) (v : Key × ℕ) → parent_at (get s k) ≡ Some v → parent_at (get t k) ≡ Some v) → Tied t
tied_by s t T was kept n c i k e f =
    let d = was n c e in
    kept k.number _ (T n d.0 i k d.1.0 (subst (λ (ks : List Key). slice_get ks i ≡ Some k) (sym d.1.1) f))

pub tied-same : (s t : Slab Cell) → ((j : ℕ) → get t j ≡ get s j) → Tied s → Tied t
tied-same s t same T = tied_by s t T (λ n c e. (c, (sym (same n) ∙ e, refl))) (λ k v p. ap parent_at (same k) ∙ p)

pub tied-empty : (s : Slab Cell) → ((j : ℕ) → get s j ≡ None) → Tied s
tied-empty s none n c i k e f = absurd (let z : None ≡ Some c = sym (none n) ∙ e in cc)

pub tied-changed : (s t : Slab Cell) (k : ℕ) (f : Cell → Cell) → ((c : Cell) → (f c).kids ≡ c.kids) → ((c : Cell) → (f c).parent ≡ c.parent) → t ≡ changed s k f → Tied s → Tied t
tied-changed s t k f kids parent i T = tied_by s t T was kept
  where
    at : (o : Option Cell) → get s k ≡ o → (n : ℕ) (c : Cell) → n ≡ k → get t n ≡ Some c → (d : Cell) × ((get s n ≡ Some d) × (d.kids ≡ c.kids))
    at None e n c h g = absurd (let z : None ≡ Some c = sym (changed-none s k f k e) ∙ ap (λ (x : Slab Cell). get x k) (sym i) ∙ ap (λ (j : ℕ). get t j) (sym h) ∙ g in cc)
    at (Some d) e n c h g =
        let z : Some (f d) ≡ Some c = sym (changed-same s k f d e) ∙ ap (λ (x : Slab Cell). get x k) (sym i) ∙ ap (λ (j : ℕ). get t j) (sym h) ∙ g in
        let w : f d ≡ c = cc in
        (d, (ap (λ (j : ℕ). get s j) h ∙ e, sym (kids d) ∙ ap (λ (x : Cell). x.kids) w))

    was : (n : ℕ) (c : Cell) → get t n ≡ Some c → (d : Cell) × ((get s n ≡ Some d) × (d.kids ≡ c.kids))
    was n c g = elim (cases_eq n k) [
      | inl h ↦ at (get s k) refl n c h g
      | inr d ↦ (c, (sym (changed-other s k f n d) ∙ ap (λ (x : Slab Cell). get x n) (sym i) ∙ g, refl))
    ]

    here : (o : Option Cell) → get s k ≡ o → (v : Key × ℕ) → parent_at o ≡ Some v → parent_at (get t k) ≡ Some v
    here None e v p = absurd (cc)
    here (Some d) e v p = ap (λ (x : Slab Cell). parent_at (get x k)) i ∙ ap parent_at (changed-same s k f d e) ∙ parent d ∙ p

    kept : (j : ℕ) (v : Key × ℕ) → parent_at (get s j) ≡ Some v → parent_at (get t j) ≡ Some v
    kept j v p = elim (cases_eq j k) [
      | inl h ↦ ap (λ (x : ℕ). parent_at (get t x)) h ∙ here (get s k) refl v (ap (λ (x : ℕ). parent_at (get s x)) (sym h) ∙ p)
      | inr d ↦ ap (λ (x : Slab Cell). parent_at (get x j)) i ∙ ap parent_at (changed-other s k f j d) ∙ p
    ]

-- the children of a cell that is kept are there
pub kids_filled : (s : Slab Raw) (r : Raw) → ((i : ℕ) (k : Key) → slice_get (row (get s) r.count r.first) i ≡ Some k → IsSome (get (seen s) k.number)) → (i : ℕ) → i < r.count → IsSome (get (seen s) (step (get s) i r.first).number)
kids_filled s r h i w = h i _ (get-row (get s) r.count r.first i w)

pub tied_filled : (s : Slab Raw) → Tied (seen s) → (n : ℕ) (r : Raw) → get s n ≡ Some r → (i : ℕ) → i < r.count → IsSome (get (seen s) (step (get s) i r.first).number)
tied_filled s T n r e = kids_filled s r (λ i k f. filled (get (seen s) k.number) _ (T n (linked (get s) r) i k (seen-some s n r e) f))

-- two links to different parents
apart_links : (u v : Key × ℕ) (o : Option (Key × ℕ)) → o ≡ Some u → o ≡ Some v → u.0.number ≢ v.0.number → ⊥
apart_links u v o e f n = let z : u ≡ v = cc in n (ap (λ (x : Key × ℕ). x.0.number) z)

-- a root in the place of a child
module _ (s t : Slab Cell) (T : Tied s) (a up : Key) (root : Tree) (place : ℕ) (S : Splices (get s) (get t) a.number root up place) (above : Cell) (up_was : get s up.number ≡ Some above) (up_at : up.number ≢ a.number) (up_root : up.number ≢ root.key.number) where
  -- who names a parent, but for the child, names it still
  stays : (k : ℕ) (v : Key × ℕ) → parent_at (get s k) ≡ Some v → (let w : Key × ℕ = (up, place) in v ≢ w) → parent_at (get t k) ≡ Some v
  stays k v p n = elim (cases_eq k a.number) [
    | inl e ↦
        let w : Key × ℕ = (up, place) in
        let z : Some v ≡ Some w = sym p ∙ ap (λ (j : ℕ). parent_at (get s j)) e ∙ ap parent_at S.at_was ∙ S.at_parent in
        absurd (n (cc))
    | inr na ↦ elim (cases_eq k root.key.number) [
      | inl e ↦
          let z : None ≡ Some v = sym (ap parent_at S.root_was) ∙ ap (λ (j : ℕ). parent_at (get s j)) (sym e) ∙ p in
          absurd (cc)
      | inr nr ↦ elim (cases_eq k up.number) [
        | inl e ↦ ap (λ (j : ℕ). parent_at (get t j)) e ∙ ap parent_at (S.up_is above up_was) ∙ sym (ap parent_at up_was) ∙ ap (λ (j : ℕ). parent_at (get s j)) (sym e) ∙ p
        | inr nu ↦ ap parent_at (S.others k na nr nu) ∙ p
      ]
    ]
  ]

  elsewhere : (n : ℕ) (i : ℕ) → n ≢ up.number → (let v : Key × ℕ = (record { number = n }, suc i) in let w : Key × ℕ = (up, place) in v ≢ w)
  elsewhere n i d e = d (ap (λ (x : Key × ℕ). x.0.number) e)

  pub tied-spliced : Tied t
  tied-spliced n c i k e f = elim (cases_eq n a.number) [
    | inl h ↦
        let d : Cell = record { label = S.at.label; parent = None; kids = S.at.kids } in
        let j : d ≡ c = same_cell d c (get t n) (ap (λ (x : ℕ). get t x) h ∙ S.at_is) e in
        stays k.number _ (T n S.at i k (ap (λ (x : ℕ). get s x) h ∙ S.at_was) (subst (λ (x : Cell). slice_get x.kids i ≡ Some k) (sym j) f)) (elsewhere n i (λ q. up_at (sym q ∙ h)))
    | inr na ↦ elim (cases_eq n root.key.number) [
      | inl h ↦
          let d : Cell = record { label = root.label; parent = Some (up, place); kids = tops root.below } in
          let b : Cell = record { label = root.label; parent = None; kids = tops root.below } in
          let j : d ≡ c = same_cell d c (get t n) (ap (λ (x : ℕ). get t x) h ∙ S.root_is) e in
          stays k.number _ (T n b i k (ap (λ (x : ℕ). get s x) h ∙ S.root_was) (subst (λ (x : Cell). slice_get x.kids i ≡ Some k) (sym j) f)) (elsewhere n i (λ q. up_root (sym q ∙ h)))
      | inr nr ↦ elim (cases_eq n up.number) [
        | inl h ↦ below h
        | inr nu ↦ stays k.number _ (T n c i k (sym (S.others n na nr nu) ∙ e) f) (elsewhere n i nu)
      ]
    ]
  ]
    where
      here : n ≡ up.number → i ≡ place - 1 → slice_get (set above.kids (place - 1) root.key) i ≡ Some k → parent_at (get t k.number) ≡ Some (record { number = n }, suc i)
      here h q g =
          let z : k ≡ root.key = set_same above.kids (place - 1) root.key k (subst (λ (x : ℕ). slice_get (set above.kids (place - 1) root.key) x ≡ Some k) q g) in
          let w : place ≡ suc i = omega (arith, q, S.first) in
          let u : up ≡ record { number = n } = key_is up n (sym h) in
          ap (λ (x : Key). parent_at (get t x.number)) z ∙ ap parent_at S.root_is
          ∙ ap (λ (x : Key). let v : Key × ℕ = (x, place) in Some v) u ∙ ap (λ (x : ℕ). let v : Key × ℕ = (record { number = n }, x) in Some v) w

      below : n ≡ up.number → parent_at (get t k.number) ≡ Some (record { number = n }, suc i)
      below h =
          let d : Cell = record { label = above.label; parent = above.parent; kids = set above.kids (place - 1) root.key } in
          let j : d ≡ c = same_cell d c (get t n) (ap (λ (x : ℕ). get t x) h ∙ S.up_is above up_was) e in
          let g : slice_get (set above.kids (place - 1) root.key) i ≡ Some k = subst (λ (x : Cell). slice_get x.kids i ≡ Some k) (sym j) f in
          elim (cases_eq i (place - 1)) [
            | inl q ↦ here h q g
            | inr q ↦
                stays k.number _ (T n above i k (ap (λ (x : ℕ). get s x) h ∙ up_was) (set_other above.kids (place - 1) root.key i q ∙ g))
                (λ z. q (let w : suc i ≡ place = ap (λ (x : Key × ℕ). x.1) z in omega (arith, w)))
          ]

-- other children in a node's place
module _ (s t : Slab Cell) (T : Tied s) (a : Key) (m b : Forest) (up : Key) (place : ℕ) (ks : List Key) (P : Puts (get s) (get t) a m b up place ks) where
  still : (k : ℕ) (v : Key × ℕ) → parent_at (get s k) ≡ Some v → v.0.number ≢ up.number → (v.0.number ≢ a.number) ⊎ (b ≢ End) → parent_at (get t k) ≡ Some v
  still k v p nu na = elim (cases_eq k a.number) [
    | inl e ↦ absurd (apart_links v (up, place) (parent_at (get s k)) p (ap (λ (j : ℕ). parent_at (get s j)) e ∙ ap parent_at P.at_was ∙ P.at_parent) nu)
    | inr ka ↦ elim (cases_eq k up.number) [
      | inl e ↦ ap (λ (j : ℕ). parent_at (get t j)) e ∙ ap parent_at P.up_is ∙ sym (ap parent_at P.up_was) ∙ ap (λ (j : ℕ). parent_at (get s j)) (sym e) ∙ p
      | inr ku ↦ elim (among ks k) [
        | inl z ↦ ap parent_at (P.others k ka ku z) ∙ p
        | inr x ↦ absurd (not_new x.0 x.1.0 x.1.1.0 x.1.1.1)
      ]
    ]
  ]
    where
      not_new : (j : ℕ) (x : Key) → slice_get ks j ≡ Some x → x.number ≡ k → ⊥
      not_new j x e q =
          let o = P.kid_of j x e in
          let w : parent_at (get s k) ≡ Some o.1.0 = ap (λ (i : ℕ). parent_at (get s i)) (sym q) ∙ ap parent_at o.1.1.0 ∙ o.1.1.1.0 in
          elim o.1.1.1.1 [
            | inl h ↦ apart_links v o.1.0 (parent_at (get s k)) p w (λ z. nu (z ∙ ap (λ (y : Key). y.number) h))
            | inr h ↦ elim na [
              | inl n ↦ apart_links v o.1.0 (parent_at (get s k)) p w (λ z. n (z ∙ ap (λ (y : Key). y.number) h.0))
              | inr n ↦ n h.1
            ]
          ]

  pub tied-put : Tied t
  tied-put n c i k e f = elim (cases_eq n a.number) [
    | inl h ↦ at_a h
    | inr na ↦ elim (cases_eq n up.number) [
      | inl h ↦ at_up h
      | inr nu ↦
          let d = was na nu in
          still k.number (record { number = n }, suc i) (T n d.0 i k d.1.0 (subst (λ (xs : List Key). slice_get xs i ≡ Some k) (sym d.1.1) f)) nu (inl na)
    ]
  ]
    where
      at_a : n ≡ a.number → parent_at (get t k.number) ≡ Some (record { number = n }, suc i)
      at_a h =
          let d : Cell = record { label = P.at.label; parent = None; kids = tops b } in
          let j : d ≡ c = same_cell d c (get t n) (ap (λ (x : ℕ). get t x) h ∙ P.at_is) e in
          let g : slice_get (tops b) i ≡ Some k = subst (λ (x : Cell). slice_get x.kids i ≡ Some k) (sym j) f in
          let o = child_slot (get s) a 1 b P.b_lies i k g in
          let w : 1 + i ≡ suc i = omega arith in
          still k.number (a, 1 + i) (ap parent_at o.1.0 ∙ o.1.1) (λ q. P.apart (sym q)) (inr (λ q. absurd (let z : slice_get (tops End) i ≡ Some k = subst (λ (x : Forest). slice_get (tops x) i ≡ Some k) q g in cc)))
          ∙ ap (λ (x : Key). let v : Key × ℕ = (x, 1 + i) in Some v) (key_is a n (sym h)) ∙ ap (λ (x : ℕ). let v : Key × ℕ = (record { number = n }, x) in Some v) w

      at_up : n ≡ up.number → parent_at (get t k.number) ≡ Some (record { number = n }, suc i)
      at_up h =
          let d : Cell = record { label = P.above.label; parent = P.above.parent; kids = ks } in
          let j : d ≡ c = same_cell d c (get t n) (ap (λ (x : ℕ). get t x) h ∙ P.up_is) e in
          let g : slice_get ks i ≡ Some k = subst (λ (x : Cell). slice_get x.kids i ≡ Some k) (sym j) f in
          let o = P.kid_of i k g in
          ap parent_at (P.kid i k o.0 g o.1.1.0) ∙ ap (λ (x : Key). let v : Key × ℕ = (x, suc i) in Some v) (key_is up n (sym h))

      was : n ≢ a.number → n ≢ up.number → (d : Cell) × ((get s n ≡ Some d) × (d.kids ≡ c.kids))
      was na nu = elim (among ks n) [
        | inl z ↦ (c, (sym (P.others n na nu z) ∙ e, refl))
        | inr x ↦
            let o = P.kid_of x.0 x.1.0 x.1.1.0 in
            let w : Cell = record { label = o.0.label; parent = Some (up, suc x.0); kids = o.0.kids } in
            let g : get t n ≡ Some w = ap (λ (j : ℕ). get t j) (sym x.1.1.1) ∙ P.kid x.0 x.1.0 o.0 x.1.1.0 o.1.1.0 in
            (o.0, (ap (λ (j : ℕ). get s j) (sym x.1.1.1) ∙ o.1.1.0, ap (λ (y : Cell). y.kids) (same_cell w c (get t n) g e)))
      ]

-- a new root over roots
module _ (s t : Slab Cell) (T : Tied s) (key : Key) (label : Label) (ks : List Key) (A : Adds (get s) (get t) key label ks) (roots : (i : ℕ) (k : Key) → slice_get ks i ≡ Some k → (c : Cell) × ((get s k.number ≡ Some c) × (c.parent ≡ None))) where
  keeps : (k : ℕ) (v : Key × ℕ) → parent_at (get s k) ≡ Some v → parent_at (get t k) ≡ Some v
  keeps k v p = elim (cases_eq k key.number) [
    | inl e ↦ let z : None ≡ Some v = sym (ap parent_at A.fresh) ∙ ap (λ (j : ℕ). parent_at (get s j)) (sym e) ∙ p in absurd (cc)
    | inr n ↦ elim (among ks k) [
      | inl a ↦ ap parent_at (A.others k n a) ∙ p
      | inr x ↦
          let r = roots x.0 x.1.0 x.1.1.0 in
          let z : None ≡ Some v = sym (ap parent_at r.1.0 ∙ r.1.1) ∙ ap (λ (j : ℕ). parent_at (get s j)) x.1.1.1 ∙ p in
          absurd (cc)
    ]
  ]

  pub tied-added : Tied t
  tied-added n c i k e f = elim (cases_eq n key.number) [
    | inl h ↦ at_key h
    | inr d ↦ let w = was d in keeps k.number (record { number = n }, suc i) (T n w.0 i k w.1.0 (subst (λ (xs : List Key). slice_get xs i ≡ Some k) (sym w.1.1) f))
  ]
    where
      at_key : n ≡ key.number → parent_at (get t k.number) ≡ Some (record { number = n }, suc i)
      at_key h =
          let d : Cell = record { label = label; parent = None; kids = ks } in
          let j : d ≡ c = same_cell d c (get t n) (ap (λ (x : ℕ). get t x) h ∙ A.root) e in
          let g : slice_get ks i ≡ Some k = subst (λ (x : Cell). slice_get x.kids i ≡ Some k) (sym j) f in
          let r = roots i k g in
          let w : 1 + i ≡ suc i = omega arith in
          ap parent_at (A.kid i k r.0 g r.1.0)
          ∙ ap (λ (x : Key). let v : Key × ℕ = (x, 1 + i) in Some v) (key_is key n (sym h)) ∙ ap (λ (x : ℕ). let v : Key × ℕ = (record { number = n }, x) in Some v) w

      was : n ≢ key.number → (d : Cell) × ((get s n ≡ Some d) × (d.kids ≡ c.kids))
      was d = elim (among ks n) [
        | inl a ↦ (c, (sym (A.others n d a) ∙ e, refl))
        | inr x ↦
            let r = roots x.0 x.1.0 x.1.1.0 in
            let w : Cell = record { label = r.0.label; parent = Some (key, 1 + x.0); kids = r.0.kids } in
            let g : get t n ≡ Some w = ap (λ (j : ℕ). get t j) (sym x.1.1.1) ∙ A.kid x.0 x.1.0 r.0 x.1.1.0 r.1.0 in
            (r.0, (ap (λ (j : ℕ). get s j) (sym x.1.1.1) ∙ r.1.0, ap (λ (y : Cell). y.kids) (same_cell w c (get t n) g e)))
      ]

-- a node of a term has its parent there
pub parent_there : (H : ℕ → Option Cell) (r : ℕ) (ns : List Node) (R : RootAt H r ns) (p : ℕ) (x : Key) (v : Key × ℕ) → key_in ns p ≡ Some x → parent_at (H x.number) ≡ Some v → (q : ℕ) × (key_in ns q ≡ Some v.0)
parent_there H r ns R p x v e h =
    let t = told_root H r ns R p x e in
    let U = step_up H r ns R p x t.cell v e t.slot (sym (ap parent_at t.slot) ∙ h) in
    (U.at, U.there)

-- a term that is freed
pub tied-freed : (s t : Slab Cell) (root : ℕ) (ns : List Node) → Tied s → RootAt (get s) root ns → Freed s t ns → Tied t
tied-freed s t root ns T R F n c i k e f = elim (cutting.among ns n) [
  | inr x ↦ absurd (let z : None ≡ Some c = sym (F.gone x.0 (record { number = n }) x.1) ∙ e in cc)
  | inl l ↦
      let p = T n c i k (sym (F.others n l) ∙ e) f in
      elim (cutting.among ns k.number) [
        | inl m ↦ ap parent_at (F.others k.number m) ∙ p
        | inr y ↦ absurd (let q = parent_there (get s) root ns R y.0 (record { number = k.number }) (record { number = n }, suc i) y.1 p in l q.0 q.1)
      ]
]
