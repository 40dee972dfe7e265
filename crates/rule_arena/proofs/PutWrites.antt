-- The writes that put other children in a node's place.
use Rattle.std.proofs.Common.{◌≡◌, ◌≢◌, ◌⊎◌, inl, inr, ℕ, suc, ◌+◌, ◌-◌, ◌<◌, List, [], ◌++◌, length, take, drop, Option, Some, None, slice_get, refl, sym, ap, ◌∙◌, subst, arith}
use Rattle.slab.specs.Slab.{Slab, get}
use Rattle.rule_arena.specs.Changing.{changed, adopted, with_kids}
use Rattle.rule_arena.specs.declared.key.Key.{Key}
use Rattle.rule_arena.specs.Linked.{Cell}
use Rattle.rule_arena.specs.Terms.{Apart, AreDistinctKeys}
use Rattle.rule_arena.specs.Cutting.{Lacks}
use Rattle.rule_arena.specs.Siblings.{Tied, parent_at}
use Rattle.rule_arena.specs.Slots.{Forest, tops, flatten, Lies}
use Rattle.rule_arena.specs.Slots.Forest.{End}
use Rattle.rule_arena.proofs.ListLemmas.{get-append, get-take, get-drop, length-take-within}
use Rattle.rule_arena.proofs.ChangeLemmas.{changed-same, changed-other}
use Rattle.rule_arena.proofs.AddLemmas.{adopted-other, adopted-kid}
use Rattle.rule_arena.proofs.CellLemmas.{same_cell, same_place}
use Rattle.rule_arena.proofs.Puts.{Puts}
use Rattle.rule_arena.proofs.Families.{Family, Above, child_slot}

-- what stands in a node's place afterwards, and what stays below it: one of the two is nothing
pub record Share (H : ℕ → Option Cell) (x up : Key) : Type 0 where
  pub moved : Forest
  pub left : Forest
  pub moved_lies : Lies H x 1 moved
  pub left_lies : Lies H x 1 left
  pub moved_lacks : Lacks (flatten moved) up.number
  pub left_lacks : Lacks (flatten left) up.number
  pub either : (j : ℕ) (k : Key) → slice_get (tops moved) j ≡ Some k → left ≡ End

-- nothing has no keys
pub Lacks-none : (j : ℕ) → Lacks [] j
Lacks-none j p e = absurd (cc)

pub none_there : (j : ℕ) (k : Key) → slice_get [] j ≡ Some k → ⊥
none_there j k e = absurd (cc)

module _ (slots : Slab Cell) (x : Key) (Y : Family (get slots) x) (A : Above (get slots) x Y.up Y.above Y.below) (W : Share (get slots) x Y.up) (ks : List Key)
    (row : ks ≡ take (Y.place - 1) Y.above.kids ++ (tops W.moved ++ drop (suc (Y.place - 1)) Y.above.kids)) where
  -- where a child was: before `x`, below it or after it
  record Was (j : ℕ) (k : Key) : Type 0 where
    pub cell : Cell
    pub link : Key × ℕ
    pub slot : get slots k.number ≡ Some cell
    pub parent : cell.parent ≡ Some link
    pub from : ((link.0 ≡ Y.up) × (link.1 ≡ suc j) × (link.1 < Y.place)) ⊎ (((link.0 ≡ x) × (link.1 + (Y.place - 1) ≡ suc j) × (W.left ≡ End)) ⊎ ((link.0 ≡ Y.up) × (link.1 + length (tops W.moved) ≡ suc (suc j)) × (Y.place < link.1)))

  was : (j : ℕ) (k : Key) → slice_get ks j ≡ Some k → Was j k
  was j k e =
      let xs : List Key = tops Y.brood in
      let h : slice_get (take (Y.place - 1) xs ++ (tops W.moved ++ drop (suc (Y.place - 1)) xs)) j ≡ Some k = subst (λ (zs : List Key). slice_get zs j ≡ Some k) (row ∙ ap (λ (zs : List Key). take (Y.place - 1) zs ++ (tops W.moved ++ drop (suc (Y.place - 1)) zs)) (sym Y.up_kids)) e in
      let n = length-take-within (Y.place - 1) xs x Y.child in
      elim (get-append (take (Y.place - 1) xs) (tops W.moved ++ drop (suc (Y.place - 1)) xs) j k h) [
        | inl a ↦
            let t = get-take (Y.place - 1) xs j k a.1 in
            let c = child_slot (get slots) Y.up 1 Y.brood Y.up_lies j k t.1 in
            record { cell = c.0; link = (Y.up, 1 + j); slot = c.1.0; parent = c.1.1; from = inl (refl, omega arith, omega (arith, t.0)) }
        | inr a ↦ elim (get-append (tops W.moved) (drop (suc (Y.place - 1)) xs) (j - length (take (Y.place - 1) xs)) k a.1) [
          | inl d ↦
              let i : ℕ = j - length (take (Y.place - 1) xs) in
              let c = child_slot (get slots) x 1 W.moved W.moved_lies (j - length (take (Y.place - 1) xs)) k d.1 in
              record { cell = c.0; link = (x, 1 + (j - length (take (Y.place - 1) xs))); slot = c.1.0; parent = c.1.1; from = inr (inl (refl, omega (arith, n, a.0), W.either _ k d.1)) }
          | inr d ↦
              let i : ℕ = suc (Y.place - 1) + (j - length (take (Y.place - 1) xs) - length (tops W.moved)) in
              let t = get-drop (suc (Y.place - 1)) xs (j - length (take (Y.place - 1) xs) - length (tops W.moved)) k d.1 in
              let c = child_slot (get slots) Y.up 1 Y.brood Y.up_lies (suc (Y.place - 1) + (j - length (take (Y.place - 1) xs) - length (tops W.moved))) k t in
              record { cell = c.0; link = (Y.up, 1 + (suc (Y.place - 1) + (j - length (take (Y.place - 1) xs) - length (tops W.moved)))); slot = c.1.0; parent = c.1.1; from = inr (inr (refl, omega (arith, n, a.0, d.0, Y.first), omega (arith, Y.first))) }
        ]
      ]

  -- the slot of a child has a parent
  not_slot : (k : Key) (c : Cell) → get slots k.number ≡ Some c → ((j : ℕ) (u : Key × ℕ) → c.parent ≡ Some u → (Z : Was j k) → u ≡ Z.link → ⊥) → Apart ks k.number
  not_slot k c e other j y f h =
      let Z = was j y f in
      let s : get slots k.number ≡ Some Z.cell = subst (λ (n : ℕ). get slots n ≡ Some Z.cell) h Z.slot in
      let p : c.parent ≡ Some Z.link = ap (λ (z : Cell). z.parent) (same_cell c Z.cell (get slots k.number) e s) ∙ Z.parent in
      other j Z.link p (record { cell = Z.cell; link = Z.link; slot = s; parent = Z.parent; from = Z.from }) refl

  pub apart_x : Apart ks x.number
  apart_x = not_slot x Y.cell Y.slot (λ j u p Z e.
      let v : Some (Y.up, Y.place) ≡ Some u = sym Y.parent ∙ p in
      let w : (Y.up, Y.place) ≡ Z.link = at u v ∙ e in
      let l : Y.up ≡ Z.link.0 = ap (λ (z : Key × ℕ). z.0) w in
      let q : Y.place ≡ Z.link.1 = ap (λ (z : Key × ℕ). z.1) w in
      elim Z.from [
        | inl a ↦ absurd (omega (arith, a.2, q))
        | inr a ↦ elim a [
          | inl d ↦ A.apart (ap (λ (z : Key). z.number) (l ∙ d.0))
          | inr d ↦ absurd (omega (arith, d.2, q))
        ]
      ])
    where
      at : (u : Key × ℕ) → (let v : Key × ℕ = (Y.up, Y.place) in Some v ≡ Some u → v ≡ u)
      at u e = cc

  pub apart_up : Apart ks Y.up.number
  apart_up = not_slot Y.up Y.above Y.up_slot (λ j u p Z e. elim Z.from [
    | inl a ↦ A.no_loop u.1 (p ∙ ap (λ (k : Key). let o : Key × ℕ = (k, u.1) in Some o) (ap (λ (z : Key × ℕ). z.0) e ∙ a.0))
    | inr a ↦ elim a [
      | inl d ↦ A.no_back u.1 (p ∙ ap (λ (k : Key). let o : Key × ℕ = (k, u.1) in Some o) (ap (λ (z : Key × ℕ). z.0) e ∙ d.0))
      | inr d ↦ A.no_loop u.1 (p ∙ ap (λ (k : Key). let o : Key × ℕ = (k, u.1) in Some o) (ap (λ (z : Key × ℕ). z.0) e ∙ d.0))
    ]
  ])

  pub distinct : AreDistinctKeys ks
  distinct i j k y e f h =
      let V = was i k e in
      let Z = was j y f in
      let u : V.link ≡ Z.link = same_place V.cell Z.cell (get slots y.number) V.link Z.link (subst (λ (n : ℕ). get slots n ≡ Some V.cell) h V.slot) Z.slot V.parent Z.parent in
      let p : V.link.1 ≡ Z.link.1 = ap (λ (z : Key × ℕ). z.1) u in
      let l : V.link.0 ≡ Z.link.0 = ap (λ (z : Key × ℕ). z.0) u in
      elim V.from [
        | inl a ↦ elim Z.from [
          | inl d ↦ omega (arith, p, a.1, d.1)
          | inr d ↦ elim d [
            | inl g ↦ absurd (A.apart (ap (λ (z : Key). z.number) (sym a.0 ∙ l ∙ g.0)))
            | inr g ↦ absurd (omega (arith, p, a.2, g.2))
          ]
        ]
        | inr a ↦ elim a [
          | inl a ↦ elim Z.from [
            | inl d ↦ absurd (A.apart (ap (λ (z : Key). z.number) (sym d.0 ∙ sym l ∙ a.0)))
            | inr d ↦ elim d [
              | inl g ↦ omega (arith, p, a.1, g.1)
              | inr g ↦ absurd (A.apart (ap (λ (z : Key). z.number) (sym g.0 ∙ sym l ∙ a.0)))
            ]
          ]
          | inr a ↦ elim Z.from [
            | inl d ↦ absurd (omega (arith, p, a.2, d.2))
            | inr d ↦ elim d [
              | inl g ↦ absurd (A.apart (ap (λ (z : Key). z.number) (sym a.0 ∙ l ∙ g.0)))
              | inr g ↦ omega (arith, p, a.1, g.1)
            ]
          ]
        ]
      ]

  -- no other node has one of them as a child, but the one that loses all
  pub only_here : Tied slots → (n : ℕ) (c : Cell) (i : ℕ) (y : Key) → n ≢ Y.up.number → get slots n ≡ Some c → slice_get c.kids i ≡ Some y → (j : ℕ) (k : Key) → slice_get ks j ≡ Some k → k.number ≡ y.number → (n ≡ x.number) × (W.left ≡ End)
  only_here T n c i y far e f j k g h =
      let Z = was j k g in
      let v : Key × ℕ = (record { number = n }, suc i) in
      let u : Some v ≡ Some Z.link = sym (T n c i y e f) ∙ ap (λ (m : ℕ). parent_at (get slots m)) (sym h) ∙ ap parent_at Z.slot ∙ Z.parent in
      let w : v ≡ Z.link = cc in
      let l : n ≡ Z.link.0.number = ap (λ (z : Key × ℕ). z.0.number) w in
      elim Z.from [
        | inl a ↦ absurd (far (l ∙ ap (λ (z : Key). z.number) a.0))
        | inr a ↦ elim a [
          | inl d ↦ (l ∙ ap (λ (z : Key). z.number) d.0, d.2)
          | inr d ↦ absurd (far (l ∙ ap (λ (z : Key). z.number) d.0))
        ]
      ]

  pub kids_there : (j : ℕ) (k : Key) → slice_get ks j ≡ Some k → (c : Cell) × (get slots k.number ≡ Some c)
  kids_there j k e = let Z = was j k e in (Z.cell, Z.slot)

  free1 : (j : ℕ) → Apart ks j → get (adopted slots Y.up 1 ks) j ≡ get slots j
  free1 j n = adopted-other slots Y.up 1 ks j n

  up_then : get (adopted slots Y.up 1 ks) Y.up.number ≡ Some Y.above
  up_then = free1 Y.up.number apart_up ∙ Y.up_slot

  module _ (S2 : Slab Cell) (i2 : S2 ≡ changed (adopted slots Y.up 1 ks) Y.up.number (with_kids ks)) where
    free2 : (j : ℕ) → j ≢ Y.up.number → get S2 j ≡ get (adopted slots Y.up 1 ks) j
    free2 j n = ap (λ (s : Slab Cell). get s j) i2 ∙ changed-other (adopted slots Y.up 1 ks) Y.up.number (with_kids ks) j n

    pub x_then : get S2 x.number ≡ Some Y.cell
    x_then = free2 x.number (λ q. A.apart (sym q)) ∙ free1 x.number apart_x ∙ Y.slot

    module _ (F : Cell → Cell) (iF : F Y.cell ≡ record { label = Y.cell.label; parent = None; kids = tops W.left }) (S3 : Slab Cell) (i3 : S3 ≡ changed S2 x.number F) where
      free3 : (j : ℕ) → j ≢ x.number → get S3 j ≡ get S2 j
      free3 j n = ap (λ (s : Slab Cell). get s j) i3 ∙ changed-other S2 x.number F j n

      pub puts : Puts (get slots) (get S3) x W.moved W.left Y.up Y.place ks
      puts = record {
        at = Y.cell;
        above = Y.above;
        at_was = Y.slot;
        at_parent = Y.parent;
        at_is = ap (λ (s : Slab Cell). get s x.number) i3 ∙ changed-same S2 x.number F Y.cell x_then ∙ ap Some iF;
        first = Y.first;
        up_was = Y.up_slot;
        child = subst (λ (zs : List Key). slice_get zs (Y.place - 1) ≡ Some x) Y.up_kids Y.child;
        up_is = free3 Y.up.number A.apart ∙ ap (λ (s : Slab Cell). get s Y.up.number) i2 ∙ changed-same (adopted slots Y.up 1 ks) Y.up.number (with_kids ks) Y.above up_then;
        kids = row;
        m_lies = W.moved_lies;
        b_lies = W.left_lies;
        apart = A.apart;
        no_loop = A.no_loop;
        m_lacks = W.moved_lacks;
        b_lacks = W.left_lacks;
        kid = λ j k c e f.
            let nx : k.number ≢ x.number = apart_x j k e in
            let nu : k.number ≢ Y.up.number = apart_up j k e in
            let z : 1 + j ≡ suc j = omega arith in
            free3 k.number nx ∙ free2 k.number nu
            ∙ adopted-kid slots Y.up 1 ks distinct j k c e f
            ∙ ap (λ (n : ℕ). let d : Cell = record { label = c.label; parent = Some (Y.up, n); kids = c.kids } in Some d) z;
        kid_of = λ j k e. let Z = was j k e in (
          Z.cell,
          (
            Z.link,
            (
              Z.slot,
              (
                Z.parent,
                elim Z.from [
                  | inl a ↦ inl a.0
                  | inr a ↦ elim a [ inl d ↦ inr (d.0, d.2) | inr d ↦ inl d.0 ]
                ],
              ),
            ),
          ),
        );
        others = λ j nx nu n. free3 j nx ∙ free2 j nu ∙ free1 j n;
      }
