-- What `dissolve` makes of the terms.
use Rattle.std.proofs.Common.{◌≡◌, ◌≢◌, inl, inr, ℕ, zero, suc, ◌+◌, ◌-◌, ◌<◌, ◌≤◌, List, [], ◌∷◌, ◌++◌, length, take, drop, Some, IsSome, slice_get, refl, sym, ap, ◌∙◌, subst, arith}
use Rattle.std.proofs.lemmas.Bool.{cases_eq}
use Rattle.slab.specs.Slab.{Slab, get}
use Rattle.rule_arena.specs.Changing.{changed, bare, adopted, with_kids}
use Rattle.rule_arena.specs.declared.key.Key.{Key}
use Rattle.rule_arena.specs.Linked.{Cell}
use Rattle.rule_arena.specs.Preorder.{subterm}
use Rattle.rule_arena.specs.Terms.{Node, Terms, Apart, AreDistinctKeys, At, term_at, kids_in, parent_in, kids_of}
use Rattle.rule_arena.specs.Taking.{IsInner, FitsItsParent, without_node}
use Rattle.rule_arena.specs.Siblings.{Tied, AreNoChildren}
use Rattle.rule_arena.specs.Slots.{Forest, tops, flatten, Standing, terms_of, room}
use Rattle.rule_arena.specs.Slots.Forest.{End}
use Rattle.rule_arena.proofs.PutWrites.{Share, Lacks-none}
use Rattle.rule_arena.proofs.CellLemmas.{has}
use Rattle.rule_arena.proofs.ChangeLemmas.{changed-same, changed-other, changed-some}
use Rattle.rule_arena.proofs.ShapeLemmas.{changed-comm, changed-adopted}
use Rattle.rule_arena.proofs.TakenOut as taken
use Rattle.rule_arena.proofs.TiedLemmas.{tied-put}

-- a node with a parent is below a root
pub is_inner : (a : Terms) (at : Key) → FitsItsParent a at → IsInner a at
is_inner a at f = (f.here, below f.here.nodes f.here.place (f.up, f.place) f.parent)
  where
    below : (ns : List Node) (p : ℕ) (u : Key × ℕ) → parent_in ns p ≡ Some u → 0 < p
    below [] zero u e = absurd (cc)
    below (n ∷ ns) zero u e = absurd (cc)
    below ns (suc p) u e = omega arith

-- what was read: the node's cell and its link, the parent's cell and the list with the node's children
module _ (slots : Slab Cell) (s : Standing slots) (a : Terms) (v : terms_of slots s ≡ a) (at : Key) (q : IsInner a at)
    (c : Cell) (c_slot : get slots at.number ≡ Some c) (u : Key × ℕ) (c_parent : c.parent ≡ Some u) (d : Cell) (d_slot : get slots u.0.number ≡ Some d) where
  pub are_few : FitsItsParent a at → length d.kids + length c.kids ≤ 9
  are_few f = omega (
    arith,
    f.few,
    ap length (taken.up_kids_in_are slots s a v at q c c_slot u c_parent d d_slot f.here f.up f.place f.parent f.above),
    ap length (taken.kids_in_are slots s a v at q c c_slot u c_parent f.here),
  )

  module _ (xs : List Key) (xs_are : xs ≡ d.kids) (zs : List Key) (zs_are : zs ≡ c.kids) (ks : List Key) (ks_are : ks ≡ take (u.1 - 1) xs ++ (zs ++ drop (suc (u.1 - 1)) xs)) where
    abbrev below : Forest
    below = (taken.Y slots s a v at q c c_slot u c_parent).below

    -- what is below it stands in its place, and nothing stays
    abbrev W : Share (get slots) at u.0
    W = let Y = taken.Y slots s a v at q c c_slot u c_parent in record {
      moved = Y.below;
      left = End;
      moved_lies = Y.lies;
      left_lies = tt;
      moved_lacks = (taken.over slots s a v at q c c_slot u c_parent).lacks;
      left_lacks = Lacks-none u.0.number;
      either = λ j k e. refl;
    }

    mine : c.kids ≡ tops below
    mine = taken.kids_below slots s a v at q c c_slot u c_parent

    rest : ks ≡ take (u.1 - 1) d.kids ++ (tops below ++ drop (suc (u.1 - 1)) d.kids)
    rest =
        ks_are ∙ ap (λ (ys : List Key). take (u.1 - 1) ys ++ (zs ++ drop (suc (u.1 - 1)) ys)) xs_are
        ∙ ap (λ (ys : List Key). take (u.1 - 1) d.kids ++ (ys ++ drop (suc (u.1 - 1)) d.kids)) (zs_are ∙ mine)

    pub kids_there : (j : ℕ) (k : Key) → slice_get ks j ≡ Some k → IsSome (get slots k.number)
    kids_there = taken.all_there slots s a v at q c c_slot u c_parent d d_slot W ks rest

    pub distinct : AreDistinctKeys ks
    distinct = taken.all_distinct slots s a v at q c c_slot u c_parent d d_slot W ks rest

    pub apart : Apart ks u.0.number
    apart = taken.all_apart slots s a v at q c c_slot u c_parent d d_slot W ks rest

    -- first it loses its children
    module _ (S1 : Slab Cell) (i1 : S1 ≡ changed slots at.number bare) where
      still : (j : ℕ) → IsSome (get slots j) → IsSome (get S1 j)
      still j h = subst (λ (t : Slab Cell). IsSome (get t j)) (sym i1) (changed-some slots at.number bare j h)

      pub up_still : IsSome (get S1 u.0.number)
      up_still = still u.0.number (has _ d d_slot)

      pub kids_still : (j : ℕ) (k : Key) → slice_get ks j ≡ Some k → IsSome (get S1 k.number)
      kids_still j k e = still k.number (kids_there j k e)

      pub free : Tied slots → AreNoChildren S1 u.0 ks
      free T n z i y far e f j k g h = elim (cases_eq n at.number) [
        | inl m ↦
            let w : Some (bare c) ≡ Some z = sym (changed-same slots at.number bare c c_slot) ∙ ap (λ (t : Slab Cell). get t at.number) (sym i1) ∙ ap (λ (x : ℕ). get S1 x) (sym m) ∙ e in
            let b : bare c ≡ z = cc in
            let l : slice_get (bare c).kids i ≡ Some y = subst (λ (x : Cell). slice_get x.kids i ≡ Some y) (sym b) f in
            absurd (cc)
        | inr m ↦
            let e2 : get slots n ≡ Some z = sym (changed-other slots at.number bare n m) ∙ ap (λ (t : Slab Cell). get t n) (sym i1) ∙ e in
            absurd (m (taken.free_but slots s a v at q c c_slot u c_parent d d_slot W ks rest T n z i y far e2 f j k g h).0)
      ]

      -- then its parent gets them
      module _ (S3 : Slab Cell) (i2 : S3 ≡ changed (adopted S1 u.0 1 ks) u.0.number (with_kids ks)) where
        abbrev S2 : Slab Cell
        S2 = changed (adopted slots u.0 1 ks) u.0.number (with_kids ks)

        -- which is as if the parent got them first
        i3 : S3 ≡ changed (changed (adopted slots u.0 1 ks) u.0.number (with_kids ks)) at.number bare
        i3 =
            i2 ∙ ap (λ (t : Slab Cell). changed (adopted t u.0 1 ks) u.0.number (with_kids ks)) i1
            ∙ ap (λ (t : Slab Cell). changed t u.0.number (with_kids ks)) (changed-adopted slots u.0 1 ks at.number bare (taken.apart_at slots s a v at q c c_slot u c_parent d d_slot W ks rest))
            ∙ changed-comm (adopted slots u.0 1 ks) at.number u.0.number bare (with_kids ks) (λ e. (taken.over slots s a v at q c c_slot u c_parent).apart (sym e))

        pub tied : Tied slots → Tied S3
        tied T = tied-put slots S3 T at W.moved W.left u.0 u.1 ks (taken.P slots s a v at q c c_slot u c_parent d d_slot W ks rest S2 refl bare refl S3 i3)

        pub stands : Standing S3
        stands = taken.stands slots s a v at q c c_slot u c_parent d d_slot W ks rest S2 refl bare refl S3 i3

        pub moved : (y : At a at) (up : Key) (i : ℕ) → parent_in y.nodes y.place ≡ Some (up, i) → (s' : Standing S3) → term_at (terms_of S3 s') y.root ≡ Some (without_node y.nodes up y.place)
        moved y up i e s' =
            let n : length (kids_in y.nodes y.place) ≡ length (tops below) = ap length (taken.kids_in_are slots s a v at q c c_slot u c_parent y ∙ mine) in
            let b : drop 1 (subterm kids_of y.nodes y.place) ≡ flatten below =
            ap (λ (ns : List Node). drop 1 ns) (taken.subterm_was slots s a v at q c c_slot u c_parent d d_slot W ks rest S2 refl bare refl S3 i3 y) ∙ drop-none (flatten below) in
            rw (n, b) (taken.moved slots s a v at q c c_slot u c_parent d d_slot W ks rest S2 refl bare refl S3 i3 y up i e s')
          where
            drop-none : (ns : List Node) → drop 0 ns ≡ ns
            drop-none [] = refl
            drop-none (n ∷ ns) = refl

        pub freed : (y : At a at) (n : Node) → slice_get y.nodes y.place ≡ Some n → (s' : Standing S3) → term_at (terms_of S3 s') at.number ≡ Some (record n { kids = 0 } ∷ [])
        freed y n e s' =
            let m : Node = record { key = at; label = c.label; kids = length c.kids } in
            let f : Some m ≡ Some n = sym (taken.node_is slots s a v at q c c_slot u c_parent y) ∙ e in
            let g : m ≡ n = cc in
            taken.freed slots s a v at q c c_slot u c_parent d d_slot W ks rest S2 refl bare refl S3 i3 s' ∙ ap (λ (x : Node). Some (record x { kids = 0 } ∷ [])) g

        pub others : (y : At a at) (k : ℕ) → k ≢ y.root → k ≢ at.number → (s' : Standing S3) → term_at (terms_of S3 s') k ≡ term_at a k
        others = taken.others slots s a v at q c c_slot u c_parent d d_slot W ks rest S2 refl bare refl S3 i3

        pub same_limit : S3.capacity ≡ a.limit
        same_limit = taken.same_limit slots s a v at q c c_slot u c_parent d d_slot W ks rest S2 refl bare refl S3 i3 ∙ ap (λ (t : Terms). t.limit) v

        pub same_room : room S3 ≡ a.spare
        same_room = taken.same_room slots s a v at q c c_slot u c_parent d d_slot W ks rest S2 refl bare refl S3 i3 ∙ ap (λ (t : Terms). t.spare) v
