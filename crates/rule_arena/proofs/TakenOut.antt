-- What the terms are once a node's children, or none, stand in its place.
use Rattle.std.proofs.Common.{◌≡◌, ◌≢◌, ℕ, zero, suc, ◌-◌, ◌<◌, ◌≤◌, List, ◌∷◌, ◌++◌, length, take, drop, Option, Some, None, IsSome, slice_get, sym, ap, ◌∙◌, subst, arith}
use Rattle.std.proofs.lemmas.Option.{slice_get_within}
use Rattle.slab.specs.Slab.{Slab, get, slab_len}
use Rattle.rule_arena.specs.Changing.{changed, adopted, with_kids}
use Rattle.rule_arena.specs.declared.key.Key.{Key}
use Rattle.rule_arena.specs.Linked.{Cell}
use Rattle.rule_arena.specs.Preorder.{subterm, with_subterm}
use Rattle.rule_arena.specs.Terms.{Node, Terms, Apart, AreDistinctKeys, At, term_at, key_in, kids_in, parent_in, kids_of}
use Rattle.rule_arena.specs.Taking.{IsInner, regrown}
use Rattle.rule_arena.specs.Siblings.{Tied}
use Rattle.rule_arena.specs.Slots.Forest.{End}
use Rattle.rule_arena.specs.Slots.{tops, flatten, Lies, Standing, terms_of, room, RootAt}
use Rattle.rule_arena.proofs.ChangeLemmas.{changed-len, changed-capacity}
use Rattle.rule_arena.proofs.AddLemmas.{adopted-len, adopted-capacity}
use Rattle.rule_arena.proofs.RoomLemmas.{room-same}
use Rattle.rule_arena.proofs.Told.{at_root, told}
use Rattle.rule_arena.proofs.PathLemmas.{path_of}
use Rattle.rule_arena.proofs.KidsLemmas.{kids_are}
use Rattle.rule_arena.proofs.CellLemmas.{has, same_cell}
use Rattle.rule_arena.proofs.Families.{Family, family_in, Above, above_is}
use Rattle.rule_arena.proofs.Puts.{Puts}
use Rattle.rule_arena.proofs.PutLemmas.{standing, term_freed, term_was, term_moved, term_other}
use Rattle.rule_arena.proofs.PutWrites.{Share, puts, kids_there, x_then, apart_x, apart_up, only_here}
use Rattle.rule_arena.proofs.PutWrites as writes

-- a family whose parent and place have other names
abbrev pub named : (H : ℕ → Option Cell) (x : Key) (Y : Family H x) (u : Key × ℕ) → u ≡ (Y.up, Y.place) → Family H x
named H x Y u i = record {
  cell = Y.cell;
  above = Y.above;
  up = u.0;
  place = u.1;
  below = Y.below;
  brood = Y.brood;
  slot = Y.slot;
  parent = Y.parent ∙ ap Some (sym i);
  kids = Y.kids;
  lies = Y.lies;
  first = subst (λ (z : Key × ℕ). 1 ≤ z.1) (sym i) Y.first;
  up_slot = subst (λ (z : Key × ℕ). H z.0.number ≡ Some Y.above) (sym i) Y.up_slot;
  up_kids = Y.up_kids;
  up_lies = subst (λ (z : Key × ℕ). Lies H z.0 1 Y.brood) (sym i) Y.up_lies;
  child = subst (λ (z : Key × ℕ). slice_get (tops Y.brood) (z.1 - 1) ≡ Some x) (sym i) Y.child;
}

module _ (slots : Slab Cell) (s : Standing slots) (a : Terms) (v : terms_of slots s ≡ a) (at : Key) (q : IsInner a at) where
  root : RootAt (get slots) q.0.root q.0.nodes
  root = at_root slots s a v q.0.root q.0.nodes q.0.stands

  pub seat : Family (get slots) at
  seat = by root q.0.place (rw root.nodes at q.0.there) q.1
    where
      by : (R : RootAt (get slots) q.0.root q.0.nodes) (p : ℕ) → key_in (record { key = record { number = q.0.root }; label = R.label; kids = length (tops R.below) } ∷ flatten R.below) p ≡ Some at → 0 < p → Family (get slots) at
      by R zero h w = absurd (omega arith)
      by R (suc p) h w = family_in (get slots) q.0.root q.0.nodes R p at h

  pub at_there : IsSome (get slots at.number)
  at_there = has _ seat.cell seat.slot

  pub has_parent : (c : Cell) (o : Option (Key × ℕ)) → get slots at.number ≡ Some c → o ≡ c.parent → IsSome o
  has_parent c o e p = has o (seat.up, seat.place) (p ∙ ap (λ (x : Cell). x.parent) (same_cell c seat.cell (get slots at.number) e seat.slot) ∙ seat.parent)

  -- the cell that was read, and its link
  module _ (c : Cell) (c_slot : get slots at.number ≡ Some c) (u : Key × ℕ) (c_parent : c.parent ≡ Some u) where
    pub link_is : u ≡ (seat.up, seat.place)
    link_is =
        let g : Some (seat.up, seat.place) ≡ Some u = sym seat.parent ∙ ap (λ (x : Cell). x.parent) (same_cell seat.cell c (get slots at.number) seat.slot c_slot) ∙ c_parent in cc

    abbrev pub Y : Family (get slots) at
    Y = named (get slots) at seat u link_is

    pub over : Above (get slots) at u.0 Y.above Y.below
    over = let ps = path_of (get slots) q.0.root q.0.nodes root q.0.place at q.0.there in above_is (get slots) at ps.0 ps.1.0 Y

    pub up_there : IsSome (get slots u.0.number)
    up_there = has _ Y.above Y.up_slot

    cell_is : c ≡ Y.cell
    cell_is = same_cell c Y.cell (get slots at.number) c_slot Y.slot

    pub kids_below : c.kids ≡ tops Y.below
    kids_below = ap (λ (x : Cell). x.kids) cell_is ∙ sym Y.kids

    pub kids_in_are : (y : At a at) → kids_in y.nodes y.place ≡ c.kids
    kids_in_are y = kids_are (get slots) y.root y.nodes (at_root slots s a v y.root y.nodes y.stands) y.place at c y.there c_slot

    pub up_is : (y : At a at) (up : Key) (i : ℕ) → parent_in y.nodes y.place ≡ Some (up, i) → up ≡ u.0
    up_is y up i e =
        let t = told slots s a v at y in
        let f : Some (up, i) ≡ Some u = sym e ∙ t.parent ∙ ap (λ (x : Cell). x.parent) (same_cell t.cell c (get slots at.number) t.slot c_slot) ∙ c_parent in
        first_is up i u f
      where
        first_is : (k : Key) (i : ℕ) (u : Key × ℕ) → Some (k, i) ≡ Some u → k ≡ u.0
        first_is k i u e = cc

    pub node_is : (y : At a at) → slice_get y.nodes y.place ≡ Some (record { key = at; label = c.label; kids = length c.kids })
    node_is y =
        let t = told slots s a v at y in
        let i : t.cell ≡ c = same_cell t.cell c (get slots at.number) t.slot c_slot in
        t.node ∙ ap (λ (x : Cell). let n : Node = record { key = at; label = x.label; kids = length x.kids } in Some n) i

    -- the parent's cell that was read
    module _ (d : Cell) (d_slot : get slots u.0.number ≡ Some d) where
      above_is_read : Y.above ≡ d
      above_is_read = same_cell Y.above d (get slots u.0.number) Y.up_slot d_slot

      pub within : u.1 - 1 < length d.kids
      within =
          let t : slice_get d.kids (u.1 - 1) ≡ Some at = subst (λ (xs : List Key). slice_get xs (u.1 - 1) ≡ Some at) (Y.up_kids ∙ ap (λ (x : Cell). x.kids) above_is_read) Y.child in
          slice_get_within d.kids (u.1 - 1) at t

      pub up_kids_in_are : (x : At a at) (up : Key) (i : ℕ) → parent_in x.nodes x.place ≡ Some (up, i) → (y : At a up) → kids_in y.nodes y.place ≡ d.kids
      up_kids_in_are x up i e y =
          let g : get slots up.number ≡ Some d = subst (λ (k : Key). get slots k.number ≡ Some d) (sym (up_is x up i e)) d_slot in
          kids_are (get slots) y.root y.nodes (at_root slots s a v y.root y.nodes y.stands) y.place up d y.there g

      -- the children that the parent gets
      module _ (W : Share (get slots) at u.0) (ks : List Key) (ks_are : ks ≡ take (u.1 - 1) d.kids ++ (tops W.moved ++ drop (suc (u.1 - 1)) d.kids)) where
        row : ks ≡ take (u.1 - 1) Y.above.kids ++ (tops W.moved ++ drop (suc (u.1 - 1)) Y.above.kids)
        row = ks_are ∙ ap (λ (x : Cell). take (u.1 - 1) x.kids ++ (tops W.moved ++ drop (suc (u.1 - 1)) x.kids)) (sym above_is_read)

        pub all_there : (j : ℕ) (k : Key) → slice_get ks j ≡ Some k → IsSome (get slots k.number)
        all_there j k e = let c = kids_there slots at Y over W ks row j k e in has _ c.0 c.1

        pub all_distinct : AreDistinctKeys ks
        all_distinct = writes.distinct slots at Y over W ks row

        pub all_apart : Apart ks u.0.number
        all_apart = apart_up slots at Y over W ks row

        pub apart_at : Apart ks at.number
        apart_at = apart_x slots at Y over W ks row

        -- only the node itself may have one of them as a child, and then it loses all
        pub free_but : Tied slots → (n : ℕ) (z : Cell) (i : ℕ) (y : Key) → n ≢ u.0.number → get slots n ≡ Some z → slice_get z.kids i ≡ Some y → (j : ℕ) (k : Key) → slice_get ks j ≡ Some k → k.number ≡ y.number → (n ≡ at.number) × (W.left ≡ End)
        free_but = only_here slots at Y over W ks row

        -- the slots after each write
        module _ (S2 : Slab Cell) (i2 : S2 ≡ changed (adopted slots u.0 1 ks) u.0.number (with_kids ks)) where
          pub at_still : IsSome (get S2 at.number)
          at_still = has _ _ (x_then slots at Y over W ks row S2 i2)

          module _ (F : Cell → Cell) (iF : F c ≡ record { label = c.label; parent = None; kids = tops W.left }) (S3 : Slab Cell) (i3 : S3 ≡ changed S2 at.number F) where
            root_is : F Y.cell ≡ record { label = Y.cell.label; parent = None; kids = tops W.left }
            root_is = subst (λ (x : Cell). F x ≡ record { label = x.label; parent = None; kids = tops W.left }) cell_is iF

            pub P : Puts (get slots) (get S3) at W.moved W.left u.0 u.1 ks
            P = puts slots at Y over W ks row S2 i2 F root_is S3 i3

            pub stands : Standing S3
            stands = standing slots S3 s at W.moved W.left u.0 u.1 ks P

            pub moved : (y : At a at) (up : Key) (i : ℕ) → parent_in y.nodes y.place ≡ Some (up, i) → (s' : Standing S3) → term_at (terms_of S3 s') y.root ≡ Some (with_subterm kids_of (regrown y.nodes up (length (tops W.moved))) y.place (flatten W.moved))
            moved y up i e s' =
                term_moved slots S3 s at W.moved W.left u.0 u.1 ks P y.root y.nodes y.place (at_root slots s a v y.root y.nodes y.stands) y.there s'
                ∙ ap (λ (k : Key). Some (with_subterm kids_of (regrown y.nodes k (length (tops W.moved))) y.place (flatten W.moved))) (sym (up_is y up i e))

            at_is : P.at ≡ c
            at_is = same_cell P.at c (get slots at.number) P.at_was c_slot

            pub freed : (s' : Standing S3) → term_at (terms_of S3 s') at.number ≡ Some (record { key = at; label = c.label; kids = length (tops W.left) } ∷ flatten W.left)
            freed s' =
                term_freed slots S3 s at W.moved W.left u.0 u.1 ks P s'
                ∙ ap (λ (x : Cell). Some (record { key = at; label = x.label; kids = length (tops W.left) } ∷ flatten W.left)) at_is

            pub subterm_was : (y : At a at) → subterm kids_of y.nodes y.place ≡ record { key = at; label = c.label; kids = length (tops Y.below) } ∷ flatten Y.below
            subterm_was y =
                term_was slots S3 s at W.moved W.left u.0 u.1 ks P y.root y.nodes y.place (at_root slots s a v y.root y.nodes y.stands) y.there Y.below (sym kids_below ∙ ap (λ (x : Cell). x.kids) (sym at_is)) Y.lies
                ∙ ap (λ (x : Cell). let n : Node = record { key = at; label = x.label; kids = length (tops Y.below) } in n ∷ flatten Y.below) at_is

            pub others : (y : At a at) (k : ℕ) → k ≢ y.root → k ≢ at.number → (s' : Standing S3) → term_at (terms_of S3 s') k ≡ term_at a k
            others y k nk na s' =
                term_other slots S3 s at W.moved W.left u.0 u.1 ks P y.root y.nodes y.place (at_root slots s a v y.root y.nodes y.stands) y.there s' k nk na
                ∙ ap (λ (b : Terms). term_at b k) v

            pub same_limit : S3.capacity ≡ slots.capacity
            same_limit =
                ap (λ (t : Slab Cell). t.capacity) i3 ∙ changed-capacity S2 at.number F
                ∙ ap (λ (t : Slab Cell). t.capacity) i2 ∙ changed-capacity (adopted slots u.0 1 ks) u.0.number (with_kids ks)
                ∙ adopted-capacity slots u.0 1 ks

            pub same_room : room S3 ≡ room slots
            same_room = room-same slots S3 same_limit (
                ap slab_len i3 ∙ changed-len S2 at.number F
                ∙ ap slab_len i2 ∙ changed-len (adopted slots u.0 1 ks) u.0.number (with_kids ks)
                ∙ adopted-len slots u.0 1 ks)
