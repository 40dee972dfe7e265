-- What `detach` makes of the terms.
use Rattle.std.proofs.Common.{◌≡◌, ◌≢◌, ℕ, suc, ◌-◌, List, ◌++◌, take, drop, Some, None, IsSome, slice_get, sym, ap, ◌∙◌, subst}
use Rattle.slab.specs.Slab.{Slab, get}
use Rattle.rule_arena.specs.Changing.{changed, hung, adopted, with_kids}
use Rattle.rule_arena.specs.declared.key.Key.{Key}
use Rattle.rule_arena.specs.Linked.{Cell}
use Rattle.rule_arena.specs.Preorder.{subterm}
use Rattle.rule_arena.specs.Terms.{Terms, Apart, AreDistinctKeys, At, term_at, parent_in, kids_of}
use Rattle.rule_arena.specs.Taking.{IsInner, without_term}
use Rattle.rule_arena.specs.Siblings.{Tied, AreNoChildren}
use Rattle.rule_arena.specs.Slots.{Forest, tops, Standing, terms_of, room}
use Rattle.rule_arena.specs.Slots.Forest.{End}
use Rattle.rule_arena.proofs.PutWrites.{Share, Lacks-none, none_there}
use Rattle.rule_arena.proofs.CellLemmas.{same_cell}
use Rattle.rule_arena.proofs.TakenOut as taken
use Rattle.rule_arena.proofs.TiedLemmas.{tied-put}

-- what was read: the node's cell and its link, the parent's cell and the list without the node
module _ (slots : Slab Cell) (s : Standing slots) (a : Terms) (v : terms_of slots s ≡ a) (at : Key) (q : IsInner a at)
    (c : Cell) (c_slot : get slots at.number ≡ Some c) (u : Key × ℕ) (c_parent : c.parent ≡ Some u) (d : Cell) (d_slot : get slots u.0.number ≡ Some d)
    (xs : List Key) (xs_are : xs ≡ d.kids) (ks : List Key) (ks_are : ks ≡ take (u.1 - 1) xs ++ drop (suc (u.1 - 1)) xs) where
  -- nothing stands in its place, and it keeps what is below it
  abbrev W : Share (get slots) at u.0
  W = let Y = taken.Y slots s a v at q c c_slot u c_parent in record {
    moved = End;
    left = Y.below;
    moved_lies = tt;
    left_lies = Y.lies;
    moved_lacks = Lacks-none u.0.number;
    left_lacks = (taken.over slots s a v at q c c_slot u c_parent).lacks;
    either = λ j k e. absurd (none_there j k e);
  }

  rest : ks ≡ take (u.1 - 1) d.kids ++ drop (suc (u.1 - 1)) d.kids
  rest = ks_are ∙ ap (λ (ys : List Key). take (u.1 - 1) ys ++ drop (suc (u.1 - 1)) ys) xs_are

  pub kids_there : (j : ℕ) (k : Key) → slice_get ks j ≡ Some k → IsSome (get slots k.number)
  kids_there = taken.all_there slots s a v at q c c_slot u c_parent d d_slot W ks rest

  pub distinct : AreDistinctKeys ks
  distinct = taken.all_distinct slots s a v at q c c_slot u c_parent d d_slot W ks rest

  pub apart : Apart ks u.0.number
  apart = taken.all_apart slots s a v at q c c_slot u c_parent d d_slot W ks rest

  pub free : Tied slots → AreNoChildren slots u.0 ks
  free T n z i y far e f j k g h =
      let t = taken.free_but slots s a v at q c c_slot u c_parent d d_slot W ks rest T n z i y far e f j k g h in
      let w : z ≡ c = same_cell z c (get slots at.number) (subst (λ (m : ℕ). get slots m ≡ Some z) t.0 e) c_slot in
      let b : z.kids ≡ tops End = ap (λ (x : Cell). x.kids) w ∙ taken.kids_below slots s a v at q c c_slot u c_parent ∙ ap (λ (x : Forest). tops x) t.1 in
      absurd (let m : slice_get (tops End) i ≡ Some y = subst (λ (xs : List Key). slice_get xs i ≡ Some y) b f in cc)

  module _ (S2 : Slab Cell) (i2 : S2 ≡ changed (adopted slots u.0 1 ks) u.0.number (with_kids ks)) where
    pub at_still : IsSome (get S2 at.number)
    at_still = taken.at_still slots s a v at q c c_slot u c_parent d d_slot W ks rest S2 i2

    module _ (S3 : Slab Cell) (i3 : S3 ≡ changed S2 at.number (hung None)) where
      root_is : hung None c ≡ record { label = c.label; parent = None; kids = tops W.left }
      root_is = ap (λ (ys : List Key). let r : Cell = record { label = c.label; parent = None; kids = ys } in r) (taken.kids_below slots s a v at q c c_slot u c_parent)

      pub stands : Standing S3
      stands = taken.stands slots s a v at q c c_slot u c_parent d d_slot W ks rest S2 i2 (hung None) root_is S3 i3

      pub moved : (y : At a at) (up : Key) (i : ℕ) → parent_in y.nodes y.place ≡ Some (up, i) → (s' : Standing S3) → term_at (terms_of S3 s') y.root ≡ Some (without_term y.nodes up y.place)
      moved = taken.moved slots s a v at q c c_slot u c_parent d d_slot W ks rest S2 i2 (hung None) root_is S3 i3

      pub freed : (y : At a at) (s' : Standing S3) → term_at (terms_of S3 s') at.number ≡ Some (subterm kids_of y.nodes y.place)
      freed y s' =
          taken.freed slots s a v at q c c_slot u c_parent d d_slot W ks rest S2 i2 (hung None) root_is S3 i3 s'
          ∙ ap Some (sym (taken.subterm_was slots s a v at q c c_slot u c_parent d d_slot W ks rest S2 i2 (hung None) root_is S3 i3 y))

      pub others : (y : At a at) (k : ℕ) → k ≢ y.root → k ≢ at.number → (s' : Standing S3) → term_at (terms_of S3 s') k ≡ term_at a k
      others = taken.others slots s a v at q c c_slot u c_parent d d_slot W ks rest S2 i2 (hung None) root_is S3 i3

      pub tied : Tied slots → Tied S3
      tied T = tied-put slots S3 T at W.moved W.left u.0 u.1 ks (taken.P slots s a v at q c c_slot u c_parent d d_slot W ks rest S2 i2 (hung None) root_is S3 i3)

      pub same_limit : S3.capacity ≡ a.limit
      same_limit = taken.same_limit slots s a v at q c c_slot u c_parent d d_slot W ks rest S2 i2 (hung None) root_is S3 i3 ∙ ap (λ (t : Terms). t.limit) v

      pub same_room : room S3 ≡ a.spare
      same_room = taken.same_room slots s a v at q c c_slot u c_parent d d_slot W ks rest S2 i2 (hung None) root_is S3 i3 ∙ ap (λ (t : Terms). t.spare) v
