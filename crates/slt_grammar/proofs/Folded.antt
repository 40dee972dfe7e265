-- A node and its child that became one.
use Rattle.std.proofs.Common.{◌≡◌, ℕ, suc, ◌+◌, List, length, Option, Some, slice_get, ap, ◌∙◌, arith}
use Rattle.rule_arena.specs.Laws.{IsKeyedTerm}
use Rattle.rule_arena.specs.Taking.{FitsItsParent, without_node}
use Rattle.rule_arena.specs.Terms.{Node, Terms, At, IsSound, term_at, key_in, parent_in}
use Rattle.rule_arena.specs.Children.{ChildAt}
use Rattle.rule_arena.specs.declared.key.Key.{Key}
use Rattle.rule_arena.proofs.ChildLemmas.{child_place}
use Rattle.rule_arena.proofs.TakingLaws.{child_apart, keys_stay}
use Rattle.slt_grammar.specs.Holding.{IsFoldable}
use Rattle.slt_grammar.proofs.Parents.{child-parent}
use Rattle.slt_grammar.proofs.TourWalking.{key-node}

-- a term of an arena
pub keyed-term : (a : Terms) (r : ℕ) (ns : List Node) → IsSound a → term_at a r ≡ Some ns → IsKeyedTerm ns
keyed-term a r ns S t = record {
  term = S.term r ns t;
  once = λ i j k e f.
      let x : At a k = record { root = r; nodes = ns; place = i; stands = t; there = e } in
      let y : At a k = record { root = r; nodes = ns; place = j; stands = t; there = f } in
      (S.once k x y).1;
}

module _ (a : Terms) (upper lower : Key) (S : IsSound a) (F : IsFoldable a upper lower) where
  abbrev pub high : (n : Node) × (slice_get F.here.nodes F.place ≡ Some n) × (n.key ≡ upper)
  high = key-node F.here.nodes F.place upper F.above

  pub keyed : IsKeyedTerm F.here.nodes
  keyed = keyed-term a F.here.root F.here.nodes S F.here.stands

  pub child-at : ChildAt F.here.nodes F.place high.0 F.child lower
  child-at = child_apart F.here.nodes F.place high.0 F.child lower keyed high.1 F.is_child

  pub low-place : F.here.place ≡ suc (F.place + length child-at.child.before)
  low-place = child_place F.here.nodes F.place high.0 F.child lower child-at F.here.place F.here.there (λ i j e f. keyed.once i j lower e f)

  pub parent-is : parent_in F.here.nodes F.here.place ≡ Some (upper, suc F.child)
  parent-is =
      child-parent F.here.nodes F.place high.0 F.child lower child-at F.here.place low-place ∙ ap (λ (k : Key). let o : Option (Key × ℕ) = Some (k, suc F.child) in o) high.2

  pub fits : FitsItsParent a lower
  fits = record {
    here = F.here;
    up = upper;
    place = suc F.child;
    parent = parent-is;
    above = record { root = F.here.root; nodes = F.here.nodes; place = F.place; stands = F.here.stands; there = F.above };
    few = F.few;
  }

  -- the upper node stays where it is
  pub upper-stays : key_in (without_node F.here.nodes upper F.here.place) F.place ≡ Some upper
  upper-stays = (keys_stay F.here.nodes upper lower F.here.place F.place F.here.there (omega (arith, low-place))).1 ∙ F.above

pub one-place : (a : Terms) (key : Key) (x y : At a key) → IsSound a → (x.root ≡ y.root) × ((x.nodes ≡ y.nodes) × (x.place ≡ y.place))
one-place a key x y S =
    let o = S.once key x y in
    let t : term_at a x.root ≡ Some y.nodes = ap (λ (r : ℕ). term_at a r) o.0 ∙ y.stands in
    (o.0, (same x.nodes y.nodes (term_at a x.root) x.stands t, o.1))
  where
    same : (ns ms : List Node) (o : Option (List Node)) → o ≡ Some ns → o ≡ Some ms → ns ≡ ms
    same ns ms o e f = cc
