-- Behind a node and its first kid there stands at least one place: the second kid.
use Rattle.std.proofs.Common.{◌≡◌, ◌⊎◌, inl, inr, ℕ, zero, suc, ◌+◌, ◌-◌, ◌<◌, ◌≤◌, List, [], length, ap, refl, arith, sum_by, length-append}
use Rattle.std.proofs.lemmas.Bool.{cases_lt}
use Rattle.std.proofs.lemmas.List.Sums.{sum_by-cons}
use Rattle.rule_arena.specs.declared.label.Label.{Label}
use Rattle.rule_arena.specs.declared.label.Label.TheVariants.{Bottom, Symbol, Param}
use Rattle.slt_grammar.specs.Grammars.{IsGrammar, value}
use Rattle.slt_grammar.specs.Keyed.{KeyedRule, rules_of}
use Rattle.slt_grammar.specs.Segments.{listed, preorder}
use Rattle.slt_grammar.specs.Terms.{Term, Leaf, Node, Hole, holes_of}
use Rattle.slt_grammar.proofs.Spreads.{params-listed}
use Rattle.slt_grammar.proofs.TourLemmas.{params-preorder}
use Rattle.segment_counts.specs.Counting.{CountTable, told}
use Rattle.segment_counts.specs.Weights.{node_weight, all_weight}
use Rattle.segment_counts.specs.declared.counts.Measure.TheVariants as measure
use Rattle.preorder_address.specs.Numberings.{AreCountsOf}
use Rattle.preorder_address.specs.Sites.{weight_before, weight_below, terms_weight}
use Rattle.preorder_address.proofs.Naming.{value-last}
use Rattle.preorder_address.proofs.TreeKids.{total-all, total-nodes}

-- how many nodes a term has, and how many nodes and bottoms
abbrev nodes_of : Term → ℕ
nodes_of Leaf = 0
nodes_of (Hole i) = 0
nodes_of (Node f a b) = 1 + nodes_of a + nodes_of b

abbrev places_of : Term → ℕ
places_of Leaf = 1
places_of (Hole i) = 0
places_of (Node f a b) = 1 + places_of a + places_of b

nodes-of : (t : Term) (k : List Label) → sum_by node_weight (listed t k) ≡ nodes_of t + sum_by node_weight k
nodes-of Leaf k = omega (arith, sum_by-cons node_weight Bottom k)
nodes-of (Hole i) k = omega (arith, sum_by-cons node_weight Param k)
nodes-of (Node f a b) k = omega (arith, sum_by-cons node_weight (Symbol f) (listed a (listed b k)), nodes-of a (listed b k), nodes-of b k)

places-of : (t : Term) (k : List Label) → sum_by all_weight (listed t k) ≡ places_of t + sum_by all_weight k
places-of Leaf k = omega (arith, sum_by-cons all_weight Bottom k)
places-of (Hole i) k = omega (arith, sum_by-cons all_weight Param k)
places-of (Node f a b) k = omega (arith, sum_by-cons all_weight (Symbol f) (listed a (listed b k)), places-of a (listed b k), places-of b k)

-- a term has no hole
abbrev IsWhole : Term → Type 0
IsWhole t = length (holes_of t) ≡ 0

left-whole : (f : ℕ) (a b : Term) → IsWhole (Node f a b) → IsWhole a
left-whole f a b h = omega (arith, h, length-append (holes_of a) (holes_of b))

right-whole : (f : ℕ) (a b : Term) → IsWhole (Node f a b) → IsWhole b
right-whole f a b h = omega (arith, h, length-append (holes_of a) (holes_of b))

some-places : (t : Term) → IsWhole t → 0 < places_of t
some-places Leaf h = omega arith
some-places (Hole i) h = absurd (omega (arith, h))
some-places (Node f a b) h = omega arith

terms-of : (t : Term) (k : List Label) (n : ℕ) → IsWhole t → terms_weight all_weight [] (suc n) (listed t k) ≡ places_of t + terms_weight all_weight [] n k
terms-of Leaf k n h = refl
terms-of (Hole i) k n h = absurd (omega (arith, h))
terms-of (Node f a b) k n h = omega (arith, terms-of a (listed b k) (suc n) (left-whole f a b h), terms-of b k n (right-whole f a b h))

-- what is before a node behind a term, and below it
before-behind : (t : Term) (k : List Label) (i n : ℕ) → IsWhole t → i ≡ nodes_of t + n → weight_before all_weight [] (listed t k) i ≡ places_of t + weight_before all_weight [] k n
before-behind Leaf k i n h e = let z : i ≡ n = omega (arith, e) in rw z refl
before-behind (Hole i) k j n h e = absurd (omega (arith, h))
before-behind (Node f a b) k zero n h e = absurd (omega (arith, e))
before-behind (Node f a b) k (suc i) n h e =
    omega (arith, before-behind a (listed b k) i (nodes_of b + n) (left-whole f a b h) (omega (arith, e)), before-behind b k (nodes_of b + n) n (right-whole f a b h) refl)

below-behind : (t : Term) (k : List Label) (i n : ℕ) → IsWhole t → i ≡ nodes_of t + n → weight_below all_weight [] (listed t k) i ≡ weight_below all_weight [] k n
below-behind Leaf k i n h e = let z : i ≡ n = omega (arith, e) in rw z refl
below-behind (Hole i) k j n h e = absurd (omega (arith, h))
below-behind (Node f a b) k zero n h e = absurd (omega (arith, e))
below-behind (Node f a b) k (suc i) n h e =
    omega (arith, below-behind a (listed b k) i (nodes_of b + n) (left-whole f a b h) (omega (arith, e)), below-behind b k (nodes_of b + n) n (right-whole f a b h) refl)

site-behind : (t : Term) (k : List Label) (n : ℕ) → IsWhole t → n < nodes_of t → weight_before all_weight [] (listed t k) n + weight_below all_weight [] (listed t k) n + 2 ≤ places_of t
site-behind Leaf k n h b = absurd (omega arith)
site-behind (Hole i) k n h b = absurd (omega arith)
site-behind (Node f a b) k zero h l = omega (arith, terms-of a (listed b k) 0 (left-whole f a b h), some-places b (right-whole f a b h))
site-behind (Node f a b) k (suc n) h l = by_place (cases_lt n (nodes_of a)) (λ p. site-behind a (listed b k) n (left-whole f a b h) p) (λ m p. site-behind b k m (right-whole f a b h) p)
  where
    by_place : (n < nodes_of a) ⊎ (nodes_of a ≤ n) → (n < nodes_of a → weight_before all_weight [] (listed a (listed b k)) n + weight_below all_weight [] (listed a (listed b k)) n + 2 ≤ places_of a)
        → ((m : ℕ) → m < nodes_of b → weight_before all_weight [] (listed b k) m + weight_below all_weight [] (listed b k) m + 2 ≤ places_of b)
        → weight_before all_weight [] (listed (Node f a b) k) (suc n) + weight_below all_weight [] (listed (Node f a b) k) (suc n) + 2 ≤ places_of (Node f a b)
    by_place (inl p) left right = omega (arith, left p)
    by_place (inr p) left right =
        let m : ℕ = n - nodes_of a in
        let e : n ≡ nodes_of a + m = omega (arith, p) in
        omega (arith, before-behind a (listed b k) n m (left-whole f a b h) e, below-behind a (listed b k) n m (left-whole f a b h) e, right m (omega (arith, l, p)))

module _ (G : List KeyedRule) (C : CountTable) (a : AreCountsOf (rules_of G) C) (g : IsGrammar (rules_of G)) where
  whole : IsWhole (value (rules_of G))
  whole =
      let r = length (rules_of G) - 1 in
      let s : r < length (rules_of G) = omega (arith, g.some) in
      omega (arith, params-listed (value (rules_of G)) [], params-preorder (rules_of G) r g s, (g.each r s).shaped.start (omega (arith, g.some)))

  -- behind a node and its first kid is another place of the value
  pub place-behind : (n b d : ℕ) → n < told measure.Nodes C.rows (C.rules - 1) 0 → b ≡ weight_before all_weight [] (preorder (rules_of G) (length G - 1)) n → d ≡ weight_below all_weight [] (preorder (rules_of G) (length G - 1)) n
      → b + d + 2 ≤ told measure.All C.rows (C.rules - 1) 0
  place-behind n b d h is_before is_below =
      let v = value-last G in
      let t = value (rules_of G) in
      omega (
        arith,
        is_before,
        is_below,
        ap (λ ls. weight_before all_weight [] ls n) v,
        ap (λ ls. weight_below all_weight [] ls n) v,
        site-behind t [] n whole (omega (arith, h, total-nodes G C a g, ap (sum_by node_weight) v, nodes-of t [])),
        total-all G C a g,
        ap (sum_by all_weight) v,
        places-of t [],
      )
