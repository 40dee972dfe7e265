-- Marks: where a walk stands at one, which stops are marks, and which marks stay.
use Rattle.std.proofs.Common.{◌≡◌, ℕ, zero, suc, ◌+◌, ◌-◌, ◌<◌, ◌≤◌, List, [], ◌∷◌, ◌++◌, All, Option, Some, None, IfSome, get_or, length, take, refl, ap, sym, ◌∙◌, arith, subst, sum_by}
use Rattle.std.specs.Prelude.{option_map, slice_get}
use Rattle.std.proofs.lemmas.List.{append_cancel_right, take-take}
use Rattle.std.proofs.lemmas.List.Sums.{sum_by-append}
use Rattle.plain_tree.specs.declared.kind.Kind.{Kind}
use Rattle.rule_arena.specs.Terms.{Node, kids_of, key_in}
use Rattle.rule_arena.specs.declared.key.Key.{Key}
use Rattle.rule_arena.specs.declared.label.Label.{Label}
use Rattle.rule_arena.specs.declared.label.Label.TheVariants.{Bottom, Symbol, Call, Param}
use Rattle.rule_arena.proofs.ListLemmas.{get-take}
use Rattle.slt_grammar.specs.Bodies.{CallsBelow}
use Rattle.slt_grammar.specs.Grammars.{value_at}
use Rattle.slt_grammar.specs.Keyed.{Keyed, KeyedRule, IsKeyed, key_at, nodes_at, rules_of}
use Rattle.slt_grammar.specs.Segments.{listed, part_of, segment}
use Rattle.slt_grammar.specs.Terms.{Term}
use Rattle.slt_grammar.specs.Tours.{Stop, stop, once_closed, tour, tour_from}
use Rattle.slt_grammar.specs.TourWalks.{StandsBefore, behind_node, rest_of}
use Rattle.slt_grammar.specs.declared.level.Level.{Level}
use Rattle.slt_grammar.specs.declared.rules.Rule.{Rule}
use Rattle.slt_grammar.specs.declared.tour_walk.TourWalk.{TourWalk}
use Rattle.slt_grammar.proofs.KeyedLemmas.{length-rules_of}
use Rattle.slt_grammar.proofs.StopLemmas.{call-below}
use Rattle.slt_grammar.proofs.TourWalking.{key-node, node-here, tour_from-there}
use Rattle.segment_counts.specs.Weights.{all_weight, weigh}
use Rattle.segment_counts.specs.declared.counts.Measure.TheVariants as measure
use Rattle.segment_counts.specs.declared.counts.Weights.{Weights}
use Rattle.preorder_address.specs.Marks.{HasPassed, IsMark, IsSameBefore, MarksFirst, passed_to}
use Rattle.preorder_address.specs.Routes.{stop_weight}
use Rattle.preorder_address.specs.declared.marks.Mark.{Mark}
use Rattle.preorder_address.proofs.TourSums.{none-behind, tour-split, tour-sums}

stands-there : (G : List KeyedRule) (r p : ℕ) (key : Key) → key_at G r p ≡ Some key → StandsBefore G r (record { key = key; part = 0; last = key }) (rest_of G r p)
stands-there G r p key e =
    let x = key-node (nodes_at G r) p key e in
    let z : x.0.kids ≡ x.0.kids - 0 = omega arith in
    record {
      place = p;
      last = p;
      node = x.0;
      there = x.1;
      key = x.2;
      within = omega arith;
      last_there = e;
      are_left = tour_from-there kids_of ([] ∷ []) (nodes_at G r) p x.0 x.1 ∙ ap (λ k. stop x.0 0 ∷ (once_closed k (behind_node G r p) ++ rest_of G r (suc p))) z;
    }

-- a walk that stands at a mark
pub passed-mark : (names : List (Kind × List ℕ)) (G : List KeyedRule) (mark : Mark) → IsMark names G mark → HasPassed names G (length G - 1) (record { key = mark.key; part = 0; last = mark.key }) mark.passed
passed-mark names G mark m = record {
  passed = passed_to G (length G - 1) m.place;
  left = rest_of G (length G - 1) m.place;
  split = tour-split kids_of ([] ∷ []) (nodes_at G (length G - 1)) m.place;
  stands = stands-there G (length G - 1) m.place mark.key m.there;
  weighs = m.weights;
}

-- a walk that has just met a node stands at a mark
pub is-mark : (names : List (Kind × List ℕ)) (g : Keyed) → IsKeyed g → (walk : TourWalk) (passed : Weights) → HasPassed names g.rules (length g.rules - 1) walk passed → walk.part ≡ 0 → walk.last ≡ walk.key
    → IsMark names g.rules (record { key = walk.key; passed = passed })
is-mark names g k walk passed h e f =
    let r : ℕ = length g.rules - 1 in
    let s = h.stands in
    let behind : List (Stop Node) = behind_node g.rules r s.place in
    let here : key_at g.rules r s.place ≡ Some walk.key = node-here g.rules r walk h.left s in
    let same : s.last ≡ s.place = (k.once walk.key r s.last r s.place (s.last_there ∙ ap Some f) here).1 in
    let all : s.node.kids - 0 ≡ s.node.kids = omega arith in
    let left : h.left ≡ rest_of g.rules r s.place =
    s.are_left
    ∙ ap (λ i. stop s.node i ∷ (once_closed (s.node.kids - i) behind ++ rest_of g.rules r (suc s.last))) e
    ∙ ap (λ n. stop s.node 0 ∷ (once_closed n behind ++ rest_of g.rules r (suc s.last))) all
    ∙ ap (λ l. stop s.node 0 ∷ (once_closed s.node.kids behind ++ rest_of g.rules r (suc l))) same
    ∙ sym (tour_from-there kids_of ([] ∷ []) (nodes_at g.rules r) s.place s.node s.there) in
    let before : h.passed ≡ passed_to g.rules r s.place =
    append_cancel_right h.passed (passed_to g.rules r s.place) h.left
    (sym h.split ∙ tour-split kids_of ([] ∷ []) (nodes_at g.rules r) s.place ∙ ap (λ ms. passed_to g.rules r s.place ++ ms) (sym left)) in
    record { place = s.place; there = here; weights = λ m. h.weighs m ∙ ap (sum_by (stop_weight (weigh names m) g.rules)) before }

pub both-told : (P Q : Mark → Type 0) (o : Option Mark) → IfSome o P → IfSome o Q → IfSome o (λ mark. P mark × Q mark)
both-told P Q None p q = tt
both-told P Q (Some mark) p q = (p, q)

-- the mark of the first level's node, once the next level was found
pub first-found : (names : List (Kind × List ℕ)) (G : List KeyedRule) (levels : List Level) (level : Level) (old new : Option Mark) (rule : ℕ) → rule < length G → MarksFirst names G levels old
    → (rule + 1 ≡ length G → levels ≡ []) → (rule + 1 ≡ length G → IfSome new (λ mark. IsMark names G mark × (mark.key ≡ level.key))) → (rule + 1 < length G → new ≡ old)
    → MarksFirst names G (levels ++ level ∷ []) new
first-found names G levels level old new rule h t none at_start below = by_rule (length G - (rule + 1)) refl
  where
    at-first : (o : Option Mark) → IfSome o (λ mark. IsMark names G mark × (mark.key ≡ level.key)) → MarksFirst names G (level ∷ []) o
    at-first None m = tt
    at-first (Some mark) m = (m.0, ap Some (sym m.1))

    first-stays : (ls : List Level) (key : Key) → option_map (λ l. l.key) (slice_get ls 0) ≡ Some key → option_map (λ l. l.key) (slice_get (ls ++ level ∷ []) 0) ≡ Some key
    first-stays [] key e = cc
    first-stays (l ∷ ls) key e = e

    behind-first : (o : Option Mark) → MarksFirst names G levels o → MarksFirst names G (levels ++ level ∷ []) o
    behind-first None m = tt
    behind-first (Some mark) m = (m.0, first-stays levels mark.key m.1)

    by_rule : (d : ℕ) → length G - (rule + 1) ≡ d → MarksFirst names G (levels ++ level ∷ []) new
    by_rule zero e =
        let start : rule + 1 ≡ length G = omega (arith, e, h) in
        subst (λ (ls : List Level). MarksFirst names G (ls ++ level ∷ []) new) (sym (none start)) (at-first new (at_start start))
    by_rule (suc d) e =
        let later : rule + 1 < length G = omega (arith, e) in
        subst (λ (o : Option Mark). MarksFirst names G (levels ++ level ∷ []) o) (sym (below later)) (behind-first old t)

part-same : (G H : List Rule) (k : ℕ) → ((r : ℕ) → r < k → value_at H r ≡ value_at G r) → (l : Label) (i : ℕ) → CallsBelow k (l ∷ []) → part_of H l i ≡ part_of G l i
part-same G H k v (Call q) i c = ap (λ (t : Term). segment i (listed t [])) (v q c.0)
part-same G H k v Param i c = refl
part-same G H k v Bottom zero c = refl
part-same G H k v Bottom (suc i) c = refl
part-same G H k v (Symbol f) zero c = refl
part-same G H k v (Symbol f) (suc i) c = refl

key_in-take : (n : ℕ) (ns : List Node) (p : ℕ) → p < n → key_in (take n ns) p ≡ key_in ns p
key_in-take zero ns p h = absurd (omega (arith, h))
key_in-take (suc n) [] p h = refl
key_in-take (suc n) (x ∷ ns) zero h = refl
key_in-take (suc n) (x ∷ ns) (suc p) h = key_in-take n ns p (omega (arith, h))

module _ (names : List (Kind × List ℕ)) (g : Keyed) (k : IsKeyed g) where
  abbrev start : ℕ
  start = length g.rules - 1

  abbrev ns : List Node
  ns = nodes_at g.rules start

  there-is : start < length g.rules
  there-is = omega (arith, k.grammar.some, length-rules_of g.rules)

  -- what is passed doesn't fall from place to place
  passed-more : (q p : ℕ) → q ≤ p → sum_by (stop_weight all_weight g.rules) (passed_to g.rules start q) ≤ sum_by (stop_weight all_weight g.rules) (passed_to g.rules start p)
  passed-more q p h =
      let W = stop_weight all_weight g.rules in
      let later : List (Stop Node) = tour_from kids_of ([] ∷ []) (take p ns) q in
      let split = tour-split kids_of ([] ∷ []) (take p ns) q ∙ ap (λ xs. tour kids_of ([] ∷ []) xs ++ later) (take-take q p ns h) in
      omega (arith, ap (sum_by W) split, sum_by-append W (passed_to g.rules start q) later)

  module _ (H : List KeyedRule) (q : ℕ) (same : IsSameBefore q g.rules H) where
    -- a mark before a place up to which the start stays
    mark-stays : (mark : Mark) (m : IsMark names g.rules mark) → m.place < q → IsMark names H mark
    mark-stays mark m h =
        let p : ℕ = m.place in
        let taken : take p (nodes_at H (length H - 1)) ≡ take p ns =
        sym (take-take p q (nodes_at H (length H - 1)) (omega (arith, h))) ∙ ap (take p) same.nodes ∙ take-take p q ns (omega (arith, h)) in
        let calls : (j : ℕ) (x : Node) → slice_get (take p ns) j ≡ Some x → CallsBelow start (x.label ∷ []) = λ j x e. call-below g k start j x there-is (get-take p ns j x e).1 in
        let values : (r : ℕ) → r < start → value_at (rules_of H) r ≡ value_at (rules_of g.rules) r = λ r b. same.values r (omega (arith, b)) in
        record {
          place = p;
          there = sym (key_in-take q (nodes_at H (length H - 1)) p h) ∙ ap (λ xs. key_in xs p) same.nodes ∙ key_in-take q ns p h ∙ m.there;
          weights = λ by.
              let w = weigh names by in
              m.weights by
              ∙ sym (tour-sums (stop_weight w H) (stop_weight w g.rules) kids_of ([] ∷ []) (take p ns) (λ j x e i. ap (sum_by w) (part-same (rules_of g.rules) (rules_of H) start values x.label i (calls j x e))) (none-behind (stop_weight w H) (stop_weight w g.rules)))
              ∙ ap (λ xs. sum_by (stop_weight w H) (tour kids_of ([] ∷ []) xs)) (sym taken);
        }

    -- a mark with less before it than the place's node
    mark-before : (first : Mark) → IsMark names g.rules first → key_at g.rules start q ≡ Some first.key → (mark : Mark) → IsMark names g.rules mark → mark.passed.all < first.passed.all → IsMark names H mark
    mark-before first f e mark m h = mark-stays mark m (below (q - m.place) refl)
      where
        at_place : f.place ≡ q
        at_place = (k.once first.key start f.place start q f.there e).1

        all-first : first.passed.all ≡ sum_by (stop_weight all_weight g.rules) (passed_to g.rules start f.place)
        all-first = f.weights measure.All

        all-mark : mark.passed.all ≡ sum_by (stop_weight all_weight g.rules) (passed_to g.rules start m.place)
        all-mark = m.weights measure.All

        below : (d : ℕ) → q - m.place ≡ d → m.place < q
        below (suc d) z = omega (arith, z)
        below zero z = absurd (omega (arith, h, all-first, all-mark, passed-more f.place m.place (omega (arith, z, at_place))))

    -- the marks that have less before them than the place's node
    pub marks-stay : (first : Mark) → IsMark names g.rules first → key_at g.rules start q ≡ Some first.key → (ms : List Mark) → All (IsMark names g.rules) ms → All (λ mark. mark.passed.all < first.passed.all) ms → All (IsMark names H) ms
    marks-stay first f e ms a b = λ i d h. mark-before first f e (get_or ms i d) (a i d h) (b i d h)
