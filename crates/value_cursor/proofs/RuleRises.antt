-- The rises along a rule's tour, and those of all rules.
use Rattle.std.proofs.Common.{◌≡◌, ℕ, zero, suc, ◌+◌, ◌-◌, ◌*◌, ◌^◌, ◌<◌, ◌≤◌, List, [], ◌∷◌, ◌++◌, length, get_or, refl, arith, sum_by, subst, Some, ◌⊎◌, inl, inr}
use Rattle.std.specs.Prelude.{slice_get}
use Rattle.std.proofs.lemmas.Bool.{cases_lt}
use Rattle.rule_arena.specs.Terms.{Node}
use Rattle.rule_arena.specs.declared.label.Label.{Label}
use Rattle.slt_grammar.specs.Bodies.{params, CallsBelow}
use Rattle.slt_grammar.specs.Grammars.{IsGrammar, value}
use Rattle.slt_grammar.specs.Keyed.{key_at, Keyed, KeyedRule, IsKeyed, rules_of, nodes_at}
use Rattle.slt_grammar.specs.Segments.{listed, preorder, part_of, node_tour, segment}
use Rattle.slt_grammar.specs.Tours.{Stop}
use Rattle.slt_grammar.specs.TourWalks.{StandsBefore}
use Rattle.slt_grammar.specs.declared.rules.Rule.{Rule}
use Rattle.slt_grammar.specs.declared.tour_walk.TourWalk.{TourWalk}
use Rattle.slt_grammar.proofs.KeyedLemmas.{length-rules_of}
use Rattle.slt_grammar.proofs.StopLemmas.{stop-is, calls-here}
use Rattle.slt_grammar.proofs.TourLemmas.{spread_nodes, preorder-nodes, params-preorder}
use Rattle.segment_counts.specs.Counting.{CountTable}
use Rattle.segment_counts.specs.Weights.{all_weight}
use Rattle.segment_counts.specs.declared.counts.Measure.TheVariants.{Nodes, All}
use Rattle.segment_counts.proofs.Telling.{segment-whole}
use Rattle.preorder_address.specs.Numberings.{AreCountsOf}
use Rattle.value_cursor.specs.Rises.{AreRises, IsOf, IsRise, Passes, opens, risen}
use Rattle.value_cursor.specs.declared.rises.Passed.{Passed}
use Rattle.value_cursor.specs.declared.rises.Rising.{Rising}
use Rattle.value_cursor.proofs.RiseLemmas.{IsRising, closed-few, opened-few, opens-closes, place-few, rise-few, rising-end, rising-start, rising-step}

-- a walk along the tour of a rule, with the rises so far
pub record RisesAlong (G : List KeyedRule) (r : ℕ) (walk : TourWalk) (s : Rising) (first steps : ℕ) : Type 0 where
  pub here : Stop Node
  pub left : List (Stop Node)
  pub stands : StandsBefore G r walk (here ∷ left)
  pub rising : IsRising (preorder (rules_of G) r) (part_of (rules_of G) here.item.label here.part ++ spread_nodes (rules_of G) left) s
  pub few : steps + 2 * length left + 2 ≤ first + 2 * length (node_tour G r)

module _ (g : Keyed) (k : IsKeyed g) (r : ℕ) (h : r < length g.rules) where
  abbrev H : List Rule
  H = rules_of g.rules

  along : (walk : TourWalk) (s : Rising) (first steps : ℕ) (ms : List (Stop Node)) → StandsBefore g.rules r walk ms → IsRising (preorder H r) (spread_nodes H ms) s
      → steps + 2 * length ms ≤ first + 2 * length (node_tour g.rules r) → RisesAlong g.rules r walk s first steps
  along walk s first steps [] b i f = let l = b.are_left in absurd (cc)
  along walk s first steps (here ∷ left) b i f = record { here = here; left = left; stands = b; rising = i; few = omega arith }

  pub along-start : (walk : TourWalk) (s : Rising) (steps : ℕ) → StandsBefore g.rules r walk (node_tour g.rules r) → ((i : ℕ) → get_or s.most i 0 ≡ 0) → length s.most ≡ 9 → s.at ≡ 0 → s.opened ≡ 0 → s.closed ≡ 0
      → RisesAlong g.rules r walk s steps steps
  along-start walk s steps b z n a o c =
      along walk s steps steps (node_tour g.rules r) b
      (subst (λ (ls : List Label). IsRising (preorder H r) ls s) (preorder-nodes g k r h) (rising-start (preorder H r) s z n a o c)) (omega arith)

  within : r < length H
  within = omega (arith, length-rules_of g.rules, h)

  few-params : params (preorder H r) ≤ 8
  few-params = omega (arith, params-preorder H r k.grammar within, (k.grammar.each r within).shaped.small)

  -- a turn of the loop: the node's item and what its part stands for are known
  module _ (C : CountTable) (counts : AreCountsOf H C) (rows : List (List ℕ)) (rises : AreRises r H rows) (walk : TourWalk) (s : Rising) (first steps : ℕ) (i : RisesAlong g.rules r walk s first steps)
      (x : Node) (item : (r p : ℕ) → key_at g.rules r p ≡ Some walk.key → slice_get (nodes_at g.rules r) p ≡ Some x)
      (p : Passed) (law : (j : ℕ) (G : List Rule) → j ≤ length G → AreCountsOf G C → AreRises j G rows → CallsBelow j (x.label ∷ []) → IsOf p (part_of G x.label walk.part)) where
    abbrev labels : List Label
    labels = part_of H x.label walk.part

    is : IsOf p labels
    is = law r H (omega (arith, within)) counts rises (calls-here g k r h walk i.here i.left i.stands x item)

    rising-here : IsRising (preorder H r) (labels ++ spread_nodes H i.left) s
    rising-here =
        subst (λ (m : Stop Node). IsRising (preorder H r) (part_of H m.item.label m.part ++ spread_nodes H i.left) s) (stop-is g k r h walk i.here i.left i.stands x item) i.rising

    pub place-here : s.at < 9
    place-here = place-few (preorder H r) (spread_nodes H i.left) few-params labels s rising-here

    pub opened-here : s.opened + p.opened < 2 ^ 64
    opened-here =
        let all : opens (preorder H r) < 2 ^ 64 = counts.1.numbers.small Nodes r within in
        omega (arith, all, is.opened, opened-few (preorder H r) (spread_nodes H i.left) few-params labels s rising-here)

    pub rise-here : s.opened + p.rise < 2 ^ 64
    rise-here = omega (arith, opened-here, is.opened, rise-few p.rise labels is.rise)

    pub closed-here : s.closed + p.closed < 2 ^ 64
    closed-here =
        let all : sum_by all_weight (preorder H r) < 2 ^ 64 = counts.1.numbers.small All r within in
        omega (arith, all, opens-closes (preorder H r), is.closed, closed-few (preorder H r) (spread_nodes H i.left) few-params labels s rising-here)

    module _ (t : Rising) (e : Passes x.label p s t) where
      next-rising : IsRising (preorder H r) (spread_nodes H i.left) t
      next-rising = rising-step (preorder H r) (spread_nodes H i.left) few-params H x.label walk.part p s t rising-here is e

      pub along-next : (next : TourWalk) (steps' : ℕ) → StandsBefore g.rules r next i.left → steps' ≤ steps + 2 → RisesAlong g.rules r next t first steps'
      along-next next steps' b f = along next t first steps' i.left b next-rising (omega (arith, f, i.few))

      pub rises-are : i.left ≡ [] → (j : ℕ) → IsRise (get_or t.most j 0) (segment j (preorder H r))
      rises-are e j = rising-end (preorder H r) t (subst (λ (ms : List (Stop Node)). IsRising (preorder H r) (spread_nodes H ms) t) e next-rising) j

row-before : (rows : List (List ℕ)) (row : List ℕ) (q : ℕ) → q < length rows → get_or (rows ++ row ∷ []) q [] ≡ get_or rows q []
row-before [] row q h = absurd (omega arith)
row-before (x ∷ rows) row zero h = refl
row-before (x ∷ rows) row (suc q) h = row-before rows row q (omega arith)

row-last : (rows : List (List ℕ)) (row : List ℕ) → get_or (rows ++ row ∷ []) (length rows) [] ≡ row
row-last [] row = refl
row-last (x ∷ rows) row = row-last rows row

-- one more row
pub rises-more : (k : ℕ) (G : List Rule) (rows : List (List ℕ)) (row : List ℕ) → length rows ≡ k → AreRises k G rows → ((i : ℕ) → IsRise (get_or row i 0) (segment i (preorder G k))) → AreRises (k + 1) G (rows ++ row ∷ [])
rises-more k G rows row n a b q i h = by_place (cases_lt q k)
  where
    by_place : (q < k) ⊎ (k ≤ q) → IsRise (risen (rows ++ row ∷ []) q i) (segment i (preorder G q))
    by_place (inl l) = rw (row-before rows row q (omega (arith, n))) (a q i l)
    by_place (inr g) =
        let e : q ≡ length rows = omega (arith, n) in
        let f : length rows ≡ k = n in
        rw (e, row-last rows row, f) (b i)

-- the rise of the whole value
pub rise-whole : (G : List Rule) → IsGrammar G → (k : ℕ) (rows : List (List ℕ)) → length G ≤ k → AreRises k G rows → (most : ℕ) → most ≡ risen rows (length G - 1) 0 → IsRise most (listed (value G) [])
rise-whole G g k rows h a most e =
    let r : ℕ = length G - 1 in
    let b : r < length G = omega (arith, g.some) in
    let z : params (preorder G r) ≡ 0 = omega (arith, params-preorder G r g b, (g.each r b).shaped.start (omega (arith, g.some))) in
    let whole : segment 0 (preorder G r) ≡ preorder G r = segment-whole (preorder G r) z in
    let rise : IsRise (risen rows r 0) (segment 0 (preorder G r)) = a r 0 (omega (arith, b, h)) in
    rw e (subst (λ (ls : List Label). IsRise (risen rows r 0) ls) whole rise)
