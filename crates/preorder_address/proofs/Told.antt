-- Kept numbers of stops and routes, and what they are over the grammar whose counts they are.
use Rattle.std.proofs.Common.{◌≡◌, ℕ, zero, suc, ◌<◌, List, [], ◌∷◌, ◌++◌, length, refl, ◌∙◌, arith, sum_by, subst}
use Rattle.std.proofs.lemmas.List.Sums.{sum_by-cons}
use Rattle.rule_arena.specs.Terms.{Node, kids_of}
use Rattle.rule_arena.specs.declared.label.Label.{Label}
use Rattle.rule_arena.specs.declared.label.Label.TheVariants.{Bottom, Symbol, Call, Param}
use Rattle.slt_grammar.specs.Bodies.{CallsBelow}
use Rattle.slt_grammar.specs.Keyed.{Keyed, IsKeyed, rules_of, nodes_at}
use Rattle.slt_grammar.specs.Segments.{part_of, preorder, node_tour}
use Rattle.slt_grammar.specs.Tours.{Stop}
use Rattle.slt_grammar.specs.declared.rules.Rule.{Rule}
use Rattle.slt_grammar.specs.declared.tour_walk.TourWalk.{TourWalk}
use Rattle.slt_grammar.proofs.CallCounts.{below-more}
use Rattle.slt_grammar.proofs.KeyedLemmas.{body_at-rules_of, length-rules_of}
use Rattle.segment_counts.specs.Counting.{CountTable}
use Rattle.preorder_address.specs.Numberings.{AreCountsOf, weigh_by}
use Rattle.preorder_address.specs.Routes.{stop_weight}
use Rattle.preorder_address.specs.Stops.{FallsAt, FallsBy}
use Rattle.preorder_address.specs.Told.{told_part, told_weight}
use Rattle.preorder_address.specs.declared.numbering.Numbering.{Numbering}
use Rattle.preorder_address.specs.declared.numbering.Numbering.TheVariants.{Nodes, All}
use Rattle.preorder_address.proofs.Routing.{Each, calls-each, each-tour}
use Rattle.preorder_address.proofs.Weighing.{told-each, weight-tour}

part-told : (G : List Rule) (C : CountTable) → AreCountsOf G C → (by : Numbering) (l : Label) (i : ℕ) → CallsBelow (length G) (l ∷ []) → told_part by C l i ≡ sum_by (weigh_by by) (part_of G l i)
part-told G C a by (Call q) i c = told-each G C a by q i c.0
part-told G C a Nodes (Symbol f) zero c = refl
part-told G C a All (Symbol f) zero c = refl
part-told G C a by (Symbol f) (suc i) c = refl
part-told G C a Nodes Bottom zero c = refl
part-told G C a All Bottom zero c = refl
part-told G C a by Bottom (suc i) c = refl
part-told G C a Nodes Param i c = refl
part-told G C a All Param i c = refl

each-mapped : {X : Type 0} (P Q : X → Type 0) → ((x : X) → P x → Q x) → (xs : List X) → Each P xs → Each Q xs
each-mapped P Q f [] e = tt
each-mapped P Q f (x ∷ xs) e = (f x e.0, each-mapped P Q f xs e.1)

each-front : {X : Type 0} (P : X → Type 0) (xs ys : List X) → Each P (xs ++ ys) → Each P xs
each-front P [] ys e = tt
each-front P (x ∷ xs) ys e = (e.0, each-front P xs ys e.1)

pub each-next : {X : Type 0} (P : X → Type 0) (xs : List X) (y : X) (ys : List X) → Each P (xs ++ y ∷ ys) → P y
each-next P [] y ys e = e.0
each-next P (x ∷ xs) y ys e = each-next P xs y ys e.1

sums-same : (W V : Stop Node → ℕ) (ms : List (Stop Node)) → Each (λ m. W m ≡ V m) ms → sum_by W ms ≡ sum_by V ms
sums-same W V [] e = refl
sums-same W V (m ∷ ms) e = omega (arith, sum_by-cons W m ms, sum_by-cons V m ms, e.0, sums-same W V ms e.1)

module _ (g : Keyed) (K : IsKeyed g) (C : CountTable) (a : AreCountsOf (rules_of g.rules) C) (by : Numbering) (r : ℕ) (h : r < length g.rules) where
  -- the stops of a rule weigh what is kept
  pub tour-same : Each (λ m. told_weight by C m ≡ stop_weight (weigh_by by) g.rules m) (node_tour g.rules r)
  tour-same =
      let H = rules_of g.rules in
      let n = length-rules_of g.rules in
      let l = (K.grammar.each r (omega (arith, h, n))).earlier in
      let c = calls-each r (nodes_at g.rules r) (subst (λ (ls : List Label). CallsBelow r ls) (body_at-rules_of g.rules r) l) in
      let P = λ (x : Node). (i : ℕ) → told_part by C x.label i ≡ sum_by (weigh_by by) (part_of H x.label i) in
      let e = each-mapped (λ x. CallsBelow r (x.label ∷ [])) P (λ x k i. part-told H C a by x.label i (below-more r (length H) (x.label ∷ []) (omega (arith, h, n)) k)) (nodes_at g.rules r) c in
      each-mapped (λ m. P m.item) (λ m. told_weight by C m ≡ stop_weight (weigh_by by) g.rules m) (λ m k. k m.part) (node_tour g.rules r) (each-tour P kids_of ([] ∷ []) (nodes_at g.rules r) e (tt, tt))

  pub told-sum : sum_by (told_weight by C) (node_tour g.rules r) ≡ sum_by (weigh_by by) (preorder (rules_of g.rules) r)
  told-sum = sums-same (told_weight by C) (stop_weight (weigh_by by) g.rules) (node_tour g.rules r) tour-same ∙ weight-tour (weigh_by by) g K r h

  -- a number falls where it does by kept numbers
  pub told-falls : (n : ℕ) (walk : TourWalk) (here : Stop Node) (offset : ℕ) → FallsBy (told_weight by C) g.rules r n walk here offset → FallsAt (weigh_by by) g.rules r n walk here offset
  told-falls n walk here offset f =
      let e = subst (λ (ms : List (Stop Node)). Each (λ m. told_weight by C m ≡ stop_weight (weigh_by by) g.rules m) ms) f.split tour-same in
      record {
        passed = f.passed;
        rest = f.rest;
        split = f.split;
        stands = f.stands;
        number = omega (arith, f.number, sums-same (told_weight by C) (stop_weight (weigh_by by) g.rules) f.passed (each-front (λ m. told_weight by C m ≡ stop_weight (weigh_by by) g.rules m) f.passed (here ∷ f.rest) e));
        inside = omega (arith, f.inside, each-next (λ m. told_weight by C m ≡ stop_weight (weigh_by by) g.rules m) f.passed here f.rest e);
      }
