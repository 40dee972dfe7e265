-- The first rule calls none, so that its stops behind children stand for nothing.
use Rattle.std.proofs.Common.{◌≡◌, ℕ, zero, suc, ◌<◌, ◌≤◌, List, [], ◌∷◌, ◌++◌, length, drop, refl, ap, sym, ◌∙◌, arith, subst, Bool, true, false, Some, append_assoc, length-append}
use Rattle.std.proofs.lemmas.Option.{get_or_from_slice_get, slice_get_within}
use Rattle.rule_arena.specs.Terms.{Node}
use Rattle.rule_arena.specs.declared.label.Label.{Label}
use Rattle.rule_arena.specs.declared.label.Label.TheVariants.{Bottom, Symbol, Call, Param}
use Rattle.slt_grammar.specs.Algebras.{ranks_of}
use Rattle.slt_grammar.specs.Bodies.{CallsBelow, arity}
use Rattle.slt_grammar.specs.Keyed.{Keyed, IsKeyed, nodes_at, rules_of}
use Rattle.slt_grammar.specs.Segments.{part_of, segment}
use Rattle.slt_grammar.specs.Tours.{Stop}
use Rattle.slt_grammar.specs.TourWalks.{AreBehindChildren, IsBehindChild, StandsBefore, StandsBehindSkipped}
use Rattle.slt_grammar.specs.declared.rules.Rule.{Rule}
use Rattle.slt_grammar.specs.declared.tour_walk.TourWalk.{TourWalk}
use Rattle.slt_grammar.proofs.StopLemmas.{call-below}
use Rattle.preorder_address.specs.declared.descent.RuleStop.{RuleStop}
use Rattle.value_cursor.specs.Cursors.{left_at}
use Rattle.value_cursor.specs.Stops.{AreStops, IsAtStop, behind, segment_left, stops_of}
use Rattle.value_cursor.specs.Work.{work_at}
use Rattle.value_cursor.proofs.CallLemmas.{stops-front, stops-last, stops-snoc}
use Rattle.value_cursor.proofs.Leaving.{last-at, last-below}
use Rattle.value_cursor.proofs.StopSteps.{Split, at, at-stop, labels_at, rest-is, stops-fewer}
use Rattle.value_cursor.proofs.Working.{work-fewer}

nothing-later : (G : List Rule) (ranks : List ℕ) (l : Label) (i : ℕ) → CallsBelow 0 (l ∷ []) → 0 < i → i ≤ arity ranks l → part_of G l i ≡ []
nothing-later G ranks l zero c h b = absurd (omega (arith, h))
nothing-later G ranks Bottom (suc i) c h b = refl
nothing-later G ranks (Symbol f) (suc i) c h b = refl
nothing-later G ranks (Call q) (suc i) c h b = absurd (omega (arith, c.0))
nothing-later G ranks Param (suc i) c h b = absurd (omega (arith, b))

module _ (g : Keyed) (k : IsKeyed g) (r : ℕ) (first : r ≡ 0) (h : r < length g.rules) where
  nothing-behind : (m : Stop Node) → IsBehindChild g.rules r m → part_of (rules_of g.rules) m.item.label m.part ≡ []
  nothing-behind m b =
      let ranks = ranks_of (rules_of g.rules) in
      let nodes = nodes_at g.rules r in
      let c : CallsBelow 0 (m.item.label ∷ []) = subst (λ (n : ℕ). CallsBelow n (m.item.label ∷ [])) first (call-below g k r b.place m.item h b.there) in
      let a : m.item.kids ≡ arity ranks m.item.label =
      subst (λ (y : Node). y.kids ≡ arity ranks y.label) (get_or_from_slice_get nodes b.place m.item m.item b.there) (k.arities r b.place m.item (slice_get_within nodes b.place m.item b.there)) in
      nothing-later (rules_of g.rules) ranks m.item.label m.part c b.later (omega (arith, b.within, a))

  skipped-labels : (skipped rest : List (Stop Node)) → AreBehindChildren g.rules r skipped → labels_at g.rules (skipped ++ rest) ≡ labels_at g.rules rest
  skipped-labels [] rest b = refl
  skipped-labels (m ∷ ms) rest b = ap (λ ls. ls ++ labels_at g.rules (ms ++ rest)) (nothing-behind m b.0) ∙ skipped-labels ms rest b.1

-- the last of some stops is one of the first rule
module _ (g : Keyed) (k : IsKeyed g) (calls : List RuleStop) (s : RuleStop) (a : AreStops g.rules (length g.rules) (calls ++ s ∷ [])) (first : s.rule ≡ 0) (walk : TourWalk) where
  below : s.rule < length g.rules
  below = last-below g k calls s a

  stands : IsAtStop g.rules s
  stands = last-at g k calls s a

  abbrev here : Split g s
  here = at g k s below stands

  skipped-left : (found : Bool) (w : StandsBehindSkipped found g.rules s.rule walk here.rest) → segment_left g.rules (drop 1 (stops_of g.rules s)) ≡ segment_left g.rules w.rest
  skipped-left found w =
      ap (segment_left g.rules) (rest-is g k s below stands ∙ w.split) ∙ ap (segment 0) (skipped-labels g k s.rule first below w.skipped w.rest w.are_behind)

  -- the walk skipped stops behind children
  module _ (n : (r : ℕ) (here : Stop Node) (left : List (Stop Node)) → StandsBefore g.rules r s.walk (here ∷ left) → StandsBehindSkipped true g.rules r walk left) where
    abbrev went : StandsBehindSkipped true g.rules s.rule walk here.rest
    went = n s.rule here.here here.rest here.stands

    abbrev moved : RuleStop
    moved = record { rule = s.rule; walk = walk }

    next : (stops_of g.rules moved ≡ went.rest) × IsAtStop g.rules moved
    next =
        at-stop g k moved below (here.passed ++ here.here ∷ went.skipped) went.rest
        (here.split ∙ ap (λ ms. here.passed ++ here.here ∷ ms) went.split ∙ sym (append_assoc here.passed (here.here ∷ went.skipped) went.rest)) went.stands

    pub skips-left : left_at g.rules (Some moved) calls ≡ segment_left g.rules (drop 1 (stops_of g.rules s)) ++ behind g.rules calls []
    skips-left = ap (λ ls. ls ++ behind g.rules calls []) (ap (segment_left g.rules) next.0 ∙ sym (skipped-left true went))

    pub skips-stops : AreStops g.rules (length g.rules) (calls ++ moved ∷ [])
    skips-stops =
        stops-snoc g.rules (length g.rules) calls moved (stops-front g.rules (length g.rules) calls s a) (stops-last g.rules (length g.rules) calls s a).0 next.1

    pub skips-work : work_at g.rules (Some moved) calls < work_at g.rules (Some s) calls
    skips-work =
        let fewer : length (stops_of g.rules moved) < length (stops_of g.rules s) =
        omega (arith, ap length next.0, ap length went.split, length-append went.skipped went.rest, ap length (rest-is g k s below stands), stops-fewer g k s below stands) in
        omega (arith, work-fewer g.rules s (length (stops_of g.rules moved)) (length (stops_of g.rules s)) fewer)

  -- there was no node any more
  module _ (n : (r : ℕ) (here : Stop Node) (left : List (Stop Node)) → StandsBefore g.rules r s.walk (here ∷ left) → StandsBehindSkipped false g.rules r walk left) where
    pub skips-none : segment_left g.rules (drop 1 (stops_of g.rules s)) ≡ []
    skips-none =
        let w = n s.rule here.here here.rest here.stands in
        skipped-left false w ∙ ap (segment_left g.rules) w.stands
