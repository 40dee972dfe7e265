-- Leaving a rule for the call that led there.
use Rattle.std.proofs.Common.{◌≡◌, ℕ, ◌-◌, ◌<◌, ◌≤◌, List, [], ◌∷◌, ◌++◌, length, drop, ap, sym, ◌∙◌, arith, subst, true, false, Some, length-drop}
use Rattle.std.specs.Prelude.{slice_get}
use Rattle.rule_arena.specs.Terms.{Node}
use Rattle.rule_arena.specs.declared.label.Label.{Label}
use Rattle.rule_arena.specs.declared.label.Label.TheVariants.{Call, Param}
use Rattle.slt_grammar.specs.Keyed.{Keyed, KeyedRule, IsKeyed, key_at, nodes_at}
use Rattle.slt_grammar.specs.Tours.{Stop}
use Rattle.slt_grammar.specs.TourWalks.{StandsBefore, StandsNext}
use Rattle.slt_grammar.specs.declared.tour_walk.TourWalk.{TourWalk}
use Rattle.slt_grammar.proofs.TourWalking.{node-here}
use Rattle.preorder_address.specs.declared.descent.RuleStop.{RuleStop}
use Rattle.value_cursor.specs.Cursors.{left_at}
use Rattle.value_cursor.specs.Stops.{AreStops, IsAtStop, IsSilent, behind, segment_left, stops_of}
use Rattle.value_cursor.specs.Work.{work_at, work_behind, work_in}
use Rattle.value_cursor.proofs.CallLemmas.{behind-snoc, stops-few, stops-front, stops-last, stops-snoc}
use Rattle.value_cursor.proofs.StopSteps.{at, left-param, left-silent, rest-is, stop-next, stops-fewer}
use Rattle.value_cursor.proofs.Working.{work_behind-snoc, work-fewer}

-- some calls were left, and there was no stop behind them
pub record Leaves (G : List KeyedRule) (first now : List RuleStop) : Type 0 where
  pub stops : AreStops G (length G) now
  pub left : behind G first [] ≡ behind G now []
  pub work : work_behind G now ≤ work_behind G first

-- the last of some stops, with the calls that lead there
module _ (g : Keyed) (k : IsKeyed g) (calls : List RuleStop) (s : RuleStop) (a : AreStops g.rules (length g.rules) (calls ++ s ∷ [])) where
  pub last-at : IsAtStop g.rules s
  last-at = (stops-last g.rules (length g.rules) calls s a).1

  pub last-below : s.rule < length g.rules
  last-below =
      omega (arith, (stops-last g.rules (length g.rules) calls s a).0, stops-few g.rules (length g.rules) calls (stops-front g.rules (length g.rules) calls s a))

  pub last-key : (r : ℕ) × (p : ℕ) × (key_at g.rules r p ≡ Some s.walk.key)
  last-key = (s.rule, last-at.place, node-here g.rules s.rule s.walk (stops_of g.rules s) last-at)

  -- the node at which the walk stands
  abbrev pub last-node : Node
  last-node = last-at.node

  pub node-once : (r p : ℕ) → key_at g.rules r p ≡ Some s.walk.key → slice_get (nodes_at g.rules r) p ≡ Some last-node
  node-once r p e =
      let o = k.once s.walk.key r p s.rule last-at.place e (node-here g.rules s.rule s.walk (stops_of g.rules s) last-at) in
      rw (o.0, o.1) last-at.there

  pub node-label : (l : Label) → ((r p : ℕ) → key_at g.rules r p ≡ Some s.walk.key → (n : ℕ) × (slice_get (nodes_at g.rules r) p ≡ Some (record { key = s.walk.key; label = l; kids = n }))) → last-node.label ≡ l
  node-label l h =
      let t = h s.rule last-at.place (node-here g.rules s.rule s.walk (stops_of g.rules s) last-at) in
      let same : Some last-node ≡ Some (record { key = s.walk.key; label = l; kids = t.0 }) = sym last-at.there ∙ t.1 in
      let e : last-node ≡ record { key = s.walk.key; label = l; kids = t.0 } = cc in
      ap (λ (x : Node). x.label) e

  pub last-stands : (r : ℕ) × (left : List (Stop Node)) × StandsBefore g.rules r s.walk left
  last-stands = (s.rule, stops_of g.rules s, last-at)

  abbrev moved : TourWalk → RuleStop
  moved walk = record { rule = s.rule; walk = walk }

  -- the walk went to the next stop
  module _ (walk : TourWalk) (n : (r : ℕ) (here : Stop Node) (left : List (Stop Node)) → StandsBefore g.rules r s.walk (here ∷ left) → StandsNext true g.rules r walk left) where
    next : (stops_of g.rules (moved walk) ≡ drop 1 (stops_of g.rules s)) × IsAtStop g.rules (moved walk)
    next =
        let t = at g k s last-below last-at in
        stop-next g k s last-below last-at walk (n s.rule t.here t.rest t.stands)

    pub moved-left : left_at g.rules (Some (moved walk)) calls ≡ segment_left g.rules (drop 1 (stops_of g.rules s)) ++ behind g.rules calls []
    moved-left = ap (λ ms. segment_left g.rules ms ++ behind g.rules calls []) next.0

    pub moved-stops : AreStops g.rules (length g.rules) (calls ++ moved walk ∷ [])
    moved-stops =
        stops-snoc g.rules (length g.rules) calls (moved walk) (stops-front g.rules (length g.rules) calls s a) (stops-last g.rules (length g.rules) calls s a).0 next.1

    pub moved-fewer : length (stops_of g.rules (moved walk)) < length (stops_of g.rules s)
    moved-fewer = omega (arith, ap length next.0, stops-fewer g k s last-below last-at)

    pub moved-work : work_at g.rules (Some (moved walk)) calls < work_at g.rules (Some s) calls
    moved-work = omega (arith, work-fewer g.rules s (length (stops_of g.rules (moved walk))) (length (stops_of g.rules s)) moved-fewer)

    -- from a call
    pub moved-behind : left_at g.rules (Some (moved walk)) calls ≡ behind g.rules (calls ++ s ∷ []) []
    moved-behind = moved-left ∙ sym (behind-snoc g.rules calls s [])

    pub moved-work_behind : work_at g.rules (Some (moved walk)) calls ≤ work_behind g.rules (calls ++ s ∷ [])
    moved-work_behind =
        let e : length (stops_of g.rules (moved walk)) ≡ length (stops_of g.rules s) - 1 = ap length next.0 ∙ length-drop 1 (stops_of g.rules s) in
        omega (arith, ap (work_in g.rules s) e, work_behind-snoc g.rules calls s)

  -- there was no stop any more
  module _ (walk : TourWalk) (n : (r : ℕ) (here : Stop Node) (left : List (Stop Node)) → StandsBefore g.rules r s.walk (here ∷ left) → StandsNext false g.rules r walk left) where
    pub none-left : segment_left g.rules (drop 1 (stops_of g.rules s)) ≡ []
    none-left =
        let t = at g k s last-below last-at in
        ap (segment_left g.rules) (rest-is g k s last-below last-at ∙ n s.rule t.here t.rest t.stands)

    pub none-behind : behind g.rules (calls ++ s ∷ []) [] ≡ behind g.rules calls []
    none-behind = behind-snoc g.rules calls s [] ∙ ap (λ ls. ls ++ behind g.rules calls []) none-left

  -- a stop is some work
  pub some-work : work_behind g.rules calls < work_at g.rules (Some s) calls
  some-work =
      let n = length (stops_of g.rules s) in
      let few : 0 < n = omega (arith, stops-fewer g k s last-below last-at) in
      omega (arith, work-fewer g.rules s 0 n few)

  module _ (l : Label) (node : (r p : ℕ) → key_at g.rules r p ≡ Some s.walk.key → (n : ℕ) × (slice_get (nodes_at g.rules r) p ≡ Some (record { key = s.walk.key; label = l; kids = n }))) where
    -- a parameter ends what is left of the rule
    pub left-behind : l ≡ Param → behind g.rules calls [] ≡ left_at g.rules (Some s) calls
    left-behind e = sym (ap (λ ls. ls ++ behind g.rules calls []) (left-param g k s last-below last-at last-node node-once (node-label l node ∙ e)))

    pub left-passed : IsSilent l s.walk.part → ((q : ℕ) → l ≡ Call q → ⊥) → (l ≡ Param → ⊥) → segment_left g.rules (drop 1 (stops_of g.rules s)) ++ behind g.rules calls [] ≡ left_at g.rules (Some s) calls
    left-passed h c p =
        let e = node-label l node in
        let silent = subst (λ (m : Label). IsSilent m s.walk.part) (sym e) h in
        sym (ap (λ ls. ls ++ behind g.rules calls []) (left-silent g k s last-below last-at last-node node-once silent (λ q f. c q (sym e ∙ f)) (λ f. p (sym e ∙ f))))

  pub front-work : work_behind g.rules calls ≤ work_behind g.rules (calls ++ s ∷ [])
  front-work = omega (arith, work_behind-snoc g.rules calls s)

pub leaves-more : (g : Keyed) (k : IsKeyed g) (first now later : List RuleStop) (s : RuleStop) → now ≡ later ++ s ∷ [] → Leaves g.rules first now → (walk : TourWalk)
    → ((r : ℕ) (here : Stop Node) (left : List (Stop Node)) → StandsBefore g.rules r s.walk (here ∷ left) → StandsNext false g.rules r walk left) → Leaves g.rules first later
leaves-more g k first now later s e i walk n =
    let a = subst (λ (ss : List RuleStop). AreStops g.rules (length g.rules) ss) e i.stops in
    record {
      stops = stops-front g.rules (length g.rules) later s a;
      left = i.left ∙ ap (λ (ss : List RuleStop). behind g.rules ss []) e ∙ none-behind g k later s a walk n;
      work = omega (arith, front-work g k later s a, ap (work_behind g.rules) e, i.work);
    }
