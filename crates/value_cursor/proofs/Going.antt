-- Going from a call into the rule that it calls.
use Rattle.std.proofs.Common.{◌≡◌, ℕ, zero, suc, ◌+◌, ◌-◌, ◌<◌, List, [], ◌∷◌, ◌++◌, length, drop, ap, sym, ◌∙◌, arith, subst, Some, append_assoc}
use Rattle.std.specs.Prelude.{slice_get}
use Rattle.rule_arena.specs.Terms.{Node}
use Rattle.rule_arena.specs.declared.label.Label.{Label}
use Rattle.rule_arena.specs.declared.label.Label.TheVariants.{Call}
use Rattle.slt_grammar.specs.Bodies.{CallsBelow}
use Rattle.slt_grammar.specs.Keyed.{Keyed, KeyedRule, IsKeyed, key_at, nodes_at, rules_of}
use Rattle.slt_grammar.specs.Segments.{preorder, segment}
use Rattle.slt_grammar.proofs.StopLemmas.{calls-here}
use Rattle.preorder_address.specs.declared.descent.RuleStop.{RuleStop}
use Rattle.value_cursor.specs.Cursors.{left_at}
use Rattle.value_cursor.specs.Stops.{AreStops, IsAtStop, behind, segment_left, stops_of}
use Rattle.value_cursor.specs.Work.{work_at, work_in}
use Rattle.value_cursor.proofs.CallLemmas.{behind-snoc, lowest-snoc, stops-few, stops-front, stops-last, stops-snoc}
use Rattle.value_cursor.proofs.Leaving.{last-at, last-below, last-node, node-label, node-once}
use Rattle.value_cursor.proofs.StopSteps.{at, left-call, stops-fewer}
use Rattle.value_cursor.proofs.Working.{work-below, work_behind-snoc}

work_in-suc : (G : List KeyedRule) (s : RuleStop) (n : ℕ) → 0 < n → work_in G s n ≡ work_in G s 1 + work_in G s (n - 1)
work_in-suc G s zero h = absurd (omega arith)
work_in-suc G s (suc n) h = let e : suc n - 1 ≡ n = omega arith in omega (arith, ap (work_in G s) e)

module _ (g : Keyed) (k : IsKeyed g) (calls : List RuleStop) (s : RuleStop) (a : AreStops g.rules (length g.rules) (calls ++ s ∷ [])) where
  -- there is room for one call more where there is room for one of each rule
  pub calls-few : length calls < length g.rules
  calls-few =
      omega (arith, (stops-last g.rules (length g.rules) calls s a).0, stops-few g.rules (length g.rules) calls (stops-front g.rules (length g.rules) calls s a))

  module _ (q : ℕ) (node : (r p : ℕ) → key_at g.rules r p ≡ Some s.walk.key → (n : ℕ) × (slice_get (nodes_at g.rules r) p ≡ Some (record { key = s.walk.key; label = (Call q); kids = n }))) where
    abbrev x : Node
    x = last-node g k calls s a

    item : (r p : ℕ) → key_at g.rules r p ≡ Some s.walk.key → slice_get (nodes_at g.rules r) p ≡ Some x
    item = node-once g k calls s a

    call : x.label ≡ Call q
    call = node-label g k calls s a (Call q) node

    pub call-below : q < s.rule
    call-below =
        let h = last-below g k calls s a in
        let t = at g k s h (last-at g k calls s a) in
        let c : CallsBelow s.rule (x.label ∷ []) = calls-here g k s.rule h s.walk t.here t.rest t.stands x item in
        (subst (λ (l : Label). CallsBelow s.rule (l ∷ [])) call c).0

    call-left : segment_left g.rules (stops_of g.rules s) ≡ segment s.walk.part (preorder (rules_of g.rules) q) ++ segment_left g.rules (drop 1 (stops_of g.rules s))
    call-left = left-call g k s (last-below g k calls s a) (last-at g k calls s a) x item q call

    -- the segment was told otherwise
    pub again-left : (told rest : List Label) → told ≡ segment s.walk.part (preorder (rules_of g.rules) q) → rest ≡ segment_left g.rules (drop 1 (stops_of g.rules s)) ++ behind g.rules calls []
        → told ++ rest ≡ left_at g.rules (Some s) calls
    again-left told rest e f =
        let first = segment s.walk.part (preorder (rules_of g.rules) q) in
        ap (λ ls. ls ++ rest) e ∙ ap (λ ls. first ++ ls) f ∙ sym (append_assoc first (segment_left g.rules (drop 1 (stops_of g.rules s))) (behind g.rules calls []))
        ∙ ap (λ ls. ls ++ behind g.rules calls []) (sym call-left)

    -- nothing is left of a segment without labels
    pub passed-left : segment s.walk.part (preorder (rules_of g.rules) q) ≡ [] → left_at g.rules (Some s) calls ≡ segment_left g.rules (drop 1 (stops_of g.rules s)) ++ behind g.rules calls []
    passed-left e =
        ap (λ ls. ls ++ behind g.rules calls []) (call-left ∙ ap (λ ls. ls ++ segment_left g.rules (drop 1 (stops_of g.rules s))) e)

    module _ (first : RuleStop) (rule : first.rule ≡ q) (stands : IsAtStop g.rules first) (left : segment_left g.rules (stops_of g.rules first) ≡ segment s.walk.part (preorder (rules_of g.rules) q)) where
      pub entered-stops : AreStops g.rules (length g.rules) ((calls ++ s ∷ []) ++ first ∷ [])
      entered-stops = stops-snoc g.rules (length g.rules) (calls ++ s ∷ []) first a (omega (arith, rule, call-below, lowest-snoc (length g.rules) calls s)) stands

      pub entered-left : left_at g.rules (Some first) (calls ++ s ∷ []) ≡ left_at g.rules (Some s) calls
      entered-left =
          let later = segment_left g.rules (drop 1 (stops_of g.rules s)) in
          ap (λ ls. segment_left g.rules (stops_of g.rules first) ++ ls) (behind-snoc g.rules calls s [])
          ∙ sym (append_assoc (segment_left g.rules (stops_of g.rules first)) later (behind g.rules calls []))
          ∙ ap (λ ls. (ls ++ later) ++ behind g.rules calls []) left
          ∙ ap (λ ls. ls ++ behind g.rules calls []) (sym call-left)

      pub entered-work : work_at g.rules (Some first) (calls ++ s ∷ []) < work_at g.rules (Some s) calls
      entered-work =
          let h = last-below g k calls s a in
          let below : first.rule < s.rule = omega (arith, rule, call-below) in
          let w = work-below g k s first below (omega (arith, below, h)) stands in
          let n : 0 < length (stops_of g.rules s) = omega (arith, stops-fewer g k s h (last-at g k calls s a)) in
          omega (arith, w, work_behind-snoc g.rules calls s, work_in-suc g.rules s (length (stops_of g.rules s)) n)
