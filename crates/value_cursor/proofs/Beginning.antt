-- Going down to a node.
use Rattle.std.proofs.Common.{◌≡◌, ℕ, zero, suc, ◌+◌, ◌-◌, ◌^◌, ◌<◌, ◌≤◌, List, [], ◌∷◌, ◌++◌, length, drop, sum_by, refl, ap, sym, ◌∙◌, arith, subst, Option, None, Some, append_assoc, append-nil}
use Rattle.std.specs.Prelude.{vec_capacity}
use Rattle.std.specs.Option.{option_to_list}
use Rattle.std.proofs.lemmas.List.Sums.{sum_by-cons, sum_by-append}
use Rattle.rule_arena.specs.Terms.{Node}
use Rattle.rule_arena.specs.declared.label.Label.{Label}
use Rattle.rule_arena.specs.declared.label.Label.TheVariants.{Bottom, Symbol, Call, Param}
use Rattle.slt_grammar.specs.Bodies.{CallsBelow, params}
use Rattle.slt_grammar.specs.Grammars.{value}
use Rattle.slt_grammar.specs.Keyed.{Keyed, KeyedRule, IsKeyed, rules_of}
use Rattle.slt_grammar.specs.Segments.{listed, node_tour, part_of, preorder, segment}
use Rattle.slt_grammar.specs.Tours.{Stop}
use Rattle.slt_grammar.proofs.KeyedLemmas.{length-rules_of}
use Rattle.slt_grammar.proofs.Spreads.{IsPlain}
use Rattle.slt_grammar.proofs.TourLemmas.{params-preorder, params-segment, segment-first}
use Rattle.segment_counts.specs.Counting.{CountTable}
use Rattle.segment_counts.specs.Weights.{count_before, node_weight, segments_sum}
use Rattle.segment_counts.proofs.Numbers.{segment-later, segment-now, segments_sum-later, segments_sum-param}
use Rattle.preorder_address.specs.Descents.{IsInside, descent_to}
use Rattle.preorder_address.specs.Numberings.{AreCountsOf, weigh_by}
use Rattle.preorder_address.specs.Routes.{stop_weight}
use Rattle.preorder_address.specs.Stops.{FallsAt, FallsInto, GoesThrough, wanted_below}
use Rattle.preorder_address.specs.declared.descent.Descent.{Descent}
use Rattle.preorder_address.specs.declared.descent.RuleStop.{RuleStop}
use Rattle.preorder_address.specs.declared.descent.Wanted.{Wanted}
use Rattle.preorder_address.specs.declared.numbering.Numbering.{Numbering}
use Rattle.preorder_address.specs.declared.numbering.Numbering.TheVariants.{Nodes}
use Rattle.value_cursor.specs.Cursors.{BeginsAtNode, IsInside as InsideCursor, left_at, left_of}
use Rattle.value_cursor.specs.Kept.{AreKept, again_of, labels_of}
use Rattle.value_cursor.specs.Stops.{AreStops, IsAtStop, behind, segment_left, stops_of}
use Rattle.value_cursor.specs.declared.cursor.Cursor.{Cursor}
use Rattle.value_cursor.proofs.CallLemmas.{behind-snoc, lowest, lowest-snoc, stops-few, stops-snoc}
use Rattle.value_cursor.proofs.SegmentStarts.{preorder-labels}
use Rattle.value_cursor.proofs.StopSteps.{at-stop, labels_at}

-- the labels begin with a symbol
abbrev pub IsOpening : List Label → Type 0
IsOpening [] = ⊥
IsOpening (Bottom ∷ ls) = ⊥
IsOpening (Symbol f ∷ ls) = Unit {0}
IsOpening (Call q ∷ ls) = ⊥
IsOpening (Param ∷ ls) = ⊥

opening-head : (l : Label) (ls : List Label) → IsOpening (l ∷ ls) → node_weight l ≡ 1
opening-head Bottom ls o = absurd o
opening-head (Symbol f) ls o = refl
opening-head (Call q) ls o = absurd o
opening-head Param ls o = absurd o

opening-segment : (ls : List Label) → IsOpening ls → IsOpening (segment 0 ls)
opening-segment [] o = absurd o
opening-segment (Bottom ∷ ls) o = absurd o
opening-segment (Symbol f ∷ ls) o = tt
opening-segment (Call q ∷ ls) o = absurd o
opening-segment (Param ∷ ls) o = absurd o

opening-append : (xs ys : List Label) → IsOpening xs → IsOpening (xs ++ ys)
opening-append [] ys o = absurd o
opening-append (Bottom ∷ xs) ys o = absurd o
opening-append (Symbol f ∷ xs) ys o = tt
opening-append (Call q ∷ xs) ys o = absurd o
opening-append (Param ∷ xs) ys o = absurd o

pub opening-is : (ls : List Label) → IsOpening ls → (f : ℕ) × (after : List Label) × (ls ≡ Symbol f ∷ after)
opening-is [] o = absurd o
opening-is (Bottom ∷ ls) o = absurd o
opening-is (Symbol f ∷ ls) o = (f, ls, refl)
opening-is (Call q ∷ ls) o = absurd o
opening-is (Param ∷ ls) o = absurd o

-- where a number falls into a segment of labels, with the labels that are left from there on
pub record InSegment (T left : List Label) (i o : ℕ) : Type 0 where
  pub front : List Label
  pub split : segment i T ≡ front ++ segment 0 left
  pub number : sum_by node_weight front ≡ o

in-plain : (l : Label) → IsPlain l → (T before left : List Label) (i o : ℕ) → l ∷ T ≡ before ++ left → IsOpening left → sum_by node_weight before ≡ segments_sum node_weight (l ∷ T) 0 i + o → o < sum_by node_weight (segment i (l ∷ T))
    → ((b : List Label) (j k : ℕ) → T ≡ b ++ left → sum_by node_weight b ≡ segments_sum node_weight T 0 j + k → k < sum_by node_weight (segment j T) → InSegment T left j k) → InSegment (l ∷ T) left i o
in-plain l p T [] left zero o e a n h ih = record { front = []; split = ap (segment 0) e; number = omega arith }
in-plain l p T [] left (suc i) o e a n h ih =
    let one = opening-head l T (subst IsOpening (sym e) a) in
    absurd (omega (arith, n, one, sum_by-cons node_weight l (segment 0 T), ap (sum_by node_weight) (segment-now node_weight l p T)))
in-plain l p T (b ∷ before) left zero o e a n h ih =
    let s : l ≡ b = cc in
    let t : T ≡ before ++ left = cc in
    let u = ih before 0 (sum_by node_weight before) t (omega arith) (omega (arith, sum_by-cons node_weight l (segment 0 T), sum_by-cons node_weight b before, n, h, ap node_weight s, ap (sum_by node_weight) (segment-now node_weight l p T))) in
    let w : segment 0 (l ∷ T) ≡ l ∷ (u.front ++ segment 0 left) = segment-now node_weight l p T ∙ ap (λ x. l ∷ x) u.split in
    record { front = l ∷ u.front; split = w; number = omega (arith, sum_by-cons node_weight b before, sum_by-cons node_weight l u.front, n, u.number, ap node_weight s) }
in-plain l p T (b ∷ before) left (suc i) o e a n h ih =
    let s : l ≡ b = cc in
    let t : T ≡ before ++ left = cc in
    let q : o < sum_by node_weight (segment (suc i) T) = omega (arith, h, ap (sum_by node_weight) (segment-later node_weight l p T i)) in
    let u = ih before (suc i) o t (omega (arith, sum_by-cons node_weight l (segment 0 T), sum_by-cons node_weight b before, n, ap node_weight s, ap (sum_by node_weight) (segment-now node_weight l p T), segments_sum-later node_weight l p T 0 i)) q in
    record { front = u.front; split = segment-later node_weight l p T i ∙ u.split; number = u.number }

pub in-segment : (T before left : List Label) (i o : ℕ) → T ≡ before ++ left → IsOpening left → sum_by node_weight before ≡ segments_sum node_weight T 0 i + o → o < sum_by node_weight (segment i T) → InSegment T left i o
in-segment [] before left i o e a n h = absurd (omega arith)
in-segment (Param ∷ T) before left zero o e a n h = absurd (omega arith)
in-segment (Param ∷ T) [] left (suc i) o e a n h = absurd (subst IsOpening (sym e) a)
in-segment (Param ∷ T) (b ∷ before) left (suc i) o e a n h =
    let s : Param ≡ b = cc in
    let t : T ≡ before ++ left = cc in
    let u = in-segment T before left i o t a (omega (arith, sum_by-cons node_weight b before, n, ap node_weight s, segments_sum-param node_weight T 0 i)) h in
    record { front = u.front; split = u.split; number = u.number }
in-segment (Bottom ∷ T) before left i o e a n h = in-plain Bottom tt T before left i o e a n h (λ b j k u v. in-segment T b left j k u a v)
in-segment (Symbol f ∷ T) before left i o e a n h = in-plain (Symbol f) tt T before left i o e a n h (λ b j k u v. in-segment T b left j k u a v)
in-segment (Call q ∷ T) before left i o e a n h = in-plain (Call q) tt T before left i o e a n h (λ b j k u v. in-segment T b left j k u a v)

segment-whole : (ls : List Label) → params ls ≡ 0 → segment 0 ls ≡ ls
segment-whole ls e = ap (segment 0) (sym (append-nil ls)) ∙ segment-first ls [] e ∙ append-nil ls

params-append : (xs ys : List Label) → params (xs ++ ys) ≡ params xs + params ys
params-append [] ys = omega arith
params-append (Param ∷ xs) ys = omega (arith, params-append xs ys)
params-append (Bottom ∷ xs) ys = params-append xs ys
params-append (Symbol f ∷ xs) ys = params-append xs ys
params-append (Call q ∷ xs) ys = params-append xs ys

labels_at-append : (G : List KeyedRule) (ms ns : List (Stop Node)) → labels_at G (ms ++ ns) ≡ labels_at G ms ++ labels_at G ns
labels_at-append G [] ns = refl
labels_at-append G (m ∷ ms) ns = ap (λ ls. part_of (rules_of G) m.item.label m.part ++ ls) (labels_at-append G ms ns) ∙ sym (append_assoc (part_of (rules_of G) m.item.label m.part) (labels_at G ms) (labels_at G ns))

labels_at-weight : (G : List KeyedRule) (ms : List (Stop Node)) → sum_by node_weight (labels_at G ms) ≡ sum_by (stop_weight node_weight G) ms
labels_at-weight G [] = refl
labels_at-weight G (m ∷ ms) =
    omega (arith, sum_by-append node_weight (part_of (rules_of G) m.item.label m.part) (labels_at G ms), labels_at-weight G ms, sum_by-cons (stop_weight node_weight G) m ms)

-- the value of the last rule
abbrev pub whole_value : List KeyedRule → List Label
whole_value G = preorder (rules_of G) (length G - 1)

-- so many nodes of the value are before what is left
pub record Remains (G : List KeyedRule) (number : ℕ) (left : List Label) : Type 0 where
  pub before : List Label
  pub split : whole_value G ≡ before ++ left
  pub number_is : sum_by node_weight before ≡ number

-- what is left where a number falls into a rule that is called last, and otherwise where the last stop is
abbrev pub IsOnWay : List KeyedRule → ℕ → List RuleStop → Option Wanted → Type 0
IsOnWay G number calls None =
    (outer : List RuleStop) × (s : RuleStop) × (calls ≡ outer ++ s ∷ []) × IsOpening (left_at G (Some s) outer) × Remains G number (left_at G (Some s) outer)
IsOnWay G number calls (Some wanted) =
    (wanted.rule < lowest (length G) calls)
    × ((before left : List Label) → preorder (rules_of G) wanted.rule ≡ before ++ left → IsOpening left → sum_by node_weight before ≡ wanted.number → Remains G number (segment 0 left ++ behind G calls []))

module _ (g : Keyed) (k : IsKeyed g) where
  pub params-last : params (whole_value g.rules) ≡ 0
  params-last =
      let n = length-rules_of g.rules in
      let h : length g.rules - 1 < length (rules_of g.rules) = omega (arith, n, k.grammar.some) in
      let r : length g.rules - 1 + 1 ≡ length (rules_of g.rules) = omega (arith, n, k.grammar.some) in
      params-preorder (rules_of g.rules) (length g.rules - 1) k.grammar h ∙ (k.grammar.each (length g.rules - 1) h).shaped.start r

  pub way-start : (r n : ℕ) → r ≡ length g.rules - 1 → IsOnWay g.rules n [] (Some (record { rule = r; number = n }))
  way-start r n e = (omega (arith, e, length-rules_of g.rules, k.grammar.some), begun)
    where
      begun : (before left : List Label) → preorder (rules_of g.rules) r ≡ before ++ left → IsOpening left → sum_by node_weight before ≡ n → Remains g.rules n (segment 0 left ++ [])
      begun before left s a m =
          let t : whole_value g.rules ≡ before ++ left = ap (preorder (rules_of g.rules)) (sym e) ∙ s in
          let z : params left ≡ 0 = omega (arith, params-append before left, ap params t, params-last) in
          record { before = before; split = t ∙ ap (λ ls. before ++ ls) (sym (append-nil (segment 0 left) ∙ segment-whole left z)); number_is = m }

  -- one stop more
  module _ (number : ℕ) (calls : List RuleStop) (a : AreStops g.rules (length g.rules) calls) (r n : ℕ) (way : IsOnWay g.rules number calls (Some (record { rule = r; number = n })))
      (h : r < length g.rules) (s : RuleStop) (rule : s.rule ≡ r) (here : Stop Node) (o : ℕ) (f : FallsAt node_weight g.rules s.rule n s.walk here o) (c : CallsBelow s.rule (here.item.label ∷ [])) where
    at-here : (stops_of g.rules s ≡ here ∷ f.rest) × IsAtStop g.rules s
    at-here = at-stop g k s (omega (arith, rule, h)) f.passed (here ∷ f.rest) f.split f.stands

    pub way-stops : AreStops g.rules (length g.rules) (calls ++ s ∷ [])
    way-stops = stops-snoc g.rules (length g.rules) calls s a (omega (arith, rule, way.0)) at-here.1

    value-here : preorder (rules_of g.rules) r ≡ labels_at g.rules f.passed ++ (part_of (rules_of g.rules) here.item.label here.part ++ labels_at g.rules f.rest)
    value-here =
        preorder-labels g k r h ∙ ap (λ q. labels_at g.rules (node_tour g.rules q)) (sym rule) ∙ ap (labels_at g.rules) f.split ∙ labels_at-append g.rules f.passed (here ∷ f.rest)

    at-symbol : (t : ℕ) → part_of (rules_of g.rules) here.item.label here.part ≡ Symbol t ∷ [] → o < 1 → IsOnWay g.rules number (calls ++ s ∷ []) None
    at-symbol t e z =
        let left : List Label = Symbol t ∷ labels_at g.rules f.rest in
        let v : preorder (rules_of g.rules) r ≡ labels_at g.rules f.passed ++ left = value-here ∙ ap (λ ls. labels_at g.rules f.passed ++ (ls ++ labels_at g.rules f.rest)) e in
        let w = way.1 (labels_at g.rules f.passed) left v tt (omega (arith, labels_at-weight g.rules f.passed, f.number, z)) in
        let l : segment_left g.rules (stops_of g.rules s) ≡ segment 0 left =
        ap (segment_left g.rules) at-here.0 ∙ ap (λ ls. segment 0 (ls ++ labels_at g.rules f.rest)) e in
        let m : left_at g.rules (Some s) calls ≡ segment 0 left ++ behind g.rules calls [] = ap (λ ls. ls ++ behind g.rules calls []) l in
        (calls, s, refl, subst IsOpening (sym m) tt, subst (Remains g.rules number) (sym m) w)

    at-call : (q i : ℕ) → part_of (rules_of g.rules) here.item.label here.part ≡ segment i (preorder (rules_of g.rules) q) → o < sum_by node_weight (segment i (preorder (rules_of g.rules) q)) → q < s.rule
        → IsOnWay g.rules number (calls ++ s ∷ []) (Some (record { rule = q; number = count_before node_weight (rules_of g.rules) q i + o }))
    at-call q i e b d = (omega (arith, d, lowest-snoc (length g.rules) calls s), onward)
      where
        onward : (before left : List Label) → preorder (rules_of g.rules) q ≡ before ++ left → IsOpening left → sum_by node_weight before ≡ count_before node_weight (rules_of g.rules) q i + o
            → Remains g.rules number (segment 0 left ++ behind g.rules (calls ++ s ∷ []) [])
        onward before left v p m =
            let u = in-segment (preorder (rules_of g.rules) q) before left i o v p m b in
            let rest = labels_at g.rules f.rest in
            let passed = labels_at g.rules f.passed in
            let t : preorder (rules_of g.rules) r ≡ (passed ++ u.front) ++ (segment 0 left ++ rest) =
            value-here ∙ ap (λ ls. passed ++ (ls ++ rest)) (e ∙ u.split) ∙ ap (λ ls. passed ++ ls) (append_assoc u.front (segment 0 left) rest) ∙ sym (append_assoc passed u.front (segment 0 left ++ rest)) in
            let w = way.1 (passed ++ u.front) (segment 0 left ++ rest) t (opening-append (segment 0 left) rest (opening-segment left p)) (omega (arith, sum_by-append node_weight passed u.front, u.number, labels_at-weight g.rules f.passed, f.number)) in
            let first : segment 0 (segment 0 left ++ rest) ≡ segment 0 left ++ segment 0 rest = segment-first (segment 0 left) rest (params-segment 0 left) in
            let later : behind g.rules (calls ++ s ∷ []) [] ≡ segment 0 rest ++ behind g.rules calls [] =
            behind-snoc g.rules calls s [] ∙ ap (λ ms. segment_left g.rules (drop 1 ms) ++ behind g.rules calls []) at-here.0 in
            let same : segment 0 (segment 0 left ++ rest) ++ behind g.rules calls [] ≡ segment 0 left ++ behind g.rules (calls ++ s ∷ []) [] =
            ap (λ ls. ls ++ behind g.rules calls []) first ∙ append_assoc (segment 0 left) (segment 0 rest) (behind g.rules calls []) ∙ ap (λ ls. segment 0 left ++ ls) (sym later) in
            subst (Remains g.rules number) same w

    way-by : (l : Label) (i : ℕ) → part_of (rules_of g.rules) here.item.label here.part ≡ part_of (rules_of g.rules) l i → o < sum_by node_weight (part_of (rules_of g.rules) l i) → CallsBelow s.rule (l ∷ [])
        → IsOnWay g.rules number (calls ++ s ∷ []) (wanted_below node_weight g.rules l i o)
    way-by Bottom zero e b d = absurd (omega (arith, b, sum_by-cons node_weight Bottom []))
    way-by Bottom (suc i) e b d = absurd (omega arith)
    way-by (Symbol t) zero e b d = at-symbol t e (omega (arith, b, sum_by-cons node_weight (Symbol t) []))
    way-by (Symbol t) (suc i) e b d = absurd (omega arith)
    way-by (Call q) i e b d = at-call q i e b d.0
    way-by Param i e b d = absurd (omega (arith, b, sum_by-cons node_weight Param []))

    pub way-next : IsOnWay g.rules number (calls ++ s ∷ []) (wanted_below node_weight g.rules here.item.label here.part o)
    way-next = way-by here.item.label here.part refl f.inside c

-- a descent to the node with a number, and the stops that it gave
pub record Descends (G : List KeyedRule) (number : ℕ) (d : Descent) (calls : List RuleStop) (capacity : ℕ) : Type 0 where
  pub inside : IsInside G d
  pub by : d.by ≡ Nodes
  pub stops : AreStops G (length G) calls
  pub way : IsOnWay G number calls d.next
  pub room : length G ≤ capacity

snoc-same : (xs ys : List RuleStop) (x y : RuleStop) → xs ++ x ∷ [] ≡ ys ++ y ∷ [] → (xs ≡ ys) × (x ≡ y)
snoc-same [] [] x y e = (refl, cc)
snoc-same [] (b ∷ []) x y e = cc
snoc-same [] (b ∷ c ∷ ys) x y e = cc
snoc-same (a ∷ []) [] x y e = cc
snoc-same (a ∷ c ∷ xs) [] x y e = cc
snoc-same (a ∷ xs) (b ∷ ys) x y e =
    let t : xs ++ x ∷ [] ≡ ys ++ y ∷ [] = cc in
    let u = snoc-same xs ys x y t in
    let v : a ≡ b = cc in
    let w : a ∷ xs ≡ b ∷ ys = cc (u.0, v) in
    (w, u.1)

no_end : (xs : List RuleStop) (x : RuleStop) → [] ≡ xs ++ x ∷ [] → ⊥
no_end [] x e = cc
no_end (y ∷ xs) x e = cc

module _ (g : Keyed) (k : IsKeyed g) (number : ℕ) where
  pub descends-start : (C : CountTable) → AreCountsOf (rules_of g.rules) C → (d : Descent) → d ≡ descent_to Nodes (C.rules - 1) number → IsInside g.rules d → (calls : List RuleStop) (capacity : ℕ) → calls ≡ [] → length g.rules ≤ capacity
      → Descends g.rules number d calls capacity
  descends-start C a d e i calls capacity n room =
      let last : C.rules - 1 ≡ length g.rules - 1 = omega (arith, a.1.rules, length-rules_of g.rules) in
      record {
        inside = i;
        by = ap (λ (x : Descent). x.by) e;
        stops = subst (AreStops g.rules (length g.rules)) (sym n) tt;
        way = subst (λ (ss : List RuleStop). IsOnWay g.rules number ss d.next) (sym n) (subst (λ (x : Descent). IsOnWay g.rules number [] x.next) (sym e) (way-start g k (C.rules - 1) number last));
        room = room;
      }

  pub descends-more : (d later : Descent) (calls : List RuleStop) (capacity capacity' : ℕ) → Descends g.rules number d calls capacity → (s : RuleStop) → GoesThrough g.rules (Some s) d later → IsInside g.rules later → capacity ≤ capacity'
      → Descends g.rules number later (calls ++ s ∷ []) capacity'
  descends-more d later calls capacity capacity' i s t j room =
      let wanted = t.0 in
      let f : FallsInto node_weight g.rules wanted s later.next = subst (λ (b : Numbering). FallsInto (weigh_by b) g.rules wanted s later.next) i.by t.2 in
      let w : IsOnWay g.rules number calls (Some wanted) = subst (λ (o : Option Wanted). IsOnWay g.rules number calls o) t.1 i.way in
      let h : wanted.rule < length g.rules = omega (arith, w.0, stops-few g.rules (length g.rules) calls i.stops) in
      let a : FallsAt node_weight g.rules s.rule wanted.number s.walk f.here f.offset = subst (λ (q : ℕ). FallsAt node_weight g.rules q wanted.number s.walk f.here f.offset) (sym f.rule) f.falls in
      let c : CallsBelow s.rule (f.here.item.label ∷ []) = subst (λ (q : ℕ). CallsBelow q (f.here.item.label ∷ [])) (sym f.rule) f.earlier in
      record {
        inside = j;
        by = t.3 ∙ i.by;
        stops = way-stops g k number calls i.stops wanted.rule wanted.number w h s f.rule f.here f.offset a c;
        way = subst (λ (o : Option Wanted). IsOnWay g.rules number (calls ++ s ∷ []) o) (sym f.onward) (way-next g k number calls i.stops wanted.rule wanted.number w h s f.rule f.here f.offset a c);
        room = omega (arith, room, i.room);
      }

  -- the last stop, with the calls around it, is a cursor before the node
  module _ (d : Descent) (calls : List RuleStop) (capacity : ℕ) (i : Descends g.rules number d calls capacity) (none : d.next ≡ None) (c : Cursor) (popped : calls ≡ c.calls.items ++ option_to_list c.here) (fewer : c.here ≡ None → calls ≡ []) (zero_open : c.opened ≡ 0) (fresh : again_of c.kept ≡ []) where
    way-end : IsOnWay g.rules number calls None
    way-end = subst (λ (o : Option Wanted). IsOnWay g.rules number calls o) none i.way

    -- what is left of it
    begun : IsOpening (left_of g.rules c) × Remains g.rules number (left_of g.rules c)
    begun =
        let e : left_at g.rules c.here c.calls.items ≡ left_of g.rules c = ap (λ ts. labels_of ts ++ left_at g.rules c.here c.calls.items) (sym fresh) in
        let b = by_here c.here refl in
        (subst IsOpening e b.0, subst (Remains g.rules number) e b.1)
      where
        by_here : (o : Option RuleStop) → c.here ≡ o → IsOpening (left_at g.rules c.here c.calls.items) × Remains g.rules number (left_at g.rules c.here c.calls.items)
        by_here None e = let t : [] ≡ way-end.0 ++ way-end.1 ∷ [] = sym (fewer e) ∙ way-end.2 in absurd (no_end way-end.0 way-end.1 t)
        by_here (Some s) e =
            let t = snoc-same way-end.0 c.calls.items way-end.1 s (sym way-end.2 ∙ popped ∙ ap (λ o. c.calls.items ++ option_to_list o) e) in
            let m : left_at g.rules (Some way-end.1) way-end.0 ≡ left_at g.rules c.here c.calls.items =
            ap (λ (s' : RuleStop). left_at g.rules (Some s') way-end.0) t.1 ∙ ap (left_at g.rules (Some s)) t.0 ∙ ap (λ o. left_at g.rules o c.calls.items) (sym e) in
            (subst IsOpening m way-end.3, subst (Remains g.rules number) m way-end.4)

    value-is : whole_value g.rules ≡ listed (value (rules_of g.rules)) []
    value-is = ap (λ n. preorder (rules_of g.rules) (n - 1)) (sym (length-rules_of g.rules))

    pub begins : BeginsAtNode g.rules number c
    begins =
        let b = begun in
        let o = opening-is (left_of g.rules c) b.0 in
        record {
          before = b.1.before;
          symbol = o.0;
          after = o.1;
          split = sym value-is ∙ b.1.split;
          number_is = b.1.number_is;
          begins = o.2;
          none_open = zero_open;
        }

    pub inside-now : sum_by node_weight (whole_value g.rules) < 2 ^ 64 → length g.rules ≤ vec_capacity c.calls → AreKept g.rules c.kept → InsideCursor g.rules c
    inside-now small room kept =
        let b = begun in
        record {
          standing = record { stops = subst (AreStops g.rules (length g.rules)) popped i.stops; room = room; kept = kept };
          few = omega (arith, small, zero_open, ap (sum_by node_weight) b.1.split, sum_by-append node_weight b.1.before (left_of g.rules c));
        }
