-- A search for nodes: what a stop stands for, and how the search goes on.
use Rattle.std.proofs.Common.{◌≡◌, ℕ, zero, suc, ◌+◌, ◌-◌, ◌<◌, ◌≤◌, ◌^◌, List, [], ◌∷◌, ◌++◌, Bool, true, false, length, drop, take, refl, ap, sym, ◌∙◌, arith, subst, Option, Some, sum_by, append_assoc, append-nil}
use Rattle.std.specs.Prelude.{slice_get, vec_capacity}
use Rattle.std.specs.Option.{option_map, option_to_list}
use Rattle.std.proofs.lemmas.List.Sums.{sum_by-cons, sum_by-append}
use Rattle.plain_tree.specs.declared.kind.Kind.{Kind}
use Rattle.plain_tree.specs.Numbers.{nodes, nodes_all, values_of}
use Rattle.plain_tree.specs.Tree.{Tree, none, more}
use Rattle.rule_arena.specs.declared.label.Label.{Label}
use Rattle.rule_arena.specs.declared.label.Label.TheVariants.{Bottom, Symbol, Call, Param}
use Rattle.rule_arena.specs.declared.item.Site.{Site}
use Rattle.slt_grammar.specs.Bodies.{CallsBelow, params}
use Rattle.slt_grammar.specs.Coding.{Codes}
use Rattle.slt_grammar.specs.Grammars.{value}
use Rattle.slt_grammar.specs.Keyed.{Keyed, KeyedRule, IsKeyed, rules_of}
use Rattle.slt_grammar.specs.Segments.{listed, node_tour, part_of, preorder, segment}
use Rattle.slt_grammar.specs.TourWalks.{StandsBefore}
use Rattle.slt_grammar.specs.declared.rules.Rule.{Rule}
use Rattle.slt_grammar.specs.declared.tour_walk.TourWalk.{TourWalk}
use Rattle.slt_grammar.proofs.CallCounts.{below-more}
use Rattle.slt_grammar.proofs.KeyedLemmas.{length-rules_of}
use Rattle.slt_grammar.proofs.StopLemmas.{calls-here}
use Rattle.slt_grammar.proofs.TourLemmas.{params-segment, segment-first}
use Rattle.segment_counts.specs.Counting.{AreCounts, AreCountsBelow, CountTable, weight_by}
use Rattle.segment_counts.specs.Weights.{node_weight, weigh}
use Rattle.segment_counts.specs.declared.counts.Measure.{Measure}
use Rattle.segment_counts.specs.declared.counts.Measure.TheVariants.{Nodes, Texts}
use Rattle.segment_counts.specs.declared.counts.Weights.{Weights}
use Rattle.segment_counts.proofs.Telling.{segment-whole}
use Rattle.preorder_address.specs.TreeNumbers.{text_rank_at}
use Rattle.preorder_address.specs.declared.descent.RuleStop.{RuleStop}
use Rattle.preorder_address.proofs.Spotting.{zero-weighed}
use Rattle.preorder_address.proofs.TreePlaces.{node-place}
use Rattle.value_cursor.specs.Cursors.{BeginsAtNode, IsInside, found, left_at, left_of}
use Rattle.value_cursor.specs.Finders.{IsSearch, StandsAtNode, ahead_of}
use Rattle.value_cursor.specs.Kept.{AreKept, again_of, labels_of}
use Rattle.value_cursor.specs.Stops.{AreStops, IsAtStop, IsLabelOf, IsSiteOf, behind, segment_left, stops_of}
use Rattle.value_cursor.specs.declared.cursor.Cursor.{Cursor}
use Rattle.value_cursor.specs.declared.cursor.Token.TheVariants.{Open}
use Rattle.value_cursor.specs.declared.finder.Finder.{Finder}
use Rattle.value_cursor.proofs.Beginning.{params-last}
use Rattle.value_cursor.proofs.CallLemmas.{stops-few, stops-front}
use Rattle.value_cursor.proofs.Leaving.{last-at, last-below, last-node, left-behind, node-label, node-once}
use Rattle.value_cursor.proofs.SegmentStarts.{preorder-labels}
use Rattle.value_cursor.proofs.StopSteps.{at, at-stop, labels-from, labels_at}
use Rattle.value_cursor.proofs.Telling.{token-left}

-- a part of a node stands for no parameter, but where it is one
part-plain : (G : List Rule) (l : Label) (i : ℕ) → (l ≡ Param → ⊥) → params (part_of G l i) ≡ 0
part-plain G Bottom zero p = refl
part-plain G Bottom (suc i) p = refl
part-plain G (Symbol f) zero p = refl
part-plain G (Symbol f) (suc i) p = refl
part-plain G (Call q) i p = params-segment i (preorder G q)
part-plain G Param i p = absurd (p refl)

-- a parameter weighs nothing
part-weight : (w : Label → ℕ) → w Param ≡ 0 → (G : List Rule) (l : Label) (i : ℕ) → sum_by w (segment 0 (part_of G l i)) ≡ sum_by w (part_of G l i)
part-weight w z G Bottom zero = refl
part-weight w z G Bottom (suc i) = refl
part-weight w z G (Symbol f) zero = refl
part-weight w z G (Symbol f) (suc i) = refl
part-weight w z G (Call q) i = ap (sum_by w) (segment-whole (segment i (preorder G q)) (params-segment i (preorder G q)))
part-weight w z G Param i = omega (arith, z, sum_by-cons w Param [])

-- what weighs a node and is no call is a symbol
symbol-weighed : (G : List Rule) (l : Label) (i : ℕ) → ((q : ℕ) → l ≡ Call q → ⊥) → 0 < sum_by node_weight (part_of G l i) → (f : ℕ) × (l ≡ Symbol f) × (i ≡ 0) × (sum_by node_weight (part_of G l i) ≡ 1)
symbol-weighed G Bottom zero c h = absurd (omega (arith, h, sum_by-cons node_weight Bottom []))
symbol-weighed G Bottom (suc i) c h = absurd (omega arith)
symbol-weighed G (Symbol f) zero c h = (f, refl, refl, omega (arith, sum_by-cons node_weight (Symbol f) []))
symbol-weighed G (Symbol f) (suc i) c h = absurd (omega arith)
symbol-weighed G (Call q) i c h = absurd (c q refl)
symbol-weighed G Param i c h = absurd (omega (arith, h, sum_by-cons node_weight Param []))

pub site-label : (G : List KeyedRule) (s : RuleStop) (site : Site) → IsSiteOf G s site → IsLabelOf G s site.label
site-label G s site i = λ r p e. (site.arity, i.node r p e)

module _ (g : Keyed) (k : IsKeyed g) (calls : List RuleStop) (s : RuleStop) (a : AreStops g.rules (length g.rules) (calls ++ s ∷ [])) (l : Label) (node : IsLabelOf g.rules s l) where
  same-label : (last-node g k calls s a).label ≡ l
  same-label = node-label g k calls s a l node

  calls-few : CallsBelow (length (rules_of g.rules)) (l ∷ [])
  calls-few =
      let h = last-below g k calls s a in
      let t = at g k s h (last-at g k calls s a) in
      let c : CallsBelow s.rule ((last-node g k calls s a).label ∷ []) = calls-here g k s.rule h s.walk t.here t.rest t.stands (last-node g k calls s a) (node-once g k calls s a) in
      below-more s.rule (length (rules_of g.rules)) (l ∷ []) (omega (arith, h, length-rules_of g.rules)) (subst (λ (m : Label). CallsBelow s.rule (m ∷ [])) same-label c)

  abbrev part : List Label
  part = part_of (rules_of g.rules) l s.walk.part

  abbrev later : List Label
  later = labels_at g.rules (drop 1 (stops_of g.rules s))

  from-here : segment_left g.rules (stops_of g.rules s) ≡ segment 0 (part ++ later)
  from-here =
      ap (segment 0) (labels-from g k s (last-below g k calls s a) (last-at g k calls s a) (last-node g k calls s a) (node-once g k calls s a))
      ∙ ap (λ (m : Label). segment 0 (part_of (rules_of g.rules) m s.walk.part ++ later)) same-label

  pub part-passed : (l ≡ Param → ⊥) → (left : List Label) → left ≡ segment_left g.rules (drop 1 (stops_of g.rules s)) ++ behind g.rules calls [] → left_at g.rules (Some s) calls ≡ segment 0 part ++ left
  part-passed p left e =
      let plain = part-plain (rules_of g.rules) l s.walk.part p in
      let h : segment 0 (part ++ later) ≡ segment 0 part ++ segment 0 later = segment-first part later plain ∙ ap (λ ls. ls ++ segment 0 later) (sym (segment-whole part plain)) in
      ap (λ ls. ls ++ behind g.rules calls []) (from-here ∙ h) ∙ append_assoc (segment 0 part) (segment 0 later) (behind g.rules calls []) ∙ ap (λ ls. segment 0 part ++ ls) (sym e)

  pub part-ends : l ≡ Param → (left : List Label) → left ≡ behind g.rules calls [] → left_at g.rules (Some s) calls ≡ segment 0 part ++ left
  part-ends p left e = sym (left-behind g k calls s a l node p) ∙ ap (λ (m : Label). segment 0 (part_of (rules_of g.rules) m s.walk.part) ++ behind g.rules calls []) (sym p) ∙ ap (λ ls. segment 0 part ++ ls) (sym e)

  pub part-ahead : (left : List Label) × (left_at g.rules (Some s) calls ≡ segment 0 part ++ left)
  part-ahead = by-label l refl
    where
      plainly : (l ≡ Param → ⊥) → (left : List Label) × (left_at g.rules (Some s) calls ≡ segment 0 part ++ left)
      plainly p = (segment_left g.rules (drop 1 (stops_of g.rules s)) ++ behind g.rules calls [], part-passed p (segment_left g.rules (drop 1 (stops_of g.rules s)) ++ behind g.rules calls []) refl)

      by-label : (m : Label) → l ≡ m → (left : List Label) × (left_at g.rules (Some s) calls ≡ segment 0 part ++ left)
      by-label Bottom e = plainly (λ p. let h : Bottom ≡ Param = sym e ∙ p in cc)
      by-label (Symbol f) e = plainly (λ p. let h : Symbol f ≡ Param = sym e ∙ p in cc)
      by-label (Call q) e = plainly (λ p. let h : Call q ≡ Param = sym e ∙ p in cc)
      by-label Param e = (behind g.rules calls [], part-ends e (behind g.rules calls []) refl)

-- where the value begins
module _ (g : Keyed) (k : IsKeyed g) (rule : ℕ) (last : rule ≡ length g.rules - 1) (walk : TourWalk) (t : StandsBefore g.rules rule walk (node_tour g.rules rule)) where
  abbrev first : RuleStop
  first = record { rule = rule; walk = walk }

  within : rule < length g.rules
  within = omega (arith, last, length-rules_of g.rules, k.grammar.some)

  at-first : (stops_of g.rules first ≡ node_tour g.rules rule) × IsAtStop g.rules first
  at-first = at-stop g k first within [] (node_tour g.rules rule) refl t

  pub first-stops : AreStops g.rules (length g.rules) (first ∷ [])
  first-stops = (within, at-first.1, tt)

  pub first-left : left_at g.rules (Some first) [] ≡ listed (value (rules_of g.rules)) []
  first-left =
      let e : labels_at g.rules (stops_of g.rules first) ≡ preorder (rules_of g.rules) (length g.rules - 1) =
      ap (labels_at g.rules) at-first.0 ∙ sym (preorder-labels g k rule within) ∙ ap (preorder (rules_of g.rules)) last in
      append-nil (segment_left g.rules (stops_of g.rules first)) ∙ ap (segment 0) e ∙ segment-whole (preorder (rules_of g.rules) (length g.rules - 1)) (params-last g k)
      ∙ ap (λ n. preorder (rules_of g.rules) (n - 1)) (sym (length-rules_of g.rules))

-- nothing was passed
pub search-first : (names : List (Kind × List ℕ)) (G : List KeyedRule) (f : Finder) → AreStops G (length G) (f.here ∷ []) → left_at G (Some f.here) [] ≡ listed (value (rules_of G)) [] → f.calls.items ≡ [] → length G ≤ vec_capacity f.calls
    → ((m : Measure) → weight_by m f.passed ≡ 0) → IsSearch names G f
search-first names G f a e n room z = record {
  stops = subst (λ (ss : List RuleStop). AreStops G (length G) (ss ++ f.here ∷ [])) (sym n) a;
  room = room;
  before = [];
  split = sym (ap (λ (ss : List RuleStop). left_at G (Some f.here) ss) n ∙ e);
  weights = λ m. sym (z m);
}

module _ (names : List (Kind × List ℕ)) (G : List KeyedRule) (f : Finder) (i : IsSearch names G f) where
  -- what is passed and what comes next is no more than all
  pub passed-within : (m : Measure) (piece left : List Label) → ahead_of G f ≡ piece ++ left
      → weight_by m f.passed + sum_by (weigh names m) piece + sum_by (weigh names m) left ≡ sum_by (weigh names m) (listed (value (rules_of G)) [])
  passed-within m piece left e =
      let w = weigh names m in
      omega (arith, i.weights m, ap (sum_by w) i.split, sum_by-append w i.before (ahead_of G f), ap (sum_by w) e, sum_by-append w piece left)

  -- what comes next was passed, and there is a stop then, since fewer nodes were passed than there are
  module _ (later : Finder) (there : Bool) (piece : List Label) (left : ahead_of G f ≡ piece ++ left_at G (found there later.here) later.calls.items)
      (stops : AreStops G (length G) (later.calls.items ++ option_to_list (found there later.here))) (room : length G ≤ vec_capacity later.calls)
      (weights : (m : Measure) → weight_by m later.passed ≡ weight_by m f.passed + sum_by (weigh names m) piece) (few : later.passed.nodes < sum_by node_weight (listed (value (rules_of G)) [])) where
    by-stop : (b : Bool) → there ≡ b → (there ≡ true) × IsSearch names G later
    by-stop true e = (
      e,
      record {
        stops = subst (λ (b : Bool). AreStops G (length G) (later.calls.items ++ option_to_list (found b later.here))) e stops;
        room = room;
        before = i.before ++ piece;
        split = i.split ∙ ap (λ ls. i.before ++ ls) (left ∙ ap (λ b. piece ++ left_at G (found b later.here) later.calls.items) e) ∙ sym (append_assoc i.before piece (ahead_of G later));
        weights = λ m. omega (arith, weights m, i.weights m, sum_by-append (weigh names m) i.before piece);
      },
    )
    by-stop false e =
        let w : sum_by node_weight (left_at G (found there later.here) later.calls.items) ≡ 0 = ap (λ b. sum_by node_weight (left_at G (found b later.here) later.calls.items)) e in
        let all : f.passed.nodes + sum_by node_weight piece + sum_by node_weight (left_at G (found there later.here) later.calls.items) ≡ sum_by node_weight (listed (value (rules_of G)) []) =
        passed-within Nodes piece (left_at G (found there later.here) later.calls.items) left in
        let n : later.passed.nodes ≡ f.passed.nodes + sum_by node_weight piece = weights Nodes in
        absurd (omega (arith, w, all, n, few))

    pub goes-on : (there ≡ true) × IsSearch names G later
    goes-on = by-stop there refl

-- what comes next, and what is told of its weights
module _ (names : List (Kind × List ℕ)) (g : Keyed) (k : IsKeyed g) (C : CountTable) (counts : AreCounts names (rules_of g.rules) C) (f : Finder) (i : IsSearch names g.rules f) (l : Label) (node : IsLabelOf g.rules f.here l)
    (ws : Weights) (told : (m : Measure) (n : ℕ) (G : List Rule) → AreCountsBelow names n G C.rows → CallsBelow n (l ∷ []) → weight_by m ws ≡ sum_by (weigh names m) (part_of G l f.here.walk.part)) where
  abbrev whole : List Label
  whole = listed (value (rules_of g.rules)) []

  abbrev next : List Label
  next = part_of (rules_of g.rules) l f.here.walk.part

  small : (m : Measure) → sum_by (weigh names m) whole < 2 ^ 64
  small m = counts.numbers.small m (length (rules_of g.rules) - 1) (omega (arith, k.grammar.some))

  weighed : (m : Measure) → weight_by m ws ≡ sum_by (weigh names m) next
  weighed m = told m (length (rules_of g.rules)) (rules_of g.rules) counts.numbers (calls-few g k f.calls.items f.here i.stops l node)

  first-weighed : (m : Measure) → weight_by m ws ≡ sum_by (weigh names m) (segment 0 next)
  first-weighed m = weighed m ∙ sym (part-weight (weigh names m) (zero-weighed names m) (rules_of g.rules) l f.here.walk.part)

  -- with it, what is passed fits
  pub passed-fits : (m : Measure) → weight_by m f.passed + weight_by m ws < 2 ^ 64
  passed-fits m =
      let p = part-ahead g k f.calls.items f.here i.stops l node in
      let w = passed-within names g.rules f i m (segment 0 next) p.0 p.1 in
      omega (arith, w, first-weighed m, small m)

  -- it was passed, and no node from the number on
  pub goes-past : (later : Finder) (there : Bool) → ahead_of g.rules f ≡ segment 0 next ++ left_at g.rules (found there later.here) later.calls.items → AreStops g.rules (length g.rules) (later.calls.items ++ option_to_list (found there later.here))
      → vec_capacity later.calls ≡ vec_capacity f.calls → ((m : Measure) → weight_by m later.passed ≡ weight_by m f.passed + weight_by m ws) → (number : ℕ) → f.passed.nodes ≤ number → ws.nodes ≤ number - f.passed.nodes → number < sum_by node_weight whole
      → (there ≡ true) × IsSearch names g.rules later
  goes-past later there left stops room plus number under fits some =
      goes-on names g.rules f i later there (segment 0 next) left stops (omega (arith, room, i.room)) (λ m. omega (arith, plus m, first-weighed m)) (omega (arith, plus Nodes, under, fits, some))

  -- it is a symbol, into which the number falls
  pub arrives : (number : ℕ) → f.passed.nodes ≤ number → number - f.passed.nodes < ws.nodes → ((q : ℕ) → l ≡ Call q → ⊥) → StandsAtNode names g.rules number f
  arrives number under h c =
      let e : ws.nodes ≡ sum_by node_weight next = weighed Nodes in
      let s = symbol-weighed (rules_of g.rules) l f.here.walk.part c (omega (arith, e, h)) in
      let all : f.passed.nodes + sum_by node_weight [] + sum_by node_weight (ahead_of g.rules f) ≡ sum_by node_weight whole = passed-within names g.rules f i Nodes [] (ahead_of g.rules f) refl in
      record {
        search = i;
        number_is = omega (arith, under, e, h, s.3);
        symbol = s.0;
        after = segment_left g.rules (drop 1 (stops_of g.rules f.here)) ++ behind g.rules f.calls.items [];
        begins = token-left g k f.calls.items f.here i.stops l node (Open s.0) s.1 s.2;
        few = omega (arith, all, small Nodes);
      }

-- the texts before the node
pub texts-before : (names : List (Kind × List ℕ)) (G : List KeyedRule) (f : Finder) (number : ℕ) (t : Tree) → StandsAtNode names G number f → Codes names (more t none) (value (rules_of G)) → Some f.passed.texts ≡ text_rank_at t number
texts-before names G f number t s c =
    let i = s.search in
    let p = node-place names (more t none) (value (rules_of G)) c i.before s.symbol s.after (i.split ∙ ap (λ ls. i.before ++ ls) s.begins) in
    let n : sum_by node_weight i.before ≡ number = i.weights Nodes ∙ s.number_is in
    let same : nodes_all (more t none) ++ [] ≡ nodes t = append-nil (nodes t ++ []) ∙ append-nil (nodes t) in
    let there = ap (slice_get (nodes t)) (sym n) ∙ ap (λ (xs : List Tree). slice_get xs (sum_by node_weight i.before)) (sym same) ∙ p.there [] in
    let texts : length (values_of (take number (nodes t))) ≡ f.passed.texts =
    ap (λ m. length (values_of (take m (nodes t)))) (sym n) ∙ ap (λ (xs : List Tree). length (values_of (take (sum_by node_weight i.before) xs))) (sym same) ∙ p.texts [] ∙ i.weights Texts in
    ap Some (sym texts) ∙ sym (ap (option_map (λ (x : Tree). length (values_of (take number (nodes t))))) there)

-- there are no more calls around it than rules
pub calls-within : (names : List (Kind × List ℕ)) (G : List KeyedRule) (number : ℕ) (f : Finder) → StandsAtNode names G number f → length f.calls.items ≤ length G
calls-within names G number f s = omega (arith, stops-few G (length G) f.calls.items (stops-front G (length G) f.calls.items f.here s.search.stops))

-- a cursor that stands where the search does
module _ (names : List (Kind × List ℕ)) (G : List KeyedRule) (number : ℕ) (f : Finder) (s : StandsAtNode names G number f) (c : Cursor) (here : c.here ≡ Some f.here) (calls : c.calls.items ≡ f.calls.items) (fresh : again_of c.kept ≡ []) (zero_open : c.opened ≡ 0) where
  left-is : left_of G c ≡ ahead_of G f
  left-is =
      ap (λ ts. labels_of ts ++ left_at G c.here c.calls.items) fresh ∙ ap (λ (o : Option RuleStop). left_at G o c.calls.items) here ∙ ap (λ (ss : List RuleStop). left_at G (Some f.here) ss) calls

  pub begins-there : BeginsAtNode G number c
  begins-there = record {
    before = s.search.before;
    symbol = s.symbol;
    after = s.after;
    split = s.search.split ∙ ap (λ ls. s.search.before ++ ls) (sym left-is);
    number_is = s.search.weights Nodes ∙ s.number_is;
    begins = left-is ∙ s.begins;
    none_open = zero_open;
  }

  pub inside-there : length G ≤ vec_capacity c.calls → AreKept G c.kept → IsInside G c
  inside-there room kept = record {
    standing = record {
      stops = subst (λ (o : Option RuleStop). AreStops G (length G) (c.calls.items ++ option_to_list o)) (sym here) (subst (λ (ss : List RuleStop). AreStops G (length G) (ss ++ f.here ∷ [])) (sym calls) s.search.stops);
      room = room;
      kept = kept;
    };
    few = omega (arith, zero_open, s.few, ap (sum_by node_weight) left-is);
  }
