-- A descent that adds up what stands before its number.
use Rattle.std.proofs.Common.{◌≡◌, ℕ, zero, suc, ◌+◌, ◌-◌, ◌*◌, ◌^◌, ◌<◌, ◌≤◌, List, [], ◌∷◌, ◌++◌, length, refl, ap, sym, ◌∙◌, arith, Option, None, Some, sum_by, subst, append_assoc}
use Rattle.std.specs.Prelude.{slice_get}
use Rattle.std.proofs.lemmas.List.Sums.{sum_by-cons}
use Rattle.plain_tree.specs.declared.kind.Kind.{Kind}
use Rattle.rule_arena.specs.Terms.{Node}
use Rattle.rule_arena.specs.declared.key.Key.{Key}
use Rattle.rule_arena.specs.declared.label.Label.{Label}
use Rattle.rule_arena.specs.declared.label.Label.TheVariants.{Bottom, Symbol, Call, Param}
use Rattle.slt_grammar.specs.Bodies.{CallsBelow}
use Rattle.slt_grammar.specs.Grammars.{whole}
use Rattle.slt_grammar.specs.Keyed.{Keyed, IsKeyed, nodes_at, rules_of}
use Rattle.slt_grammar.specs.Segments.{node_tour, part_of, preorder}
use Rattle.slt_grammar.specs.Tours.{Stop, stop}
use Rattle.slt_grammar.specs.declared.level.Level.{Level}
use Rattle.slt_grammar.specs.declared.rules.Rule.{Rule}
use Rattle.slt_grammar.proofs.KeyedLemmas.{length-rules_of}
use Rattle.slt_grammar.proofs.TourLemmas.{length-node_tour}
use Rattle.slt_grammar.proofs.TourWalking.{current, node-key}
use Rattle.segment_counts.specs.Counting.{AreCounts, CountTable, told_before, weight_by}
use Rattle.segment_counts.specs.Weights.{count_before, node_weight, weigh}
use Rattle.segment_counts.specs.declared.counts.Measure.{Measure}
use Rattle.segment_counts.specs.declared.counts.Measure.TheVariants.{Nodes, Texts, All}
use Rattle.segment_counts.specs.declared.counts.Weights.{Weights}
use Rattle.segment_counts.proofs.Numbers.{segment-within}
use Rattle.segment_counts.proofs.Telling.{told_before-is}
use Rattle.preorder_address.specs.Chains.{Arrives, LeadsTo}
use Rattle.preorder_address.specs.Descents.{descent_to, levels_at, levels_of, nodes_up_to, told_next}
use Rattle.preorder_address.specs.Routes.{stop_weight}
use Rattle.preorder_address.specs.Sites.{weight_before}
use Rattle.preorder_address.specs.Spots.{FallsWeighed, StandsAfter}
use Rattle.preorder_address.specs.declared.numbering.Numbering.TheVariants as by
use Rattle.preorder_address.specs.declared.spot.WeighedStop.{WeighedStop}
use Rattle.preorder_address.proofs.Arriving.{descents-arrive}
use Rattle.preorder_address.proofs.Descending.{levels-next, nodes-below, nodes-within}
use Rattle.preorder_address.proofs.Finding.{sought-falls}
use Rattle.preorder_address.proofs.Heading.{Heads, heads-more, heads-start}
use Rattle.preorder_address.proofs.Lading.{before-append}
use Rattle.preorder_address.proofs.Locating.{nodes-few}
use Rattle.preorder_address.proofs.Sited.{laden-alone}
use Rattle.preorder_address.proofs.SpotFinding.{none_passed, weighs-none}
use Rattle.preorder_address.proofs.SpotWeights.{before-part, before-segment, before-within, segments-passed}

pub zero-weighed : (names : List (Kind × List ℕ)) (m : Measure) → weigh names m Param ≡ 0
zero-weighed names Nodes = refl
zero-weighed names Texts = refl
zero-weighed names All = refl

module _ (names : List (Kind × List ℕ)) (g : Keyed) (n : ℕ) where
  -- the levels to the number
  abbrev pub way_there : List Level
  way_there = levels_of g.rules (descent_to by.Nodes (length g.rules - 1) n)

  -- the levels from a rule on to what is left of it
  abbrev pub way_left : ℕ → Weights → List Level
  way_left rule before = levels_at by.Nodes g.rules (Some (record { rule = rule; number = n - before.nodes }))

  -- the descent has come to a rule: what stands before the number is what was added up, and what stands before it in the rule's value
  pub record Spotting (levels : List Level) (rule : ℕ) (before : Weights) (first steps : ℕ) : Type 0 where
    pub there : rule < length g.rules
    pub under : before.nodes ≤ n
    pub within : n - before.nodes < sum_by node_weight (preorder (rules_of g.rules) rule)
    pub route : way_there ≡ levels ++ way_left rule before
    pub last : Option Key
    pub heads : (f : Label) → LeadsTo g.rules (length g.rules - 1) way_there f → Heads g.rules last (way_left rule before) f
    pub weights : (m : Measure) → weight_by m before + weight_before (weigh names m) [] (preorder (rules_of g.rules) rule) (n - before.nodes) ≡ weight_before (weigh names m) [] (preorder (rules_of g.rules) (length g.rules - 1)) n
    pub few : steps + 4 * nodes_up_to g.rules rule ≤ first + 4 * whole (rules_of g.rules)

module _ (names : List (Kind × List ℕ)) (g : Keyed) (K : IsKeyed g) (C : CountTable) (a : AreCounts names (rules_of g.rules) C) (n : ℕ) where
  abbrev H : List Rule
  H = rules_of g.rules

  pub spotting-start : (levels : List Level) → levels ≡ [] → n < sum_by node_weight (preorder (rules_of g.rules) (length g.rules - 1)) → (steps : ℕ) → Spotting names g n levels (length g.rules - 1) none_passed steps steps
  spotting-start levels e h steps =
      let z : n ≡ n - 0 = omega arith in
      let same : way_there names g n ≡ way_left names g n (length g.rules - 1) none_passed = ap (λ k. levels_at by.Nodes g.rules (Some (record { rule = length g.rules - 1; number = k }))) z in
      record {
        there = omega (arith, K.grammar.some, length-rules_of g.rules);
        under = omega arith;
        within = omega (arith, h);
        route = same ∙ ap (λ (ls : List Level). ls ++ way_left names g n (length g.rules - 1) none_passed) (sym e);
        last = None;
        heads = λ f c. subst (λ (ls : List Level). Heads g.rules None ls f) same (heads-start g.rules (length g.rules - 1) (way_there names g n) f c);
        weights = λ m. omega (arith, weighs-none m, ap (weight_before (weigh names m) [] (preorder H (length g.rules - 1))) z);
        few = omega (arith, nodes-few g.rules (length g.rules - 1));
      }

  module _ (levels : List Level) (rule : ℕ) (before : Weights) (first steps : ℕ) (s : Spotting names g n levels rule before first steps) (found : WeighedStop) (f : FallsWeighed names g.rules by.Nodes rule (n - before.nodes) found) (c : CallsBelow rule (found.label ∷ [])) where
    abbrev x : Node
    x = record { key = found.walk.key; label = found.label; kids = f.kids }

    abbrev level : Level
    level = record { rule = rule; key = found.walk.key }

    abbrev P : List (Stop Node)
    P = f.falls.passed

    -- what stands before the number in the rule's value
    in-rule : (m : Measure) → weight_before (weigh names m) [] (preorder H rule) (n - before.nodes) ≡ sum_by (stop_weight (weigh names m) g.rules) P + weight_before (weigh names m) [] (part_of H found.label found.walk.part) f.offset
    in-rule m = before-part g K (weigh names m) (zero-weighed names m) rule s.there P f.falls.rest x found.walk.part f.falls.split (n - before.nodes) f.offset f.falls.number f.falls.inside

    -- both sums together fit
    pub passed-within : (m : Measure) → weight_by m before + weight_by m found.passed ≤ weight_before (weigh names m) [] (preorder (rules_of g.rules) (length g.rules - 1)) n
    passed-within m = omega (arith, s.weights m, in-rule m, f.weights m)

    pub passed-small : (m : Measure) → weight_by m before + weight_by m found.passed < 2 ^ 64
    passed-small m =
        let t : length g.rules - 1 < length H = omega (arith, K.grammar.some, length-rules_of g.rules) in
        omega (arith, passed-within m, before-within (weigh names m) (preorder H (length g.rules - 1)) n, a.numbers.small m (length g.rules - 1) t)

    nodes-passed : found.passed.nodes ≡ sum_by (stop_weight node_weight g.rules) P
    nodes-passed = f.weights Nodes

    -- the levels from the rule on
    here-on : way_left names g n rule before ≡ level ∷ levels_at by.Nodes g.rules (told_next by.Nodes C found.label found.walk.part f.offset)
    here-on =
        levels-next g.rules K.grammar C (names, a) by.Nodes rule s.there (n - before.nodes) found.walk.key f.kids found.label found.walk.part f.offset c
        (sought-falls (stop_weight node_weight g.rules) g.rules rule (n - before.nodes) found.walk (stop x found.walk.part) f.offset f.falls)

    pub spotting-steps : (steps' : ℕ) → steps' ≤ steps + 2 * length (node_tour g.rules rule) → steps' ≤ first + 4 * whole (rules_of g.rules)
    spotting-steps steps' h = omega (arith, h, s.few, length-node_tour g K rule s.there, nodes-within g.rules rule)

    -- the stop is at a call
    module _ (q : ℕ) (e : found.label ≡ Call q) where
      pub called-below : q < rule
      called-below = (subst (λ (l : Label). CallsBelow rule (l ∷ [])) e c).0

      called-there : q < length H
      called-there = omega (arith, called-below, s.there, length-rules_of g.rules)

      told-is : (m : Measure) → told_before m C.rows q found.walk.part ≡ count_before (weigh names m) H q found.walk.part
      told-is m = told_before-is names (length H) H C.rows a.numbers m q found.walk.part called-there

      pub told-within : (m : Measure) → told_before m C.rows q found.walk.part ≤ weight_by m found.passed
      told-within m = omega (arith, told-is m, f.weights m, segments-passed g K (weigh names m) (zero-weighed names m) rule s.there P f.falls.rest x found.walk.part f.falls.split q e)

      inside-call : f.offset < sum_by node_weight (part_of H (Call q) found.walk.part)
      inside-call = omega (arith, f.falls.inside, ap (λ l. sum_by node_weight (part_of H l found.walk.part)) e)

      module _ (next : Weights) (is_next : (m : Measure) → weight_by m next + told_before m C.rows q found.walk.part ≡ weight_by m before + weight_by m found.passed) where
        nodes-told : told_before Nodes C.rows q found.walk.part ≡ count_before node_weight H q found.walk.part
        nodes-told = told-is Nodes

        nodes-next : next.nodes + told_before Nodes C.rows q found.walk.part ≡ before.nodes + found.passed.nodes
        nodes-next = is_next Nodes

        nodes-within-passed : told_before Nodes C.rows q found.walk.part ≤ found.passed.nodes
        nodes-within-passed = told-within Nodes

        number-next : n - next.nodes ≡ told_before Nodes C.rows q found.walk.part + f.offset
        number-next = omega (arith, nodes-next, nodes-passed, f.falls.number, s.under, nodes-within-passed)

        on-from : way_left names g n rule before ≡ level ∷ way_left names g n q next
        on-from =
            here-on ∙ ap (λ l. level ∷ levels_at by.Nodes g.rules (told_next by.Nodes C l found.walk.part f.offset)) e
            ∙ ap (λ k. level ∷ levels_at by.Nodes g.rules (Some (record { rule = q; number = k }))) (sym number-next)

        pub spotting-next : (steps' : ℕ) → steps' ≤ steps + 2 * length (node_tour g.rules rule) → Spotting names g n (levels ++ level ∷ []) q next first steps'
        spotting-next steps' h = record {
          there = omega (arith, called-below, s.there);
          under = omega (arith, nodes-next, nodes-passed, f.falls.number, s.under);
          within = omega (arith, number-next, nodes-told, inside-call, segment-within node_weight (preorder H q) found.walk.part);
          route = s.route ∙ ap (λ (ls : List Level). levels ++ ls) on-from ∙ sym (append_assoc levels (level ∷ []) (way_left names g n q next));
          last = Some found.walk.key;
          heads = λ l k. heads-more g.rules s.last level (way_left names g n q next) l (subst (λ (ls : List Level). Heads g.rules s.last ls l) on-from (s.heads l k));
          weights = λ m.
              let w = weigh names m in
              omega (
                arith,
                s.weights m,
                in-rule m,
                f.weights m,
                is_next m,
                told-is m,
                ap (λ l. weight_before w [] (part_of H l found.walk.part) f.offset) e,
                before-segment w (preorder H q) found.walk.part f.offset (n - next.nodes) (omega (arith, number-next, nodes-told)) inside-call,
              );
          few = omega (arith, h, s.few, length-node_tour g K rule s.there, nodes-below g.rules q rule called-below);
        }

    -- a number falls into no other part
    pub never-bottom : found.label ≡ Bottom → ⊥
    never-bottom e = by_part found.walk.part (subst (λ (l : Label). f.offset < sum_by node_weight (part_of H l found.walk.part)) e f.falls.inside)
      where
        by_part : (i : ℕ) → f.offset < sum_by node_weight (part_of H Bottom i) → ⊥
        by_part zero h = omega (arith, h, sum_by-cons node_weight Bottom [])
        by_part (suc i) h = omega (arith, h)

    pub never-param : found.label ≡ Param → ⊥
    never-param e = omega (arith, subst (λ (l : Label). f.offset < sum_by node_weight (part_of H l found.walk.part)) e f.falls.inside, sum_by-cons node_weight Param [])

    -- so it is a symbol where it is no call
    pub only-symbol : ((q : ℕ) → found.label ≡ Call q → ⊥) → (symbol : ℕ) × (found.label ≡ Symbol symbol)
    only-symbol no_call = by_label found.label refl
      where
        by_label : (l : Label) → found.label ≡ l → (symbol : ℕ) × (found.label ≡ Symbol symbol)
        by_label Bottom e = absurd (never-bottom e)
        by_label (Symbol symbol) e = (symbol, e)
        by_label (Call q) e = absurd (no_call q e)
        by_label Param e = absurd (never-param e)

    -- the stop is at a symbol
    module _ (symbol : ℕ) (e : found.label ≡ Symbol symbol) (within : n < sum_by node_weight (preorder (rules_of g.rules) (length g.rules - 1))) (sum : Weights) (is_sum : (m : Measure) → weight_by m sum ≡ weight_by m before + weight_by m found.passed) where
      inside-symbol : f.offset < sum_by node_weight (part_of H (Symbol symbol) found.walk.part)
      inside-symbol = omega (arith, f.falls.inside, ap (λ l. sum_by node_weight (part_of H l found.walk.part)) e)

      nothing-before : (w : Label → ℕ) → weight_before w [] (part_of H (Symbol symbol) found.walk.part) f.offset ≡ 0
      nothing-before w = by_part found.walk.part f.offset inside-symbol
        where
          by_part : (i o : ℕ) → o < sum_by node_weight (part_of H (Symbol symbol) i) → weight_before w [] (part_of H (Symbol symbol) i) o ≡ 0
          by_part zero zero h = refl
          by_part zero (suc o) h = absurd (omega (arith, h, sum_by-cons node_weight (Symbol symbol) []))
          by_part (suc i) o h = refl

      last-on : way_left names g n rule before ≡ level ∷ []
      last-on = here-on ∙ ap (λ l. level ∷ levels_at by.Nodes g.rules (told_next by.Nodes C l found.walk.part f.offset)) e

      arrived : Arrives node_weight g.rules (length g.rules - 1) n (way_there names g n)
      arrived = descents-arrive by.Nodes g (length g.rules - 1) n K (omega (arith, K.grammar.some, length-rules_of g.rules)) within

      -- the label to which the levels lead is the symbol
      same-label : arrived.label ≡ Symbol symbol
      same-label =
          let t = f.falls.stands in
          let l = (subst (λ (ls : List Level). Heads g.rules s.last ls arrived.label) last-on (s.heads arrived.label arrived.chain)).1 in
          let z = K.once found.walk.key rule l.place rule t.place (node-key (nodes_at g.rules rule) l.place l.node l.there ∙ ap Some l.key) (node-key (nodes_at g.rules rule) t.place t.node t.there ∙ ap Some t.key) in
          let o : Some l.node ≡ Some t.node = sym l.there ∙ ap (slice_get (nodes_at g.rules rule)) z.1 ∙ t.there in
          let y : l.node ≡ t.node = cc in
          let x_is : x ≡ t.node = ap (λ (m : Stop Node). m.item) (current g.rules rule found.walk (stop x found.walk.part) f.falls.rest t) in
          sym l.label ∙ ap (λ (v : Node). v.label) (y ∙ sym x_is) ∙ e

      split-there : preorder H (length g.rules - 1) ≡ arrived.there.before ++ Symbol symbol ∷ arrived.there.after
      split-there = arrived.there.split ∙ ap (λ l. arrived.there.before ++ l ∷ arrived.there.after) same-label

      weighed : (m : Measure) → sum_by (weigh names m) arrived.there.before ≡ weight_by m sum
      weighed m =
          let w = weigh names m in
          omega (
            arith,
            is_sum m,
            s.weights m,
            in-rule m,
            f.weights m,
            ap (λ l. weight_before w [] (part_of H l found.walk.part) f.offset) e,
            nothing-before w,
            ap (λ ls. weight_before w [] ls n) split-there,
            before-append w [] arrived.there.before (Symbol symbol ∷ arrived.there.after) n 0 (omega (arith, arrived.there.number)),
            laden-alone w (zero-weighed names m) arrived.there.before,
          )

      pub spotted : StandsAfter names g.rules n (levels ++ level ∷ []) symbol sum
      spotted = record {
        located = ap (λ (ls : List Level). levels ++ ls) (sym last-on) ∙ sym s.route;
        chain = subst (λ (ls : List Level). LeadsTo g.rules (length g.rules - 1) ls (Symbol symbol)) (s.route ∙ ap (λ (ls : List Level). levels ++ ls) last-on) (subst (λ (l : Label). LeadsTo g.rules (length g.rules - 1) (way_there names g n) l) same-label arrived.chain);
        earlier = arrived.there.before;
        later = arrived.there.after;
        split = split-there;
        number = arrived.there.number;
        weights = weighed;
      }
