-- The levels to a number are a chain, before whose end so many labels stand.
use Rattle.std.proofs.Common.{◌≡◌, ℕ, ◌-◌, ◌<◌, List, [], ◌∷◌, length, Some, refl, ap, sym, ◌∙◌, subst, arith, sum_by}
use Rattle.std.proofs.lemmas.List.Sums.{sum_by-append, sum_by-cons}
use Rattle.plain_tree.specs.declared.kind.Kind.{Kind}
use Rattle.rule_arena.specs.declared.key.Key.{Key}
use Rattle.rule_arena.specs.declared.label.Label.{Label}
use Rattle.rule_arena.specs.declared.label.Label.TheVariants.{Bottom, Symbol, Call, Param}
use Rattle.slt_grammar.specs.Bodies.{params}
use Rattle.slt_grammar.specs.ChangedValues.{term_around}
use Rattle.slt_grammar.specs.Keyed.{IsKeyed, Keyed, KeyedRule, key_at, rules_of}
use Rattle.slt_grammar.specs.KeyedEdits.{label_at}
use Rattle.slt_grammar.specs.Segments.{preorder}
use Rattle.slt_grammar.specs.declared.level.Level.{Level}
use Rattle.slt_grammar.proofs.KeyedLemmas.{length-rules_of}
use Rattle.slt_grammar.proofs.TourLemmas.{params-preorder}
use Rattle.segment_counts.specs.Weights.{count, node_weight}
use Rattle.segment_counts.proofs.Telling.{segment-whole}
use Rattle.preorder_address.specs.Chains.{Arrives, EndsAt}
use Rattle.preorder_address.specs.Descents.{descent_to, levels_of}
use Rattle.preorder_address.specs.Numberings.{weigh_by}
use Rattle.preorder_address.specs.Spots.{IsSpot}
use Rattle.preorder_address.specs.declared.numbering.Numbering.{Numbering}
use Rattle.preorder_address.specs.declared.numbering.Numbering.TheVariants.{Nodes, All}
use Rattle.preorder_address.specs.declared.spot.Spot.{Spot}
use Rattle.preorder_address.proofs.Arriving.{descents-arrive}
use Rattle.path_isolation.specs.Chains.{IsChain, last_label}
use Rattle.path_isolation.specs.Isolations.{IsIsolated, start_of}
use Rattle.tree_updates.specs.Differences.{hole_at}
use Rattle.tree_updates.specs.Marked.{chain_number}
use Rattle.tree_updates.specs.Numbered.{IsNodeIsolated}
use Rattle.tree_updates.specs.Ways.{LeadToNode}
use Rattle.tree_updates.proofs.Bridging.{leads-on, of-value}
use Rattle.tree_updates.proofs.HoleNumbers.{hole-number}
use Rattle.tree_updates.proofs.RouteNumbers.{levels-number}

-- what is numbered is a symbol
symbol-of : (l : Label) → 0 < weigh_by Nodes l → (f : ℕ) × (l ≡ Symbol f)
symbol-of Bottom h = absurd (omega (arith, h))
symbol-of (Symbol f) h = (f, refl)
symbol-of (Call q) h = absurd (omega (arith, h))
symbol-of Param h = absurd (omega (arith, h))

-- levels are a chain to a counted label, before which so much stands
pub record AreNumbered (by : Numbering) (G : List KeyedRule) (n : ℕ) (ls : List Level) : Type 0 where
  pub places : List ℕ
  pub chain : IsChain G ls places
  pub counted : 0 < weigh_by by (last_label G Bottom ls places)
  pub number : chain_number (weigh_by by) G ls places [] ≡ n

weighs-none : (by : Numbering) → weigh_by by Param ≡ 0
weighs-none Nodes = refl
weighs-none All = refl

arriving : (by : Numbering) (K : Keyed) (sound : IsKeyed K) (n : ℕ) (ls : List Level) → Arrives (weigh_by by) K.rules (length K.rules - 1) n ls → n < count (weigh_by by) (rules_of K.rules) (length K.rules - 1) 0 → AreNumbered by K.rules n ls
arriving by K sound n [] A b = absurd A.chain
arriving by K sound n (l ∷ ls) A b =
    let some = sound.grammar.some in
    let P = leads-on K.rules (length K.rules - 1) l ls A.label A.chain (of-value by A.label A.counted) in
    let e = P.rule in
    let E : EndsAt (weigh_by by) K.rules l.rule n (l ∷ ls) = subst (λ r. EndsAt (weigh_by by) K.rules r n (l ∷ ls)) (sym e) A.ends in
    let c : n < count (weigh_by by) (rules_of K.rules) l.rule 0 = subst (λ r. n < count (weigh_by by) (rules_of K.rules) r 0) (sym e) b in
    let d : 0 < weigh_by by (last_label K.rules (label_at K.rules l.rule P.place) ls P.places) = subst (λ (x : Label). 0 < weigh_by by x) (sym P.last) A.counted in
    record {
      places = P.place ∷ P.places;
      chain = (omega (arith, some, e, length-rules_of K.rules), P.there, P.leads);
      counted = d;
      number = levels-number (weigh_by by) (weighs-none by) K sound l.rule P.place l ls P.places n 0 n [] P.there P.leads d E (omega arith) c ∙ omega arith;
    }

module _ (by : Numbering) (K : Keyed) (sound : IsKeyed K) (n : ℕ) (low : n < sum_by (weigh_by by) (preorder (rules_of K.rules) (length K.rules - 1))) where
  abbrev start : ℕ
  start = length K.rules - 1

  counted-low : n < count (weigh_by by) (rules_of K.rules) (length K.rules - 1) 0
  counted-low =
      let some = sound.grammar.some in
      let many = length-rules_of K.rules in
      let h : start < length (rules_of K.rules) = omega (arith, some, many) in
      let z : params (preorder (rules_of K.rules) start) ≡ 0 = omega (arith, params-preorder (rules_of K.rules) start sound.grammar h, (sound.grammar.each start h).shaped.start (omega (arith, some, many))) in
      omega (arith, low, ap (sum_by (weigh_by by)) (segment-whole (preorder (rules_of K.rules) start) z))

  -- the levels to a number of the value
  pub numbered : AreNumbered by K.rules n (levels_of K.rules (descent_to by (length K.rules - 1) n))
  numbered = arriving by K sound n (levels_of K.rules (descent_to by (length K.rules - 1) n))
      (descents-arrive by K start n sound (omega (arith, sound.grammar.some, length-rules_of K.rules)) low) counted-low

-- once the end of a chain stands in the start's body, so much stands before it
pub number-isolated : (by : Numbering) (K : Keyed) (sound : IsKeyed K) (H : List KeyedRule) (n : ℕ) (ls : List Level) (key : Key) (N : AreNumbered by K.rules n ls) (I : IsIsolated K.rules H ls N.places key)
    → hole_at (weigh_by by) (term_around (rules_of H) I.place) ≡ n
number-isolated by K sound H n ls key N I = ap (hole_at (weigh_by by)) I.around ∙ hole-number (weigh_by by) K.rules sound.grammar ls N.places N.chain ∙ N.number

-- levels that lead to a node
pub leading : (K : Keyed) (sound : IsKeyed K) (n : ℕ) (ls : List Level) → LeadToNode K.rules ls n → AreNumbered Nodes K.rules n ls
leading K sound n ls L = subst (AreNumbered Nodes K.rules n) (sym L.located) (numbered Nodes K sound n L.low)

-- their node, once it stands in the start's body
pub node-isolated : (K : Keyed) (sound : IsKeyed K) (n : ℕ) (ls : List Level) (L : LeadToNode K.rules ls n) (H : List KeyedRule) (key : Key)
    → length H ≡ length K.rules → IsIsolated K.rules H ls (leading K sound n ls L).places key → IsNodeIsolated H n key
node-isolated K sound n ls L H key m I =
    let N = leading K sound n ls L in
    let f = symbol-of (last_label K.rules Bottom ls N.places) N.counted in
    let e : start_of K.rules ≡ length H - 1 = ap (λ (k : ℕ). k - 1) (sym m) in
    record {
      place = I.place;
      symbol = f.0;
      there = subst (λ r. key_at H r I.place ≡ Some key) e I.there;
      label = ap (λ r. label_at H r I.place) (sym e) ∙ I.label ∙ f.1;
      before = number-isolated Nodes K sound H n ls key N I;
    }

module _ (names : List (Kind × List ℕ)) (G : List KeyedRule) (n : ℕ) (s : Spot) (S : IsSpot names G n s) where
  spot-low : n < sum_by node_weight (preorder (rules_of G) (length G - 1))
  spot-low = omega (arith, ap (sum_by node_weight) S.split, sum_by-append node_weight S.earlier (Symbol s.symbol ∷ S.later), sum_by-cons node_weight (Symbol s.symbol) S.later, S.number)

  -- the levels of a spot
  pub spot-leads : (ls : List Level) → ls ≡ s.levels.items → LeadToNode G ls n
  spot-leads ls e = record { located = e ∙ S.located; low = spot-low }

pub spot-numbered : (names : List (Kind × List ℕ)) (K : Keyed) (sound : IsKeyed K) (n : ℕ) (s : Spot) → IsSpot names K.rules n s → AreNumbered Nodes K.rules n s.levels.items
spot-numbered names K sound n s S = leading K sound n s.levels.items (spot-leads names K.rules n s S s.levels.items refl)
