-- A descent that carries what stands before its node.
use Rattle.std.proofs.Common.{◌≡◌, ℕ, ◌+◌, ◌-◌, ◌*◌, ◌<◌, ◌≤◌, List, [], ◌∷◌, ◌++◌, length, get_or, take, drop, refl, ap, sym, ◌∙◌, arith, Some, sum_by, subst, append-nil}
use Rattle.std.specs.Prelude.{slice_get, sum}
use Rattle.std.proofs.lemmas.Option.{same_Some}
use Rattle.std.proofs.lemmas.List.Sums.{sum_by-cons}
use Rattle.rule_arena.specs.Terms.{Node}
use Rattle.rule_arena.specs.declared.label.Label.{Label}
use Rattle.rule_arena.specs.declared.label.Label.TheVariants.{Bottom, Symbol, Call, Param}
use Rattle.slt_grammar.specs.Bodies.{params}
use Rattle.slt_grammar.specs.Grammars.{whole}
use Rattle.slt_grammar.specs.Keyed.{Keyed, IsKeyed, key_at, nodes_at, rules_of}
use Rattle.slt_grammar.specs.Segments.{preorder}
use Rattle.slt_grammar.specs.declared.level.Level.{Level}
use Rattle.slt_grammar.specs.declared.rules.Rule.{Rule}
use Rattle.slt_grammar.proofs.KeyedLemmas.{key_at-within, nodes-are-term}
use Rattle.slt_grammar.proofs.Spreads.{IsPlain}
use Rattle.slt_grammar.proofs.TourLemmas.{spread_nodes}
use Rattle.slt_grammar.proofs.TourWalking.{node-key}
use Rattle.segment_counts.specs.Weights.{count, count_before, node_weight}
use Rattle.preorder_address.specs.Chains.{BeginsAt, EndsAt, HasLabel, LeadsTo, LeadsToNumber}
use Rattle.preorder_address.specs.Descents.{IsInside, levels_of, steps_of}
use Rattle.preorder_address.specs.Sites.{laden, weight_before, weight_below, labels_before, term_weights}
use Rattle.preorder_address.specs.declared.descent.Descent.{Descent}
use Rattle.preorder_address.specs.declared.numbering.Numbering.TheVariants.{Nodes}
use Rattle.preorder_address.proofs.KidWeighing.{no_weights, zeros}
use Rattle.preorder_address.proofs.Lading.{Alike, laden-alike, before-alike, below-alike}
use Rattle.preorder_address.proofs.Listings.{fronts, before_place, kids_from, placed-in-tour}
use Rattle.preorder_address.specs.Told.{level_nodes}
use Rattle.preorder_address.proofs.Locating.{chain-nodes, nodes-few}
use Rattle.preorder_address.proofs.Naming.{symbol-of}
use Rattle.preorder_address.proofs.Siting.{kid_args, kid-args, kids-within, call-within, before-call, below-call, before-symbol, below-symbol}
use Rattle.preorder_address.proofs.Weighing.{weight-nodes}

pub laden-alone : (w : Label → ℕ) → w Param ≡ 0 → (ls : List Label) → laden w [] ls ≡ sum_by w ls
laden-alone w z [] = refl
laden-alone w z (Param ∷ ls) = omega (arith, laden-alone w z ls, sum_by-cons w Param ls, z)
laden-alone w z (Bottom ∷ ls) = omega (arith, laden-alone w z ls, sum_by-cons w Bottom ls)
laden-alone w z (Symbol f ∷ ls) = omega (arith, laden-alone w z ls, sum_by-cons w (Symbol f) ls)
laden-alone w z (Call q ∷ ls) = omega (arith, laden-alone w z ls, sum_by-cons w (Call q) ls)

pub zeros-none : Alike no_weights []
zeros-none j = zeros j

module _ (g : Keyed) (w : Label → ℕ) (n : ℕ) where
  -- the levels lead on to the wanted node, or it was the last one: what stands before it in all is what was added up and what stands
  -- before it in the next rule's value, where the parameters weigh what the arguments do
  abbrev pub SitedBy : List Level → ℕ → List ℕ → Type 0
  SitedBy [] before args = (before ≡ weight_before w [] (preorder (rules_of g.rules) (length g.rules - 1)) n) × (get_or args 0 0 ≡ weight_below w [] (preorder (rules_of g.rules) (length g.rules - 1)) n)
  SitedBy (l ∷ ls) before args =
      (m : ℕ) × (f : Label) × (0 < node_weight f) × LeadsTo g.rules l.rule (l ∷ ls) f × EndsAt node_weight g.rules l.rule m (l ∷ ls)
      × (before + weight_before w args (preorder (rules_of g.rules) l.rule) m ≡ weight_before w [] (preorder (rules_of g.rules) (length g.rules - 1)) n)
      × (weight_below w args (preorder (rules_of g.rules) l.rule) m ≡ weight_below w [] (preorder (rules_of g.rules) (length g.rules - 1)) n)
      × (before + laden w args (preorder (rules_of g.rules) l.rule) ≤ sum_by w (preorder (rules_of g.rules) (length g.rules - 1)))

  pub record Siting (d : Descent) (before : ℕ) (args : List ℕ) (first steps : ℕ) : Type 0 where
    pub inside : IsInside g.rules d
    pub sited : SitedBy (levels_of g.rules d) before args
    pub few : steps + steps_of g.rules d + 6 * level_nodes g.rules (levels_of g.rules d) ≤ first + 10 * whole (rules_of g.rules)

module _ (g : Keyed) (K : IsKeyed g) (w : Label → ℕ) (zero_param : w Param ≡ 0) (n : ℕ) where
  abbrev H : List Rule
  H = rules_of g.rules

  -- the labels of the grammar's value
  abbrev T : List Label
  T = preorder (rules_of g.rules) (length g.rules - 1)

  pub siting-start : (d : Descent) (steps : ℕ) → LeadsToNumber Nodes g.rules n d → Siting g w n d 0 no_weights steps steps
  siting-start d steps l = record {
    inside = l.inside;
    sited = by_levels (levels_of g.rules d) l.arrives.chain l.arrives.ends;
    few = omega (arith, l.few, chain-nodes g K (length g.rules - 1) (levels_of g.rules d) l.arrives.label l.arrives.chain, nodes-few g.rules (length g.rules - 1));
  }
    where
      by_levels : (ls : List Level) → LeadsTo g.rules (length g.rules - 1) ls l.arrives.label → EndsAt node_weight g.rules (length g.rules - 1) n ls → SitedBy g w n ls 0 no_weights
      by_levels [] c e = absurd c
      by_levels (k ∷ ls) c e =
          let z = first-rule k ls c in (
            n,
            l.arrives.label,
            l.arrives.counted,
            subst (λ (r : ℕ). LeadsTo g.rules r (k ∷ ls) l.arrives.label) (sym z) c,
            subst (λ (r : ℕ). EndsAt node_weight g.rules r n (k ∷ ls)) (sym z) e,
            omega (arith, ap (λ r. weight_before w no_weights (preorder H r) n) z, before-alike w no_weights [] zeros-none (preorder H (length g.rules - 1)) n),
            ap (λ r. weight_below w no_weights (preorder H r) n) z ∙ below-alike w no_weights [] zeros-none (preorder H (length g.rules - 1)) n,
            omega (arith, ap (λ r. laden w no_weights (preorder H r)) z, laden-alike w no_weights [] zeros-none (preorder H (length g.rules - 1)), laden-alone w zero_param (preorder H (length g.rules - 1))),
          )
        where
          first-rule : (k : Level) (ls : List Level) → LeadsTo g.rules (length g.rules - 1) (k ∷ ls) l.arrives.label → k.rule ≡ length g.rules - 1
          first-rule k [] c = c.0
          first-rule k (j ∷ ls) c = c.0

  -- the node of the next level
  pub record LevelNode (l : Level) : Type 0 where
    pub place : ℕ
    pub node : Node
    pub there : slice_get (nodes_at g.rules l.rule) place ≡ Some node
    pub key : node.key ≡ l.key
    pub plain : IsPlain node.label

  module _ (l : Level) (ls : List Level) (before : ℕ) (args : List ℕ) (s : SitedBy g w n (l ∷ ls) before args) where
    pub level-node : LevelNode l
    level-node = by_levels ls s.3
      where
        by_levels : (ls : List Level) → LeadsTo g.rules l.rule (l ∷ ls) s.1 → LevelNode l
        by_levels [] c =
            let h = c.1 in
            record { place = h.place; node = h.node; there = h.there; key = h.key; plain = subst IsPlain (sym (symbol-of s.1 s.2).1 ∙ sym h.label) tt }
        by_levels (k ∷ ls) c =
            let h = c.1 in
            record { place = h.place; node = h.node; there = h.there; key = h.key; plain = subst IsPlain (sym h.label) tt }

    pub level-key : key_at g.rules l.rule level-node.place ≡ Some l.key
    level-key = node-key (nodes_at g.rules l.rule) level-node.place level-node.node level-node.there ∙ ap Some level-node.key

    pub level-within : before + laden w args (preorder (rules_of g.rules) l.rule) ≤ sum_by w (preorder (rules_of g.rules) (length g.rules - 1))
    level-within = s.7

    -- the weight before the node and those of its kids fit where that of the whole does
    pub base-small : (weight : ℕ) → weight ≡ laden w args (labels_before g.rules l.rule level-node.place) → before + weight ≤ sum_by w (preorder (rules_of g.rules) (length g.rules - 1))
    base-small weight e =
        let i = level-node in
        omega (arith, e, s.7, kids-within g K w zero_param l.rule args i.place i.node i.there i.plain)

    pub kids-small : (count : ℕ) → count ≡ params (labels_before g.rules l.rule level-node.place) → (r p : ℕ) (x : Node) → slice_get (nodes_at g.rules r) p ≡ Some x → x.key ≡ l.key
        → sum (take x.kids (term_weights w (rules_of g.rules) (drop count args) (drop (p + 1) (nodes_at g.rules r)))) ≤ sum_by w (preorder (rules_of g.rules) (length g.rules - 1))
    kids-small count e r p x t k =
        let i = level-node in
        let z = K.once l.key l.rule i.place r p level-key (node-key (nodes_at g.rules r) p x t ∙ ap Some k) in
        let o : Some i.node ≡ Some x = sym i.there ∙ ap (λ q. slice_get (nodes_at g.rules q) i.place) z.0 ∙ ap (slice_get (nodes_at g.rules r)) z.1 ∙ t in
        let n : i.node ≡ x = same_Some i.node x o in
        omega (
          arith,
          s.7,
          kids-within g K w zero_param l.rule args i.place i.node i.there i.plain,
          ap sum (kid-args g K w zero_param l.rule args i.place i.node i.there),
          ap (λ c. sum (take i.node.kids (term_weights w H (drop c args) (drop (i.place + 1) (nodes_at g.rules l.rule))))) e,
          ap (λ (y : Node). sum (take y.kids (term_weights w H (drop count args) (drop (i.place + 1) (nodes_at g.rules l.rule))))) n,
          ap (λ q. sum (take x.kids (term_weights w H (drop count args) (drop (q + 1) (nodes_at g.rules l.rule))))) z.1,
          ap (λ q. sum (take x.kids (term_weights w H (drop count args) (drop (p + 1) (nodes_at g.rules q))))) z.0,
        )

    -- the part of the level's node where the number falls
    pub record LevelPart (part first : ℕ) : Type 0 where
      pub passed : List Label
      pub placed : passed ≡ labels_before g.rules l.rule level-node.place ++ fronts H level-node.node.label (kids_from H (nodes_at g.rules l.rule) (nodes-are-term g K l.rule (key_at-within g.rules l.rule level-node.place l.key level-key).0) level-node.place) part
      pub is_first : first ≡ sum_by node_weight passed

    pub level-part : (part first : ℕ) → BeginsAt node_weight g.rules l.rule l.key part first → LevelPart part first
    level-part part first b =
        let i = level-node in
        let t = nodes-are-term g K l.rule (key_at-within g.rules l.rule i.place l.key level-key).0 in
        let q = placed-in-tour H (nodes_at g.rules l.rule) t b.passed b.rest (record { item = b.node; part = part }) b.split in
        let z = K.once l.key l.rule q.0 l.rule i.place (node-key (nodes_at g.rules l.rule) q.0 b.node q.1 ∙ ap Some b.key_is) level-key in
        let o : Some b.node ≡ Some i.node = sym q.1 ∙ ap (slice_get (nodes_at g.rules l.rule)) z.1 ∙ i.there in
        let n : b.node ≡ i.node = same_Some b.node i.node o in
        record {
          passed = spread_nodes H b.passed;
          placed = q.2 ∙ ap (λ (y : Node). before_place H (nodes_at g.rules l.rule) t q.0 ++ fronts H y.label (kids_from H (nodes_at g.rules l.rule) t q.0) part) n
              ∙ ap (λ j. before_place H (nodes_at g.rules l.rule) t j ++ fronts H i.node.label (kids_from H (nodes_at g.rules l.rule) t j) part) z.1;
          is_first = sym (weight-nodes node_weight g.rules b.passed ∙ b.number);
        }

    -- the level's node has its label
    pub same-label : (f : Label) → HasLabel g.rules l f → level-node.node.label ≡ f
    same-label f h =
        let i = level-node in
        let z = K.once l.key l.rule h.place l.rule i.place (node-key (nodes_at g.rules l.rule) h.place h.node h.there ∙ ap Some h.key) level-key in
        let o : Some h.node ≡ Some i.node = sym h.there ∙ ap (slice_get (nodes_at g.rules l.rule)) z.1 ∙ i.there in
        let n : h.node ≡ i.node = same_Some h.node i.node o in
        sym (ap (λ (y : Node). y.label) n) ∙ h.label

    -- the descent goes past the level
    module _ (weight count : ℕ) (next : List ℕ) (is_weight : weight ≡ laden w args (labels_before g.rules l.rule level-node.place)) (is_count : count ≡ params (labels_before g.rules l.rule level-node.place))
        (are_kids : (j : ℕ) → get_or next j 0 ≡ get_or (take level-node.node.kids (term_weights w (rules_of g.rules) (drop count args) (drop (level-node.place + 1) (nodes_at g.rules l.rule)))) j 0) where
      alike : Alike next (kid_args g K w zero_param l.rule args level-node.place level-node.node level-node.there)
      alike j =
          let i = level-node in
          are_kids j ∙ ap (λ c. get_or (take i.node.kids (term_weights w H (drop c args) (drop (i.place + 1) (nodes_at g.rules l.rule)))) j 0) is_count
          ∙ ap (λ us. get_or us j 0) (sym (kid-args g K w zero_param l.rule args i.place i.node i.there))

      pub sited-next : SitedBy g w n ls (before + weight) next
      sited-next = by_levels ls s.3 s.4
        where
          by_levels : (ls : List Level) → LeadsTo g.rules l.rule (l ∷ ls) s.1 → EndsAt node_weight g.rules l.rule s.0 (l ∷ ls) → SitedBy g w n ls (before + weight) next
          by_levels [] c e =
              let i = level-node in
              let f = symbol-of s.1 s.2 in
              let y = same-label s.1 c.1 ∙ f.1 in
              let v = level-part 0 s.0 e in
              let n : s.0 ≡ sum_by node_weight (labels_before g.rules l.rule i.place) = v.is_first ∙ ap (sum_by node_weight) (v.placed ∙ append-nil (labels_before g.rules l.rule i.place)) in (
                omega (arith, is_weight, s.5, before-symbol g K w zero_param l.rule args i.place i.node i.there f.0 y s.0 n),
                alike 0 ∙ sym (below-symbol g K w zero_param l.rule args i.place i.node i.there f.0 y s.0 n) ∙ s.6,
              )
          by_levels (k ∷ ks) c e =
              let i = level-node in
              let y = same-label (Call k.rule) c.1 in
              let v = level-part e.0 e.1 e.3 in
              let b = before-call g K w zero_param l.rule args i.place i.node i.there k.rule y v.passed e.0 e.1 e.2 s.0 v.placed v.is_first e.4 e.5 in
              let d = below-call g K w zero_param l.rule args i.place i.node i.there k.rule y v.passed e.0 e.1 e.2 s.0 v.placed v.is_first e.4 e.5 in
              let m : ℕ = count_before node_weight H k.rule e.0 + e.2 in
              let us = kid_args g K w zero_param l.rule args i.place i.node i.there in (
                m,
                s.1,
                s.2,
                first-rule k ks c.2,
                e.6,
                omega (arith, is_weight, s.5, b, before-alike w next us alike (preorder H k.rule) m),
                below-alike w next us alike (preorder H k.rule) m ∙ sym d ∙ s.6,
                omega (arith, is_weight, s.7, call-within g K w zero_param l.rule args i.place i.node i.there k.rule y, laden-alike w next us alike (preorder H k.rule)),
              )
            where
              first-rule : (k : Level) (ks : List Level) → LeadsTo g.rules k.rule (k ∷ ks) s.1 → LeadsTo g.rules k.rule (k ∷ ks) s.1
              first-rule k ks c = c

  module _ (d : Descent) (before : ℕ) (args : List ℕ) (first steps : ℕ) (s : Siting g w n d before args first steps) where
    -- the level that is given next
    pub at-level : (l : Level) (e : Descent) → levels_of g.rules d ≡ l ∷ levels_of g.rules e → SitedBy g w n (l ∷ levels_of g.rules e) before args
    at-level l e f = subst (λ (ls : List Level). SitedBy g w n ls before args) f s.sited

    pub siting-next : (l : Level) (e : Descent) → levels_of g.rules d ≡ l ∷ levels_of g.rules e → IsInside g.rules e → (before' : ℕ) (next : List ℕ) → SitedBy g w n (levels_of g.rules e) before' next
        → (steps' : ℕ) → steps' + steps_of g.rules e ≤ steps + steps_of g.rules d + 6 * length (nodes_at g.rules l.rule) → Siting g w n e before' next first steps'
    siting-next l e f i before' next t steps' h = record {
      inside = i;
      sited = t;
      few = omega (arith, s.few, h, ap (level_nodes g.rules) f, sum_by-cons (λ (l : Level). length (nodes_at g.rules l.rule)) l (levels_of g.rules e));
    }

    pub at-end : levels_of g.rules d ≡ [] → SitedBy g w n [] before args
    at-end f = subst (λ (ls : List Level). SitedBy g w n ls before args) f s.sited

    pub siting-steps : steps ≤ first + 10 * whole (rules_of g.rules)
    siting-steps = omega (arith, s.few)
