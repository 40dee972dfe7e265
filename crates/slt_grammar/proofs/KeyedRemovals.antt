-- Rules with keys of which one was dropped.
use Rattle.std.proofs.Common.{◌≡◌, inl, inr, ℕ, zero, suc, ◌+◌, ◌-◌, ◌<◌, ◌≤◌, List, [], ◌∷◌, length, get_or, map, refl, sym, ap, ◌∙◌, subst, arith, remove}
use Rattle.std.proofs.Math.ListN.{get_or-map}
use Rattle.std.proofs.lemmas.Bool.{cases_lt}
use Rattle.std.proofs.lemmas.List.{length-map}
use Rattle.rule_arena.specs.Terms.{Node}
use Rattle.rule_arena.specs.declared.label.Label.{Label}
use Rattle.rule_arena.specs.declared.label.Label.TheVariants.{Bottom, Symbol, Call, Param}
use Rattle.slt_grammar.specs.Algebras.{ranks_of}
use Rattle.slt_grammar.specs.Bodies.{arity, real_nodes, calls_in}
use Rattle.slt_grammar.specs.Editing.{shifted}
use Rattle.slt_grammar.specs.Grammars.{IsGrammar, body_at, calls_of, size, value}
use Rattle.slt_grammar.specs.Holding.{IsLawful, AreCounted}
use Rattle.slt_grammar.specs.Keyed.{KeyedRule, HasArities, nodes_at, rules_of, labels_of}
use Rattle.slt_grammar.specs.KeyedEdits.{unshifted_keyed, rule_dropped}
use Rattle.slt_grammar.specs.Placing.{unshifted_label, unshifted_node, DoesNotCall, DoNotCall}
use Rattle.slt_grammar.specs.RuleValues.{HasRuleMore}
use Rattle.slt_grammar.specs.declared.rules.Rule.{Rule}
use Rattle.slt_grammar.proofs.Agreeing.{Agree, agree-of, of-agree}
use Rattle.slt_grammar.proofs.Keeping.{shifted-before, shifted-behind}
use Rattle.slt_grammar.proofs.KeyedLemmas.{length-rules_of, body_at-rules_of}
use Rattle.slt_grammar.proofs.Removals.{get-left, get-unshifted, other-call, ranks-left, none-calls, length-left, removed-lawful, value-removed, values-removed, calls-removed, size-removed, rule_removed, unshifted_rule, unshifted_labels, calls-past}

-- the same with keys
pub rules-dropped : (G : List KeyedRule) (p : ℕ) → rules_of (rule_dropped G p) ≡ rule_removed (rules_of G) p
rules-dropped G p = go G p
  where
    labels : (ns : List Node) → labels_of (map (unshifted_node p) ns) ≡ unshifted_labels p (labels_of ns)
    labels [] = refl
    labels (n ∷ ns) = ap (λ ls. unshifted_label p n.label ∷ ls) (labels ns)

    all : (F : List KeyedRule) → rules_of (map (unshifted_keyed p) F) ≡ map (unshifted_rule p) (rules_of F)
    all [] = refl
    all (R ∷ F) = ap (λ ls. record { rank = R.rank; body = ls } ∷ rules_of (map (unshifted_keyed p) F)) (labels R.nodes) ∙ ap (λ (Q : List Rule). record { rank = R.rank; body = unshifted_labels p (labels_of R.nodes) } ∷ Q) (all F)

    go : (F : List KeyedRule) (i : ℕ) → rules_of (map (unshifted_keyed p) (remove F i)) ≡ map (unshifted_rule p) (remove (rules_of F) i)
    go [] zero = refl
    go [] (suc i) = refl
    go (R ∷ F) zero = all F
    go (R ∷ F) (suc i) = ap (λ ls. record { rank = R.rank; body = ls } ∷ rules_of (map (unshifted_keyed p) (remove F i))) (labels R.nodes) ∙ ap (λ (Q : List Rule). record { rank = R.rank; body = unshifted_labels p (labels_of R.nodes) } ∷ Q) (go F i)

nodes-dropped : (G : List KeyedRule) (p r : ℕ) → nodes_at (rule_dropped G p) r ≡ map (unshifted_node p) (nodes_at G (shifted p r))
nodes-dropped G p r =
    ap (λ (R : KeyedRule). R.nodes) (get_or-map (unshifted_keyed p) (remove G p) r (record { rank = 0; nodes = [] }))
    ∙ ap (λ (R : KeyedRule). map (unshifted_node p) R.nodes) (get-left G p r (record { rank = 0; nodes = [] }))

agree-unshifted : (ranks : List ℕ) (p : ℕ) (ns : List Node) → calls_in p (labels_of ns) ≡ 0 → Agree ranks ns → Agree (remove ranks p) (map (unshifted_node p) ns)
agree-unshifted ranks p [] e a = tt
agree-unshifted ranks p (n ∷ ns) e a = at n.label e a.0 (λ k. agree-unshifted ranks p ns k a.1)
  where
    at : (l : Label) → calls_in p (l ∷ labels_of ns) ≡ 0 → n.kids ≡ arity ranks l → (calls_in p (labels_of ns) ≡ 0 → Agree (remove ranks p) (map (unshifted_node p) ns)) → (n.kids ≡ arity (remove ranks p) (unshifted_label p l)) × Agree (remove ranks p) (map (unshifted_node p) ns)
    at Bottom e k ih = (k, ih e)
    at (Symbol f) e k ih = (k, ih e)
    at Param e k ih = (k, ih e)
    at (Call x) e k ih = let o = other-call p x (labels_of ns) e in (k ∙ sym (get-unshifted ranks p x o.0), ih o.1)

pub do-not-call : (p : ℕ) (ns : List Node) → calls_in p (labels_of ns) ≡ 0 → DoNotCall p ns
do-not-call p [] e = tt
do-not-call p (n ∷ ns) e = at n.label e (do-not-call p ns)
  where
    at : (l : Label) → calls_in p (l ∷ labels_of ns) ≡ 0 → (calls_in p (labels_of ns) ≡ 0 → DoNotCall p ns) → DoesNotCall p l × DoNotCall p ns
    at Bottom e ih = (tt, ih e)
    at (Symbol f) e ih = (tt, ih e)
    at Param e ih = (tt, ih e)
    at (Call x) e ih = let o = other-call p x (labels_of ns) e in (o.0, ih o.1)

module _ (G : List KeyedRule) (p : ℕ) (L : IsLawful G) (h : p + 1 < length G) (u : calls_of (rules_of G) p ≡ 0) where
  there : p + 1 < length (rules_of G)
  there = omega (arith, length-rules_of G)

  pub never : (r : ℕ) → calls_in p (labels_of (nodes_at G r)) ≡ 0
  never r = ap (calls_in p) (sym (body_at-rules_of G r)) ∙ none-calls p (rules_of G) u r

  pub dropped-lawful : IsLawful (rule_dropped G p)
  dropped-lawful = record {
    grammar = subst IsGrammar (sym (rules-dropped G p)) (removed-lawful (rules_of G) p L.grammar there u);
    arities = λ r.
        let ranks : List ℕ = ranks_of (rules_of G) in
        let e : ranks_of (rules_of (rule_dropped G p)) ≡ remove ranks p = ap ranks_of (rules-dropped G p) ∙ ranks-left (rules_of G) p in
        subst (λ (ns : List Node). HasArities (ranks_of (rules_of (rule_dropped G p))) ns) (sym (nodes-dropped G p r))
        (subst (λ rs. HasArities rs (map (unshifted_node p) (nodes_at G (shifted p r)))) (sym e)
        (of-agree (remove ranks p) (map (unshifted_node p) (nodes_at G (shifted p r))) (agree-unshifted ranks p (nodes_at G (shifted p r)) (never (shifted p r)) (agree-of ranks (nodes_at G (shifted p r)) (L.arities (shifted p r))))));
  }

  pub value-dropped : value (rules_of (rule_dropped G p)) ≡ value (rules_of G)
  value-dropped = ap value (rules-dropped G p) ∙ value-removed (rules_of G) p L.grammar there u

  pub values-dropped : HasRuleMore p (rules_of (rule_dropped G p)) (rules_of G)
  values-dropped = subst (λ (Q : List Rule). HasRuleMore p Q (rules_of G)) (sym (rules-dropped G p)) (values-removed (rules_of G) p L.grammar there u)

  pub dropped-counted : (calls mid : List ℕ) (nodes left : ℕ) → AreCounted G calls nodes → length mid ≡ length calls → ((q : ℕ) → q < length calls → get_or mid q 0 + calls_in q (labels_of (nodes_at G p)) ≡ get_or calls q 0)
      → left ≡ real_nodes (labels_of (nodes_at G p)) → AreCounted (rule_dropped G p) (remove mid p) (nodes - left)
  dropped-counted calls mid nodes left C len moved real =
      let n = length-left mid p (omega (arith, C.many)) in
      let m = length-map (remove G p) (unshifted_keyed p) in
      let k = length-left G p (omega arith) in
      record {
        many = omega (arith, n, m, k, C.many);
        each = λ q l.
            let s : shifted p q < length G = in-range q (omega (arith, m, k)) in
            omega (
              arith,
              get-left mid p q 0,
              moved (shifted p q) (omega (arith, C.many)),
              C.each (shifted p q) s,
              calls-removed (rules_of G) p L.grammar there u q,
              ap (λ (Q : List Rule). calls_of Q q) (rules-dropped G p),
              ap (calls_in (shifted p q)) (body_at-rules_of G p),
            );
        real = omega (arith, real, C.real, size-removed (rules_of G) p L.grammar there u, ap size (rules-dropped G p), ap real_nodes (body_at-rules_of G p));
      }
    where
      in-range : (q : ℕ) → q + 1 < length G → shifted p q < length G
      in-range q l = elim (cases_lt q p) [ inl b ↦ omega (arith, shifted-before p q b) | inr b ↦ omega (arith, shifted-behind p q b) ]

-- later rules lose no call where one is dropped
pub called-on : (G : List KeyedRule) (p : ℕ) → IsGrammar (rules_of G) → p + 1 < length G → calls_of (rules_of G) p ≡ 0 → ((q : ℕ) → p + 1 ≤ q → q + 1 < length G → 0 < calls_of (rules_of G) q)
    → (length (rule_dropped G p) + 1 ≡ length G) × ((q : ℕ) → p ≤ q → q + 1 < length (rule_dropped G p) → 0 < calls_of (rules_of (rule_dropped G p)) q)
called-on G p g h u c =
    let t : p + 1 < length (rules_of G) = omega (arith, length-rules_of G) in
    let n : length (rule_dropped G p) + 1 ≡ length G = omega (arith, length-map (remove G p) (unshifted_keyed p), length-left G p (omega arith)) in (
      n,
      λ q k l.
          let s = shifted-behind p q k in
          omega (
            arith,
            calls-removed (rules_of G) p g t u q,
            ap (λ (Q : List Rule). calls_of Q q) (rules-dropped G p),
            ap (calls_of (rules_of G)) s,
            ap (λ (x : ℕ). calls_in x (body_at (rules_of G) p)) s,
            calls-past p (suc q) (body_at (rules_of G) p) (g.each p (omega arith)).earlier (omega arith),
            c (suc q) (omega arith) (omega arith),
          ),
    )
