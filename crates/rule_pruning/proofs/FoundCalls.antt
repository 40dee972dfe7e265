-- Where the calls of a rule stand: at roots, or at lower nodes that an index has.
use Rattle.std.proofs.Common.{◌≡◌, ◌≢◌, inl, inr, ℕ, suc, ◌+◌, ◌<◌, ◌≤◌, Bool, List, [], ◌∷◌, Option, Some, None, IfNone, IsSome, slice_get, refl, sym, ap, ◌∙◌, subst, arith}
use Rattle.std.specs.Prelude.{MatchBool, eqb, if◌then◌else◌}
use Rattle.std.proofs.lemmas.Bool.{cases_eq, cases_lt, eq-eqb, ne_eqb}
use Rattle.std.proofs.lemmas.List.Sums.{sum_by-cons}
use Rattle.rule_arena.specs.Terms.{Node, parent_in}
use Rattle.rule_arena.specs.declared.key.Key.{Key}
use Rattle.rule_arena.specs.declared.label.Label.{Label}
use Rattle.rule_arena.specs.declared.label.Label.TheVariants.{Bottom, Symbol, Call, Param}
use Rattle.slt_grammar.specs.Bodies.{calls_in}
use Rattle.slt_grammar.specs.Grammars.{calls_of}
use Rattle.slt_grammar.specs.Keyed.{Keyed, KeyedRule, IsKeyed, key_at, labels_of, nodes_at, rules_of}
use Rattle.slt_grammar.specs.declared.rules.Rule.{Rule}
use Rattle.slt_grammar.proofs.KeyedLemmas.{key_at-within, nodes-are-term}
use Rattle.slt_grammar.proofs.Parents.{parent-inner}
use Rattle.slt_grammar.proofs.TourWalking.{key-node, node-key}
use Rattle.digram_index.specs.Digrams.{Cell}
use Rattle.digram_index.specs.Linked.{Linked, IsCallLinked, IsIndexOf}
use Rattle.digram_index.proofs.BuildLemmas.{lower-some}
use Rattle.digram_index.proofs.Inlined.{callee-before}
use Rattle.digram_index.proofs.Kept.{indexed-occurs}
use Rattle.digram_index.proofs.Readings.{reads}
use Rattle.rule_pruning.specs.Calls.{StandsAsCallOf}
use Rattle.rule_pruning.proofs.InlineCalls.{as-call}

-- a node of a list that calls the rule
record IsFound (ns : List Node) (q : ℕ) : Type 0 where
  place : ℕ
  node : Node
  there : slice_get ns place ≡ Some node
  label : node.label ≡ Call q

later : (n : Node) (ns : List Node) (q : ℕ) → IsFound ns q → IsFound (n ∷ ns) q
later n ns q w = record { place = suc w.place; node = w.node; there = w.there; label = w.label }

call-in : (q : ℕ) (ns : List Node) → 0 < calls_in q (labels_of ns) → IsFound ns q
call-in q [] h = absurd (omega (arith, h))
call-in q (n ∷ ns) h = at n.label refl h (λ k. later n ns q (call-in q ns k))
  where
    at : (l : Label) → n.label ≡ l → 0 < calls_in q (l ∷ labels_of ns) → (0 < calls_in q (labels_of ns) → IsFound (n ∷ ns) q) → IsFound (n ∷ ns) q
    at Bottom e h go = go h
    at (Symbol f) e h go = go h
    at Param e h go = go h
    at (Call p) e h go = elim (cases_eq p q) [
      | inl s ↦ record { place = 0; node = n; there = refl; label = e ∙ ap Call s }
      | inr d ↦ go (let k : 0 < 0 + calls_in q (labels_of ns) = subst (λ (b : Bool). 0 < (if b then 1 else 0) + calls_in q (labels_of ns)) (ne_eqb p q d) h in omega (arith, k))
    ]

-- a rule that is called has a call
pub call-somewhere : (q : ℕ) (G : List KeyedRule) → 0 < calls_of (rules_of G) q → (key : Key) × StandsAsCallOf G q key
call-somewhere q [] h = absurd (omega (arith, h))
call-somewhere q (R ∷ G) h = elim (cases_lt 0 (calls_in q (labels_of R.nodes))) [
  | inl l ↦ let w = call-in q R.nodes l in (w.node.key, record { rule = 0; place = w.place; node = w.node; there = w.there; named = refl; label = w.label })
  | inr l ↦
      let s = sum_by-cons (λ (S : Rule). calls_in q S.body) (record { rank = R.rank; body = labels_of R.nodes }) (rules_of G) in
      let w = call-somewhere q G (omega (arith, h, l, s)) in
      (w.0, record { rule = suc w.1.rule; place = w.1.place; node = w.1.node; there = w.1.there; named = w.1.named; label = w.1.label })
]

pub stands-at : (G : List KeyedRule) (q : ℕ) (key : Key) (S : StandsAsCallOf G q key) → key_at G S.rule S.place ≡ Some key
stands-at G q key S = node-key (nodes_at G S.rule) S.place S.node S.there ∙ ap (λ (k : Key). Some k) S.named

call-no-param : (q : ℕ) → Call q ≢ Param
call-no-param q e = cc

module _ (g : Keyed) (K : IsKeyed g) (I : Linked) (A : IsIndexOf g I) (q : ℕ) where
  -- a call that is no root is linked
  pub lower-linked : (key : Key) (S : StandsAsCallOf g.rules q key) → 0 < S.place → IsCallLinked I q key.number
  lower-linked key S h =
      let ns = nodes_at g.rules S.rule in
      let t = stands-at g.rules q key S in
      let w = key_at-within g.rules S.rule S.place key t in
      let s = parent-inner ns S.place (nodes-are-term g K S.rule w.0) w.1 h in
      let O = lower-some g.rules S.rule S.place S.node (parent_in ns S.place) S.there refl s (λ z. call-no-param q (sym S.label ∙ z)) in
      let R = reads g.rules S.rule S.place O.0 S.node (parent_in ns S.place) O.1 S.there refl in
      (O.0, (A.all S.rule S.place key t ∙ O.1, ap (λ (o : Cell). o.digram.lower) R.told ∙ S.label))

  -- a linked call stands in the grammar
  pub linked-stands : (key : Key) → IsCallLinked I q key.number → StandsAsCallOf g.rules q key
  linked-stands key L =
      let O = indexed-occurs g I A key L.0 L.1.0 in
      let N = key-node (nodes_at g.rules O.rule) O.place key O.there in
      let R = reads g.rules O.rule O.place L.0 N.0 (parent_in (nodes_at g.rules O.rule) O.place) O.here N.1 refl in
      record { rule = O.rule; place = O.place; node = N.0; there = N.1; named = N.2; label = sym (ap (λ (o : Cell). o.digram.lower) R.told) ∙ L.1.1 }

  -- where no call is linked, one is a root
  pub found-at-root : (o : Option ℕ) → (key : Key) × StandsAsCallOf g.rules q key → ((k : ℕ) → IsCallLinked I q k → ⊥)
      → IfNone o ((r : ℕ) (key : Key) → q + 1 ≤ r → key_at g.rules r 0 ≡ Some key → StandsAsCallOf g.rules q key → ⊥) → IsSome o
  found-at-root (Some r) S none roots = refl
  found-at-root None (key, S) none roots = absurd (elim (cases_lt 0 S.place) [
    | inl h ↦ none key.number (lower-linked key S h)
    | inr h ↦ roots S.rule key (let b = callee-before g K key (as-call g.rules q key S) [] in omega arith) (ap (λ (p : ℕ). key_at g.rules S.rule p) (let e : 0 ≡ S.place = omega (arith, h) in e) ∙ stands-at g.rules q key S) S
  ])

-- the label of the node with a key says whether it calls the rule
pub label-calls : (G : List KeyedRule) (q : ℕ) (key : Key) (label : Label) (kids : ℕ) → (r : ℕ) × ((p : ℕ) × (key_at G r p ≡ Some key))
    → ((r p : ℕ) → key_at G r p ≡ Some key → slice_get (nodes_at G r) p ≡ Some (record { key = key; label = label; kids = kids })) → label ≡ Call q → StandsAsCallOf G q key
label-calls G q key label kids (r, (p, k)) node e = record { rule = r; place = p; node = record { key = key; label = label; kids = kids }; there = node r p k; named = refl; label = e }

pub calls-label : (G : List KeyedRule) (q : ℕ) (key : Key) (label : Label) (kids : ℕ)
    → ((r p : ℕ) → key_at G r p ≡ Some key → slice_get (nodes_at G r) p ≡ Some (record { key = key; label = label; kids = kids })) → StandsAsCallOf G q key → label ≡ Call q
calls-label G q key label kids node S = sym (ap (λ (n : Node). n.label) (same S.node (record { key = key; label = label; kids = kids }) (sym S.there ∙ node S.rule S.place (stands-at G q key S)))) ∙ S.label
  where
    same : (a b : Node) → Some a ≡ Some b → a ≡ b
    same a b e = cc

-- what a comparison of two rules tells
pub told-equal : (p q : ℕ) (P Q : Type 0) → (p ≡ q → P) → (p ≢ q → Q) → MatchBool (eqb p q) P Q
told-equal p q P Q same other = elim (cases_eq p q) [
  | inl e ↦ subst (λ (b : Bool). MatchBool b P Q) (sym (eq-eqb p q e)) (same e)
  | inr d ↦ subst (λ (b : Bool). MatchBool b P Q) (sym (ne_eqb p q d)) (other d)
]

pub same-rule : (p q : ℕ) → Call p ≡ Call q → p ≡ q
same-rule p q e = cc
