-- The calls of rules once an occurrence was folded.
use Rattle.std.proofs.Common.{◌≡◌, ℕ, suc, ◌+◌, ◌-◌, ◌<◌, ◌≤◌, Bool, if◌then◌else◌, List, [], ◌∷◌, ◌++◌, length, Some, refl, ap, ◌∙◌, subst, arith}
use Rattle.std.proofs.lemmas.Bool.{eq-eqb}
use Rattle.rule_arena.specs.declared.key.Key.{Key}
use Rattle.rule_arena.specs.declared.label.Label.{Label}
use Rattle.slt_grammar.specs.Names.{Call}
use Rattle.slt_grammar.specs.Bodies.{arity, calls_in, CallsBelow}
use Rattle.slt_grammar.specs.Grammars.{calls_of}
use Rattle.slt_grammar.specs.Holding.{IsLawful}
use Rattle.slt_grammar.specs.Keyed.{Keyed, KeyedRule, IsKeyed, nodes_at, key_at, rules_of, labels_of}
use Rattle.slt_grammar.specs.Algebras.{ranks_of}
use Rattle.slt_grammar.specs.KeyedEdits.{parameters, FoldsInto, with_nodes, folded_nodes, label_at}
use Rattle.slt_grammar.proofs.FoldedRules.{N, D, ms, in-rules, upper-label, lower-label, folded-weighs}
use Rattle.slt_grammar.proofs.KeyedEdits.{rules-with_nodes}
use Rattle.slt_grammar.proofs.KeyedLemmas.{key_at-within, length-rules_of, body_at-rules_of}
use Rattle.slt_grammar.proofs.Removals.{calls-past}
use Rattle.slt_grammar.proofs.Keeping.{CallsBelow-parts}
use Rattle.slt_grammar.proofs.KeptLemmas.{below-get, below-two}
use Rattle.slt_grammar.specs.declared.digram.Digram.{Digram}
use Rattle.pair_replace.specs.NewRules.{IsNewRule}
use Rattle.slt_grammar.proofs.Weights.{weigh-append, weigh, call_weight, calls-weigh, total, total-with_body, calls-total}

-- the calls of the two labels go, and one of the rule comes
pub calls-folded : (g h : Keyed) (K : IsKeyed g) (low : Key) (q : ℕ) (F : FoldsInto g.rules low q)
    → h.rules ≡ with_nodes g.rules F.here.rule (folded_nodes (nodes_at g.rules F.here.rule) F.place F.upper F.here.place (Call q))
    → (k : ℕ) → calls_of (rules_of h.rules) k + calls_in k (label_at g.rules F.here.rule F.place ∷ label_at g.rules F.here.rule F.here.place ∷ []) ≡ calls_of (rules_of g.rules) k + calls_in k (Call q ∷ [])
calls-folded g h K low q F made k =
    let lawful : IsLawful g.rules = record { grammar = K.grammar; arities = K.arities } in
    let once = λ (i j : ℕ) (x : Key) (e : key_at g.rules F.here.rule i ≡ Some x) (f : key_at g.rules F.here.rule j ≡ Some x). (K.once x F.here.rule i F.here.rule j e f).1 in
    let w = call_weight k in
    let body = labels_of (ms g.rules low q lawful F once) in
    let u = upper-label g.rules low q lawful F once in
    let l = lower-label g.rules low q lawful F once in
    let gone = ap (λ (x : Label). calls_in k (x ∷ label_at g.rules F.here.rule F.here.place ∷ [])) u ∙ ap (λ (x : Label). calls_in k ((N g.rules low q lawful F once).label ∷ x ∷ [])) l in
    omega (
      arith,
      ap (λ (G : List KeyedRule). calls_of (rules_of G) k) made,
      calls-total k (rules_of (with_nodes g.rules F.here.rule (ms g.rules low q lawful F once))),
      ap (total w) (rules-with_nodes g.rules F.here.rule (ms g.rules low q lawful F once)),
      calls-total k (rules_of g.rules),
      total-with_body w (rules_of g.rules) F.here.rule body (omega (arith, in-rules g.rules low q lawful F once, length-rules_of g.rules)),
      ap (weigh w) (body_at-rules_of g.rules F.here.rule),
      folded-weighs g.rules low q lawful F once w,
      gone,
      calls-weigh k ((N g.rules low q lawful F once).label ∷ (D g.rules low q lawful F once).node.label ∷ []),
      calls-weigh k (Call q ∷ []),
    )

module _ (g : Keyed) (K : IsKeyed g) (d : Digram) (rule : ℕ) (own : Key) (R : IsNewRule g.rules d rule own) where
  abbrev ranks : List ℕ
  ranks = ranks_of (rules_of g.rules)

  abbrev behind : List Label
  behind = d.lower ∷ parameters (arity ranks d.lower + (arity ranks d.upper - suc (d.place - 1)))

  within : rule < length (rules_of g.rules)
  within = omega (arith, (key_at-within g.rules rule d.place own R.there).0, length-rules_of g.rules)

  -- the new rule stands behind those that its labels call
  pub labels-earlier : CallsBelow rule (d.upper ∷ d.lower ∷ [])
  labels-earlier =
      let b : CallsBelow rule ((d.upper ∷ parameters (d.place - 1)) ++ behind) = subst (CallsBelow rule) R.body (K.grammar.each rule within).earlier in
      let p = CallsBelow-parts rule (d.upper ∷ parameters (d.place - 1)) behind b in
      below-two rule d.upper d.lower (below-get rule (d.upper ∷ parameters (d.place - 1)) 0 p.0) (below-get rule behind 0 p.1)

  pub labels-not-own : calls_in rule (d.upper ∷ d.lower ∷ []) ≡ 0
  labels-not-own = calls-past rule rule (d.upper ∷ d.lower ∷ []) labels-earlier (omega arith)

  -- what the labels call is called
  pub labels-called : (k : ℕ) → calls_in k (d.upper ∷ d.lower ∷ []) ≤ calls_of (rules_of g.rules) k
  labels-called k =
      let w = call_weight k in
      omega (
        arith,
        calls-weigh k (d.upper ∷ d.lower ∷ []),
        calls-total k (rules_of g.rules),
        total-with_body w (rules_of g.rules) rule [] within,
        ap (weigh w) R.body,
        weigh-append w (parameters (d.place - 1)) behind,
      )

one-call : (k : ℕ) → calls_in k (Call k ∷ []) ≡ 1
one-call k = ap (λ (b : Bool). (if b then 1 else 0) + 0) (eq-eqb k k refl)

module _ (g h : Keyed) (K : IsKeyed g) (d : Digram) (rule : ℕ) (own : Key) (R : IsNewRule g.rules d rule own) (low : Key) (F : FoldsInto g.rules low rule)
    (made : h.rules ≡ with_nodes g.rules F.here.rule (folded_nodes (nodes_at g.rules F.here.rule) F.place F.upper F.here.place (Call rule)))
    (upper : label_at g.rules F.here.rule F.place ≡ d.upper) (lower : label_at g.rules F.here.rule F.here.place ≡ d.lower) where
  calls : (k : ℕ) → calls_of (rules_of h.rules) k + calls_in k (d.upper ∷ d.lower ∷ []) ≡ calls_of (rules_of g.rules) k + calls_in k (Call rule ∷ [])
  calls k =
      let e : calls_in k (label_at g.rules F.here.rule F.place ∷ label_at g.rules F.here.rule F.here.place ∷ []) ≡ calls_in k (d.upper ∷ d.lower ∷ []) =
      ap (λ (x : Label). calls_in k (x ∷ label_at g.rules F.here.rule F.here.place ∷ [])) upper ∙ ap (λ (x : Label). calls_in k (d.upper ∷ x ∷ [])) lower in
      let c = calls-folded g h K low rule F made k in
      omega (arith, c, e)

  -- a rule that the labels do not call is called as before
  pub calls-kept : (k : ℕ) → calls_in k (d.upper ∷ d.lower ∷ []) ≡ 0 → calls_of (rules_of g.rules) k ≤ calls_of (rules_of h.rules) k
  calls-kept k z = omega (arith, calls k, z)

  -- and the new rule once more
  pub called-more : calls_of (rules_of h.rules) rule ≡ calls_of (rules_of g.rules) rule + 1
  called-more = omega (arith, calls rule, labels-not-own g K d rule own R, one-call rule)
