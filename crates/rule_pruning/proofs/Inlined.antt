-- One call that gave way to a copy of its rule's body: what is counted.
use Rattle.std.proofs.Common.{◌≡◌, ◌≢◌, ℕ, ◌+◌, Bool, List, [], ◌∷◌, refl, sym, ap, arith}
use Rattle.rule_arena.specs.Terms.{Node}
use Rattle.rule_arena.specs.declared.key.Key.{Key}
use Rattle.rule_arena.specs.declared.label.Label.{Label}
use Rattle.rule_arena.specs.declared.label.Label.TheVariants.{Call}
use Rattle.slt_grammar.specs.Bodies.{calls_in}
use Rattle.slt_grammar.specs.Copying.{inlined_nodes}
use Rattle.slt_grammar.specs.Grammars.{body_at, calls_of}
use Rattle.slt_grammar.specs.Keyed.{KeyedRule, labels_of, nodes_at, rules_of}
use Rattle.slt_grammar.specs.KeyedEdits.{StandsAsCall, with_nodes}
use Rattle.slt_grammar.proofs.InlinedRules.{inlined-weighs}
use Rattle.slt_grammar.proofs.KeyedEdits.{rules-with_nodes}
use Rattle.slt_grammar.proofs.KeyedLemmas.{body_at-rules_of, length-rules_of}
use Rattle.slt_grammar.proofs.Weights.{weigh, call_weight, calls-weigh, total, calls-total, total-with_body}
use Rattle.slt_grammar.specs.Keyed.{Keyed, IsKeyed}
use Rattle.slt_grammar.proofs.Removals.{calls-past}
use Rattle.std.proofs.lemmas.Bool.{eq-eqb, ne_eqb}
use Rattle.std.specs.Prelude.{if◌then◌else◌}
use Rattle.digram_index.proofs.Inlined.{L, callee-before, there-in}

-- the calls of one label
call-one : (q : ℕ) → calls_in q (Call q ∷ []) ≡ 1
call-one q = ap (λ (b : Bool). (if b then 1 else 0) + 0) (eq-eqb q q refl)

call-none : (t q : ℕ) → t ≢ q → calls_in t (Call q ∷ []) ≡ 0
call-none t q d = ap (λ (b : Bool). (if b then 1 else 0) + 0) (ne_eqb q t (λ e. d (sym e)))

module _ (g : Keyed) (K : IsKeyed g) (call : Key) (C : StandsAsCall g.rules call) (keys : List Key) where
  abbrev ms : List Node
  ms = inlined_nodes (nodes_at g.rules C.here.rule) C.here.place (nodes_at g.rules C.called) keys

  abbrev H : List KeyedRule
  H = with_nodes g.rules C.here.rule (inlined_nodes (nodes_at g.rules C.here.rule) C.here.place (nodes_at g.rules C.called) keys)

  -- what is counted
  pub calls-after : (t : ℕ) → calls_of (rules_of H) t + calls_in t (Call C.called ∷ []) ≡ calls_of (rules_of g.rules) t + calls_in t (body_at (rules_of g.rules) C.called)
  calls-after t =
      let w : Label → ℕ = call_weight t in
      let m = (inlined-weighs g.rules C.here.rule C.here.place C.called call keys (L g K call C keys) C.here.there C.label w refl).0 in
      omega (
        arith,
        m,
        calls-weigh t (Call C.called ∷ []),
        calls-weigh t (body_at (rules_of g.rules) C.called),
        calls-total t (rules_of g.rules),
        calls-total t (rules_of H),
        ap (total w) (rules-with_nodes g.rules C.here.rule ms),
        total-with_body w (rules_of g.rules) C.here.rule (labels_of ms) (omega (arith, there-in g K call C keys, length-rules_of g.rules)),
        ap (weigh w) (body_at-rules_of g.rules C.here.rule),
        ap (weigh w) (body_at-rules_of g.rules C.called),
      )

  pub fewer-after : calls_of (rules_of H) C.called + 1 ≡ calls_of (rules_of g.rules) C.called
  fewer-after =
      omega (
        arith,
        calls-after C.called,
        call-one C.called,
        calls-past C.called C.called (body_at (rules_of g.rules) C.called) (K.grammar.each C.called (omega (arith, callee-before g K call C keys, there-in g K call C keys, length-rules_of g.rules))).earlier (omega arith),
      )

  pub others-after : (t : ℕ) → t ≢ C.called → calls_of (rules_of H) t ≡ calls_of (rules_of g.rules) t + calls_in t (body_at (rules_of g.rules) C.called)
  others-after t d = omega (arith, calls-after t, call-none t C.called d)
