-- The values of all rules but the start, whose body was changed.
use Rattle.std.proofs.Common.{◌≡◌, ℕ, ◌+◌, ◌-◌, ◌<◌, List, [], ◌∷◌, ◌++◌, length, get_or, take, drop, sym, ap, ◌∙◌, subst, arith}
use Rattle.std.proofs.lemmas.List.{length-take-le, take-append-drop, get_or_append_left}
use Rattle.rule_arena.specs.Terms.{Node}
use Rattle.rule_arena.specs.declared.label.Label.{Label}
use Rattle.slt_grammar.specs.Algebras.{rule_meanings, ranks_of, all_meanings}
use Rattle.slt_grammar.specs.Editing.{with_body}
use Rattle.slt_grammar.specs.Grammars.{rank_at, value_at}
use Rattle.slt_grammar.specs.Keyed.{KeyedRule, labels_of, rules_of}
use Rattle.slt_grammar.specs.KeyedEdits.{with_nodes}
use Rattle.slt_grammar.specs.RuleValues.{HaveOtherValues}
use Rattle.slt_grammar.specs.Terms.{Term, Leaf, term_algebra, holes}
use Rattle.slt_grammar.specs.declared.rules.Rule.{Rule}
use Rattle.slt_grammar.proofs.Inlining.{ranks-with_body}
use Rattle.slt_grammar.proofs.Keeping.{length-with_body, rank_at-with_body}
use Rattle.slt_grammar.proofs.KeyedEdits.{rules-with_nodes}
use Rattle.slt_grammar.proofs.KeyedLemmas.{length-rules_of}
use Rattle.slt_grammar.proofs.RuleMeanings.{length-rule_meanings, rule_meanings-append, rule_meanings-front}

-- a rule means the same, whatever the body of a later one
pub value-before : (G : List Rule) (r : ℕ) (body : List Label) (s : ℕ) → r < length G → s < r → value_at (with_body G r body) s ≡ value_at G s
value-before G r body s h k =
    let ranks : List ℕ = ranks_of G in
    let R : Rule = record { rank = rank_at G r; body = body } in
    let before : List (List Term → Term) = rule_meanings term_algebra ranks [] (take r G) in
    let n : length before ≡ r = omega (arith, length-rule_meanings term_algebra ranks [] (take r G), length-take-le r G (omega arith)) in
    let old = rule_meanings-front term_algebra ranks before (drop r G) in
    let new = rule_meanings-front term_algebra ranks before (R ∷ drop (r + 1) G) in
    let olds : all_meanings term_algebra G ≡ before ++ old.0 = ap (rule_meanings term_algebra ranks []) (sym (take-append-drop r G)) ∙ rule_meanings-append term_algebra ranks [] (take r G) (drop r G) ∙ old.1 in
    let news : all_meanings term_algebra (with_body G r body) ≡ before ++ new.0 =
    ap (λ ns. rule_meanings term_algebra ns [] (with_body G r body)) (ranks-with_body G r body h) ∙ rule_meanings-append term_algebra ranks [] (take r G) (R ∷ drop (r + 1) G) ∙ new.1 in
    let at : (more : List (List Term → Term)) → get_or (before ++ more) s (λ _. Leaf) ≡ get_or before s (λ _. Leaf) = λ more. get_or_append_left before more (λ _. Leaf) s (omega (arith, n)) in
    ap (λ m. get_or (all_meanings term_algebra (with_body G r body)) s (λ _. Leaf) (holes 0 m)) (rank_at-with_body G r body s h)
    ∙ ap (λ (f : List Term → Term). f (holes 0 (rank_at G s)))
    (ap (λ (fs : List (List Term → Term)). get_or fs s (λ _. Leaf)) news ∙ at new.0 ∙ sym (ap (λ (fs : List (List Term → Term)). get_or fs s (λ _. Leaf)) olds ∙ at old.0))

-- all rules but the start have the values of before
pub others-keep : (G H : List KeyedRule) (r : ℕ) (ms : List Node) → r + 1 ≡ length G → H ≡ with_nodes G r ms → HaveOtherValues (length (rules_of G) - 1) (rules_of G) (rules_of H)
others-keep G H r ms start e =
    let n = length-rules_of G in
    let is : rules_of H ≡ with_body (rules_of G) r (labels_of ms) = ap rules_of e ∙ rules-with_nodes G r ms in
    subst (λ (Q : List Rule). HaveOtherValues (length (rules_of G) - 1) (rules_of G) Q) (sym is)
    (record {
      rules = length-with_body (rules_of G) r (labels_of ms) (omega arith);
      values = λ s d l. value-before (rules_of G) r (labels_of ms) s (omega arith) (omega arith);
    })
