-- The start's value once a subterm of its body was put in the parameter's place of another body.
use Rattle.std.proofs.Common.{◌≡◌, ℕ, ◌+◌, ◌-◌, ◌<◌, List, [], ◌∷◌, length, get_or, drop, Some, ap, sym, ◌∙◌, subst, arith, append-nil}
use Rattle.rule_arena.specs.Preorder.{span, subterm, with_subterm}
use Rattle.rule_arena.specs.Terms.{Node as KeyedNode}
use Rattle.rule_arena.specs.declared.key.Key.{Key}
use Rattle.rule_arena.specs.declared.label.Label.{Label}
use Rattle.rule_arena.specs.declared.label.Label.TheVariants.{Bottom}
use Rattle.rule_arena.proofs.PreorderLemmas.{AreTerms-with}
use Rattle.slt_grammar.specs.Algebras.{meanings, meaning, ranks_of, all_meanings}
use Rattle.slt_grammar.specs.Bodies.{arity, params, CallsBelow, IsTerm}
use Rattle.slt_grammar.specs.ChangedValues.{start_body, DifferAt, StandsWithin}
use Rattle.slt_grammar.specs.Editing.{put}
use Rattle.slt_grammar.specs.Grammars.{IsGrammar}
use Rattle.slt_grammar.specs.Holding.{IsLawful}
use Rattle.slt_grammar.specs.Keyed.{KeyedRule, key_at, nodes_at, rules_of, labels_of}
use Rattle.slt_grammar.specs.KeyedEdits.{with_nodes}
use Rattle.slt_grammar.specs.Terms.{Term, Leaf, substitute, term_algebra, holes}
use Rattle.slt_grammar.specs.declared.rules.Rule.{Rule}
use Rattle.slt_grammar.proofs.ChangedValues.{differ-at, last, body-is, in-body, with-is}
use Rattle.slt_grammar.proofs.Contexts.{meaning-substitute}
use Rattle.slt_grammar.proofs.Keeping.{CallsBelow-take, CallsBelow-drop, CallsBelow-put}
use Rattle.slt_grammar.proofs.KeyedLemmas.{key_at-within}
use Rattle.slt_grammar.proofs.Meanings.{meanings-whole, only}
use Rattle.slt_grammar.proofs.Substitutions.{joined, params-put, AreTerms-put, meanings-put}
use Rattle.slt_grammar.proofs.Values.{no-params, with_start}

module _ (G : List Rule) (g : IsGrammar G) (p : ℕ) (there : p < length (start_body G)) (ls : List Label) (below : CallsBelow (length G - 1) ls) (term : IsTerm (ranks_of G) ls) (one : params ls ≡ 1) where
  -- the subterm at the place
  abbrev pub part : List Label
  part = subterm (arity (ranks_of G)) (start_body G) p

  abbrev pub fs : List (List Term → Term)
  fs = all_meanings term_algebra G

  start-there : length G - 1 < length G
  start-there = let some = g.some in omega arith

  part-term : IsTerm (ranks_of G) part
  part-term = (AreTerms-with (arity (ranks_of G)) 1 (start_body G) p (Bottom ∷ []) (g.each (length G - 1) start-there).shaped.term there tt).0

  given-is : joined (part ∷ []) ≡ part
  given-is = append-nil part

  part-below : CallsBelow (length G - 1) (joined (part ∷ []))
  part-below =
      subst (CallsBelow (length G - 1)) (sym given-is)
      (CallsBelow-take (length G - 1) (span (arity (ranks_of G)) 1 (drop p (start_body G))) (drop p (start_body G)) (CallsBelow-drop (length G - 1) p (start_body G) (g.each (length G - 1) start-there).earlier))

  -- the body around the subterm means the body's term around the subterm's
  around-is : meaning term_algebra (ranks_of G) fs (put ls (part ∷ [])) [] ≡ substitute (meaning term_algebra (ranks_of G) fs ls (holes 0 1)) (meaning term_algebra (ranks_of G) fs part [] ∷ [])
  around-is =
      let w = meanings-whole term_algebra (ranks_of G) fs 1 [] part [] part-term in
      ap (λ (ms : List Term). get_or ms 0 Leaf) (meanings-put term_algebra (ranks_of G) fs [] ls (part ∷ []) [] (part-term, tt) (sym one))
      ∙ ap (λ (xs : List Label). meaning term_algebra (ranks_of G) fs ls (meanings term_algebra (ranks_of G) fs [] xs [])) given-is
      ∙ ap (meaning term_algebra (ranks_of G) fs ls) (only Leaf (meanings term_algebra (ranks_of G) fs [] part []) w.1)
      ∙ meaning-substitute G ls (meaning term_algebra (ranks_of G) fs part [] ∷ [])

  -- the body around the subterm
  pub around-below : CallsBelow (length G - 1) (put ls (part ∷ []))
  around-below = CallsBelow-put (length G - 1) ls (part ∷ []) below part-below

  pub around-term : IsTerm (ranks_of G) (put ls (part ∷ []))
  around-term = AreTerms-put (ranks_of G) 1 ls (part ∷ []) term (part-term, tt) (sym one)

  pub around-params : params (put ls (part ∷ [])) ≡ params part
  around-params = params-put ls (part ∷ []) (sym one) ∙ ap params given-is

  pub stands-within : StandsWithin G (with_start G p (put ls (part ∷ []))) p ls
  stands-within = record {
    term = meaning term_algebra (ranks_of G) fs part [];
    differ = subst (λ (t : Term). DifferAt G (with_start G p (put ls (part ∷ []))) p (meaning term_algebra (ranks_of G) fs part []) t) around-is
        (differ-at G g p there (put ls (part ∷ [])) around-below around-term (around-params ∙ (no-params G g p there).2));
  }

-- what wrapping makes of the start's value, where the labels of the new nodes are the body around the subterm
pub wrapping-changes : (K H : List KeyedRule) (r p : ℕ) (key : Key) (ls : List Label) (ms : List KeyedNode) → IsLawful K → key_at K r p ≡ Some key → r + 1 ≡ length K
    → CallsBelow r ls → IsTerm (ranks_of (rules_of K)) ls → params ls ≡ 1
    → labels_of ms ≡ with_subterm (arity (ranks_of (rules_of K))) (labels_of (nodes_at K r)) p (put ls (subterm (arity (ranks_of (rules_of K))) (labels_of (nodes_at K r)) p ∷ []))
    → H ≡ with_nodes K r ms → StandsWithin (rules_of K) (rules_of H) p ls
wrapping-changes K H r p key ls ms L k start below term one labels e =
    let G : List Rule = rules_of K in
    let there = (key_at-within K r p key k).1 in
    let ar : Label → ℕ = arity (ranks_of G) in
    let inside = in-body K r p start there in
    let same : labels_of ms ≡ with_subterm ar (start_body G) p (put ls (subterm ar (start_body G) p ∷ [])) =
    labels ∙ ap (λ (xs : List Label). with_subterm ar xs p (put ls (subterm ar xs p ∷ []))) (sym (body-is K r p start there)) in
    subst (λ (X : List Rule). StandsWithin G X p ls) (sym (ap rules_of e ∙ with-is K r p start there ms (put ls (subterm ar (start_body G) p ∷ [])) same))
    (stands-within G L.grammar p inside ls (subst (λ (n : ℕ). CallsBelow n ls) (last K r p start there) below) term one)
