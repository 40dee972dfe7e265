-- Inlining read backward: a subterm that is a rule's body over some arguments becomes a call.
use Rattle.std.proofs.Common.{◌≡◌, ℕ, ◌+◌, ◌<◌, List, [], ◌∷◌, ◌++◌, length, get_or, take, drop, ap, sym, ◌∙◌, arith, get_or-take, add-zero}
use Rattle.std.proofs.lemmas.List.{length-take-le}
use Rattle.rule_arena.specs.Preorder.{AreTerms, span, subterm, with_subterm}
use Rattle.rule_arena.proofs.PreorderLemmas.{split_at}
use Rattle.rule_arena.specs.declared.label.Label.{Label}
use Rattle.rule_arena.specs.declared.label.Label.TheVariants.{Bottom, Symbol, Call, Param}
use Rattle.slt_grammar.specs.Bodies.{arity, params, CallsBelow}
use Rattle.slt_grammar.specs.Algebras.{Algebra, meanings, rule_meanings, ranks_of, all_meanings}
use Rattle.slt_grammar.specs.Grammars.{IsGrammar, body_at, rank_at, no_rule}
use Rattle.slt_grammar.specs.Editing.{put, with_body}
use Rattle.slt_grammar.specs.declared.rules.Rule.{Rule}
use Rattle.slt_grammar.proofs.Substitutions.{joined, AllTerms, params-put, AreTerms-joined}
use Rattle.slt_grammar.proofs.RuleMeanings.{rank_at-ranks_of, rule-means}
use Rattle.slt_grammar.proofs.Inlining.{meanings-inline, with_body-keeps}
use Rattle.slt_grammar.proofs.Keeping.{CallsBelow-parts, CallsBelow-append, CallsBelow-take, CallsBelow-drop, grammar-with_subterm}

pub CallsBelow-given : (n : ℕ) (ls : List Label) (given : List (List Label)) → length given ≡ params ls → CallsBelow n (put ls given) → CallsBelow n (joined given)
CallsBelow-given n [] [] e c = tt
CallsBelow-given n [] (a ∷ given) e c = absurd (omega arith)
CallsBelow-given n (Param ∷ ls) [] e c = absurd (omega arith)
CallsBelow-given n (Param ∷ ls) (a ∷ given) e c = let p = CallsBelow-parts n a (put ls given) c in CallsBelow-append n a (joined given) p.0 (CallsBelow-given n ls given (omega arith) p.1)
CallsBelow-given n (Bottom ∷ ls) given e c = CallsBelow-given n ls given e c
CallsBelow-given n (Symbol f ∷ ls) given e c = CallsBelow-given n ls given e c
CallsBelow-given n (Call q ∷ ls) given e c = CallsBelow-given n ls given e c.1

module _ (G : List Rule) (r place q : ℕ) (given : List (List Label)) (g : IsGrammar G) (there : r < length G) (earlier : q < r) (inside : place < length (body_at G r))
    (all : AllTerms (ranks_of G) given) (many : length given ≡ rank_at G q) (is : subterm (arity (ranks_of G)) (body_at G r) place ≡ put (body_at G q) given) where
  -- the rules with the call mean what they meant
  pub folding-keeps : {S : Type 0} (A : Algebra S) → all_meanings A (with_body G r (with_subterm (arity (ranks_of G)) (body_at G r) place (Call q ∷ joined given))) ≡ all_meanings A G
  folding-keeps {S} A =
      let ranks : List ℕ = ranks_of G in
      let ar = arity ranks in
      let ls : List Label = body_at G r in
      let lq = g.each q (omega arith) in
      let H : List Rule = take r G in
      let fs : List (List S → S) = rule_meanings A ranks [] H in
      let n : length H ≡ r = length-take-le r G (omega arith) in
      let b : body_at H q ≡ body_at G q = ap (λ (R : Rule). R.body) (get_or-take r G q no_rule earlier) in
      let k : get_or ranks q 0 ≡ rank_at G q = rank_at-ranks_of G q in
      let means : (vs : List S) → get_or fs q (λ _. A.bottom) vs ≡ get_or (meanings A ranks fs vs (body_at G q) []) 0 A.bottom =
      λ vs. rw b at (rule-means A ranks H q vs (omega (arith, n)) (rw b lq.earlier)) in
      let back : List Label = drop (span ar 1 (drop place ls)) (drop place ls) in
      let whole : take place ls ++ (put (body_at G q) given ++ back) ≡ ls = ap (λ ms. take place ls ++ (ms ++ back)) (sym is) ∙ split_at ar ls place in
      with_body-keeps A G r (with_subterm ar ls place (Call q ∷ joined given)) there
      (λ args. ap (λ ms. get_or ms 0 A.bottom)
      (sym (meanings-inline A ranks fs args (take place ls) q (body_at G q) given back [] lq.shaped.term all (many ∙ sym lq.linear) (k ∙ sym lq.linear) means)
      ∙ ap (λ ms. meanings A ranks fs args ms []) whole))

  -- and are a grammar
  pub grammar-folded : IsGrammar (with_body G r (with_subterm (arity (ranks_of G)) (body_at G r) place (Call q ∷ joined given)))
  grammar-folded =
      let ranks : List ℕ = ranks_of G in
      let ar = arity ranks in
      let ls : List Label = body_at G r in
      let lq = g.each q (omega arith) in
      let k : get_or ranks q 0 ≡ rank_at G q = rank_at-ranks_of G q in
      let d : CallsBelow r (drop place ls) = CallsBelow-drop r place ls (g.each r there).earlier in
      let c : CallsBelow r (put (body_at G q) given) = rw is at (CallsBelow-take r (span ar 1 (drop place ls)) (drop place ls) d) in
      let t : AreTerms ar (get_or ranks q 0 + 0) (joined given) = rw (add-zero (get_or ranks q 0), k, ← many) (AreTerms-joined ranks given all) in
      let p : params (joined given) ≡ params (subterm ar ls place) = sym (params-put (body_at G q) given (many ∙ sym lq.linear)) ∙ ap params (sym is) in
      grammar-with_subterm G r place (Call q ∷ joined given) g there inside (earlier, CallsBelow-given r (body_at G q) given (many ∙ sym lq.linear) c) t p
