-- The values of edited rules: inlining and adding a rule keep them, another term in the start's body stands in the same context.
use Rattle.std.proofs.Common.{◌≡◌, ℕ, ◌+◌, ◌-◌, ◌<◌, ◌≤◌, List, [], ◌∷◌, ◌++◌, length, get_or, take, drop, ap, sym, ◌∙◌, arith}
use Rattle.std.proofs.lemmas.List.{length-take-le, take-append-drop}
use Rattle.rule_arena.specs.Preorder.{span, subterm, with_subterm}
use Rattle.rule_arena.proofs.PreorderLemmas.{AreTerms-with, split_at}
use Rattle.rule_arena.specs.declared.label.Label.{Label}
use Rattle.rule_arena.specs.declared.label.Label.TheVariants.{Bottom, Call, Param}
use Rattle.slt_grammar.specs.Bodies.{arity, params, CallsBelow, IsTerm}
use Rattle.slt_grammar.specs.Algebras.{Algebra, meanings, meaning, rule_meanings, ranks_of, all_meanings}
use Rattle.slt_grammar.specs.Terms.{Term, Leaf, Hole, substitute, term_algebra, holes, holes_of}
use Rattle.slt_grammar.specs.Grammars.{IsGrammar, body_at, rank_at, value_at, value}
use Rattle.slt_grammar.specs.Editing.{inlined, with_body, rule_added, shifted}
use Rattle.slt_grammar.specs.declared.rules.Rule.{Rule}
use Rattle.slt_grammar.proofs.Meanings.{params-append}
use Rattle.slt_grammar.proofs.RuleMeanings.{meanings-earlier, length-rule_meanings, rule_meanings-append, rule_meanings-front, length-all_meanings}
use Rattle.slt_grammar.proofs.Inlining.{ranks-with_body, inlining-keeps}
use Rattle.slt_grammar.proofs.Adding.{adding-keeps, CallsBelow-le}
use Rattle.slt_grammar.proofs.Linear.{holes_of-meaning, values-in_order}
use Rattle.slt_grammar.proofs.Keeping.{CallsBelow-append, CallsBelow-take, CallsBelow-drop, length-with_body, rank_at-with_body, body_at-with_body, grammar-with_subterm, shifted-behind, length-rule_added, rule-shifted}
use Rattle.slt_grammar.proofs.Contexts.{context, value-cut, value-start}

-- a call inlined in any rule keeps the value of each
pub value_at-inlined : (G : List Rule) (r place q s : ℕ) → IsGrammar G → r < length G → place < length (body_at G r) → get_or (body_at G r) place Bottom ≡ Call q
    → value_at (with_body G r (inlined (ranks_of G) (rank_at G q) (body_at G q) (body_at G r) place)) s ≡ value_at G s
value_at-inlined G r place q s g h p e =
    let body : List Label = inlined (ranks_of G) (rank_at G q) (body_at G q) (body_at G r) place in
    ap (λ k. get_or (all_meanings term_algebra (with_body G r body)) s (λ _. Leaf) (holes 0 k)) (rank_at-with_body G r body s h)
    ∙ ap (λ (fs : List (List Term → Term)). get_or fs s (λ _. Leaf) (holes 0 (rank_at G s))) (inlining-keeps term_algebra G r place q g h p e)

pub value-inlined : (G : List Rule) (r place q : ℕ) → IsGrammar G → r < length G → place < length (body_at G r) → get_or (body_at G r) place Bottom ≡ Call q
    → value (with_body G r (inlined (ranks_of G) (rank_at G q) (body_at G q) (body_at G r) place)) ≡ value G
value-inlined G r place q g h p e =
    let body : List Label = inlined (ranks_of G) (rank_at G q) (body_at G q) (body_at G r) place in
    ap (λ n. value_at (with_body G r body) (n - 1)) (length-with_body G r body h) ∙ value_at-inlined G r place q (length G - 1) g h p e

-- a rule put in keeps the value of each other
pub value_at-added : (G : List Rule) (place : ℕ) (R : Rule) (r : ℕ) → IsGrammar G → place ≤ length G → r < length G → value_at (rule_added G place R) (shifted place r) ≡ value_at G r
value_at-added G place R r g p h =
    let k : rank_at (rule_added G place R) (shifted place r) ≡ rank_at G r = ap (λ (Q : Rule). Q.rank) (rule-shifted G place R g p r h) in
    ap (λ j. get_or (all_meanings term_algebra (rule_added G place R)) (shifted place r) (λ _. Leaf) (holes 0 j)) k
    ∙ ap (λ (f : List Term → Term). f (holes 0 (rank_at G r))) (adding-keeps term_algebra G place R g p r h)

pub value-added : (G : List Rule) (place : ℕ) (R : Rule) → IsGrammar G → place < length G → value (rule_added G place R) ≡ value G
value-added G place R g p =
    let n = length-rule_added G place R (omega arith) in
    let e : length (rule_added G place R) - 1 ≡ shifted place (length G - 1) = omega (arith, n, shifted-behind place (length G - 1) (omega arith)) in
    ap (value_at (rule_added G place R)) e ∙ value_at-added G place R (length G - 1) g (omega arith) (omega arith)

-- a body that calls rules before r alone means the same, whatever the body of r
pub meanings-other : {S : Type 0} (A : Algebra S) (G : List Rule) (r : ℕ) (body : List Label) (args : List S) (ls : List Label) (rest : List S) → r < length G → CallsBelow r ls
    → meanings A (ranks_of (with_body G r body)) (all_meanings A (with_body G r body)) args ls rest ≡ meanings A (ranks_of G) (all_meanings A G) args ls rest
meanings-other {S} A G r body args ls rest h c =
    let ranks : List ℕ = ranks_of G in
    let R' : Rule = record { rank = rank_at G r; body = body } in
    let before : List (List S → S) = rule_meanings A ranks [] (take r G) in
    let n : length before ≡ r = omega (arith, length-rule_meanings A ranks [] (take r G), length-take-le r G (omega arith)) in
    let c' : CallsBelow (length before) ls = rw n c in
    let old = rule_meanings-front A ranks before (drop r G) in
    let new = rule_meanings-front A ranks before (R' ∷ drop (r + 1) G) in
    let olds : all_meanings A G ≡ before ++ old.0 = ap (rule_meanings A ranks []) (sym (take-append-drop r G)) ∙ rule_meanings-append A ranks [] (take r G) (drop r G) ∙ old.1 in
    let news : rule_meanings A ranks [] (with_body G r body) ≡ before ++ new.0 = rule_meanings-append A ranks [] (take r G) (R' ∷ drop (r + 1) G) ∙ new.1 in
    ap (λ ns. meanings A ns (rule_meanings A ns [] (with_body G r body)) args ls rest) (ranks-with_body G r body h)
    ∙ ap (λ fs. meanings A ranks fs args ls rest) news ∙ meanings-earlier A ranks before new.0 args ls rest c'
    ∙ sym (ap (λ fs. meanings A ranks fs args ls rest) olds ∙ meanings-earlier A ranks before old.0 args ls rest c')

-- what stands in the start's body before and behind the subterm at a place
abbrev pub front_at : List Rule → ℕ → List Label
front_at G p = take p (body_at G (length G - 1))

abbrev pub back_at : List Rule → ℕ → List Label
back_at G p = let ls = drop p (body_at G (length G - 1)) in drop (span (arity (ranks_of G)) 1 ls) ls

-- the rules with another term at a place of the start's body
abbrev pub with_start : List Rule → ℕ → List Label → List Rule
with_start G p ys = with_body G (length G - 1) (with_subterm (arity (ranks_of G)) (body_at G (length G - 1)) p ys)

module _ (G : List Rule) (g : IsGrammar G) (p : ℕ) (there : p < length (body_at G (length G - 1))) where
  last_there : length G - 1 < length G
  last_there = let some = g.some in omega arith

  -- no parameters stand around the subterm, nor in it
  pub no-params : (params (front_at G p) ≡ 0) × (params (back_at G p) ≡ 0) × (params (subterm (arity (ranks_of G)) (body_at G (length G - 1)) p) ≡ 0)
  no-params =
      let ar = arity (ranks_of G) in
      let ls : List Label = body_at G (length G - 1) in
      let sub : List Label = subterm ar ls p in
      let none : params ls ≡ 0 = (g.each (length G - 1) last_there).linear ∙ (value-start G g).0 in
      let whole = ap params (split_at ar ls p) in
      let a = params-append (front_at G p) (sub ++ back_at G p) in
      let b = params-append sub (back_at G p) in
      (omega (arith, none, whole, a, b), omega (arith, none, whole, a, b), omega (arith, none, whole, a, b))

  calls-around : CallsBelow (length G - 1) (front_at G p ++ (Param ∷ back_at G p))
  calls-around =
      let c = (g.each (length G - 1) last_there).earlier in
      let ls : List Label = drop p (body_at G (length G - 1)) in
      CallsBelow-append (length G - 1) (front_at G p) (Param ∷ back_at G p) (CallsBelow-take (length G - 1) p (body_at G (length G - 1)) c)
      (CallsBelow-drop (length G - 1) (span (arity (ranks_of G)) 1 ls) ls (CallsBelow-drop (length G - 1) p (body_at G (length G - 1)) c))

  -- the value is the context of the subterm at the place with the subterm's term in its hole
  pub value-at-place : value G ≡ substitute (context G (front_at G p) (back_at G p)) (meaning term_algebra (ranks_of G) (all_meanings term_algebra G) (subterm (arity (ranks_of G)) (body_at G (length G - 1)) p) [] ∷ [])
  value-at-place =
      let ar = arity (ranks_of G) in
      let ls : List Label = body_at G (length G - 1) in
      let t = (g.each (length G - 1) last_there).shaped.term in
      value-cut G g (front_at G p) (subterm ar ls p) (back_at G p) (sym (split_at ar ls p)) (AreTerms-with ar 1 ls p (Bottom ∷ []) t there tt).0

  -- the context has its hole once
  pub context-linear : holes_of (context G (front_at G p) (back_at G p)) ≡ Hole 0 ∷ []
  context-linear =
      let ar = arity (ranks_of G) in
      let ls : List Label = body_at G (length G - 1) in
      let t = (AreTerms-with ar 1 ls p (Param ∷ []) (g.each (length G - 1) last_there).shaped.term there tt).1 in
      let n = length-all_meanings term_algebra G in
      let c = CallsBelow-le (length G - 1) (length (all_meanings term_algebra G)) (front_at G p ++ (Param ∷ back_at G p)) (omega (arith, n)) calls-around in
      let z = no-params in
      holes_of-meaning (ranks_of G) (all_meanings term_algebra G) (values-in_order G g) (front_at G p ++ (Param ∷ back_at G p)) (holes 0 1) t c (omega (arith, params-append (front_at G p) (Param ∷ back_at G p), z.0, z.1))

  -- with another term at the place the rules are a grammar, and the value is the same context with that term in its hole
  pub grammar-with_start : (ys : List Label) → CallsBelow (length G - 1) ys → IsTerm (ranks_of G) ys → params ys ≡ 0 → IsGrammar (with_start G p ys)
  grammar-with_start ys c t e = grammar-with_subterm G (length G - 1) p ys g last_there there c t (e ∙ sym no-params.2)

  pub value-with_start : (ys : List Label) → CallsBelow (length G - 1) ys → IsTerm (ranks_of G) ys → params ys ≡ 0
      → value (with_start G p ys) ≡ substitute (context G (front_at G p) (back_at G p)) (meaning term_algebra (ranks_of G) (all_meanings term_algebra G) ys [] ∷ [])
  value-with_start ys c t e =
      let last : ℕ = length G - 1 in
      let body : List Label = with_subterm (arity (ranks_of G)) (body_at G last) p ys in
      let front : List Label = front_at G p in
      let back : List Label = back_at G p in
      let n = length-with_body G last body last_there in
      let b : body_at (with_start G p ys) (length (with_start G p ys) - 1) ≡ front ++ (ys ++ back) =
      ap (λ k. body_at (with_start G p ys) (k - 1)) n ∙ body_at-with_body G last body last_there in
      let r = ranks-with_body G last body last_there in
      let cut = value-cut (with_start G p ys) (grammar-with_start ys c t e) front ys back b (rw r t) in
      let m = meanings-other term_algebra G last body (holes 0 1) (front ++ (Param ∷ back)) [] last_there calls-around in
      let k = meanings-other term_algebra G last body [] ys [] last_there c in
      cut ∙ ap (λ ms. substitute (get_or ms 0 Leaf) (meaning term_algebra (ranks_of (with_start G p ys)) (all_meanings term_algebra (with_start G p ys)) ys [] ∷ [])) m
      ∙ ap (λ ms. substitute (context G front back) (get_or ms 0 Leaf ∷ [])) k
