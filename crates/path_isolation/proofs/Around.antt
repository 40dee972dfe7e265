-- The term around a node of the start's body, as what the body means where the node is a hole.
use Rattle.std.proofs.Common.{◌≡◌, ℕ, zero, suc, ◌+◌, ◌-◌, ◌<◌, List, [], ◌∷◌, ◌++◌, length, get_or, drop, Some, refl, ap, sym, ◌∙◌, subst, arith}
use Rattle.std.proofs.lemmas.List.{drop_at, length-take-le, length-map}
use Rattle.rule_arena.specs.Preorder.{AreTerms, subterm}
use Rattle.rule_arena.specs.Terms.{Node}
use Rattle.rule_arena.specs.declared.key.Key.{Key}
use Rattle.rule_arena.specs.declared.label.Label.{Label}
use Rattle.rule_arena.specs.declared.label.Label.TheVariants.{Bottom, Symbol, Call, Param}
use Rattle.rule_arena.proofs.PreorderLemmas.{AreTerms-with, split_at}
use Rattle.slt_grammar.specs.Algebras.{Algebra, meanings, ranks_of, all_meanings}
use Rattle.slt_grammar.specs.Bodies.{arity, params}
use Rattle.slt_grammar.specs.ChangedValues.{term_around}
use Rattle.slt_grammar.specs.Grammars.{IsGrammar, body_at}
use Rattle.slt_grammar.specs.Holding.{IsLawful}
use Rattle.slt_grammar.specs.Keyed.{KeyedRule, key_at, nodes_at, rules_of}
use Rattle.slt_grammar.specs.Terms.{Term, Leaf, Hole, term_algebra}
use Rattle.slt_grammar.specs.declared.rules.Rule.{Rule}
use Rattle.slt_grammar.proofs.KeyedLemmas.{body_at-rules_of, key_at-within, length-rules_of}
use Rattle.slt_grammar.proofs.Meanings.{meanings-append, meanings-whole}
use Rattle.slt_grammar.proofs.Values.{front_at, back_at, no-params}
use Rattle.path_isolation.specs.Chains.{meaning_with, meanings_with}
use Rattle.path_isolation.specs.Isolations.{start_of}
use Rattle.path_isolation.proofs.Marks.{with-behind}

module _ {S : Type 0} (A : Algebra S) (ranks : List ℕ) (fs : List (List S → S)) where
  -- without parameters arguments count for nothing
  pub no-args : (args : List S) (ls : List Label) (rest : List S) → params ls ≡ 0 → meanings A ranks fs args ls rest ≡ meanings A ranks fs [] ls rest
  no-args args [] rest e = refl
  no-args args (Param ∷ ls) rest e = absurd (omega arith)
  no-args args (Bottom ∷ ls) rest e = rw (no-args args ls rest e) refl
  no-args args (Symbol f ∷ ls) rest e = rw (no-args args ls rest e) refl
  no-args args (Call q ∷ ls) rest e = rw (no-args args ls rest e) refl

  drop-none : (n : ℕ) → drop n [] ≡ (let xs : List S = [] in xs)
  drop-none zero = refl
  drop-none (suc n) = refl

  -- the first node of a term that means u, before other labels
  first-means : (u : S) (sub back : List Label) → AreTerms (arity ranks) 1 sub → meanings_with A ranks fs [] 0 (sub ++ back) (λ _. u) [] ≡ u ∷ meanings A ranks fs [] back []
  first-means u [] back t = absurd t
  first-means u (l ∷ ls) back t =
      let k : ℕ = arity ranks l in
      let M : List S = meanings A ranks fs [] back [] in
      let a : meanings A ranks fs [] (ls ++ back) [] ≡ meanings A ranks fs [] ls M =
      meanings-append A ranks fs [] ls back [] ∙ ap (λ (xs : List S). meanings A ranks fs [] ls (meanings A ranks fs xs back [])) (drop-none (params ls)) in
      let w = meanings-whole A ranks fs (k + 0) [] ls M t in
      let vs : List S = meanings A ranks fs [] ls [] in
      let n : length vs ≡ k = omega (arith, w.1) in
      ap (λ (xs : List S). u ∷ drop k xs) (a ∙ w.0) ∙ ap (λ (xs : List S). u ∷ xs) (drop_at vs M k n)

  -- a node's own meaning in a parameter's place
  pub with-around : (u : S) (front sub back : List Label) → AreTerms (arity ranks) 1 sub → params front ≡ 0
      → meanings_with A ranks fs [] (length front + 0) (front ++ (sub ++ back)) (λ _. u) [] ≡ meanings A ranks fs (u ∷ []) (front ++ (Param ∷ back)) []
  with-around u front sub back t e =
      let a = with-behind A ranks fs (λ _. u) [] front (sub ++ back) 0 [] in
      let b : meanings_with A ranks fs (drop (params front) []) 0 (sub ++ back) (λ _. u) [] ≡ u ∷ meanings A ranks fs [] back [] =
      ap (λ (xs : List S). meanings_with A ranks fs xs 0 (sub ++ back) (λ _. u) []) (drop-none (params front)) ∙ first-means u sub back t in
      let c : meanings A ranks fs (u ∷ []) (front ++ (Param ∷ back)) [] ≡ meanings A ranks fs (u ∷ []) front (u ∷ meanings A ranks fs [] back []) =
      meanings-append A ranks fs (u ∷ []) front (Param ∷ back) []
      ∙ ap (λ n. meanings A ranks fs (u ∷ []) front (meanings A ranks fs (drop n (u ∷ [])) (Param ∷ back) [])) e in
      a ∙ ap (meanings A ranks fs [] front) b ∙ sym (c ∙ no-args (u ∷ []) front (u ∷ meanings A ranks fs [] back []) e)

-- the term around a node of the start's body: what the body means where the node is a hole
pub around-place : (R : List Rule) (p : ℕ) → IsGrammar R → p < length (body_at R (length R - 1))
    → term_around R p ≡ meaning_with term_algebra R (body_at R (length R - 1)) p (λ _. Hole 0) []
around-place R p g h =
    let some = g.some in
    let ranks : List ℕ = ranks_of R in
    let fs : List (List Term → Term) = all_meanings term_algebra R in
    let last : ℕ = length R - 1 in
    let body : List Label = body_at R last in
    let front : List Label = front_at R p in
    let back : List Label = back_at R p in
    let sub : List Label = subterm (arity ranks) body p in
    let t = (AreTerms-with (arity ranks) 1 body p (Bottom ∷ []) (g.each last (omega (arith, some))).shaped.term h tt).0 in
    let n : p ≡ length front + 0 = omega (arith, h, length-take-le p body (omega (arith, h))) in
    sym (
    ap (λ ls. meaning_with term_algebra R ls p (λ _. Hole 0) []) (sym (split_at (arity ranks) body p))
    ∙ ap (λ m. meaning_with term_algebra R (front ++ (sub ++ back)) m (λ _. Hole 0) []) n
    ∙ ap (λ (ts : List Term). get_or ts 0 Leaf) (with-around term_algebra ranks fs (Hole 0) front sub back t (no-params R g p h).0)
    )

-- the same of a key in the start's body
pub around-node : (G H : List KeyedRule) (p : ℕ) (key : Key) → IsLawful H → length H ≡ length G → key_at H (start_of G) p ≡ Some key
    → term_around (rules_of H) p ≡ meaning_with term_algebra (rules_of H) (body_at (rules_of H) (start_of G)) p (λ _. Hole 0) []
around-node G H p key L e k =
    let R : List Rule = rules_of H in
    let n : start_of G ≡ length R - 1 = omega (arith, e, length-rules_of H) in
    let w = (key_at-within H (start_of G) p key k).1 in
    let b : length (body_at R (start_of G)) ≡ length (nodes_at H (start_of G)) = ap length (body_at-rules_of H (start_of G)) ∙ length-map (nodes_at H (start_of G)) (λ (m : Node). m.label) in
    let h : p < length (body_at R (length R - 1)) = subst (λ r. p < length (body_at R r)) n (omega (arith, w, b)) in
    around-place R p L.grammar h ∙ ap (λ r. meaning_with term_algebra R (body_at R r) p (λ _. Hole 0) []) (sym n)
