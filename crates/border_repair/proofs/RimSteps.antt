-- One more rim.
use Rattle.std.proofs.Common.{◌≡◌, ◌⊎◌, inl, inr, ℕ, ◌+◌, ◌<◌, ◌≤◌, List, [], ◌∷◌, ◌++◌, length, Some, None, refl, ap, sym, ◌∙◌, arith}
use Rattle.std.proofs.lemmas.Bool.{cases_lt}
use Rattle.std.proofs.lemmas.List.{get_or_append_left}
use Rattle.std.proofs.Math.Seq.{get_or-append_seam}
use Rattle.rule_arena.specs.declared.label.Label.{Label}
use Rattle.rule_arena.specs.declared.label.Label.TheVariants.{Bottom, Symbol, Call, Param}
use Rattle.slt_grammar.specs.Bodies.{CallsBelow}
use Rattle.slt_grammar.specs.Grammars.{IsGrammar, body_at}
use Rattle.slt_grammar.specs.declared.rules.Rule.{Rule}
use Rattle.border_repair.specs.Rims.{rim_at, no_rim}
use Rattle.border_repair.specs.Weighing.{Above, Rim, under, first_of, root_from, borders_from, rim_of}

-- where two tables agree on the rules before one, so do the rims of its body
module _ (k : ℕ) (a b : ℕ → Rim) (same : (q : ℕ) → q < k → a q ≡ b q) where
  root-same : (ls : List Label) → CallsBelow k ls → root_from a ls ≡ root_from b ls
  root-same [] d = refl
  root-same (Bottom ∷ ls) d = refl
  root-same (Symbol f ∷ ls) d = refl
  root-same (Param ∷ ls) d = refl
  root-same (Call q ∷ ls) d = ap (λ (r : Rim). first_of r.root (root_from a ls)) (same q d.0) ∙ ap (first_of (b q).root) (root-same ls d.1)

  borders-same : (cs : List Above) (ls : List Label) → CallsBelow k ls → borders_from a cs ls ≡ borders_from b cs ls
  borders-same cs [] d = refl
  borders-same [] (l ∷ ls) d = refl
  borders-same (c ∷ cs) (Bottom ∷ ls) d = borders-same cs ls d
  borders-same (c ∷ cs) (Symbol f ∷ ls) d = borders-same (Some (f, 1) ∷ Some (f, 2) ∷ cs) ls d
  borders-same (c ∷ cs) (Param ∷ ls) d = ap (λ z. c ∷ z) (borders-same cs ls d)
  borders-same (c ∷ cs) (Call q ∷ ls) d = ap (λ (r : Rim). borders_from a (under c r.borders ++ cs) ls) (same q d.0) ∙ borders-same (under c (b q).borders ++ cs) ls d.1

  pub rim-same : (ls : List Label) → CallsBelow k ls → rim_of a ls ≡ rim_of b ls
  rim-same ls d = λ i. record { root = root-same ls d i; borders = borders-same (None ∷ []) ls d i }

-- the rims of the rules so far, and the next one
pub rims-more : (G : List Rule) (rims : List Rim) (rim : Rim) (k : ℕ) → IsGrammar G → k < length G → length rims ≡ k → ((r : ℕ) → r < k → rim_at rims r ≡ rim_of (rim_at rims) (body_at G r))
    → rim ≡ rim_of (rim_at rims) (body_at G k) → (r : ℕ) → r < k + 1 → rim_at (rims ++ rim ∷ []) r ≡ rim_of (rim_at (rims ++ rim ∷ [])) (body_at G r)
rims-more G rims rim k g h n before here r l = by_place (cases_lt r k) where
  new : ℕ → Rim
  new = rim_at (rims ++ rim ∷ [])

  kept : (q : ℕ) → q < k → rim_at rims q ≡ rim_at (rims ++ rim ∷ []) q
  kept q b = sym (get_or_append_left rims (rim ∷ []) no_rim q (omega arith))

  again : (q : ℕ) → q ≤ k → rim_of (rim_at rims) (body_at G q) ≡ rim_of (rim_at (rims ++ rim ∷ [])) (body_at G q)
  again q b = rim-same q (rim_at rims) (rim_at (rims ++ rim ∷ [])) (λ p m. kept p (omega arith)) (body_at G q) (g.each q (omega arith)).earlier

  by_place : (r < k) ⊎ (k ≤ r) → rim_at (rims ++ rim ∷ []) r ≡ rim_of (rim_at (rims ++ rim ∷ [])) (body_at G r)
  by_place (inl b) = sym (kept r b) ∙ before r b ∙ again r (omega arith)
  by_place (inr b) =
      let same : length rims ≡ r = omega arith in
      let at : k ≡ r = omega arith in
      sym (ap (rim_at (rims ++ rim ∷ [])) same) ∙ get_or-append_seam rims rim [] no_rim ∙ here ∙ again k (omega arith) ∙ ap (λ q. rim_of (rim_at (rims ++ rim ∷ [])) (body_at G q)) at
