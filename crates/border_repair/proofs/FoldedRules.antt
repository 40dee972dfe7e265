-- Rules that are folded one after another.
use Rattle.std.proofs.Common.{◌≡◌, ◌⊎◌, inl, inr, ℕ, suc, ◌+◌, ◌<◌, ◌≤◌, List, [], ◌∷◌, ◌++◌, length, get_or, refl, ap, sym, subst, ◌∙◌, arith, length-append}
use Rattle.std.proofs.lemmas.Bool.{cases_lt}
use Rattle.std.proofs.lemmas.List.{get_or_append_left}
use Rattle.std.proofs.Math.Seq.{get_or-append_seam}
use Rattle.slt_grammar.specs.Algebras.{ranks_of}
use Rattle.slt_grammar.specs.Bodies.{IsTerm}
use Rattle.slt_grammar.specs.Grammars.{body_at, rank_at, no_rule}
use Rattle.slt_grammar.specs.declared.digram.Digram.{Digram}
use Rattle.slt_grammar.specs.declared.rules.Rule.{Rule}
use Rattle.border_repair.specs.Folding.{Folds, AreFolded, AreFoldedBefore}

pub none-folded : (d : Digram) (G H : List Rule) → H ≡ [] → AreFoldedBefore d G 0 H
none-folded d G H e = record { many = ap length e; ranks = λ r l. absurd (omega arith); first = λ l. absurd (omega arith); others = λ r l m. absurd (omega arith) }

pub folded-more : (d : Digram) (G : List Rule) (k : ℕ) (H : List Rule) (R : Rule) → AreFoldedBefore d G k H → R.rank ≡ rank_at G k → (k ≡ 0 → R.body ≡ body_at G k)
    → (0 < k → IsTerm (ranks_of G) (body_at G k) → Folds (ranks_of G) 0 d (body_at G k) (R.body ∷ [])) → AreFoldedBefore d G (k + 1) (H ++ R ∷ [])
folded-more d G k H R f rank first others = record {
  many = omega (arith, length-append H (R ∷ []), f.many);
  ranks = λ r l. by_place r l (cases_lt r k);
  first = λ l. first_at (cases_lt 0 k);
  others = λ r l m t. other_at r l m t (cases_lt r k);
}
  where
    own : get_or (H ++ R ∷ []) k no_rule ≡ R
    own = ap (λ j. get_or (H ++ R ∷ []) j no_rule) (sym f.many) ∙ get_or-append_seam H R [] no_rule

    kept : (r : ℕ) → r < k → get_or (H ++ R ∷ []) r no_rule ≡ get_or H r no_rule
    kept r l = get_or_append_left H (R ∷ []) no_rule r (omega (arith, f.many))

    by_place : (r : ℕ) → r < k + 1 → (r < k) ⊎ (k ≤ r) → rank_at (H ++ R ∷ []) r ≡ rank_at G r
    by_place r l (inl b) = ap (λ (S : Rule). S.rank) (kept r b) ∙ f.ranks r b
    by_place r l (inr b) = let same : k ≡ r = omega arith in subst (λ j. rank_at (H ++ R ∷ []) j ≡ rank_at G j) same (ap (λ (S : Rule). S.rank) own ∙ rank)

    first_at : (0 < k) ⊎ (k ≤ 0) → body_at (H ++ R ∷ []) 0 ≡ body_at G 0
    first_at (inl b) = ap (λ (S : Rule). S.body) (kept 0 b) ∙ f.first b
    first_at (inr b) = let same : k ≡ 0 = omega arith in subst (λ j. body_at (H ++ R ∷ []) j ≡ body_at G j) same (ap (λ (S : Rule). S.body) own ∙ first same)

    other_at : (r : ℕ) → 0 < r → r < k + 1 → IsTerm (ranks_of G) (body_at G r) → (r < k) ⊎ (k ≤ r) → Folds (ranks_of G) 0 d (body_at G r) (body_at (H ++ R ∷ []) r ∷ [])
    other_at r l m t (inl b) = subst (λ (S : Rule). Folds (ranks_of G) 0 d (body_at G r) (S.body ∷ [])) (sym (kept r b)) (f.others r l b t)
    other_at r l m t (inr b) =
        let same : r ≡ k = omega arith in
        let u = subst (λ j. IsTerm (ranks_of G) (body_at G j)) same t in
        subst (λ j. Folds (ranks_of G) 0 d (body_at G j) (body_at (H ++ R ∷ []) j ∷ [])) (sym same) (subst (λ (S : Rule). Folds (ranks_of G) 0 d (body_at G k) (S.body ∷ [])) (sym own) (others (omega arith) u))

same-ranks : (G H : List Rule) → length H ≡ length G → ((r : ℕ) → r < length G → rank_at H r ≡ rank_at G r) → ranks_of H ≡ ranks_of G
same-ranks [] [] n h = refl
same-ranks [] (S ∷ H) n h = absurd (omega arith)
same-ranks (R ∷ G) [] n h = absurd (omega arith)
same-ranks (R ∷ G) (S ∷ H) n h =
    let first : S.rank ≡ R.rank = h 0 (omega arith) in
    ap (λ z. z ∷ ranks_of H) first ∙ ap (λ zs. R.rank ∷ zs) (same-ranks G H (omega arith) (λ r l. h (suc r) (omega arith)))

pub all-folded : (d : Digram) (G H : List Rule) → 0 < length G → AreFoldedBefore d G (length G) H → AreFolded d G H
all-folded d G H l f = record { many = f.many; ranks = same-ranks G H f.many f.ranks; first = f.first l; others = f.others }
