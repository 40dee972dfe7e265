-- The marks of each segment of labels, gathered along the labels.
use Rattle.std.proofs.Common.{◌≡◌, ℕ, zero, suc, List, [], ◌∷◌, ◌++◌, get_or, slice_get, refl, sym, ap, ◌∙◌, append_assoc, append-nil, arith}
use Rattle.plain_tree.specs.declared.kind.Kind.{Kind}
use Rattle.rule_arena.specs.declared.label.Label.{Label}
use Rattle.rule_arena.specs.declared.label.Label.TheVariants.{Bottom, Symbol, Call, Param}
use Rattle.slt_grammar.specs.Bodies.{params}
use Rattle.slt_grammar.specs.Segments.{segment}
use Rattle.grammar_file.specs.Marks.{mark_at, marks}
use Rattle.grammar_file.specs.declared.text_lists.Mark.{Mark}

module _ (names : List (Kind × List ℕ)) where
  -- the marks of segments that are done, of the one that is begun, and of those in the labels that are left
  abbrev pub gathered : List (List Mark) → List Mark → List Label → List (List Mark)
  gathered done begun [] = done ++ begun ∷ []
  gathered done begun (Param ∷ ls) = gathered (done ++ begun ∷ []) [] ls
  gathered done begun (l ∷ ls) = gathered done (begun ++ marks names (l ∷ [])) ls

  gathered-done : (done : List (List Mark)) (begun : List Mark) (ls : List Label) → gathered done begun ls ≡ done ++ gathered [] begun ls
  gathered-done done begun [] = refl
  gathered-done done begun (Param ∷ ls) =
      gathered-done (done ++ begun ∷ []) [] ls ∙ append_assoc done (begun ∷ []) (gathered [] [] ls) ∙ ap (λ xs. done ++ xs) (sym (gathered-done (begun ∷ []) [] ls))
  gathered-done done begun (Bottom ∷ ls) = gathered-done done (begun ++ []) ls
  gathered-done done begun (Symbol f ∷ ls) = gathered-done done (begun ++ marks names (Symbol f ∷ [])) ls
  gathered-done done begun (Call q ∷ ls) = gathered-done done (begun ++ []) ls

  -- what was begun belongs to the first segment
  abbrev before : ℕ → List Mark → List Mark
  before zero begun = begun
  before (suc i) begun = []

  before-nothing : (i : ℕ) → before i [] ≡ []
  before-nothing zero = refl
  before-nothing (suc i) = refl

  gathered-at : (i : ℕ) (begun : List Mark) (ls : List Label) → get_or (gathered [] begun ls) i [] ≡ before i begun ++ marks names (segment i ls)
  gathered-at zero begun [] = sym (append-nil begun)
  gathered-at (suc i) begun [] = refl
  gathered-at zero begun (Param ∷ ls) = ap (λ xs. get_or xs 0 []) (gathered-done (begun ∷ []) [] ls) ∙ sym (append-nil begun)
  gathered-at (suc i) begun (Param ∷ ls) =
      ap (λ xs. get_or xs (suc i) []) (gathered-done (begun ∷ []) [] ls) ∙ gathered-at i [] ls ∙ ap (λ xs. xs ++ marks names (segment i ls)) (before-nothing i)
  gathered-at zero begun (Bottom ∷ ls) = gathered-at zero (begun ++ []) ls ∙ ap (λ xs. xs ++ marks names (segment 0 ls)) (append-nil begun)
  gathered-at (suc i) begun (Bottom ∷ ls) = gathered-at (suc i) (begun ++ []) ls
  gathered-at zero begun (Call q ∷ ls) = gathered-at zero (begun ++ []) ls ∙ ap (λ xs. xs ++ marks names (segment 0 ls)) (append-nil begun)
  gathered-at (suc i) begun (Call q ∷ ls) = gathered-at (suc i) (begun ++ []) ls
  gathered-at zero begun (Symbol f ∷ ls) =
      let own : List Mark = mark_at (slice_get names f) f in
      gathered-at zero (begun ++ (own ++ [])) ls ∙ append_assoc begun (own ++ []) (marks names (segment 0 ls)) ∙ ap (λ xs. begun ++ (xs ++ marks names (segment 0 ls))) (append-nil own)
  gathered-at (suc i) begun (Symbol f ∷ ls) = gathered-at (suc i) (begun ++ marks names (Symbol f ∷ [])) ls

  -- all that is gathered are the marks of each segment
  pub gathered-segment : (i : ℕ) (ls : List Label) → get_or (gathered [] [] ls) i [] ≡ marks names (segment i ls)
  gathered-segment i ls = gathered-at i [] ls ∙ ap (λ xs. xs ++ marks names (segment i ls)) (before-nothing i)

  -- labels without parameters add their marks to what was begun
  pub gathered-plain : (xs ys : List Label) (done : List (List Mark)) (begun : List Mark) → params xs ≡ 0 → gathered done begun (xs ++ ys) ≡ gathered done (begun ++ marks names xs) ys
  gathered-plain [] ys done begun e = ap (λ zs. gathered done zs ys) (sym (append-nil begun))
  gathered-plain (Param ∷ xs) ys done begun e = absurd (omega arith)
  gathered-plain (Bottom ∷ xs) ys done begun e = gathered-plain xs ys done (begun ++ []) e ∙ ap (λ zs. gathered done (zs ++ marks names xs) ys) (append-nil begun)
  gathered-plain (Call q ∷ xs) ys done begun e = gathered-plain xs ys done (begun ++ []) e ∙ ap (λ zs. gathered done (zs ++ marks names xs) ys) (append-nil begun)
  gathered-plain (Symbol f ∷ xs) ys done begun e =
      let own : List Mark = mark_at (slice_get names f) f in
      gathered-plain xs ys done (begun ++ (own ++ [])) e ∙ ap (λ zs. gathered done zs ys) (append_assoc begun (own ++ []) (marks names xs) ∙ ap (λ zs. begun ++ (zs ++ marks names xs)) (append-nil own))
