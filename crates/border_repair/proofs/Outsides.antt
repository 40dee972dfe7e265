-- Outsides of rules: what stands in for calls, and what is left of a body that was cut.
use Rattle.std.proofs.Common.{◌≡◌, ℕ, suc, ◌+◌, ◌<◌, ◌≤◌, List, [], ◌∷◌, ◌++◌, length, map, refl, ap, sym, subst, ◌∙◌, arith, append_assoc, append-nil}
use Rattle.rule_arena.specs.declared.label.Label.{Label}
use Rattle.rule_arena.specs.declared.label.Label.TheVariants.{Bottom, Symbol, Call, Param}
use Rattle.rule_arena.proofs.PreorderLemmas.{AreTerms-append}
use Rattle.slt_grammar.specs.Algebras.{ranks_of}
use Rattle.slt_grammar.specs.Bodies.{arity, params, CallsBelow}
use Rattle.slt_grammar.specs.Editing.{put}
use Rattle.slt_grammar.specs.Grammars.{body_at}
use Rattle.slt_grammar.specs.Terms.{term_algebra}
use Rattle.slt_grammar.specs.declared.rules.Rule.{Rule}
use Rattle.slt_grammar.proofs.Meanings.{params-append}
use Rattle.slt_grammar.proofs.Substitutions.{joined, AllTerms, params-put, AreTerms-put}
use Rattle.border_repair.specs.Expanding.{Expands, nothing, parameter, bottom, symbol, call, StandsIn}
use Rattle.border_repair.specs.Splitting.{Piece, whole, all_args, bare, grown, IsPiece, ArePieces, Closes, alone, as_rule, AllClose, none_closes, one_closes, Splits, inner, outer}
use Rattle.border_repair.specs.Splitting as splitting
use Rattle.border_repair.proofs.Split.{joined-append, closed-params, put-front, put-kids, wholes, wholes-append}
use Rattle.border_repair.proofs.RuleLists.{called-there}
use Rattle.border_repair.proofs.Suffixes.{other-calls}

calls-append : (k : ℕ) (xs ys : List Label) → CallsBelow k xs → CallsBelow k ys → CallsBelow k (xs ++ ys)
calls-append k [] ys a b = b
calls-append k (Bottom ∷ xs) ys a b = calls-append k xs ys a b
calls-append k (Symbol f ∷ xs) ys a b = calls-append k xs ys a b
calls-append k (Call q ∷ xs) ys a b = (a.0, calls-append k xs ys a.1 b)
calls-append k (Param ∷ xs) ys a b = calls-append k xs ys a b

pub calls-below-more : (k n : ℕ) (ls : List Label) → k ≤ n → CallsBelow k ls → CallsBelow n ls
calls-below-more k n [] h c = tt
calls-below-more k n (Bottom ∷ ls) h c = calls-below-more k n ls h c
calls-below-more k n (Symbol f ∷ ls) h c = calls-below-more k n ls h c
calls-below-more k n (Call q ∷ ls) h c = let b : q < k = c.0 in (omega arith, calls-below-more k n ls h c.1)
calls-below-more k n (Param ∷ ls) h c = calls-below-more k n ls h c

-- terms whose calls are below
abbrev pub AllBelow : ℕ → List (List Label) → Type 0
AllBelow k [] = Unit {0}
AllBelow k (t ∷ ts) = CallsBelow k t × AllBelow k ts

below-append : (k : ℕ) (xs ys : List (List Label)) → AllBelow k xs → AllBelow k ys → AllBelow k (xs ++ ys)
below-append k [] ys a b = b
below-append k (x ∷ xs) ys a b = (a.0, below-append k xs ys a.1 b)

below-first : (k : ℕ) (xs ys : List (List Label)) → AllBelow k (xs ++ ys) → AllBelow k xs
below-first k [] ys a = tt
below-first k (x ∷ xs) ys a = (a.0, below-first k xs ys a.1)

below-others : (k : ℕ) (xs ys : List (List Label)) → AllBelow k (xs ++ ys) → AllBelow k ys
below-others k [] ys a = a
below-others k (x ∷ xs) ys a = below-others k xs ys a.1

below-joined : (k : ℕ) (ts : List (List Label)) → AllBelow k ts → CallsBelow k (joined ts)
below-joined k [] a = tt
below-joined k (t ∷ ts) a = calls-append k t (joined ts) a.0 (below-joined k ts a.1)

put-below : (k : ℕ) (ls : List Label) (ts : List (List Label)) → CallsBelow k ls → AllBelow k ts → CallsBelow k (put ls ts)
put-below k [] ts c a = tt
put-below k (Param ∷ ls) [] c a = put-below k ls [] c a
put-below k (Param ∷ ls) (t ∷ ts) c a = calls-append k t (put ls ts) a.0 (put-below k ls ts c a.1)
put-below k (Bottom ∷ ls) ts c a = put-below k ls ts c a
put-below k (Symbol f ∷ ls) ts c a = put-below k ls ts c a
put-below k (Call q ∷ ls) ts c a = (c.0, put-below k ls ts c.1 a)

terms-first : (ranks : List ℕ) (xs ys : List (List Label)) → AllTerms ranks (xs ++ ys) → AllTerms ranks xs
terms-first ranks [] ys t = tt
terms-first ranks (x ∷ xs) ys t = (t.0, terms-first ranks xs ys t.1)

terms-others : (ranks : List ℕ) (xs ys : List (List Label)) → AllTerms ranks (xs ++ ys) → AllTerms ranks ys
terms-others ranks [] ys t = t
terms-others ranks (x ∷ xs) ys t = terms-others ranks xs ys t.1

module _ (ranks news : List ℕ) (limit : ℕ) (outside : ℕ → List Label) (k : ℕ) (stand : (q : ℕ) → q < k → StandsIn ranks news limit (outside q) q) where
  -- what is expanded are terms, whose calls are below, with the parameters of the body
  pub expands-terms : (ls : List Label) (ts : List (List Label)) → Expands ranks outside ls ts → CallsBelow k ls → AllTerms news ts
  expands-terms _ _ nothing c = tt
  expands-terms _ _ (parameter ls ts e) c = (tt, expands-terms ls ts e c)
  expands-terms _ _ (bottom ls ts e) c = (tt, expands-terms ls ts e c)
  expands-terms _ _ (symbol f ls a b ts e) c = let h = expands-terms ls (a ∷ b ∷ ts) e c in (AreTerms-append (arity news) 1 1 a b h.0 h.1.0, h.1.1)
  expands-terms _ _ (call q ls kids ts n e) c =
      let h = expands-terms ls (kids ++ ts) e c.1 in
      let s = stand q c.0 in
      (AreTerms-put news 1 (outside q) kids s.term (terms-first news kids ts h) (n ∙ sym s.many), terms-others news kids ts h)

  pub expands-below : (ls : List Label) (ts : List (List Label)) → Expands ranks outside ls ts → CallsBelow k ls → AllBelow limit ts
  expands-below _ _ nothing c = tt
  expands-below _ _ (parameter ls ts e) c = (tt, expands-below ls ts e c)
  expands-below _ _ (bottom ls ts e) c = (tt, expands-below ls ts e c)
  expands-below _ _ (symbol f ls a b ts e) c = let h = expands-below ls (a ∷ b ∷ ts) e c in (calls-append limit a b h.0 h.1.0, h.1.1)
  expands-below _ _ (call q ls kids ts n e) c =
      let h = expands-below ls (kids ++ ts) e c.1 in
      (put-below limit (outside q) kids (stand q c.0).below (below-first limit kids ts h), below-others limit kids ts h)

  pub expands-params : (ls : List Label) (ts : List (List Label)) → Expands ranks outside ls ts → CallsBelow k ls → params (joined ts) ≡ params ls
  expands-params _ _ nothing c = refl
  expands-params _ _ (parameter ls ts e) c = ap suc (expands-params ls ts e c)
  expands-params _ _ (bottom ls ts e) c = expands-params ls ts e c
  expands-params _ _ (symbol f ls a b ts e) c = ap params (append_assoc a b (joined ts)) ∙ expands-params ls (a ∷ b ∷ ts) e c
  expands-params _ _ (call q ls kids ts n e) c =
      params-append (put (outside q) kids) (joined ts) ∙ ap (λ z. z + params (joined ts)) (params-put (outside q) kids (n ∙ sym (stand q c.0).many)) ∙ sym (params-append (joined kids) (joined ts))
      ∙ ap params (sym (joined-append kids ts)) ∙ expands-params ls (kids ++ ts) e c.1

-- outsides that agree on the rules below one
pub expands-same : (ranks : List ℕ) (a b : ℕ → List Label) (k : ℕ) → ((q : ℕ) → q < k → a q ≡ b q) → (ls : List Label) (ts : List (List Label)) → CallsBelow k ls → Expands ranks a ls ts → Expands ranks b ls ts
expands-same ranks a b k same _ _ c nothing = nothing
expands-same ranks a b k same _ _ c (parameter ls ts e) = parameter ls ts (expands-same ranks a b k same ls ts c e)
expands-same ranks a b k same _ _ c (bottom ls ts e) = bottom ls ts (expands-same ranks a b k same ls ts c e)
expands-same ranks a b k same _ _ c (symbol f ls x y ts e) = symbol f ls x y ts (expands-same ranks a b k same ls (x ∷ y ∷ ts) c e)
expands-same ranks a b k same _ _ c (call q ls kids ts n e) =
    subst (λ o. Expands ranks b (Call q ∷ ls) (put o kids ∷ ts)) (sym (same q c.0)) (call q ls kids ts n (expands-same ranks a b k same ls (kids ++ ts) c.1 e))

module _ (H : List Rule) where
  abbrev ranks : List ℕ
  ranks = ranks_of H

  -- the parameters of a body are those of its pieces
  closed-all-params : (ps : List Piece) (ts : List (List Label)) → AllClose ranks (body_at H) ps ts → params (joined ts) ≡ params (wholes ps)
  closed-all-params _ _ none_closes = refl
  closed-all-params _ _ (one_closes p t ps ts c more) = params-append t (joined ts) ∙ omega_plus (params t) (params (whole p)) (params (joined ts)) (params (wholes ps)) (closed-params term_algebra ranks [] (body_at H) p t c) (closed-all-params ps ts more) ∙ sym (params-append (whole p) (wholes ps))
    where
      omega_plus : (a b c d : ℕ) → a ≡ b → c ≡ d → a + c ≡ b + d
      omega_plus a b c d x y = omega arith

  params-same : (l : Label) (xs ys : List Label) → params xs ≡ params ys → params (l ∷ xs) ≡ params (l ∷ ys)
  params-same Bottom xs ys e = e
  params-same (Symbol f) xs ys e = e
  params-same (Call q) xs ys e = e
  params-same Param xs ys e = ap suc e

  pub split-params : (ls : List Label) (ps : List Piece) → Splits ranks (body_at H) ls ps → params (wholes ps) ≡ params ls
  split-params _ _ splitting.nothing = refl
  split-params _ _ (splitting.parameter ls ps s) = ap suc (split-params ls ps s)
  split-params _ _ (inner l ls kids ps n m are s) =
      ap (λ z. params (z ++ wholes ps)) (put-front l (joined (map (λ p. p.part) kids)) (all_args kids) n ∙ ap (λ z. l ∷ z) (put-kids ranks kids are))
      ∙ params-same l (wholes kids ++ wholes ps) ls (ap params (sym (wholes-append kids ps)) ∙ split-params ls (kids ++ ps) s)
  split-params _ _ (outer l ls kids ps ts n m s c) =
      ap (λ z. params (z ++ wholes ps)) (append-nil (l ∷ joined ts))
      ∙ params-same l (joined ts ++ wholes ps) ls (params-append (joined ts) (wholes ps) ∙ ap (λ k. k + params (wholes ps)) (closed-all-params kids ts c) ∙ sym (params-append (wholes kids) (wholes ps)) ∙ ap params (sym (wholes-append kids ps)) ∙ split-params ls (kids ++ ps) s)

  abbrev HaveBelow : List Piece → Type 0
  HaveBelow [] = Unit {0}
  HaveBelow (p ∷ ps) = AllBelow (length H) p.args × HaveBelow ps

  have-first : (xs ys : List Piece) → HaveBelow (xs ++ ys) → HaveBelow xs
  have-first [] ys a = tt
  have-first (x ∷ xs) ys a = (a.0, have-first xs ys a.1)

  have-others : (xs ys : List Piece) → HaveBelow (xs ++ ys) → HaveBelow ys
  have-others [] ys a = a
  have-others (x ∷ xs) ys a = have-others xs ys a.1

  have-args : (ps : List Piece) → HaveBelow ps → AllBelow (length H) (all_args ps)
  have-args [] a = tt
  have-args (p ∷ ps) a = below-append (length H) p.args (all_args ps) a.0 (have-args ps a.1)

  pub closed-below : (p : Piece) (t : List Label) → Closes ranks (body_at H) p t → AllBelow (length H) p.args → CallsBelow (length H) t
  closed-below _ _ (alone t) a = a.0
  closed-below _ _ (as_rule p q b r is front) a = (called-there H p q is b, below-joined (length H) p.args a)

  closed-all-below : (ps : List Piece) (ts : List (List Label)) → AllClose ranks (body_at H) ps ts → HaveBelow ps → CallsBelow (length H) (joined ts)
  closed-all-below _ _ none_closes a = tt
  closed-all-below _ _ (one_closes p t ps ts c more) a = calls-append (length H) t (joined ts) (closed-below p t c a.0) (closed-all-below ps ts more a.1)

  front-below : (l : Label) (xs ys : List Label) → CallsBelow (length H) (l ∷ xs) → CallsBelow (length H) ys → CallsBelow (length H) (l ∷ ys)
  front-below Bottom xs ys c d = d
  front-below (Symbol f) xs ys c d = d
  front-below (Call q) xs ys c d = (c.0, d)
  front-below Param xs ys c d = d

  pub split-below : (ls : List Label) (ps : List Piece) → Splits ranks (body_at H) ls ps → CallsBelow (length H) ls → HaveBelow ps
  split-below _ _ splitting.nothing c = tt
  split-below _ _ (splitting.parameter ls ps s) c = ((tt, tt), split-below ls ps s c)
  split-below _ _ (inner l ls kids ps n m are s) c =
      let h = split-below ls (kids ++ ps) s (other-calls (length H) l ls c) in
      (have-args kids (have-first kids ps h), have-others kids ps h)
  split-below _ _ (outer l ls kids ps ts n m s closed) c =
      let h = split-below ls (kids ++ ps) s (other-calls (length H) l ls c) in
      ((front-below l ls (joined ts) c (closed-all-below kids ts closed (have-first kids ps h)), tt), have-others kids ps h)
