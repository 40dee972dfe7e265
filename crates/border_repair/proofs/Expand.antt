-- Bodies that are expanded and split mean what they meant.
use Rattle.std.proofs.Common.{◌≡◌, ◌⊎◌, inl, inr, ℕ, zero, suc, ◌+◌, ◌-◌, ◌<◌, ◌≤◌, List, [], ◌∷◌, ◌++◌, length, get_or, take, drop, refl, ap, sym, subst, ◌∙◌, arith, append_assoc, append-nil}
use Rattle.std.proofs.lemmas.Bool.{cases_lt}
use Rattle.rule_arena.specs.Preorder.{AreTerms}
use Rattle.rule_arena.specs.declared.label.Label.{Label}
use Rattle.rule_arena.specs.declared.label.Label.TheVariants.{Bottom, Symbol, Call, Param}
use Rattle.rule_arena.proofs.PreorderLemmas.{AreTerms-append}
use Rattle.slt_grammar.specs.Algebras.{Algebra, apply, meanings, ranks_of, all_meanings}
use Rattle.slt_grammar.specs.Bodies.{arity, params, CallsBelow}
use Rattle.slt_grammar.specs.Editing.{put}
use Rattle.slt_grammar.specs.Grammars.{IsGrammar, body_at}
use Rattle.slt_grammar.specs.declared.rules.Rule.{Rule}
use Rattle.slt_grammar.proofs.Meanings.{meanings-append, meanings-whole, only}
use Rattle.slt_grammar.proofs.RuleMeanings.{memo-at}
use Rattle.slt_grammar.proofs.Substitutions.{joined, AllTerms, params-put, AreTerms-joined, AreTerms-put, meanings-put}
use Rattle.border_repair.specs.Expanding.{Expands, nothing, parameter, bottom, symbol, call, IsExposed, IsOutside}
use Rattle.border_repair.proofs.Split.{Mean, skeleton-means, take_all, drop_all, joined-append}

AllTerms-parts : (ranks : List ℕ) (xs ys : List (List Label)) → AllTerms ranks (xs ++ ys) → AllTerms ranks xs × AllTerms ranks ys
AllTerms-parts ranks [] ys t = (tt, t)
AllTerms-parts ranks (x ∷ xs) ys t = let r = AllTerms-parts ranks xs ys t.1 in ((t.0, r.0), r.1)

module _ {S : Type 0} (A : Algebra S) (ranks news : List ℕ) (fs gs : List (List S → S)) (outside : ℕ → List Label) where
  -- the outside of a rule means what the rule meant, and is a term over as many parameters
  pub record Stands (q : ℕ) : Type 0 where
    pub term : AreTerms (arity news) 1 (outside q)
    pub many : params (outside q) ≡ get_or ranks q 0
    pub means : (kids : List S) → length kids ≡ get_or ranks q 0 → get_or (meanings A news gs kids (outside q) []) 0 A.bottom ≡ get_or fs q (λ _. A.bottom) kids

  -- and so do all that are called
  abbrev pub AllStand : List Label → Type 0
  AllStand [] = Unit {0}
  AllStand (Call q ∷ ls) = Stands q × AllStand ls
  AllStand (l ∷ ls) = AllStand ls

  expands-terms : (ls : List Label) (ts : List (List Label)) → Expands ranks outside ls ts → AllStand ls → AllTerms news ts
  expands-terms _ _ nothing c = tt
  expands-terms _ _ (parameter ls ts e) c = (tt, expands-terms ls ts e c)
  expands-terms _ _ (bottom ls ts e) c = (tt, expands-terms ls ts e c)
  expands-terms _ _ (symbol f ls a b ts e) c = let h = expands-terms ls (a ∷ b ∷ ts) e c in (AreTerms-append (arity news) 1 1 a b h.0 h.1.0, h.1.1)
  expands-terms _ _ (call q ls kids ts n e) c =
      let h = AllTerms-parts news kids ts (expands-terms ls (kids ++ ts) e c.1) in
      (AreTerms-put news 1 (outside q) kids c.0.term h.0 (n ∙ sym c.0.many), h.1)

  called : (q : ℕ) (kids ts : List (List Label)) (args all : List S) → Stands q → length kids ≡ get_or ranks q 0 → AllTerms news kids → meanings A news gs args (joined (kids ++ ts)) [] ≡ all
      → meanings A news gs args (put (outside q) kids ++ joined ts) [] ≡ get_or fs q (λ _. A.bottom) (take (get_or ranks q 0) all) ∷ drop (get_or ranks q 0) all
  called q kids ts args all s n t e =
      let M = meanings A news gs args (joined kids) [] in
      let rest = meanings A news gs (drop (params (joined kids)) args) (joined ts) [] in
      let many : length kids ≡ params (outside q) = n ∙ sym s.many in
      let w = meanings-whole A news gs (length kids) args (joined kids) rest (AreTerms-joined news kids t) in
      let one = meanings-whole A news gs 1 M (outside q) rest s.term in
      let size : length M ≡ get_or ranks q 0 = w.1 ∙ n in
      let whole : all ≡ M ++ rest = sym e ∙ ap (λ z. meanings A news gs args z []) (joined-append kids ts) ∙ meanings-append A news gs args (joined kids) (joined ts) [] ∙ w.0 in
      meanings-append A news gs args (put (outside q) kids) (joined ts) []
      ∙ ap (λ k. meanings A news gs args (put (outside q) kids) (meanings A news gs (drop k args) (joined ts) [])) (params-put (outside q) kids many)
      ∙ meanings-put A news gs args (outside q) kids rest t many
      ∙ one.0 ∙ ap (λ z. z ++ rest) (only A.bottom (meanings A news gs M (outside q) []) one.1) ∙ ap (λ z. z ∷ rest) (s.means M size)
      ∙ ap (λ z. get_or fs q (λ _. A.bottom) z ∷ rest) (sym (take_all (get_or ranks q 0) M rest size))
      ∙ ap (λ z. get_or fs q (λ _. A.bottom) (take (get_or ranks q 0) (M ++ rest)) ∷ z) (sym (drop_all (get_or ranks q 0) M rest size))
      ∙ ap (λ z. get_or fs q (λ _. A.bottom) (take (get_or ranks q 0) z) ∷ drop (get_or ranks q 0) z) (sym whole)

  -- what is expanded means what it meant
  pub expands-means : (ls : List Label) (ts : List (List Label)) → Expands ranks outside ls ts → AllStand ls → (args : List S) → meanings A news gs args (joined ts) [] ≡ meanings A ranks fs args ls []
  expands-means _ _ nothing c args = refl
  expands-means _ _ (parameter ls ts e) c args = ap (λ z. get_or args 0 A.bottom ∷ z) (expands-means ls ts e c (drop 1 args))
  expands-means _ _ (bottom ls ts e) c args = ap (λ all. apply A fs Bottom (take 0 all) ∷ drop 0 all) (expands-means ls ts e c args)
  expands-means _ _ (symbol f ls a b ts e) c args =
      ap (λ z. meanings A news gs args (Symbol f ∷ z) []) (append_assoc a b (joined ts))
      ∙ ap (λ all. A.node f (get_or (take 2 all) 0 A.bottom) (get_or (take 2 all) 1 A.bottom) ∷ drop 2 all) (expands-means ls (a ∷ b ∷ ts) e c args)
  expands-means _ _ (call q ls kids ts n e) c args =
      called q kids ts args (meanings A ranks fs args ls []) c.0 n (AllTerms-parts news kids ts (expands-terms ls (kids ++ ts) e c.1)).0 (expands-means ls (kids ++ ts) e c.1 args)

-- rules that are exposed mean what they meant, where the second ones mean what their bodies do
module _ {S : Type 0} (A : Algebra S) (G H : List Rule) (g : IsGrammar G) (gs : List (List S → S)) (mean : Mean A (ranks_of H) gs (body_at H)) (outside : ℕ → List Label) (x : IsExposed G H outside) where
  abbrev Right : ℕ → Type 0
  Right q = Stands A (ranks_of G) (ranks_of H) (all_meanings A G) gs outside q

  all-stand : (k : ℕ) → ((q : ℕ) → q < k → Right q) → (ls : List Label) → CallsBelow k ls → AllStand A (ranks_of G) (ranks_of H) (all_meanings A G) gs outside ls
  all-stand k before [] b = tt
  all-stand k before (Bottom ∷ ls) b = all-stand k before ls b
  all-stand k before (Symbol f ∷ ls) b = all-stand k before ls b
  all-stand k before (Param ∷ ls) b = all-stand k before ls b
  all-stand k before (Call q ∷ ls) b = (before q b.0, all-stand k before ls b.1)

  -- the expanded body means what the rule meant
  expanded-means : (k : ℕ) → k < length G → ((q : ℕ) → q < k → Right q) → (labels : List Label) → Expands (ranks_of G) outside (body_at G k) (labels ∷ []) → (args : List S)
      → meanings A (ranks_of H) gs args labels [] ≡ meanings A (ranks_of G) (all_meanings A G) args (body_at G k) []
  expanded-means k l before labels e args =
      ap (λ z. meanings A (ranks_of H) gs args z []) (sym (append-nil labels))
      ∙ expands-means A (ranks_of G) (ranks_of H) (all_meanings A G) gs outside (body_at G k) (labels ∷ []) e (all-stand k before (body_at G k) (g.each k l).earlier) args

  next-right : (k : ℕ) → k + 1 < length G → ((q : ℕ) → q < k → Right q) → Right k
  next-right k l before =
      let o : IsOutside G H outside k = x.each k l in
      record {
        term = o.stands.term;
        many = o.stands.many;
        means = λ kids n.
            ap (λ z. get_or z 0 A.bottom) (skeleton-means A (ranks_of H) gs (body_at H) mean o.expanded (outside k) o.piece o.splits o.closes kids ∙ expanded-means k (omega arith) before o.expanded o.expands kids)
            ∙ sym (memo-at A G g k (omega arith) kids);
      }

  right-before : (k : ℕ) → k < length G → (q : ℕ) → q < k → Right q
  right-before zero l q b = absurd (omega arith)
  right-before (suc k) l q b = by_place (cases_lt q k) (right-before k (omega arith)) where
    by_place : (q < k) ⊎ (k ≤ q) → ((p : ℕ) → p < k → Right p) → Right q
    by_place (inl c) ih = ih q c
    by_place (inr c) ih = let same : k ≡ q = omega arith in subst Right same (next-right k (omega arith) ih)

  -- the start means what it meant
  pub start-means : meanings A (ranks_of H) gs [] (body_at H (length H - 1)) [] ≡ meanings A (ranks_of G) (all_meanings A G) [] (body_at G (length G - 1)) []
  start-means =
      let last = length G - 1 in
      let l : last < length G = omega (arith, g.some) in
      expanded-means last l (right-before last l) (body_at H (length H - 1)) x.start []

  -- and its body is a term
  pub start-term : AreTerms (arity (ranks_of H)) 1 (body_at H (length H - 1))
  start-term =
      let last = length G - 1 in
      let l : last < length G = omega (arith, g.some) in
      (expands-terms A (ranks_of G) (ranks_of H) (all_meanings A G) gs outside (body_at G last) (body_at H (length H - 1) ∷ []) x.start (all-stand last (right-before last l) (body_at G last) (g.each last l).earlier)).0
