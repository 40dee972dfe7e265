-- Folding keeps what a body means.
use Rattle.std.proofs.Common.{◌≡◌, ◌≢◌, ℕ, zero, suc, ◌+◌, ◌-◌, List, [], ◌∷◌, ◌++◌, length, get_or, take, drop, refl, ap, sym, subst, ◌∙◌, arith, append_assoc, length-append}
use Rattle.rule_arena.specs.Preorder.{AreTerms, terms}
use Rattle.rule_arena.specs.declared.label.Label.{Label}
use Rattle.rule_arena.specs.declared.label.Label.TheVariants.{Bottom, Symbol, Call, Param}
use Rattle.rule_arena.proofs.PreorderLemmas.{AreTerms-append, span-all, length-terms}
use Rattle.slt_grammar.specs.Algebras.{Algebra, meanings}
use Rattle.slt_grammar.specs.Bodies.{arity, params, IsTerm}
use Rattle.slt_grammar.specs.Editing.{put}
use Rattle.slt_grammar.specs.KeyedEdits.{parameters, digram_body}
use Rattle.slt_grammar.specs.declared.digram.Digram.{Digram}
use Rattle.slt_grammar.proofs.Inlining.{joined-terms}
use Rattle.slt_grammar.proofs.Meanings.{meanings-append, params-append}
use Rattle.slt_grammar.proofs.Substitutions.{joined, AllTerms, AllTerms-terms, AreTerms-joined}
use Rattle.border_repair.specs.Folding.{IsPair, Folds, nothing, parameter, kept, made, HasPairRank}
use Rattle.border_repair.specs.Splitting.{Piece, whole, IsPiece, Closes, as_rule}
use Rattle.border_repair.proofs.Split.{Mean, front-same, put-front, closed-means, closed-params, joined-append}

put-parameters : (n : ℕ) (ls : List Label) (xs ys : List (List Label)) → length xs ≡ n → put (parameters n ++ ls) (xs ++ ys) ≡ joined xs ++ put ls ys
put-parameters zero ls [] ys e = refl
put-parameters zero ls (x ∷ xs) ys e = absurd (omega arith)
put-parameters (suc n) ls [] ys e = absurd (omega arith)
put-parameters (suc n) ls (x ∷ xs) ys e = ap (λ z. x ++ z) (put-parameters n ls xs ys (omega arith)) ∙ sym (append_assoc x (joined xs) (put ls ys))

all-put : (ts : List (List Label)) (n : ℕ) → length ts ≡ n → put (parameters n) ts ≡ joined ts
all-put [] zero e = refl
all-put [] (suc n) e = absurd (omega arith)
all-put (t ∷ ts) zero e = absurd (omega arith)
all-put (t ∷ ts) (suc n) e = ap (λ z. t ++ z) (all-put ts n (omega arith))

params-parameters : (n : ℕ) → params (parameters n) ≡ n
params-parameters zero = refl
params-parameters (suc n) = ap suc (params-parameters n)

parameters-terms : (ranks : List ℕ) (n : ℕ) → AreTerms (arity ranks) n (parameters n)
parameters-terms ranks zero = tt
parameters-terms ranks (suc n) = subst (λ k. AreTerms (arity ranks) k (parameters n)) (zero-plus n) (parameters-terms ranks n) where
  zero-plus : (n : ℕ) → n ≡ 0 + n
  zero-plus n = omega arith

terms-append : (ranks : List ℕ) (xs ys : List (List Label)) → AllTerms ranks xs → AllTerms ranks ys → AllTerms ranks (xs ++ ys)
terms-append ranks [] ys a b = b
terms-append ranks (x ∷ xs) ys a b = (a.0, terms-append ranks xs ys a.1 b)

terms-first : (ranks : List ℕ) (xs ys : List (List Label)) → AllTerms ranks (xs ++ ys) → AllTerms ranks xs
terms-first ranks [] ys t = tt
terms-first ranks (x ∷ xs) ys t = (t.0, terms-first ranks xs ys t.1)

terms-others : (ranks : List ℕ) (xs ys : List (List Label)) → AllTerms ranks (xs ++ ys) → AllTerms ranks ys
terms-others ranks [] ys t = t
terms-others ranks (x ∷ xs) ys t = terms-others ranks xs ys t.1

module _ (ranks : List ℕ) (d : Digram) (upper : d.upper ≢ Param) (lower : d.lower ≢ Param) (pair : HasPairRank ranks d) where
  -- the children of both nodes of a pair
  module _ (kids : List (List Label)) (p : IsPair d d.upper kids) (n : length kids ≡ arity ranks d.upper) (t : AllTerms ranks kids) where
    all-kids : AllTerms ranks (p.before ++ (d.lower ∷ p.below) ∷ p.after)
    all-kids = subst (AllTerms ranks) p.kids_are t

    low : AreTerms (arity ranks) (arity ranks d.lower + 0) p.below
    low = (terms-others ranks p.before ((d.lower ∷ p.below) ∷ p.after) all-kids).0

    low-terms : AreTerms (arity ranks) (arity ranks d.lower) p.below
    low-terms = subst (λ k. AreTerms (arity ranks) k p.below) (plus-none (arity ranks d.lower)) low where
      plus-none : (k : ℕ) → k + 0 ≡ k
      plus-none k = omega arith

    abbrev belows : List (List Label)
    belows = terms (arity ranks) (arity ranks d.lower) p.below

    belows-are : joined (terms (arity ranks) (arity ranks d.lower) p.below) ≡ p.below
    belows-are = joined-terms ranks (arity ranks d.lower) p.below ∙ ap (λ k. take k p.below) (span-all (arity ranks) (arity ranks d.lower) p.below low-terms) ∙ take_whole p.below where
      take_whole : (ls : List Label) → take (length ls) ls ≡ ls
      take_whole [] = refl
      take_whole (l ∷ ls) = ap (λ z. l ∷ z) (take_whole ls)

    abbrev args_of : List (List Label)
    args_of = p.before ++ (terms (arity ranks) (arity ranks d.lower) p.below ++ p.after)

    args-are : AllTerms ranks (p.before ++ (terms (arity ranks) (arity ranks d.lower) p.below ++ p.after))
    args-are = terms-append ranks p.before (terms (arity ranks) (arity ranks d.lower) p.below ++ p.after) (terms-first ranks p.before ((d.lower ∷ p.below) ∷ p.after) all-kids)
        (terms-append ranks (terms (arity ranks) (arity ranks d.lower) p.below) p.after (AllTerms-terms ranks (arity ranks d.lower) 0 p.below low) (terms-others ranks p.before ((d.lower ∷ p.below) ∷ p.after) all-kids).1)

    around : length p.before + suc (length p.after) ≡ arity ranks d.upper
    around = omega (arith, n, ap length p.kids_are, length-append p.before ((d.lower ∷ p.below) ∷ p.after))

    many-args : length (p.before ++ (terms (arity ranks) (arity ranks d.lower) p.below ++ p.after)) ≡ arity ranks (Call 0)
    many-args = omega (arith, pair.rank, around, length-append p.before (terms (arity ranks) (arity ranks d.lower) p.below ++ p.after), length-append (terms (arity ranks) (arity ranks d.lower) p.below) p.after, length-terms (arity ranks) (arity ranks d.lower) p.below)

    joined-are : joined (p.before ++ (terms (arity ranks) (arity ranks d.lower) p.below ++ p.after)) ≡ joined p.before ++ (p.below ++ joined p.after)
    joined-are = joined-append p.before (terms (arity ranks) (arity ranks d.lower) p.below ++ p.after) ∙ ap (λ z. joined p.before ++ z) (joined-append (terms (arity ranks) (arity ranks d.lower) p.below) p.after ∙ ap (λ z. z ++ joined p.after) belows-are)

    pair-term : IsTerm ranks (Call 0 ∷ (joined p.before ++ (p.below ++ joined p.after)))
    pair-term =
        let k : length (p.before ++ (terms (arity ranks) (arity ranks d.lower) p.below ++ p.after)) ≡ arity ranks (Call 0) + 0 = omega (arith, many-args) in
        subst (λ ls. AreTerms (arity ranks) (arity ranks (Call 0) + 0) ls) joined-are (subst (λ m. AreTerms (arity ranks) m (joined (p.before ++ (terms (arity ranks) (arity ranks d.lower) p.below ++ p.after)))) k (AreTerms-joined ranks (p.before ++ (terms (arity ranks) (arity ranks d.lower) p.below ++ p.after)) args-are))

    abbrev body_of : List Label
    body_of = digram_body ranks d.upper (length p.before) d.lower

    -- the digram's body over the children is the pair
    put-pair : put (digram_body ranks d.upper (length p.before) d.lower) (p.before ++ (terms (arity ranks) (arity ranks d.lower) p.below ++ p.after)) ≡ d.upper ∷ joined kids
    put-pair =
        let rest = parameters (arity ranks d.lower + (arity ranks d.upper - suc (length p.before))) in
        let m : length (terms (arity ranks) (arity ranks d.lower) p.below ++ p.after) ≡ arity ranks d.lower + (arity ranks d.upper - suc (length p.before)) = omega (arith, around, length-append (terms (arity ranks) (arity ranks d.lower) p.below) p.after, length-terms (arity ranks) (arity ranks d.lower) p.below) in
        put-front d.upper (parameters (length p.before) ++ (d.lower ∷ rest)) (p.before ++ (terms (arity ranks) (arity ranks d.lower) p.below ++ p.after)) upper
        ∙ ap (λ z. d.upper ∷ z) (
        put-parameters (length p.before) (d.lower ∷ rest) p.before (terms (arity ranks) (arity ranks d.lower) p.below ++ p.after) refl
        ∙ ap (λ z. joined p.before ++ z) (put-front d.lower rest (terms (arity ranks) (arity ranks d.lower) p.below ++ p.after) lower
        ∙ ap (λ z. d.lower ∷ z) (all-put (terms (arity ranks) (arity ranks d.lower) p.below ++ p.after) (arity ranks d.lower + (arity ranks d.upper - suc (length p.before))) m
        ∙ joined-append (terms (arity ranks) (arity ranks d.lower) p.below) p.after ∙ ap (λ z. z ++ joined p.after) belows-are))
        ∙ sym (joined-append p.before ((d.lower ∷ p.below) ∷ p.after)) ∙ ap joined (sym p.kids_are))

    front-params : (l : Label) (ls : List Label) → l ≢ Param → params (l ∷ ls) ≡ params ls
    front-params Bottom ls m = refl
    front-params (Symbol f) ls m = refl
    front-params (Call q) ls m = refl
    front-params Param ls m = absurd (m refl)

    body-params : params (digram_body ranks d.upper (length p.before) d.lower) ≡ arity ranks (Call 0)
    body-params =
        let r = arity ranks d.lower + (arity ranks d.upper - suc (length p.before)) in
        let a = front-params d.upper (parameters (length p.before) ++ (d.lower ∷ parameters r)) upper in
        let b = params-append (parameters (length p.before)) (d.lower ∷ parameters r) in
        let c = front-params d.lower (parameters r) lower in
        omega (arith, a, b, c, params-parameters (length p.before), params-parameters r, around, pair.rank)

    body-term : IsTerm ranks (digram_body ranks d.upper (length p.before) d.lower)
    body-term =
        let r = arity ranks d.lower + (arity ranks d.upper - suc (length p.before)) in
        let k : arity ranks d.lower + (arity ranks d.upper - suc (length p.before)) ≡ arity ranks d.lower + length p.after = omega (arith, around) in
        let u : length p.before + suc (length p.after) ≡ arity ranks d.upper + 0 = omega (arith, around) in
        let lowers : AreTerms (arity ranks) (suc (length p.after)) (d.lower ∷ parameters r) = subst (λ m. AreTerms (arity ranks) m (parameters r)) k (parameters-terms ranks r) in
        subst (λ m. AreTerms (arity ranks) m (parameters (length p.before) ++ (d.lower ∷ parameters r))) u
        (AreTerms-append (arity ranks) (length p.before) (suc (length p.after)) (parameters (length p.before)) (d.lower ∷ parameters r) (parameters-terms ranks (length p.before)) lowers)

  -- folded labels are terms
  pub folds-terms : (ls : List Label) (ts : List (List Label)) → Folds ranks 0 d ls ts → AllTerms ranks ts
  folds-terms _ _ nothing = tt
  folds-terms _ _ (parameter ls ts f) = (tt, folds-terms ls ts f)
  folds-terms _ _ (kept l ls kids ts n m no_pair f) =
      let h = folds-terms ls (kids ++ ts) f in
      let k : length kids ≡ arity ranks l + 0 = omega arith in
      (subst (λ j. AreTerms (arity ranks) j (joined kids)) k (AreTerms-joined ranks kids (terms-first ranks kids ts h)), terms-others ranks kids ts h)
  folds-terms _ _ (made ls kids ts p m f) =
      let h = folds-terms ls (kids ++ ts) f in
      (pair-term kids p m (terms-first ranks kids ts h), terms-others ranks kids ts h)

  module _ {S : Type 0} (A : Algebra S) (fs : List (List S → S)) (own : (kids : List S) → get_or fs 0 (λ _. A.bottom) kids ≡ get_or (meanings A ranks fs kids (digram_body ranks d.upper (d.place - 1) d.lower) []) 0 A.bottom) where
    abbrev first_body : ℕ → List Label
    first_body zero = digram_body ranks d.upper (d.place - 1) d.lower
    first_body (suc q) = []

    first-means : Mean A ranks fs first_body
    first-means zero t kids = own kids
    first-means (suc q) t kids = absurd t

    -- a folded body means what it meant
    pub folded-means : (ls : List Label) (ts : List (List Label)) → Folds ranks 0 d ls ts → (args : List S) → meanings A ranks fs args (joined ts) [] ≡ meanings A ranks fs args ls []
    folded-means _ _ nothing args = refl
    folded-means _ _ (parameter ls ts f) args = ap (λ z. get_or args 0 A.bottom ∷ z) (folded-means ls ts f (drop 1 args))
    folded-means _ _ (kept l ls kids ts n m no_pair f) args =
        front-same A ranks fs first_body l (joined kids ++ joined ts) ls args n (ap (λ u. meanings A ranks fs args u []) (sym (joined-append kids ts)) ∙ folded-means ls (kids ++ ts) f args)
    folded-means _ _ (made ls kids ts p m f) args =
        let t = terms-first ranks kids ts (folds-terms ls (kids ++ ts) f) in
        let as_args = p.before ++ (terms (arity ranks) (arity ranks d.lower) p.below ++ p.after) in
        let place : length p.before ≡ d.place - 1 = omega (arith, p.place) in
        let q : Piece = record { part = digram_body ranks d.upper (length p.before) d.lower; args = p.before ++ (terms (arity ranks) (arity ranks d.lower) p.below ++ p.after) } in
        let is : IsPiece ranks q = record { term = body-term kids p m t; enough = many-args kids p m t ∙ sym (body-params kids p m t); terms = args-are kids p m t } in
        let call : Closes ranks first_body q (Call 0 ∷ joined (p.before ++ (terms (arity ranks) (arity ranks d.lower) p.below ++ p.after))) = as_rule q 0 (ap (λ k. digram_body ranks d.upper k d.lower) (sym place)) (sym (body-params kids p m t)) is (d.upper, drop 1 q.part, refl, upper) in
        let w : whole q ≡ d.upper ∷ joined kids = put-pair kids p m t in
        let e : Call 0 ∷ joined (p.before ++ (terms (arity ranks) (arity ranks d.lower) p.below ++ p.after)) ≡ Call 0 ∷ (joined p.before ++ (p.below ++ joined p.after)) = ap (λ z. Call 0 ∷ z) (joined-are kids p m t) in
        ap (λ u. meanings A ranks fs args (u ++ joined ts) []) (sym e)
        ∙ meanings-append A ranks fs args (Call 0 ∷ joined q.args) (joined ts) []
        ∙ closed-means A ranks fs first_body first-means q (Call 0 ∷ joined q.args) call args (meanings A ranks fs (drop (params (Call 0 ∷ joined q.args)) args) (joined ts) [])
        ∙ ap (λ k. meanings A ranks fs args (whole q) (meanings A ranks fs (drop k args) (joined ts) [])) (closed-params A ranks fs first_body q (Call 0 ∷ joined q.args) call)
        ∙ sym (meanings-append A ranks fs args (whole q) (joined ts) [])
        ∙ ap (λ u. meanings A ranks fs args (u ++ joined ts) []) w
        ∙ front-same A ranks fs first_body d.upper (joined kids ++ joined ts) ls args upper (ap (λ u. meanings A ranks fs args u []) (sym (joined-append kids ts)) ∙ folded-means ls (kids ++ ts) f args)
