-- What of terms and down states is kept.
use Rattle.std.proofs.Common.{◌≡◌, ℕ, suc, ◌+◌, ◌≤◌, List, [], ◌∷◌, ◌++◌, length, get_or, map, Bool, true, false, refl, ap, sym, ◌∙◌, arith, zero-add}
use Rattle.std.proofs.lemmas.List.{map-append, length-map}
use Rattle.slt_grammar.specs.Algebras.{Algebra, ranks_of}
use Rattle.slt_grammar.specs.Automata.{Downward, handed}
use Rattle.slt_grammar.specs.Terms.{Term, Leaf, Node, Hole, substitute, up, holes, holes_of}
use Rattle.slt_grammar.specs.Grammars.{value_at}
use Rattle.slt_grammar.specs.declared.rules.Rule.{Rule}
use Rattle.slt_grammar.proofs.Linear.{length-holes}
use Rattle.rule_runs.proofs.Handing.{IsLinear, length-handed}
use Rattle.bulk_rewrite.specs.Rewriting.{Rewriting, IsLawful, unless, counted, rewritten, kept_terms, kept_count}

pub unless-append : {X : Type 0} (b : Bool) (x : X) (xs ys : List X) → unless b x xs ++ ys ≡ unless b x (xs ++ ys)
unless-append true x xs ys = refl
unless-append false x xs ys = refl

counted-add : (b : Bool) (m n : ℕ) → counted b m + n ≡ counted b (m + n)
counted-add true m n = refl
counted-add false m n = omega arith

counted-length : {X : Type 0} (b : Bool) (x : X) (xs : List X) → length (unless b x xs) ≡ counted b (length xs)
counted-length true x xs = refl
counted-length false x xs = refl

counted-most : (b : Bool) (n m : ℕ) → n ≤ m → counted b n ≤ suc m
counted-most true n m h = omega arith
counted-most false n m h = omega arith

module _ {D : Type 0} (R : Rewriting D) where
  pub kept_count-append : (ds es : List D) → kept_count R (ds ++ es) ≡ kept_count R ds + kept_count R es
  kept_count-append [] es = sym (zero-add (kept_count R es))
  kept_count-append (d ∷ ds) es = rw (kept_count-append ds es) (sym (counted-add (R.lost d) (kept_count R ds) (kept_count R es)))

  pub kept_count-most : (ds : List D) → kept_count R ds ≤ length ds
  kept_count-most [] = omega arith
  kept_count-most (d ∷ ds) = counted-most (R.lost d) (kept_count R ds) (length ds) (kept_count-most ds)

  pub kept_count-lost : {X : Type 0} (d : D) → R.lost d ≡ true → (xs : List X) → kept_count R (map (λ (x : X). d) xs) ≡ 0
  kept_count-lost d e [] = refl
  kept_count-lost d e (x ∷ xs) = rw e (kept_count-lost d e xs)

module _ {S D : Type 0} (A : Algebra S) (W : Downward S D) (R : Rewriting D) (states : List S) where
  pub kept_terms-append : (ts us : List Term) (ds es : List D) → length ds ≡ length ts → kept_terms A W R (ts ++ us) states (ds ++ es) ≡ kept_terms A W R ts states ds ++ kept_terms A W R us states es
  kept_terms-append [] us [] es e = refl
  kept_terms-append [] us (d ∷ ds) es e = absurd (omega arith)
  kept_terms-append (t ∷ ts) us [] es e = absurd (omega arith)
  kept_terms-append (t ∷ ts) us (d ∷ ds) es e = rw (kept_terms-append ts us ds es (omega arith)) (sym (unless-append (R.lost d) (rewritten A W R t states d) (kept_terms A W R ts states ds) (kept_terms A W R us states es)))

  pub length-kept_terms : (ts : List Term) (ds : List D) → length ds ≡ length ts → length (kept_terms A W R ts states ds) ≡ kept_count R ds
  length-kept_terms [] [] e = refl
  length-kept_terms [] (d ∷ ds) e = absurd (omega arith)
  length-kept_terms (t ∷ ts) [] e = absurd (omega arith)
  length-kept_terms (t ∷ ts) (d ∷ ds) e = counted-length (R.lost d) (rewritten A W R t states d) (kept_terms A W R ts states ds) ∙ ap (counted (R.lost d)) (length-kept_terms ts ds (omega arith))

  pub kept_terms-lost : {X : Type 0} (d : D) → R.lost d ≡ true → (ts : List Term) (xs : List X) → length xs ≡ length ts → kept_terms A W R ts states (map (λ (x : X). d) xs) ≡ []
  kept_terms-lost d e [] xs n = refl
  kept_terms-lost d e (t ∷ ts) [] n = absurd (omega arith)
  kept_terms-lost d e (t ∷ ts) (x ∷ xs) n = rw e (kept_terms-lost d e ts xs (omega arith))

module _ {S D : Type 0} (A : Algebra S) (W : Downward S D) (R : Rewriting D) (law : IsLawful W R) (states : List S) (d : D) (lost : R.lost d ≡ true) where
  -- each hole of a lost term has its down state
  pub lost-handed : (t : Term) → handed A W t states d ≡ map (λ (h : Term). d) (holes_of t)
  lost-handed Leaf = refl
  lost-handed (Hole i) = refl
  lost-handed (Node f a b) =
      let same : List Term → List D = map (λ (h : Term). d) in
      let k = up A a states in
      let r = up A b states in
      rw (law.lost_left f d k r lost, law.lost_right f d k r lost) (ap (λ x. x ++ handed A W b states d) (lost-handed a) ∙ ap (λ x. same (holes_of a) ++ x) (lost-handed b) ∙ sym (map-append (λ (h : Term). d) (holes_of a) (holes_of b)))

-- a called rule hands on as many down states as it has parameters
module _ {S D : Type 0} (A : Algebra S) (W : Downward S D) (G : List Rule) (lin : IsLinear G) where
  pub holes-call : (q : ℕ) → length (holes_of (value_at G q)) ≡ get_or (ranks_of G) q 0
  holes-call q =
      let k : ℕ = get_or (ranks_of G) q 0 in
      let kids : List Term = holes 0 k in
      let n : length kids ≡ k = length-holes 0 k in
      sym (length-map (holes_of (value_at G q)) (λ h. substitute h kids)) ∙ ap length (lin.in_order q kids n) ∙ n

  pub length-handed-call : (q : ℕ) (states : List S) (d : D) → length (handed A W (value_at G q) states d) ≡ get_or (ranks_of G) q 0
  length-handed-call q states d = length-handed A W (value_at G q) states d ∙ holes-call q
