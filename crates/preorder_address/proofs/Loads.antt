-- What the terms of a body weigh, by their nodes and by their labels.
use Rattle.std.proofs.Common.{◌≡◌, ℕ, zero, suc, ◌+◌, ◌≤◌, List, [], ◌∷◌, ◌++◌, length, get_or, take, drop, refl, ap, sym, ◌∙◌, arith, append-nil, sum_by, subst}
use Rattle.std.specs.Prelude.{sum}
use Rattle.std.proofs.lemmas.List.{length-take-le}
use Rattle.rule_arena.specs.Preorder.{AreTerms}
use Rattle.rule_arena.specs.Terms.{Node, kids_of}
use Rattle.rule_arena.specs.declared.label.Label.{Label}
use Rattle.rule_arena.specs.declared.label.Label.TheVariants.{Bottom, Symbol, Call, Param}
use Rattle.rule_arena.proofs.PreorderLemmas.{AreTerms-append}
use Rattle.slt_grammar.specs.Algebras.{ranks_of}
use Rattle.slt_grammar.specs.Bodies.{arity, params, CallsBelow}
use Rattle.slt_grammar.specs.Editing.{put}
use Rattle.slt_grammar.specs.Grammars.{IsGrammar, value_at}
use Rattle.slt_grammar.specs.Keyed.{HasArities, labels_of}
use Rattle.slt_grammar.specs.Segments.{segment, preorder}
use Rattle.slt_grammar.specs.declared.rules.Rule.{Rule}
use Rattle.slt_grammar.proofs.Meanings.{params-append}
use Rattle.slt_grammar.proofs.RuleMeanings.{rank_at-ranks_of}
use Rattle.slt_grammar.proofs.Spreads.{IsPlain, filled, woven, filled-woven}
use Rattle.slt_grammar.proofs.TourLemmas.{params-preorder}
use Rattle.preorder_address.specs.Sites.{laden, shape, own_weight, args_behind, term_weights}
use Rattle.preorder_address.proofs.Lading.{label_arity, AllTerms, portions, laden-put, laden-sum, listed-term}
use Rattle.preorder_address.proofs.Listings.{weave, listings, length-listings}

pub head-calls : (k : ℕ) (l : Label) (ls : List Label) → CallsBelow k (l ∷ ls) → CallsBelow k (l ∷ []) × CallsBelow k ls
head-calls k Bottom ls c = (tt, c)
head-calls k (Symbol f) ls c = (tt, c)
head-calls k (Call q) ls c = ((c.0, tt), c.1)
head-calls k Param ls c = (tt, c)

-- the parameters of these together
abbrev pub params_all : List (List Label) → ℕ
params_all [] = 0
params_all (c ∷ cs) = params c + params_all cs

params-put : (T : List Label) (cs : List (List Label)) → params T ≡ length cs → params (put T cs) ≡ params_all cs
params-put [] [] e = refl
params-put [] (c ∷ cs) e = absurd (omega arith)
params-put (Param ∷ T) [] e = absurd (omega arith)
params-put (Param ∷ T) (c ∷ cs) e = omega (arith, params-append c (put T cs), params-put T cs (omega arith))
params-put (Bottom ∷ T) cs e = params-put T cs e
params-put (Symbol f ∷ T) cs e = params-put T cs e
params-put (Call q ∷ T) cs e = params-put T cs e

pub put-term : (n : ℕ) (T : List Label) (cs : List (List Label)) → AreTerms label_arity n T → AllTerms cs → params T ≡ length cs → AreTerms label_arity n (put T cs)
put-term n [] cs t a e = t
put-term zero (l ∷ T) cs t a e = absurd t
put-term (suc n) (Param ∷ T) [] t a e = absurd (omega arith)
put-term (suc n) (Param ∷ T) (c ∷ cs) t a e =
    let z : 1 + (0 + n) ≡ suc n = omega arith in
    subst (λ (j : ℕ). AreTerms label_arity j (c ++ put T cs)) z (AreTerms-append label_arity 1 (0 + n) c (put T cs) a.0 (put-term (0 + n) T cs t a.1 (omega arith)))
put-term (suc n) (Bottom ∷ T) cs t a e = put-term (0 + n) T cs t a e
put-term (suc n) (Symbol f ∷ T) cs t a e = put-term (2 + n) T cs t a e
put-term (suc n) (Call q ∷ T) cs t a e = put-term (0 + n) T cs t a e

pub all-take : (k : ℕ) (cs : List (List Label)) → AllTerms cs → AllTerms (take k cs)
all-take zero cs a = tt
all-take (suc k) [] a = tt
all-take (suc k) (c ∷ cs) a = (a.0, all-take k cs a.1)

all-drop : (k : ℕ) (cs : List (List Label)) → AllTerms cs → AllTerms (drop k cs)
all-drop zero cs a = a
all-drop (suc k) [] a = tt
all-drop (suc k) (c ∷ cs) a = all-drop k cs a.1

abbrev appends : List (List Label) → List (List Label → List Label)
appends [] = []
appends (c ∷ cs) = (λ k. c ++ k) ∷ appends cs

length-appends : (cs : List (List Label)) → length (appends cs) ≡ length cs
length-appends [] = refl
length-appends (c ∷ cs) = ap suc (length-appends cs)

filled-put : (T : List Label) (cs : List (List Label)) → params T ≡ length cs → filled T (appends cs) [] ≡ put T cs
filled-put [] cs e = refl
filled-put (Param ∷ T) [] e = absurd (omega arith)
filled-put (Param ∷ T) (c ∷ cs) e = ap (λ ls. c ++ ls) (filled-put T cs (omega arith))
filled-put (Bottom ∷ T) cs e = ap (λ ls. Bottom ∷ ls) (filled-put T cs e)
filled-put (Symbol f ∷ T) cs e = ap (λ ls. Symbol f ∷ ls) (filled-put T cs e)
filled-put (Call q ∷ T) cs e = ap (λ ls. Call q ∷ ls) (filled-put T cs e)

module _ (G : List Rule) (g : IsGrammar G) where
  pub shape-params : (l : Label) → IsPlain l → CallsBelow (length G) (l ∷ []) → params (shape G l) ≡ arity (ranks_of G) l
  shape-params Param p c = absurd p
  shape-params Bottom p c = refl
  shape-params (Symbol f) p c = refl
  shape-params (Call q) p c = params-preorder G q g c.0 ∙ sym (rank_at-ranks_of G q)

  pub shape-term : (l : Label) → AreTerms label_arity 1 (shape G l)
  shape-term Param = tt
  shape-term Bottom = tt
  shape-term (Symbol f) = tt
  shape-term (Call q) = listed-term 0 (value_at G q) [] tt

  weave-woven : (q i : ℕ) (cs : List (List Label)) → weave G (Call q) i cs ≡ woven (preorder G q) i (appends cs) []
  weave-woven q i [] = sym (append-nil (segment i (preorder G q)))
  weave-woven q i (c ∷ cs) = ap (λ ls. segment i (preorder G q) ++ (c ++ ls)) (weave-woven q (suc i) cs)

  -- a node's parts around its kids are what it means, with the kids in the places of the parameters
  pub weave-put : (l : Label) (cs : List (List Label)) → IsPlain l → params (shape G l) ≡ length cs → weave G l 0 cs ≡ put (shape G l) cs
  weave-put Param cs p e = absurd p
  weave-put Bottom [] p e = refl
  weave-put Bottom (c ∷ cs) p e = absurd (omega arith)
  weave-put (Symbol f) [] p e = absurd (omega arith)
  weave-put (Symbol f) (a ∷ []) p e = absurd (omega arith)
  weave-put (Symbol f) (a ∷ b ∷ []) p e = refl
  weave-put (Symbol f) (a ∷ b ∷ c ∷ cs) p e = absurd (omega arith)
  weave-put (Call q) cs p e = weave-woven q 0 cs ∙ sym (filled-woven (preorder G q) (appends cs) [] (omega (arith, e, length-appends cs))) ∙ filled-put (preorder G q) cs e

  weave-term : (l : Label) (k : ℕ) (all : List (List Label)) → CallsBelow (length G) (l ∷ []) → k ≡ arity (ranks_of G) l → k ≤ length all → AllTerms all → AreTerms label_arity 1 (weave G l 0 (take k all))
  weave-term l k all c e h a = by_label l c e
    where
      plain : (l : Label) → IsPlain l → CallsBelow (length G) (l ∷ []) → k ≡ arity (ranks_of G) l → AreTerms label_arity 1 (weave G l 0 (take k all))
      plain l p c e =
          let n : params (shape G l) ≡ length (take k all) = omega (arith, shape-params l p c, e, length-take-le k all h) in
          subst (λ (ls : List Label). AreTerms label_arity 1 ls) (sym (weave-put l (take k all) p n)) (put-term 1 (shape G l) (take k all) (shape-term l) (all-take k all a) n)

      by_label : (l : Label) → CallsBelow (length G) (l ∷ []) → k ≡ arity (ranks_of G) l → AreTerms label_arity 1 (weave G l 0 (take k all))
      by_label Bottom c e = plain Bottom tt c e
      by_label (Symbol f) c e = plain (Symbol f) tt c e
      by_label (Call q) c e = plain (Call q) tt c e
      by_label Param c e = subst (λ (j : ℕ). AreTerms label_arity 1 (weave G Param 0 (take j all))) (sym e) tt

  -- the labels of each term are one term
  pub listings-terms : (n : ℕ) (xs : List Node) → AreTerms kids_of n xs → HasArities (ranks_of G) xs → CallsBelow (length G) (labels_of xs) → AllTerms (listings G xs)
  listings-terms n [] t r c = tt
  listings-terms zero (x ∷ xs) t r c = absurd t
  listings-terms (suc n) (x ∷ xs) t r c =
      let d = head-calls (length G) x.label (labels_of xs) c in
      let ih = listings-terms (x.kids + n) xs t (λ k e l. r (suc k) e (omega arith)) d.1 in (
        weave-term x.label x.kids (listings G xs) d.0 (r 0 x (omega arith)) (omega (arith, length-listings G (x.kids + n) xs t)) ih,
        all-drop x.kids (listings G xs) ih,
      )

  module _ (w : Label → ℕ) (zero_param : w Param ≡ 0) where
    pub length-portions : (args : List ℕ) (cs : List (List Label)) → length (portions w args cs) ≡ length cs
    length-portions args [] = refl
    length-portions args (c ∷ cs) = ap suc (length-portions (drop (params c) args) cs)

    drop-drop : (m n : ℕ) (xs : List ℕ) → drop n (drop m xs) ≡ drop (m + n) xs
    drop-drop zero n xs = let z : n ≡ 0 + n = omega arith in ap (λ k. drop k xs) z
    drop-drop (suc m) zero [] = let z : suc m + 0 ≡ suc m = omega arith in sym (ap (λ k. drop k []) z)
    drop-drop (suc m) (suc n) [] = let z : suc m + suc n ≡ suc (m + suc n) = omega arith in sym (ap (λ k. drop k []) z)
    drop-drop (suc m) n (x ∷ xs) = let z : suc m + n ≡ suc (m + n) = omega arith in drop-drop m n xs ∙ sym (ap (λ k. drop k (x ∷ xs)) z)

    portions-append : (args : List ℕ) (xs ys : List (List Label)) → portions w args (xs ++ ys) ≡ portions w args xs ++ portions w (drop (params_all xs) args) ys
    portions-append args [] ys = refl
    portions-append args (x ∷ xs) ys =
        ap (λ us. laden w args x ∷ us) (portions-append (drop (params x) args) xs ys)
        ∙ ap (λ vs. laden w args x ∷ (portions w (drop (params x) args) xs ++ portions w vs ys)) (drop-drop (params x) (params_all xs) args)

    -- of the first k terms, and of the others
    pub portions-split : (k : ℕ) (args : List ℕ) (cs : List (List Label)) → k ≤ length cs
        → (take k (portions w args cs) ≡ portions w args (take k cs)) × (drop k (portions w args cs) ≡ portions w (drop (params_all (take k cs)) args) (drop k cs))
    portions-split zero args cs h = (refl, refl)
    portions-split (suc k) args [] h = absurd (omega arith)
    portions-split (suc k) args (c ∷ cs) h =
        let ih = portions-split k (drop (params c) args) cs (omega arith) in
        (ap (λ us. laden w args c ∷ us) ih.0, ih.1 ∙ ap (λ vs. portions w vs (drop k cs)) (drop-drop (params c) (params_all (take k cs)) args))

    pub laden-weave : (args : List ℕ) (l : Label) (cs : List (List Label)) → IsPlain l → params (shape G l) ≡ length cs → laden w args (weave G l 0 cs) ≡ sum_by w (shape G l) + sum (portions w args cs)
    laden-weave args l cs p e =
        ap (laden w args) (weave-put l cs p e) ∙ laden-put w args (shape G l) cs e ∙ laden-sum w zero_param (portions w args cs) (shape G l) (e ∙ sym (length-portions args cs))

    -- what terms weigh by their nodes is what they do by their labels
    pub weights-listings : (n : ℕ) (args : List ℕ) (xs : List Node) → AreTerms kids_of n xs → HasArities (ranks_of G) xs → CallsBelow (length G) (labels_of xs) → portions w args (listings G xs) ≡ term_weights w G args xs
    weights-listings n args [] t r c = refl
    weights-listings zero args (x ∷ xs) t r c = absurd t
    weights-listings (suc n) args (x ∷ xs) t r c =
        let d = head-calls (length G) x.label (labels_of xs) c in
        by_label x.label d.0 (r 0 x (omega arith)) (weights-listings (x.kids + n) (args_behind x.label args) xs t (λ k e l. r (suc k) e (omega arith)) d.1)
      where
        enough : x.kids ≤ length (listings G xs)
        enough = omega (arith, length-listings G (x.kids + n) xs t)

        plain : (l : Label) → IsPlain l → CallsBelow (length G) (l ∷ []) → x.kids ≡ arity (ranks_of G) l → (us : List ℕ) → portions w args (listings G xs) ≡ us
            → laden w args (weave G l 0 (take x.kids (listings G xs))) ∷ portions w (drop (params (weave G l 0 (take x.kids (listings G xs)))) args) (drop x.kids (listings G xs)) ≡ (sum_by w (shape G l) + sum (take x.kids us)) ∷ drop x.kids us
        plain l p c e us ih =
            let s = portions-split x.kids args (listings G xs) enough in
            let m : params (shape G l) ≡ length (take x.kids (listings G xs)) = omega (arith, shape-params l p c, e, length-take-le x.kids (listings G xs) enough) in
            let q : params (weave G l 0 (take x.kids (listings G xs))) ≡ params_all (take x.kids (listings G xs)) = ap params (weave-put l (take x.kids (listings G xs)) p m) ∙ params-put (shape G l) (take x.kids (listings G xs)) m in
            ap (λ k. k ∷ portions w (drop (params (weave G l 0 (take x.kids (listings G xs)))) args) (drop x.kids (listings G xs))) (laden-weave args l (take x.kids (listings G xs)) p m)
            ∙ ap (λ us. (sum_by w (shape G l) + sum us) ∷ portions w (drop (params (weave G l 0 (take x.kids (listings G xs)))) args) (drop x.kids (listings G xs))) (sym s.0)
            ∙ ap (λ k. (sum_by w (shape G l) + sum (take x.kids (portions w args (listings G xs)))) ∷ portions w (drop k args) (drop x.kids (listings G xs))) q
            ∙ ap (λ us. (sum_by w (shape G l) + sum (take x.kids (portions w args (listings G xs)))) ∷ us) (sym s.1)
            ∙ ap (λ us. (sum_by w (shape G l) + sum (take x.kids us)) ∷ drop x.kids us) ih

        by_label : (l : Label) → CallsBelow (length G) (l ∷ []) → x.kids ≡ arity (ranks_of G) l → portions w (args_behind l args) (listings G xs) ≡ term_weights w G (args_behind l args) xs
            → laden w args (weave G l 0 (take x.kids (listings G xs))) ∷ portions w (drop (params (weave G l 0 (take x.kids (listings G xs)))) args) (drop x.kids (listings G xs))
            ≡ (own_weight w G args l + sum (take x.kids (term_weights w G (args_behind l args) xs))) ∷ drop x.kids (term_weights w G (args_behind l args) xs)
        by_label Bottom c e ih = plain Bottom tt c e (term_weights w G args xs) ih
        by_label (Symbol f) c e ih = plain (Symbol f) tt c e (term_weights w G args xs) ih
        by_label (Call q) c e ih = plain (Call q) tt c e (term_weights w G args xs) ih
        by_label Param c e ih =
            let us = term_weights w G (drop 1 args) xs in
            let f : (k : ℕ) → k ≡ 0 → laden w args (weave G Param 0 (take k (listings G xs))) ∷ portions w (drop (params (weave G Param 0 (take k (listings G xs)))) args) (drop k (listings G xs)) ≡ (get_or args 0 0 + sum (take k us)) ∷ drop k us =
            (λ k z. subst (λ (k : ℕ). laden w args (weave G Param 0 (take k (listings G xs))) ∷ portions w (drop (params (weave G Param 0 (take k (listings G xs)))) args) (drop k (listings G xs)) ≡ (get_or args 0 0 + sum (take k us)) ∷ drop k us) (sym z) (ap (λ vs. (get_or args 0 0 + 0) ∷ vs) ih)) in
            f x.kids e
