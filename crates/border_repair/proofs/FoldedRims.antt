-- Folding changes no rim.
use Rattle.std.proofs.Common.{◌≡◌, ◌≢◌, ℕ, zero, suc, ◌+◌, List, [], ◌∷◌, ◌++◌, Some, None, length, refl, ap, sym, subst, ◌∙◌, arith, append_assoc, append-nil, length-append}
use Rattle.rule_arena.specs.Preorder.{AreTerms}
use Rattle.rule_arena.specs.declared.label.Label.{Label}
use Rattle.rule_arena.specs.declared.label.Label.TheVariants.{Bottom, Symbol, Call, Param}
use Rattle.slt_grammar.specs.Bodies.{arity}
use Rattle.slt_grammar.specs.declared.digram.Digram.{Digram}
use Rattle.slt_grammar.proofs.Substitutions.{joined, AllTerms}
use Rattle.border_repair.specs.Edges.{kid_tops, tops_of}
use Rattle.border_repair.specs.Folding.{Folds, nothing, parameter, kept, made, HasPairRank}
use Rattle.border_repair.specs.Splitting.{HasFront}
use Rattle.border_repair.specs.Weighing.{Scale, Above, AreKnown, Rim, first_of, root_from, rim_of}
use Rattle.border_repair.proofs.Folds.{folds-terms}
use Rattle.border_repair.proofs.Hanging.{tops-known}
use Rattle.border_repair.proofs.Split.{joined-append}

module _ (e : Scale) (s : ℕ → Rim) where
  tops-front : (c : Above) (cs : List Above) (l : Label) (ls : List Label) → l ≢ Param → tops_of e s (c ∷ cs) (l ∷ ls) ≡ tops_of e s (kid_tops e s l ++ cs) ls
  tops-front c cs Bottom ls n = refl
  tops-front c cs (Symbol f) ls n = refl
  tops-front c cs (Call q) ls n = refl
  tops-front c cs Param ls n = absurd (n refl)

  tops-none : (ls : List Label) → tops_of e s [] ls ≡ []
  tops-none [] = refl
  tops-none (l ∷ ls) = refl

  module _ (ranks : List ℕ) (same : (l : Label) → length (kid_tops e s l) ≡ arity ranks l) where
    -- terms, cut in two
    tops-cut : (n : ℕ) (xs ys : List Label) (tops cs : List Above) → AreTerms (arity ranks) n xs → length tops ≡ n → tops_of e s (tops ++ cs) (xs ++ ys) ≡ tops_of e s tops xs ++ tops_of e s cs ys
    tops-cut zero [] ys [] cs t m = refl
    tops-cut zero [] ys (a ∷ tops) cs t m = absurd (omega arith)
    tops-cut zero (l ∷ xs) ys tops cs t m = absurd t
    tops-cut (suc n) [] ys tops cs t m = absurd t
    tops-cut (suc n) (l ∷ xs) ys [] cs t m = absurd (omega arith)
    tops-cut (suc n) (Param ∷ xs) ys (a ∷ tops) cs t m = ap (λ z. a ∷ z) (tops-cut (0 + n) xs ys tops cs t (omega arith))
    tops-cut (suc n) (Bottom ∷ xs) ys (a ∷ tops) cs t m = tops-cut (0 + n) xs ys tops cs t (omega arith)
    tops-cut (suc n) (Symbol f ∷ xs) ys (a ∷ tops) cs t m = tops-cut (2 + n) xs ys (Some (f, 1) ∷ Some (f, 2) ∷ tops) cs t (omega arith)
    tops-cut (suc n) (Call q ∷ xs) ys (a ∷ tops) cs t m =
        ap (λ u. tops_of e s u (xs ++ ys)) (sym (append_assoc ((s q).borders) tops cs)) ∙ tops-cut (arity ranks (Call q) + n) xs ys ((s q).borders ++ tops) cs t (omega (arith, length-append ((s q).borders) tops, same (Call q)))

    module _ (d : Digram) (f : ℕ) (u : d.upper ≡ Symbol f) (lower : d.lower ≢ Param) (pair : HasPairRank ranks d)
        (first : (d.place ≡ 1 → (s 0).borders ≡ kid_tops e s d.lower ++ Some (f, 2) ∷ []) × (d.place ≡ 2 → (s 0).borders ≡ Some (f, 1) ∷ kid_tops e s d.lower)) where
      upper : d.upper ≢ Param
      upper p = let y : Symbol f ≡ Param = sym u ∙ p in cc

      -- a pair shows what the digram's rule does
      pair-tops : (cs : List Above) (before after : List (List Label)) (below rest : List Label) → suc (length before) ≡ d.place → length before + suc (length after) ≡ 2 → AllTerms ranks before
          → tops_of e s ((s 0).borders ++ cs) (joined before ++ (below ++ (joined after ++ rest))) ≡ tops_of e s (Some (f, 1) ∷ Some (f, 2) ∷ cs) (joined before ++ (d.lower ∷ (below ++ (joined after ++ rest))))
      pair-tops cs [] after below rest p n t =
          ap (λ z. tops_of e s (z ++ cs) (below ++ (joined after ++ rest))) (first.0 (sym p)) ∙ ap (λ z. tops_of e s z (below ++ (joined after ++ rest))) (append_assoc (kid_tops e s d.lower) (Some (f, 2) ∷ []) cs)
          ∙ sym (tops-front (Some (f, 1)) (Some (f, 2) ∷ cs) d.lower (below ++ (joined after ++ rest)) lower)
      pair-tops cs (b ∷ []) after below rest p n t =
          let tail = below ++ (joined after ++ rest) in
          ap (λ z. tops_of e s (z ++ cs) ((b ++ []) ++ (below ++ (joined after ++ rest)))) (first.1 (sym p)) ∙ ap (λ z. tops_of e s (Some (f, 1) ∷ (kid_tops e s d.lower ++ cs)) (z ++ (below ++ (joined after ++ rest)))) (append-nil b)
          ∙ tops-cut 1 b (below ++ (joined after ++ rest)) (Some (f, 1) ∷ []) (kid_tops e s d.lower ++ cs) t.0 refl
          ∙ ap (λ z. tops_of e s (Some (f, 1) ∷ []) b ++ z) (sym (tops-front (Some (f, 2)) cs d.lower (below ++ (joined after ++ rest)) lower))
          ∙ sym (tops-cut 1 b (d.lower ∷ (below ++ (joined after ++ rest))) (Some (f, 1) ∷ []) (Some (f, 2) ∷ cs) t.0 refl)
          ∙ ap (λ z. tops_of e s (Some (f, 1) ∷ Some (f, 2) ∷ cs) (z ++ (d.lower ∷ (below ++ (joined after ++ rest))))) (sym (append-nil b))
      pair-tops cs (b ∷ c ∷ before) after below rest p n t = absurd (omega (arith, n))

      terms-of : (xs ys : List (List Label)) → AllTerms ranks (xs ++ ys) → AllTerms ranks xs
      terms-of [] ys t = tt
      terms-of (x ∷ xs) ys t = (t.0, terms-of xs ys t.1)

      -- folded terms show above their parameters what they did
      folds-tops : (ls : List Label) (ts : List (List Label)) → Folds ranks 0 d ls ts → (cs : List Above) → tops_of e s cs (joined ts) ≡ tops_of e s cs ls
      folds-tops _ _ nothing cs = refl
      folds-tops _ _ (parameter ls ts x) [] = refl
      folds-tops _ _ (parameter ls ts x) (c ∷ cs) = ap (λ z. c ∷ z) (folds-tops ls ts x cs)
      folds-tops _ _ (kept l ls kids ts n m none x) [] = refl
      folds-tops _ _ (kept l ls kids ts n m none x) (c ∷ cs) =
          tops-front c cs l (joined kids ++ joined ts) n ∙ ap (tops_of e s (kid_tops e s l ++ cs)) (sym (joined-append kids ts)) ∙ folds-tops ls (kids ++ ts) x (kid_tops e s l ++ cs) ∙ sym (tops-front c cs l ls n)
      folds-tops _ _ (made ls kids ts p m x) [] = sym (tops-none (d.upper ∷ ls))
      folds-tops _ _ (made ls kids ts p m x) (c ∷ cs) =
          let B = joined p.before in
          let A = joined p.after in
          let R = joined ts in
          let all = folds-terms ranks d upper lower pair ls (kids ++ ts) x in
          let before : AllTerms ranks p.before = terms-of p.before ((d.lower ∷ p.below) ∷ p.after) (subst (AllTerms ranks) p.kids_are (terms-of kids ts all)) in
          let two : length p.before + suc (length p.after) ≡ 2 = sym (length-append p.before ((d.lower ∷ p.below) ∷ p.after)) ∙ ap length (sym p.kids_are) ∙ m ∙ ap (arity ranks) u in
          ap (tops_of e s ((s 0).borders ++ cs)) (append_assoc (joined p.before) (p.below ++ joined p.after) (joined ts) ∙ ap (λ z. joined p.before ++ z) (append_assoc p.below (joined p.after) (joined ts)))
          ∙ pair-tops cs p.before p.after p.below (joined ts) p.place two before
          ∙ ap (tops_of e s (Some (f, 1) ∷ Some (f, 2) ∷ cs)) (sym (whole p.before p.after p.below (joined ts)))
          ∙ ap (λ ks. tops_of e s (Some (f, 1) ∷ Some (f, 2) ∷ cs) (joined ks ++ joined ts)) (sym p.kids_are)
          ∙ ap (tops_of e s (Some (f, 1) ∷ Some (f, 2) ∷ cs)) (sym (joined-append kids ts))
          ∙ folds-tops ls (kids ++ ts) x (Some (f, 1) ∷ Some (f, 2) ∷ cs)
          ∙ ap (λ (k : Label). tops_of e s (c ∷ cs) (k ∷ ls)) (sym u)
        where
          whole : (before after : List (List Label)) (below rest : List Label) → joined (before ++ (d.lower ∷ below) ∷ after) ++ rest ≡ joined before ++ (d.lower ∷ (below ++ (joined after ++ rest)))
          whole before after below rest =
              ap (λ z. z ++ rest) (joined-append before ((d.lower ∷ below) ∷ after)) ∙ append_assoc (joined before) (d.lower ∷ (below ++ joined after)) rest ∙ ap (λ z. joined before ++ (d.lower ∷ z)) (append_assoc below (joined after) rest)

      -- the root of a fronted body shows at its first label
      shown : ((q : ℕ) → (l : Label) × ((s q).root ≡ Some l)) → (l : Label) (xs ys : List Label) → root_from s (l ∷ xs) ≡ root_from s (l ∷ ys)
      shown roots Bottom xs ys = refl
      shown roots (Symbol g) xs ys = refl
      shown roots Param xs ys = refl
      shown roots (Call q) xs ys = let r = roots q in ap (λ z. first_of z (root_from s xs)) r.1 ∙ sym (ap (λ z. first_of z (root_from s ys)) r.1)

      module _ (roots : (q : ℕ) → (l : Label) × ((s q).root ≡ Some l)) (known : (q : ℕ) → AreKnown ((s q).borders)) (top : (s 0).root ≡ Some (Symbol f)) where
        folds-root : (ls t : List Label) → HasFront ls → Folds ranks 0 d ls (t ∷ []) → root_from s t ≡ root_from s ls
        folds-root ls t (l, rest, w, n) x = by_fold ls (t ∷ []) x refl w where
          goal : Type 0
          goal = root_from s t ≡ root_from s ls

          by_fold : (xs : List Label) (ts : List (List Label)) → Folds ranks 0 d xs ts → ts ≡ t ∷ [] → xs ≡ l ∷ rest → root_from s t ≡ root_from s xs
          by_fold _ _ nothing y z = absurd (let k : [] ≡ t ∷ [] = y in cc)
          by_fold _ _ (parameter xs ts x) y z = absurd (n (ap (λ (ks : List Label). first_label ks) (sym z))) where
            first_label : List Label → Label
            first_label [] = Param
            first_label (k ∷ ks) = k
          by_fold _ _ (kept k xs kids ts m many none x) y z = ap (root_from s) (sym (ap (λ us. first_term us) y)) ∙ shown roots k (joined kids) xs where
            first_term : List (List Label) → List Label
            first_term [] = []
            first_term (u ∷ us) = u
          by_fold _ _ (made xs kids ts p many x) y z =
              ap (root_from s) (sym (ap (λ us. first_term us) y)) ∙ ap (λ r. first_of r (root_from s (joined p.before ++ (p.below ++ joined p.after)))) top ∙ ap (λ (k : Label). root_from s (k ∷ xs)) (sym u) where
                first_term : List (List Label) → List Label
                first_term [] = []
                first_term (v ∷ us) = v

        -- a folded body has the rim that it had
        pub folds-rim : (ls t : List Label) → HasFront ls → Folds ranks 0 d ls (t ∷ []) → rim_of s t ≡ rim_of s ls
        folds-rim ls t h x =
            let r = folds-root ls t h x in
            let b = tops-known e s known t (None ∷ []) ∙ ap (tops_of e s (None ∷ [])) (sym (append-nil t)) ∙ folds-tops ls (t ∷ []) x (None ∷ []) ∙ sym (tops-known e s known ls (None ∷ [])) in
            λ i. record { root = r i; borders = b i }

-- a folded body begins with a node
pub folds-front : (ranks : List ℕ) (d : Digram) (ls t : List Label) → HasFront ls → Folds ranks 0 d ls (t ∷ []) → HasFront t
folds-front ranks d ls t (l, rest, w, n) x = by_fold ls (t ∷ []) x refl w where
  first_term : List (List Label) → List Label
  first_term [] = []
  first_term (u ∷ us) = u

  first_label : List Label → Label
  first_label [] = Param
  first_label (k ∷ ks) = k

  by_fold : (xs : List Label) (ts : List (List Label)) → Folds ranks 0 d xs ts → ts ≡ t ∷ [] → xs ≡ l ∷ rest → HasFront t
  by_fold _ _ nothing y z = absurd (let k : [] ≡ t ∷ [] = y in cc)
  by_fold _ _ (parameter xs ts x) y z = absurd (n (ap first_label (sym z)))
  by_fold _ _ (kept k xs kids ts m many none x) y z = (k, joined kids, sym (ap first_term y), m)
  by_fold _ _ (made xs kids ts p many x) y z = (Call 0, joined p.before ++ (p.below ++ joined p.after), sym (ap first_term y), λ v. cc)
