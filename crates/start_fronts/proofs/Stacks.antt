-- Tours in parts: what is open behind the first nodes, and terms that are closed.
use Rattle.std.proofs.Common.{◌≡◌, ℕ, zero, suc, ◌+◌, List, [], ◌∷◌, ◌++◌, length, get_or, drop, refl, ap, sym, ◌∙◌, subst, arith, append_assoc, append-nil, length-append}
use Rattle.rule_arena.specs.Preorder.{AreTerms}
use Rattle.slt_grammar.specs.Tours.{Stop, stop, opened_kids, once_closed, entered, tour}

module _ {X : Type 0} (ar : X → ℕ) where
  -- the stops behind each term that is open once the first nodes were met
  abbrev pub opens : List (List (Stop X)) → List X → List (List (Stop X))
  opens afters [] = afters
  opens afters (x ∷ xs) = opens (entered ar x afters) xs

  pub tour-append : (afters : List (List (Stop X))) (xs ys : List X) → tour ar afters (xs ++ ys) ≡ tour ar afters xs ++ tour ar (opens afters xs) ys
  tour-append afters [] ys = refl
  tour-append afters (x ∷ xs) ys =
      let closed = once_closed (ar x) (get_or afters 0 []) in
      ap (λ ms. stop x 0 ∷ (closed ++ ms)) (tour-append (entered ar x afters) xs ys)
      ∙ ap (λ ms. stop x 0 ∷ ms) (sym (append_assoc closed (tour ar (entered ar x afters) xs) (tour ar (opens (entered ar x afters) xs) ys)))

  -- the stops behind all children but the last, and the part behind that
  abbrev pub but_last : X → ℕ → ℕ → List (List (Stop X))
  but_last x i zero = []
  but_last x i (suc n) = (stop x i ∷ []) ∷ but_last x (suc i) n

  abbrev pub last_part : ℕ → ℕ → ℕ
  last_part i zero = i
  last_part i (suc n) = last_part (suc i) n

  pub opened-last : (x : X) (i n : ℕ) (a : List (Stop X)) → opened_kids x (suc i) (suc n) a ≡ but_last x (suc i) n ++ ((stop x (suc (last_part i n)) ∷ a) ∷ [])
  opened-last x i zero a = refl
  opened-last x i (suc n) a = ap (λ ms. (stop x (suc i) ∷ []) ∷ ms) (opened-last x (suc i) n a)

  pub length-but_last : (x : X) (i n : ℕ) → length (but_last x i n) ≡ n
  length-but_last x i zero = refl
  length-but_last x i (suc n) = ap suc (length-but_last x (suc i) n)

  pub opened-onto : (x : X) (n : ℕ) (a : List (Stop X)) (rest : List (List (Stop X))) → opened_kids x 1 (suc n) a ++ rest ≡ but_last x 1 n ++ ((stop x (suc (last_part 0 n)) ∷ a) ∷ rest)
  opened-onto x n a rest = ap (λ ms. ms ++ rest) (opened-last x 0 n a) ∙ append_assoc (but_last x 1 n) ((stop x (suc (last_part 0 n)) ∷ a) ∷ []) rest

  pub length-opened : (x : X) (i n : ℕ) (a : List (Stop X)) → length (opened_kids x i n a) ≡ n
  length-opened x i zero a = refl
  length-opened x i (suc zero) a = refl
  length-opened x i (suc (suc n)) a = ap suc (length-opened x (suc i) (suc n) a)

  -- the last of terms that are closed is closed by what stands behind it
  record Closes (before : List (List (Stop X))) (after : List (Stop X)) (rest : List (List (Stop X))) (xs : List X) : Type 0 where
    pub passed : tour ar (before ++ (after ∷ rest)) xs ≡ tour ar (before ++ ([] ∷ [])) xs ++ after
    pub left : opens (before ++ (after ∷ rest)) xs ≡ rest

  -- a node with k children is passed, and then the terms behind it
  abbrev Enters : X → List (Stop X) → List (List (Stop X)) → List X → ℕ → Type 0
  Enters x after rest xs k =
      (stop x 0 ∷ (once_closed k after ++ tour ar (opened_kids x 1 k after ++ rest) xs) ≡ (stop x 0 ∷ (once_closed k [] ++ tour ar (opened_kids x 1 k [] ++ []) xs)) ++ after)
      × (opens (opened_kids x 1 k after ++ rest) xs ≡ rest)

  closes : (before : List (List (Stop X))) (after : List (Stop X)) (rest : List (List (Stop X))) (xs : List X) → AreTerms ar (suc (length before)) xs → Closes before after rest xs
  closes before after rest [] t = absurd t
  closes [] after rest (x ∷ xs) t = let e = enters (λ Q b st u. closes Q b st xs u) (ar x) (subst (λ (n : ℕ). AreTerms ar n xs) sum t) in record { passed = e.0; left = e.1 }
    where
      sum : ar x + 0 ≡ ar x
      sum = omega arith

      none : (ys : List X) → AreTerms ar 0 ys → (tour ar rest ys ≡ []) × ((tour ar [] ys ≡ []) × (opens rest ys ≡ rest))
      none [] u = (refl, (refl, refl))
      none (y ∷ ys) u = absurd u

      enters : ((Q : List (List (Stop X))) (b : List (Stop X)) (st : List (List (Stop X))) → AreTerms ar (suc (length Q)) xs → Closes Q b st xs) → (k : ℕ) → AreTerms ar k xs → Enters x after rest xs k
      enters ih zero u =
          let z = none xs u in
          (ap (λ ms. stop x 0 ∷ (after ++ ms)) z.0 ∙ ap (λ ms. stop x 0 ∷ ms) (append-nil after) ∙ ap (λ ms. stop x 0 ∷ (ms ++ after)) (sym z.1.0), z.1.1)
      enters ih (suc k) u =
          let Q = but_last x 1 k in
          let m : Stop X = stop x (suc (last_part 0 k)) in
          let t' : AreTerms ar (suc (length Q)) xs = subst (λ (n : ℕ). AreTerms ar n xs) (ap suc (sym (length-but_last x 1 k))) u in
          let one = ih Q (m ∷ after) rest t' in
          let two = ih Q (m ∷ []) [] t' in (
            ap (λ st. stop x 0 ∷ tour ar st xs) (opened-onto x k after rest)
                ∙ ap (λ ms. stop x 0 ∷ ms) (one.passed
                ∙ sym (append_assoc (tour ar (Q ++ ([] ∷ [])) xs) (m ∷ []) after)
                ∙ ap (λ ms. ms ++ after) (sym two.passed)
                ∙ ap (λ st. tour ar st xs ++ after) (sym (opened-onto x k [] []))),
            ap (λ st. opens st xs) (opened-onto x k after rest) ∙ one.left,
          )
  closes (b ∷ before) after rest (x ∷ xs) t =
      let k : ℕ = ar x in
      let opened = opened_kids x 1 k b in
      let len : length (opened ++ before) ≡ k + length before = omega (arith, length-append opened before, length-opened x 1 k b) in
      let n : k + suc (length before) ≡ suc (length (opened ++ before)) = omega (arith, len) in
      let ih = closes (opened ++ before) after rest xs (subst (λ (m : ℕ). AreTerms ar m xs) n t) in
      record {
        passed =
            ap (λ st. stop x 0 ∷ (once_closed k b ++ tour ar st xs)) (sym (append_assoc opened before (after ∷ rest)))
            ∙ ap (λ ms. stop x 0 ∷ (once_closed k b ++ ms)) ih.passed
            ∙ ap (λ ms. stop x 0 ∷ ms) (sym (append_assoc (once_closed k b) (tour ar ((opened ++ before) ++ ([] ∷ [])) xs) after))
            ∙ ap (λ st. (stop x 0 ∷ (once_closed k b ++ tour ar st xs)) ++ after) (append_assoc opened before ([] ∷ []));
        left = ap (λ st. opens st xs) (sym (append_assoc opened before (after ∷ rest))) ∙ ih.left;
      }

  -- a term in the midst of a tour
  pub tour-term : (afters : List (List (Stop X))) (xs : List X) → AreTerms ar 1 xs → tour ar afters xs ≡ tour ar ([] ∷ []) xs ++ get_or afters 0 []
  tour-term [] [] t = absurd t
  tour-term [] (x ∷ xs) t = sym (append-nil (tour ar ([] ∷ []) (x ∷ xs)))
  tour-term (a ∷ afters) xs t = (closes [] a afters xs t).passed

  pub opens-term : (afters : List (List (Stop X))) (xs : List X) → AreTerms ar 1 xs → opens afters xs ≡ drop 1 afters
  opens-term [] [] t = absurd t
  opens-term [] (x ∷ xs) t = (closes [] [] [] (x ∷ xs) t).left
  opens-term (a ∷ afters) xs t = (closes [] a afters xs t).left
