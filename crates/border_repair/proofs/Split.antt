-- A body that is split means what it meant.
use Rattle.std.proofs.Common.{◌≡◌, ◌≢◌, ℕ, zero, suc, List, [], ◌∷◌, ◌++◌, length, get_or, take, drop, map, refl, ap, sym, subst, ◌∙◌, arith, append_assoc, append-nil}
use Rattle.rule_arena.specs.Preorder.{AreTerms}
use Rattle.rule_arena.specs.declared.label.Label.{Label}
use Rattle.rule_arena.specs.declared.label.Label.TheVariants.{Bottom, Symbol, Call, Param}
use Rattle.slt_grammar.specs.Algebras.{Algebra, apply, meanings}
use Rattle.slt_grammar.specs.Bodies.{arity, params}
use Rattle.slt_grammar.specs.Editing.{put}
use Rattle.slt_grammar.proofs.Meanings.{meanings-append, meanings-whole, only}
use Rattle.slt_grammar.proofs.Substitutions.{joined, params-put, AreTerms-joined, meanings-put}
use Rattle.border_repair.specs.Splitting.{Piece, whole, all_args, IsPiece, ArePieces, Closes, alone, as_rule, AllClose, none_closes, one_closes, Splits, nothing, parameter, inner, outer}

put-append : (xs ys : List Label) (given bs : List (List Label)) → length given ≡ params xs → put (xs ++ ys) (given ++ bs) ≡ put xs given ++ put ys bs
put-append [] ys [] bs e = refl
put-append [] ys (a ∷ given) bs e = absurd (omega arith)
put-append (Param ∷ xs) ys [] bs e = absurd (omega arith)
put-append (Param ∷ xs) ys (a ∷ given) bs e = ap (λ z. a ++ z) (put-append xs ys given bs (omega arith)) ∙ sym (append_assoc a (put xs given) (put ys bs))
put-append (Bottom ∷ xs) ys given bs e = ap (λ z. Bottom ∷ z) (put-append xs ys given bs e)
put-append (Symbol f ∷ xs) ys given bs e = ap (λ z. Symbol f ∷ z) (put-append xs ys given bs e)
put-append (Call q ∷ xs) ys given bs e = ap (λ z. Call q ∷ z) (put-append xs ys given bs e)

pub joined-append : (xs ys : List (List Label)) → joined (xs ++ ys) ≡ joined xs ++ joined ys
joined-append [] ys = refl
joined-append (x ∷ xs) ys = ap (λ z. x ++ z) (joined-append xs ys) ∙ sym (append_assoc x (joined xs) (joined ys))

-- the terms that pieces are
abbrev pub wholes : List Piece → List Label
wholes [] = []
wholes (p ∷ ps) = whole p ++ wholes ps

pub wholes-append : (xs ys : List Piece) → wholes (xs ++ ys) ≡ wholes xs ++ wholes ys
wholes-append [] ys = refl
wholes-append (x ∷ xs) ys = ap (λ z. whole x ++ z) (wholes-append xs ys) ∙ sym (append_assoc (whole x) (wholes xs) (wholes ys))

-- parts in one are put together given each alone
pub put-kids : (ranks : List ℕ) (kids : List Piece) → ArePieces ranks kids → put (joined (map (λ p. p.part) kids)) (all_args kids) ≡ wholes kids
put-kids ranks [] a = refl
put-kids ranks (p ∷ ps) a = put-append p.part (joined (map (λ p. p.part) ps)) p.args (all_args ps) a.0.enough ∙ ap (λ z. put p.part p.args ++ z) (put-kids ranks ps a.1)

pub put-front : (l : Label) (ls : List Label) (given : List (List Label)) → l ≢ Param → put (l ∷ ls) given ≡ l ∷ put ls given
put-front Bottom ls given n = refl
put-front (Symbol f) ls given n = refl
put-front (Call q) ls given n = refl
put-front Param ls given n = absurd (n refl)

pub take_all : {S : Type 0} (n : ℕ) (xs ys : List S) → length xs ≡ n → take n (xs ++ ys) ≡ xs
take_all zero [] ys e = refl
take_all zero (x ∷ xs) ys e = absurd (omega arith)
take_all (suc n) [] ys e = absurd (omega arith)
take_all (suc n) (x ∷ xs) ys e = ap (λ z. x ∷ z) (take_all n xs ys (omega arith))

pub drop_all : {S : Type 0} (n : ℕ) (xs ys : List S) → length xs ≡ n → drop n (xs ++ ys) ≡ ys
drop_all zero [] ys e = refl
drop_all zero (x ∷ xs) ys e = absurd (omega arith)
drop_all (suc n) [] ys e = absurd (omega arith)
drop_all (suc n) (x ∷ xs) ys e = drop_all n xs ys (omega arith)

module _ {S : Type 0} (A : Algebra S) (ranks : List ℕ) (fs : List (List S → S)) (bodies : ℕ → List Label) where
  -- each rule whose body is a term means what it means
  abbrev pub Mean : Type 0
  Mean = (q : ℕ) → AreTerms (arity ranks) 1 (bodies q) → (kids : List S) → get_or fs q (λ _. A.bottom) kids ≡ get_or (meanings A ranks fs kids (bodies q) []) 0 A.bottom

  pub front-same : (l : Label) (xs ys : List Label) (args : List S) → l ≢ Param → meanings A ranks fs args xs [] ≡ meanings A ranks fs args ys [] → meanings A ranks fs args (l ∷ xs) [] ≡ meanings A ranks fs args (l ∷ ys) []
  front-same Bottom xs ys args n e = ap (λ all. apply A fs Bottom (take 0 all) ∷ drop 0 all) e
  front-same (Symbol f) xs ys args n e = ap (λ all. apply A fs (Symbol f) (take 2 all) ∷ drop 2 all) e
  front-same (Call q) xs ys args n e = ap (λ all. apply A fs (Call q) (take (get_or ranks q 0) all) ∷ drop (get_or ranks q 0) all) e
  front-same Param xs ys args n e = absurd (n refl)

  -- a call of the rule of a part means what the part means over the arguments
  call-means : Mean → (p : Piece) (q : ℕ) → bodies q ≡ p.part → get_or ranks q 0 ≡ params p.part → IsPiece ranks p → (args rest : List S)
      → meanings A ranks fs args (Call q ∷ joined p.args) rest ≡ meanings A ranks fs args (whole p) rest
  call-means mean p q b r is args rest =
      let M = meanings A ranks fs args (joined p.args) [] in
      let n = get_or ranks q 0 in
      let w = meanings-whole A ranks fs (length p.args) args (joined p.args) rest (AreTerms-joined ranks p.args is.terms) in
      let many : length M ≡ n = omega (arith, w.1, is.enough, r) in
      let one = meanings-whole A ranks fs 1 M p.part rest is.term in
      let body : get_or fs q (λ _. A.bottom) M ≡ get_or (meanings A ranks fs M p.part []) 0 A.bottom = mean q (subst (AreTerms (arity ranks) 1) (sym b) is.term) M ∙ ap (λ z. get_or (meanings A ranks fs M z []) 0 A.bottom) b in
      cut n q (meanings A ranks fs args (joined p.args) rest) M rest w.0 many
      ∙ ap (λ z. z ∷ rest) body
      ∙ sym (ap (λ z. z ++ rest) (only A.bottom (meanings A ranks fs M p.part []) one.1)) ∙ sym one.0
      ∙ sym (meanings-put A ranks fs args p.part p.args rest is.terms is.enough) where
        cut : (n q : ℕ) (all M rest : List S) → all ≡ M ++ rest → length M ≡ n → get_or fs q (λ _. A.bottom) (take n all) ∷ drop n all ≡ get_or fs q (λ _. A.bottom) M ∷ rest
        cut n q all M rest e l =
            ap (λ z. get_or fs q (λ _. A.bottom) (take n z) ∷ drop n z) e
            ∙ ap (λ z. get_or fs q (λ _. A.bottom) z ∷ drop n (M ++ rest)) (take_all n M rest l)
            ∙ ap (λ z. get_or fs q (λ _. A.bottom) M ∷ z) (drop_all n M rest l)

  -- a closed piece means what it is
  pub closed-means : Mean → (p : Piece) (t : List Label) → Closes ranks bodies p t → (args rest : List S) → meanings A ranks fs args t rest ≡ meanings A ranks fs args (whole p) rest
  closed-means mean _ _ (alone t) args rest = ap (λ z. meanings A ranks fs args z rest) (sym (append-nil t))
  closed-means mean _ _ (as_rule p q b r is front) args rest = call-means mean p q b r is args rest

  pub closed-params : (p : Piece) (t : List Label) → Closes ranks bodies p t → params t ≡ params (whole p)
  closed-params _ _ (alone t) = ap params (sym (append-nil t))
  closed-params _ _ (as_rule p q b r is front) = sym (params-put p.part p.args is.enough)

  all-closed : Mean → (ps : List Piece) (ts : List (List Label)) → AllClose ranks bodies ps ts → (args : List S) (ys : List Label) → meanings A ranks fs args (joined ts ++ ys) [] ≡ meanings A ranks fs args (wholes ps ++ ys) []
  all-closed mean _ _ none_closes args ys = refl
  all-closed mean _ _ (one_closes p t ps ts c more) args ys =
      ap (λ z. meanings A ranks fs args z []) (append_assoc t (joined ts) ys)
      ∙ meanings-append A ranks fs args t (joined ts ++ ys) []
      ∙ ap (meanings A ranks fs args t) (all-closed mean ps ts more (drop (params t) args) ys)
      ∙ closed-means mean p t c args (meanings A ranks fs (drop (params t) args) (wholes ps ++ ys) [])
      ∙ ap (λ k. meanings A ranks fs args (whole p) (meanings A ranks fs (drop k args) (wholes ps ++ ys) [])) (closed-params p t c)
      ∙ sym (meanings-append A ranks fs args (whole p) (wholes ps ++ ys) [])
      ∙ ap (λ z. meanings A ranks fs args z []) (sym (append_assoc (whole p) (wholes ps) ys))

  -- pieces mean what the labels mean
  pub split-means : Mean → (ls : List Label) (ps : List Piece) → Splits ranks bodies ls ps → (args : List S) → meanings A ranks fs args (wholes ps) [] ≡ meanings A ranks fs args ls []
  split-means mean _ _ nothing args = refl
  split-means mean _ _ (parameter ls ps s) args = ap (λ z. get_or args 0 A.bottom ∷ z) (split-means mean ls ps s (drop 1 args))
  split-means mean _ _ (inner l ls kids ps n m are s) args =
      ap (λ z. meanings A ranks fs args (z ++ wholes ps) []) (put-front l (joined (map (λ p. p.part) kids)) (all_args kids) n ∙ ap (λ z. l ∷ z) (put-kids ranks kids are))
      ∙ front-same l (wholes kids ++ wholes ps) ls args n (ap (λ z. meanings A ranks fs args z []) (sym (wholes-append kids ps)) ∙ split-means mean ls (kids ++ ps) s args)
  split-means mean _ _ (outer l ls kids ps ts n m s c) args =
      ap (λ z. meanings A ranks fs args (z ++ wholes ps) []) (append-nil (l ∷ joined ts))
      ∙ front-same l (joined ts ++ wholes ps) ls args n
      (all-closed mean kids ts c args (wholes ps) ∙ ap (λ z. meanings A ranks fs args z []) (sym (wholes-append kids ps)) ∙ split-means mean ls (kids ++ ps) s args)

  -- the body outside of the parts means what the whole body means
  pub skeleton-means : Mean → (body skeleton : List Label) (p : Piece) → Splits ranks bodies body (p ∷ []) → Closes ranks bodies p skeleton → (args : List S) → meanings A ranks fs args skeleton [] ≡ meanings A ranks fs args body []
  skeleton-means mean body skeleton p s c args =
      closed-means mean p skeleton c args [] ∙ ap (λ z. meanings A ranks fs args z []) (sym (append-nil (whole p))) ∙ split-means mean body (p ∷ []) s args
