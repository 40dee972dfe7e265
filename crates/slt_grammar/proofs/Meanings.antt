-- What labels mean: meanings that a function carries, meanings of lists one after another, and of whole terms.
use Rattle.std.proofs.Common.{◌≡◌, ℕ, zero, suc, ◌+◌, ◌≤◌, List, [], ◌∷◌, ◌++◌, length, get_or, take, drop, map, refl, ap, sym, ◌∙◌, arith, length-drop, zero-add}
use Rattle.std.proofs.Math.ListN.{get_or-map}
use Rattle.std.proofs.lemmas.List.{take-map, drop-map, take-append-le, drop-append-le}
use Rattle.rule_arena.specs.Preorder.{AreTerms}
use Rattle.rule_arena.specs.declared.label.Label.{Label}
use Rattle.rule_arena.specs.declared.label.Label.TheVariants.{Bottom, Symbol, Call, Param}
use Rattle.slt_grammar.specs.Bodies.{arity, params}
use Rattle.slt_grammar.specs.Algebras.{Algebra, apply, meanings}

pub drop-one : {X : Type 0} (n : ℕ) (xs : List X) → drop n (drop 1 xs) ≡ drop (suc n) xs
drop-one zero [] = refl
drop-one (suc n) [] = refl
drop-one n (x ∷ xs) = refl

pub params-append : (xs ys : List Label) → params (xs ++ ys) ≡ params xs + params ys
params-append [] ys = sym (zero-add (params ys))
params-append (Param ∷ xs) ys = omega (arith, params-append xs ys)
params-append (Bottom ∷ xs) ys = params-append xs ys
params-append (Symbol f ∷ xs) ys = params-append xs ys
params-append (Call q ∷ xs) ys = params-append xs ys

-- a function that keeps bottom, the nodes and what the rules mean
pub record Carries {S T : Type 0} (h : S → T) (A : Algebra S) (B : Algebra T) (fs : List (List S → S)) (gs : List (List T → T)) : Type 0 where
  pub bottom : h A.bottom ≡ B.bottom
  pub node : (f : ℕ) (a b : S) → h (A.node f a b) ≡ B.node f (h a) (h b)
  pub rules : (q : ℕ) (xs : List S) → h (get_or fs q (λ _. A.bottom) xs) ≡ get_or gs q (λ _. B.bottom) (map h xs)

module _ {S T : Type 0} (h : S → T) (A : Algebra S) (B : Algebra T) (fs : List (List S → S)) (gs : List (List T → T)) (c : Carries h A B fs gs) where
  pub get_or-carried : (xs : List S) (i : ℕ) → h (get_or xs i A.bottom) ≡ get_or (map h xs) i B.bottom
  get_or-carried xs i = sym (get_or-map h xs i A.bottom) ∙ ap (λ d. get_or (map h xs) i d) c.bottom

  pub apply-carried : (l : Label) (xs : List S) → h (apply A fs l xs) ≡ apply B gs l (map h xs)
  apply-carried Bottom xs = c.bottom
  apply-carried (Symbol f) xs = rw (c.node f (get_or xs 0 A.bottom) (get_or xs 1 A.bottom), get_or-carried xs 0, get_or-carried xs 1)
  apply-carried (Call q) xs = c.rules q xs
  apply-carried Param xs = c.bottom

  step-carried : (n : ℕ) (l : Label) (all : List S) (more : List T) → map h all ≡ more → map h (apply A fs l (take n all) ∷ drop n all) ≡ apply B gs l (take n more) ∷ drop n more
  step-carried n l all more e = rw (← e, apply-carried l (take n all), take-map h n all, drop-map h n all)

  -- the function carries what labels mean
  pub meanings-carried : (ranks : List ℕ) (args : List S) (ls : List Label) (rest : List S) → map h (meanings A ranks fs args ls rest) ≡ meanings B ranks gs (map h args) ls (map h rest)
  meanings-carried ranks args [] rest = refl
  meanings-carried ranks args (Param ∷ ls) rest = rw (get_or-carried args 0, meanings-carried ranks (drop 1 args) ls rest, drop-map h 1 args)
  meanings-carried ranks args (Bottom ∷ ls) rest = step-carried 0 Bottom _ _ (meanings-carried ranks args ls rest)
  meanings-carried ranks args (Symbol f ∷ ls) rest = step-carried 2 (Symbol f) _ _ (meanings-carried ranks args ls rest)
  meanings-carried ranks args (Call q ∷ ls) rest = step-carried (get_or ranks q 0) (Call q) _ _ (meanings-carried ranks args ls rest)

-- a list of one item
pub only : {S : Type 0} (d : S) (xs : List S) → length xs ≡ 1 → xs ≡ get_or xs 0 d ∷ []
only d [] e = absurd (omega arith)
only d (x ∷ []) e = refl
only d (x ∷ y ∷ xs) e = absurd (omega arith)

module _ {S : Type 0} (A : Algebra S) (ranks : List ℕ) (fs : List (List S → S)) where
  pub meanings-append : (args : List S) (xs ys : List Label) (rest : List S) → meanings A ranks fs args (xs ++ ys) rest ≡ meanings A ranks fs args xs (meanings A ranks fs (drop (params xs) args) ys rest)
  meanings-append args [] ys rest = refl
  meanings-append args (Param ∷ xs) ys rest = rw (meanings-append (drop 1 args) xs ys rest, drop-one (params xs) args)
  meanings-append args (Bottom ∷ xs) ys rest = rw (meanings-append args xs ys rest)
  meanings-append args (Symbol f ∷ xs) ys rest = rw (meanings-append args xs ys rest)
  meanings-append args (Call q ∷ xs) ys rest = rw (meanings-append args xs ys rest)

  step-whole : (l : Label) (m n : ℕ) (all first rest : List S) → all ≡ first ++ rest → length first ≡ m + n → (apply A fs l (take m all) ∷ drop m all ≡ (apply A fs l (take m first) ∷ drop m first) ++ rest) × (length (apply A fs l (take m first) ∷ drop m first) ≡ suc n)
  step-whole l m n all first rest e c =
      let h : m ≤ length first = omega arith in
      (rw (e, take-append-le m first rest h, drop-append-le m first rest h), omega (arith, length-drop m first))

  -- n terms have n meanings, which stand before those of what follows
  pub meanings-whole : (n : ℕ) (args : List S) (ls : List Label) (rest : List S) → AreTerms (arity ranks) n ls → (meanings A ranks fs args ls rest ≡ meanings A ranks fs args ls [] ++ rest) × (length (meanings A ranks fs args ls []) ≡ n)
  meanings-whole zero args [] rest t = (refl, refl)
  meanings-whole zero args (l ∷ ls) rest t = absurd t
  meanings-whole (suc n) args [] rest t = absurd t
  meanings-whole (suc n) args (Param ∷ ls) rest t =
      let ih = meanings-whole (0 + n) (drop 1 args) ls rest t in
      (rw (ih.0), omega (arith, ih.1))
  meanings-whole (suc n) args (Bottom ∷ ls) rest t =
      let ih = meanings-whole (0 + n) args ls rest t in
      step-whole Bottom 0 n _ _ rest ih.0 ih.1
  meanings-whole (suc n) args (Symbol f ∷ ls) rest t =
      let ih = meanings-whole (2 + n) args ls rest t in
      step-whole (Symbol f) 2 n _ _ rest ih.0 ih.1
  meanings-whole (suc n) args (Call q ∷ ls) rest t =
      let ih = meanings-whole (get_or ranks q 0 + n) args ls rest t in
      step-whole (Call q) (get_or ranks q 0) n _ _ rest ih.0 ih.1
