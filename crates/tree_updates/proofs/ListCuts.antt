-- Lists that are cut at an item, or taken from the front.
use Rattle.std.proofs.Common.{◌≡◌, ℕ, zero, suc, List, [], ◌∷◌, ◌++◌, Some, get_or, take, drop, refl, ap, sym, ◌∙◌}
use Rattle.std.specs.Prelude.{slice_get}
use Rattle.slt_grammar.specs.Terms.{Term, Leaf}

pub head-is : {X : Type 0} (x y : X) (xs ys : List X) → x ∷ xs ≡ y ∷ ys → (x ≡ y) × (xs ≡ ys)
head-is x y xs ys e = (cc, cc)

pub nothing : {X : Type 0} (x : X) (xs ys : List X) → [] ≡ xs ++ x ∷ ys → ⊥
nothing x [] ys e = cc
nothing x (y ∷ xs) ys e = cc

-- a list in two parts, cut at an item
pub data Cut {X : Type 0} (u v front : List X) (m : X) (rest : List X) : Type 0 where
  within : (late : List X) → u ≡ front ++ m ∷ late → Cut u v front m rest
  behind : (more : List X) → front ≡ u ++ more → v ≡ more ++ m ∷ rest → Cut u v front m rest

pub cut : {X : Type 0} (u v front : List X) (m : X) (rest : List X) → u ++ v ≡ front ++ m ∷ rest → Cut u v front m rest
cut [] v front m rest e = behind front refl e
cut (x ∷ u) v [] m rest e = let h = head-is x m (u ++ v) rest e in within u (ap (λ y. y ∷ u) h.0)
cut {X} (x ∷ u) v (f ∷ front) m rest e =
    let h = head-is x f (u ++ v) (front ++ m ∷ rest) e in
    up (cut u v front m rest h.1) h.0
  where
    up : Cut u v front m rest → x ≡ f → Cut (x ∷ u) v (f ∷ front) m rest
    up (within late q) z = within late (ap (λ ys. x ∷ ys) q ∙ ap (λ y. y ∷ (front ++ m ∷ late)) z)
    up (behind more q v') z = behind more (ap (λ ys. f ∷ ys) q ∙ ap (λ y. y ∷ (u ++ more)) (sym z)) v'

-- an item of a list stays where others come behind
pub get-front : {X : Type 0} (xs ys : List X) (n : ℕ) (x : X) → slice_get xs n ≡ Some x → slice_get (xs ++ ys) n ≡ Some x
get-front [] ys n x e = cc
get-front (y ∷ xs) ys zero x e = e
get-front (y ∷ xs) ys (suc n) x e = get-front xs ys n x e

pub first-taken : (r : ℕ) (ts : List Term) → get_or (take (suc r) ts) 0 Leaf ≡ get_or ts 0 Leaf
first-taken r [] = refl
first-taken r (t ∷ ts) = refl

pub others-taken : (r : ℕ) (ts : List Term) → drop 1 (take (suc r) ts) ≡ take r (drop 1 ts)
others-taken zero [] = refl
others-taken (suc r) [] = refl
others-taken r (t ∷ ts) = refl
