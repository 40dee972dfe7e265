-- One more label of a body.
use Rattle.std.proofs.Common.{◌≡◌, ℕ, ◌+◌, ◌*◌, List, [], ◌∷◌, ◌++◌, Some, None, length, refl, ap, ◌∙◌, arith, reverse}
use Rattle.std.proofs.lemmas.List.{reverse-append}
use Rattle.rule_arena.specs.declared.label.Label.{Label}
use Rattle.rule_arena.specs.declared.label.Label.TheVariants.{Bottom, Symbol, Call, Param}
use Rattle.border_repair.specs.Weighing.{Scale, Above, hung, Rim, below, shown_root, arisen, borders_from}

pub hung-none : (e : Scale) (c : Above) → hung e c None ≡ 0
hung-none e None = refl
hung-none e (Some (f, i)) = refl

-- what arises at a label, and at those behind it
pub arisen-next : (rims : ℕ → Rim) (e : Scale) (c : Above) (cs : List Above) (l : Label) (ls : List Label)
    → arisen rims e (c ∷ cs) (l ∷ ls) ≡ hung e c (shown_root rims l) + arisen rims e (below rims c l ++ cs) ls
arisen-next rims e c cs Bottom ls = refl
arisen-next rims e c cs (Symbol f) ls = refl
arisen-next rims e c cs (Call q) ls = refl
arisen-next rims e c cs Param ls = omega (arith, hung-none e c)

pub borders-param : (rims : ℕ → Rim) (c : Above) (cs : List Above) (ls : List Label) → borders_from rims (c ∷ cs) (Param ∷ ls) ≡ c ∷ borders_from rims cs ls
borders-param rims c cs ls = refl

pub borders-none : (rims : ℕ → Rim) (ls : List Label) → borders_from rims [] ls ≡ []
borders-none rims [] = refl
borders-none rims (l ∷ ls) = refl

pub arisen-none : (rims : ℕ → Rim) (e : Scale) (ls : List Label) → arisen rims e [] ls ≡ 0
arisen-none rims e [] = refl
arisen-none rims e (l ∷ ls) = refl

pub arisen-end : (rims : ℕ → Rim) (e : Scale) (cs : List Above) → arisen rims e cs [] ≡ 0
arisen-end rims e [] = refl
arisen-end rims e (c ∷ cs) = refl

pub stack-end : (xs : List Above) → length xs ≡ 0 → reverse xs ≡ []
stack-end [] n = refl
stack-end (x ∷ xs) n = absurd (omega arith)

pub stack-top : (xs ys : List Above) (x : Above) → xs ≡ ys ++ x ∷ [] → reverse xs ≡ x ∷ reverse ys
stack-top xs ys x e = ap reverse e ∙ reverse-append ys (x ∷ [])

pub edges-sum : (t o n a h r s : ℕ) → a ≡ h + r → n ≡ o + t * h → s ≡ r → o + t * a ≡ n + t * s
edges-sum t o n a h r s x y z = rw (x, y, z) (omega arith)
