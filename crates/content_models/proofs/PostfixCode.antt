-- The postfix code of models.
use Rattle.std.proofs.Common.{◌≡◌, ℕ, ◌+◌, List, [], ◌∷◌, ◌++◌, reverse, refl, ap, sym, ◌∙◌, arith}
use Rattle.std.proofs.lemmas.List.{reverse-append}
use Rattle.content_models.specs.declared.postfix.Op.{Op}
use Rattle.content_models.specs.declared.postfix.Op.TheVariants.{Push, PushNothing, Join, Choose, MakeOptional, MakeAny, MakeSome}
use Rattle.content_models.specs.declared.line_reading.Line.{Line}
use Rattle.content_models.specs.Givens.{given_of, IsExact}
use Rattle.content_models.specs.Matching.{places}
use Rattle.content_models.specs.Models.{Model, Named, Nothing, Then, Either, Optional, Any, Some}
use Rattle.content_models.specs.Postfix.{applied, built, code_on, model_of_code, names_in_code, top}

pub names_first : (op : Op) (o : List Op) → names_in_code (op ∷ o) ≡ names_in_code (op ∷ []) + names_in_code o
names_first (Push w) o = omega arith
names_first PushNothing o = omega arith
names_first Join o = omega arith
names_first Choose o = omega arith
names_first MakeOptional o = omega arith
names_first MakeAny o = omega arith
names_first MakeSome o = omega arith

-- the names in the code of a model are its places
pub names-code : (m : Model) (o : List Op) → names_in_code (code_on m o) ≡ places m + names_in_code o
names-code (Named w) o = omega arith
names-code Nothing o = omega arith
names-code (Then a b) o = omega (arith, names-code a o, names-code b (code_on a o))
names-code (Either a b) o = omega (arith, names-code a o, names-code b (code_on a o))
names-code (Optional a) o = names-code a o
names-code (Any a) o = names-code a o
names-code (Some a) o = names-code a o

-- a model is built from its code
pub built-code : (m : Model) (o : List Op) → built (code_on m o) ≡ m ∷ built o
built-code (Named w) o = refl
built-code Nothing o = refl
built-code (Then a b) o = ap (applied Join) (built-code b (code_on a o)) ∙ ap (λ ms. applied Join (b ∷ ms)) (built-code a o)
built-code (Either a b) o = ap (applied Choose) (built-code b (code_on a o)) ∙ ap (λ ms. applied Choose (b ∷ ms)) (built-code a o)
built-code (Optional a) o = ap (applied MakeOptional) (built-code a o)
built-code (Any a) o = ap (applied MakeAny) (built-code a o)
built-code (Some a) o = ap (applied MakeSome) (built-code a o)

pub code-model : (m : Model) → model_of_code (code_on m []) ≡ m
code-model m = ap top (built-code m [])

-- code of a model tells it
pub model-told : (m : Model) (o : List Op) → o ≡ code_on m [] → model_of_code o ≡ m
model-told m o e = ap model_of_code e ∙ code-model m

pub code-exact : (m : Model) (o : List Op) → o ≡ code_on m [] → o ≡ code_on (model_of_code o) []
code-exact m o e = e ∙ ap (λ x. code_on x []) (sym (model-told m o e))

names-append : (o p : List Op) → names_in_code (o ++ p) ≡ names_in_code o + names_in_code p
names-append [] p = omega arith
names-append (op ∷ o) p = omega (arith, names_first op (o ++ p), names_first op o, names-append o p)

names-reverse : (o : List Op) → names_in_code (reverse o) ≡ names_in_code o
names-reverse [] = refl
names-reverse (op ∷ o) = ap names_in_code (reverse-append (op ∷ []) o) ∙ omega (arith, names-append (reverse o) (op ∷ []), names-reverse o, names_first op o)

pub names-told : (m : Model) (o : List Op) → reverse o ≡ code_on m [] → names_in_code o ≡ places m
names-told m o e = sym (names-reverse o) ∙ ap names_in_code e ∙ names-code m [] ∙ no_more (places m) where
  no_more : (n : ℕ) → n + 0 ≡ n
  no_more n = omega arith

pub names-exact : (l : Line) → IsExact l → names_in_code l.code.items ≡ places (given_of l).model
names-exact l x = names-told (model_of_code (reverse l.code.items)) l.code.items x
