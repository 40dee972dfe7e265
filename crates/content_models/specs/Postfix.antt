-- The postfix code of models, the last operation first.
use Rattle.std.specs.Prelude.{ℕ, ◌+◌, List, [], ◌∷◌, drop, get_or}
use Rattle.content_models.specs.declared.postfix.Op.{Op}
use Rattle.content_models.specs.declared.postfix.Op.TheVariants.{Push, PushNothing, Join, Choose, MakeOptional, MakeAny, MakeSome}
use Rattle.content_models.specs.Models.{Model, Named, Nothing, Then, Either, Optional, Any, Some}

-- the code of a model, put on what was written before
abbrev pub code_on : Model → List Op → List Op
code_on (Named w) o = Push w ∷ o
code_on Nothing o = PushNothing ∷ o
code_on (Then a b) o = Join ∷ code_on b (code_on a o)
code_on (Either a b) o = Choose ∷ code_on b (code_on a o)
code_on (Optional a) o = MakeOptional ∷ code_on a o
code_on (Any a) o = MakeAny ∷ code_on a o
code_on (Some a) o = MakeSome ∷ code_on a o

-- the models that code builds, the last first
abbrev pub top : List Model → Model
top ms = get_or ms 0 Nothing

abbrev pub second : List Model → Model
second ms = get_or ms 1 Nothing

abbrev pub applied : Op → List Model → List Model
applied (Push w) ms = Named w ∷ ms
applied PushNothing ms = Nothing ∷ ms
applied Join ms = Then (second ms) (top ms) ∷ drop 2 ms
applied Choose ms = Either (second ms) (top ms) ∷ drop 2 ms
applied MakeOptional ms = Optional (top ms) ∷ drop 1 ms
applied MakeAny ms = Any (top ms) ∷ drop 1 ms
applied MakeSome ms = Some (top ms) ∷ drop 1 ms

abbrev pub built : List Op → List Model
built [] = []
built (op ∷ o) = applied op (built o)

-- the model whose code this is
abbrev pub model_of_code : List Op → Model
model_of_code o = top (built o)

-- how many names stand in the code
abbrev pub names_in_code : List Op → ℕ
names_in_code [] = 0
names_in_code (Push w ∷ o) = names_in_code o + 1
names_in_code (_ ∷ o) = names_in_code o
