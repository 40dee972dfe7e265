-- Which elements have children that their models do not match.
use Rattle.std.specs.Prelude.{◌≡◌, ◌⊎◌, ℕ, suc, List, [], ◌∷◌, Option, Some, None, if◌then◌else◌}
use Rattle.std.specs.Str.{bytes_eq}
use Rattle.plain_tree.specs.declared.kind.Kind.TheVariants.{Element}
use Rattle.plain_tree.specs.Tree.{Tree, node, Trees, none, more}
use Rattle.content_models.specs.Models.{Model, Matches}

-- the names of the elements of a list of nodes
abbrev pub element_names : Trees → List (List ℕ)
element_names none = []
element_names (more (node Element name value kids) ts) = name ∷ element_names ts
element_names (more (node _ name value kids) ts) = element_names ts

-- the model that a schema gives to a name
abbrev pub model_of : List (List ℕ × Model) → List ℕ → Option Model
model_of [] name = None
model_of ((n, m) ∷ schema) name = if bytes_eq n name then Some m else model_of schema name

-- an element whose name has a model that does not match the names of its child elements
pub record IsWrong (schema : List (List ℕ × Model)) (t : Tree) : Type 0 where
  pub name : List ℕ
  pub value : List ℕ
  pub kids : Trees
  pub model : Model
  pub element : t ≡ node Element name value kids
  pub given : model_of schema name ≡ Some model
  pub other : Matches model (element_names kids) → ⊥

-- the numbers, rising, are those of the wrong ones among these nodes, of which the first has the number from
abbrev pub AreWrong : List (List ℕ × Model) → ℕ → List Tree → List ℕ → Type 0
AreWrong schema from [] numbers = numbers ≡ []
AreWrong schema from (t ∷ ts) numbers =
    (IsWrong schema t × ((later : List ℕ) × AreWrong schema (suc from) ts later × (numbers ≡ from ∷ later)))
    ⊎ ((IsWrong schema t → ⊥) × AreWrong schema (suc from) ts numbers)
