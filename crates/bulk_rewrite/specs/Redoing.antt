-- Texts that are redone one after another.
use Rattle.std.specs.Prelude.{ℕ, List, [], ◌∷◌, ◌++◌, Option, Some, None, slice_get}
use Rattle.bulk_rewrite.specs.Fates.{Redone}
use Rattle.bulk_rewrite.specs.declared.redoing.OpenText.{OpenText}
use Rattle.bulk_rewrite.specs.declared.redoing.OpenText.TheVariants.{Nothing, Kept, Joined}

-- the texts that there were, those that are done, and the one to whose end the next may go
pub record TextsSoFar : Type 0 where
  pub originals : List (List ℕ)
  pub done : List (List ℕ)
  pub open_text : Option (List ℕ)

-- the open text, by its place or by its bytes
abbrev pub opened : List (List ℕ) → List ℕ → OpenText → Option (List ℕ)
opened originals joined Nothing = None
opened originals joined (Kept place) = slice_get originals place
opened originals joined Joined = Some joined

-- what becomes of further values, behind an open text
abbrev pub behind_open : Option (List ℕ) → Redone → List (List ℕ)
behind_open None r = r.values
behind_open (Some text) r = (text ++ r.front) ∷ r.values

-- all texts, with what becomes of further values
abbrev pub all_texts : TextsSoFar → Redone → List (List ℕ)
all_texts s r = s.done ++ behind_open s.open_text r

-- no further values
abbrev pub nothing_redone : Redone
nothing_redone = record { front = []; values = [] }
