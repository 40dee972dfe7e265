-- Schemas in files, and what is said of the elements that they do not allow.
use Rattle.std.specs.Prelude.{◌≡◌, ◌<◌, ◌^◌, ℕ, List, [], ◌∷◌, length, IsSome}
use Rattle.plain_tree.specs.Numbers.{nodes}
use Rattle.plain_tree.specs.Tree.{Tree}
use Rattle.rule_runs.specs.Answering.{Fallen, listed_hits}
use Rattle.rule_runs.specs.Hits.{numbers}
use Rattle.content_models.specs.Lines.{Given}
use Rattle.content_models.specs.Models.{Model}
use Rattle.content_models.specs.Schemas.{IsLarge, SpellsSchema, rules}
use Rattle.content_models.specs.Wrong.{AreWrong}
use Rattle.store_core.specs.Worlds.{Parts, PartsStandFor, World, HasFile}
use Rattle.store_core.specs.declared.answer.Answer.{Answer}
use Rattle.store_core.specs.declared.answer.Answer.TheVariants as ok

-- the bytes are no schema
abbrev pub SpellsNoSchema : List ℕ → Type 0
SpellsNoSchema bytes = (given : List Given) → SpellsSchema bytes given → ⊥

-- they are one that passes the limits
abbrev pub SpellsLargeSchema : List ℕ → Type 0
SpellsLargeSchema bytes = (given : List Given) × SpellsSchema bytes given × IsLarge given

-- they are one within the limits, which gives these models to names
pub record SpellsModels (bytes : List ℕ) (schema : List (List ℕ × Model)) : Type 0 where
  pub given : List Given
  pub spelled : SpellsSchema bytes given
  pub within : IsLarge given → ⊥
  pub models : schema ≡ rules given

-- so are the bytes of the file, which are fewer than 2^30
pub record HoldsSchema (name : List ℕ) (w : World) (schema : List (List ℕ × Model)) : Type 0 where
  pub bytes : List ℕ
  pub file : HasFile w name bytes
  pub short : length bytes < 2 ^ 30
  pub spelled : SpellsModels bytes schema

-- what is said where the wrong elements have these numbers, the least of them first
abbrev pub verdict : List ℕ → Answer
verdict [] = ok.Valid
verdict (first ∷ later) = ok.Invalid (length (first ∷ later)) first

-- the elements that were found and listed are the wrong ones of the document for which the parts stand
pub record FindsWrong (schema : List (List ℕ × Model)) (parts : Parts) (found : Fallen) : Type 0 where
  pub listed : IsSome found.hits
  pub wrong : (tree : Tree) → PartsStandFor parts tree → AreWrong schema 0 (nodes tree) (numbers (listed_hits found.hits))
