-- Files that are opened to be read.
use Rattle.std.specs.Prelude.{◌≡◌, ℕ, List, Bool, Option, Some, IfSome, IsSome, IsTrue, is_some}
use Rattle.std.specs.FinMap.{get}
use Rattle.tree_outside.specs.Files.{Told}
use Rattle.store_core.specs.Acts.{Act, needs_document, file_read}
use Rattle.store_core.specs.Worlds.{State}

-- there is a file with this name exactly where an opening said so
abbrev pub Finds : Option Told → List ℕ → Bool → Type 0
Finds told name found = IfSome told (λ t. found ≡ is_some (get t.files name))

-- a command that reads the file with this name, and has the document that it needs
pub record ReadsFile (act : Act) (name : List ℕ) (state : State) : Type 0 where
  pub document : IsTrue (needs_document act) → IsSome state
  pub reads : file_read act ≡ Some name
