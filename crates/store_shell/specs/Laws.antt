-- What holds of all lines and forms.
use Rattle.std.specs.Prelude.{◌≡◌, ◌≤◌, ℕ, List, length}
use Rattle.store_shell.specs.Forms.{Form, IsForm}
use Rattle.store_shell.specs.Lines.{IsCut}
use Rattle.store_shell.specs.Runs.{Run}
use Rattle.store_core.specs.Worlds.{World, IsLawfulState}
use Rattle.store_words.specs.declared.words.Settings.{Settings}

-- bytes are cut into lines and a tail in one way alone
abbrev pub CutsOne : Type 0
CutsOne = (bytes : List ℕ) (lines lines' : List (List ℕ)) (tail tail' : List ℕ) → IsCut bytes lines tail → IsCut bytes lines' tail' → (lines ≡ lines') × (tail ≡ tail')

-- no more lines end than there are bytes
abbrev pub LinesAreFew : Type 0
LinesAreFew = (bytes : List ℕ) (lines : List (List ℕ)) (tail : List ℕ) → IsCut bytes lines tail → length lines ≤ length bytes

-- a line has one form alone
abbrev pub HasOneForm : Type 0
HasOneForm = (line : List ℕ) (form form' : Form) → IsForm line form → IsForm line form' → form ≡ form'

-- A run from a lawful state leaves one. Each part of a run is a run, so every state of it is lawful.
abbrev pub RunsStayLawful : Type 0
RunsStayLawful = (settings : Settings) (lines : List (List ℕ)) (old new : World) (out : List ℕ) → IsLawfulState old.state → Run settings lines old out new → IsLawfulState new.state
