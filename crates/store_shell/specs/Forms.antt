-- What a line asks for.
use Rattle.std.specs.Prelude.{◌≡◌, ◌≢◌, ◌<◌, ◌≤◌, ◌-◌, ◌^◌, ℕ, List, [], ◌∷◌, ◌++◌, All, length, take, if◌then◌else◌, codes, decimal, nat_eq, MatchOption}
use Rattle.std.specs.List.{ends_with}
use Rattle.std.specs.Str.{IsUtf8}
use Rattle.store_core.specs.Acts.{Act, Load, LoadGrammar, Save, SaveGrammar, Show, Query, ShowAll, Count, Rename, Insert, Append, Delete, Value, Attr, Copy, RenameAll, DeleteAll, Check, Repair, RepairWide, Generate}
use Rattle.store_shell.specs.Arguments.{IsNamed, IsNumbered}
use Rattle.store_shell.specs.Lines.{longest}
use Rattle.store_shell.specs.Verbs.{lone_word, verb_of, verb_word}

pub data Form : Type 0 where
  -- nothing
  Empty : Form
  -- it has too many bytes
  Long : Form
  -- it is in no command's form
  Bad : Form
  -- the script's end
  Quit : Form
  Command : (act : Act) → Form

-- the words of a line: one carriage return at its end isn't part of them
abbrev pub without_return : List ℕ → List ℕ
without_return line = if ends_with nat_eq line (13 ∷ []) then take (length line - 1) line else line

abbrev pub IsFileName : List ℕ → Type 0
IsFileName name = (name ≢ []) × IsUtf8 name

-- what stands behind the verb gives the command this
abbrev pub Gives : List ℕ → Act → Type 0
Gives arguments (Load name) = IsFileName name × (arguments ≡ name)
Gives arguments (LoadGrammar name) = IsFileName name × (arguments ≡ name)
Gives arguments (Save name) = IsFileName name × (arguments ≡ name)
Gives arguments (SaveGrammar name) = IsFileName name × (arguments ≡ name)
Gives arguments (Show number) = (number < 2 ^ 64) × (arguments ≡ decimal number)
Gives arguments (Query query) = (query ≢ []) × (arguments ≡ query)
Gives arguments (ShowAll query) = (query ≢ []) × (arguments ≡ query)
Gives arguments (Count query) = (query ≢ []) × (arguments ≡ query)
Gives arguments (Rename number name) = (name ≢ []) × IsNumbered arguments number name
Gives arguments (Insert number bytes) = (bytes ≢ []) × IsNumbered arguments number bytes
Gives arguments (Append number bytes) = (bytes ≢ []) × IsNumbered arguments number bytes
Gives arguments (Delete number) = (number < 2 ^ 64) × (arguments ≡ decimal number)
Gives arguments (Value number bytes) = IsNumbered arguments number bytes
Gives arguments (Attr number name bytes) = (rest : List ℕ) × IsNumbered arguments number rest × IsNamed rest name bytes
Gives arguments (Copy number) = (number < 2 ^ 64) × (arguments ≡ decimal number)
Gives arguments (RenameAll name query) = (query ≢ []) × IsNamed arguments name query
Gives arguments (DeleteAll query) = (query ≢ []) × (arguments ≡ query)
Gives arguments (Check name) = IsFileName name × (arguments ≡ name)
Gives arguments Repair = ⊥
Gives arguments RepairWide = ⊥
Gives arguments (Generate records) = (1 ≤ records) × (records ≤ 200000) × (arguments ≡ decimal records)

-- the words ask for this: they are its verb and, behind one space, what gives it the rest, or its word alone where it takes nothing
abbrev pub Asks : List ℕ → Act → Type 0
Asks words act = MatchOption (verb_of act) (words ≡ lone_word act) (λ verb. (arguments : List ℕ) × (words ≡ verb_word verb ++ 32 ∷ arguments) × Gives arguments act)

-- a line has this form
abbrev pub IsForm : List ℕ → Form → Type 0
IsForm line Empty = without_return line ≡ []
IsForm line Long = longest < length line
IsForm line Bad = (length line ≤ longest) × (without_return line ≢ []) × (without_return line ≢ codes "quit") × ((act : Act) → Asks (without_return line) act → ⊥)
IsForm line Quit = without_return line ≡ codes "quit"
IsForm line (Command act) = (length line ≤ longest) × Asks (without_return line) act

-- no quit is among these lines
abbrev pub HasNoQuit : List (List ℕ) → Type 0
HasNoQuit lines = All (λ line. IsForm line Quit → ⊥) lines
