-- What a command finds and leaves.
use Rattle.std.specs.Prelude.{◌≡◌, ◌≤◌, ◌<◌, ◌^◌, ℕ, List, [], Option, IfSome, Some, None}
use Rattle.std.specs.FinMap.{get}
use Rattle.std.specs.Option.{IsSomeAnd, option_map}
use Rattle.plain_tree.specs.declared.kind.Kind.{Kind}
use Rattle.plain_tree.specs.Tree.{Tree, node_count}
use Rattle.slt_grammar.specs.declared.rules.Rule.{Rule}
use Rattle.slt_grammar.specs.Grammars.{IsGrammar, IsSwept}
use Rattle.slt_grammar.specs.Standing.{StandsFor}
use Rattle.tree_outside.specs.Files.{Files, Told}
use Rattle.tree_outside.specs.Outside.{Stays}

-- what is held of a document: the names of its nodes, the rules of its grammar, the values of its nodes
pub record Parts : Type 0 where
  pub names : List (Kind × List ℕ)
  pub rules : List Rule
  pub texts : List (List ℕ)

-- other rules in their place, and other names
abbrev pub with_rules : Parts → List Rule → Parts
with_rules parts rules = record parts { rules = rules }

abbrev pub with_names : Parts → List (Kind × List ℕ) → Parts
with_names parts names = record parts { names = names }

-- the parts stand for the document
abbrev pub PartsStandFor : Parts → Tree → Type 0
PartsStandFor parts t = StandsFor parts.rules parts.names parts.texts t

-- What is held of a document is lawful: the rules are a grammar of which each rule but the start is called, and with the names
-- and the texts they stand for a document of fewer than 2^63 nodes.
pub record AreLawfulParts (parts : Parts) : Type 0 where
  pub tree : Tree
  pub stand : PartsStandFor parts tree
  pub small : node_count tree < 2 ^ 63
  pub grammar : IsGrammar parts.rules
  pub swept : IsSwept parts.rules

-- the parts of the document that is loaded, and how many edits of it were accepted since its grammar was settled
pub record Held : Type 0 where
  pub parts : Parts
  pub edits : ℕ

-- the parts without an edit since then
abbrev pub unedited : Parts → Held
unedited parts = record { parts = parts; edits = 0 }

-- the parts are lawful, and the count of edits fits 64 bits
pub record IsLawfullyHeld (held : Held) : Type 0 where
  pub parts : AreLawfulParts held.parts
  pub few : held.edits < 2 ^ 64

-- a state of the plain tree machine: nothing, or what is held of the document that is loaded
abbrev pub State : Type 0
State = Option Held

abbrev pub IsLawfulState : State → Type 0
IsLawfulState state = IfSome state IsLawfullyHeld

-- the parts that are held
abbrev pub parts_in : State → Option Parts
parts_in state = option_map (λ held. held.parts) state

-- the session's state, the shelf's files where it tells them, and the count of its faults
pub record World : Type 0 where
  pub state : State
  pub files : Option Files
  pub count : ℕ

abbrev pub told_files : Option Told → Option Files
told_files told = option_map (λ t. t.files) told

abbrev pub world : State → Option Told → ℕ → World
world state told count = record { state = state; files = told_files told; count = count }

-- the shelf tells that no file is open and none is pending
abbrev pub IsIdle : Option Told → Type 0
IsIdle told = IsSomeAnd told (λ t. (t.left ≡ []) × (t.pending ≡ None))

-- state and files are as before
pub record Same (old new : World) : Type 0 where
  pub state : new.state ≡ old.state
  pub files : Stays old.files new.files

-- where the files are told, these are the bytes of the file with this name
abbrev pub HasFile : World → List ℕ → List ℕ → Type 0
HasFile w name bytes = IfSome w.files (λ files. get files name ≡ Some bytes)

-- the document that is held has no node with this number
pub record LacksNode (w : World) (number : ℕ) : Type 0 where
  pub parts : Parts
  pub tree : Tree
  pub held : parts_in w.state ≡ Some parts
  pub stand : PartsStandFor parts tree
  pub past : node_count tree ≤ number

-- it has one
pub record HasNode (w : World) (number : ℕ) : Type 0 where
  pub parts : Parts
  pub tree : Tree
  pub held : parts_in w.state ≡ Some parts
  pub stand : PartsStandFor parts tree
  pub there : number < node_count tree

-- where the files are told, there is none with this name
abbrev pub HasNoFile : World → List ℕ → Type 0
HasNoFile w name = IfSome w.files (λ files. get files name ≡ None)
