-- Refusals and their causes, in the order in which they are tried: each yields to those above it. A cause speaks of its command: what
-- is wrong with a document is a cause only for a command that reads a document.
use Rattle.std.specs.Prelude.{◌≡◌, ◌≤◌, ◌<◌, ◌⊎◌, ◌^◌, ℕ, List, length, IsTrue, Option, Some, IsSome, IsNone}
use Rattle.tree_outside.specs.Outside.{Rose}
use Rattle.plain_tree.specs.Allowed.{IsAllowed}
use Rattle.plain_tree.specs.Edits.{edited}
use Rattle.plain_tree.specs.Tree.{node_count}
use Rattle.xml_profile.specs.Reading.{IsBad}
use Rattle.store_core.specs.GrammarFiles.{IsNoFile, IsFileOfMany}
use Rattle.store_core.specs.Acts.{Act, needs_document, document_read, grammar_read, schema_read, file_read, node_asked, query_asked, query_edited, writes_file}
use Rattle.store_core.specs.BulkEditing.{MayEditAll, WantsBulkEdit}
use Rattle.store_core.specs.Editing.{GivesNoFragment, GivesNoName, GivesNoValue, WantsEdit}
use Rattle.store_core.specs.Schemas.{SpellsNoSchema, SpellsLargeSchema}
use Rattle.store_core.specs.Selecting.{SpellsNoQuery, SpellsLarge, SpellsComparison, SpellsPlain}
use Rattle.store_core.specs.Worlds.{World, HasFile, HasNoFile, HasNode, LacksNode}
use Rattle.store_core.specs.declared.answer.Refusal.{Refusal}
use Rattle.store_core.specs.declared.answer.Refusal.TheVariants as no

-- where the command needs a document there is one
abbrev pub HasDocument : Act → World → Type 0
HasDocument act old = IsTrue (needs_document act) → IsSome old.state

-- there is, and where it reads a file there is one of this name
pub record IsReady (act : Act) (old : World) : Type 0 where
  pub document : HasDocument act old
  pub file : (name : List ℕ) → file_read act ≡ Some name → (bytes : List ℕ) × HasFile old name bytes

-- these are the bytes of the file that is read, which has this name
pub record IsInput (read : Option (List ℕ)) (old : World) (bytes : List ℕ) : Type 0 where
  pub name : List ℕ
  pub reads : read ≡ Some name
  pub file : HasFile old name bytes

-- they are fewer than 2^30, as a file must have
pub record IsShortInput (read : Option (List ℕ)) (old : World) (bytes : List ℕ) : Type 0 where
  pub input : IsInput read old bytes
  pub short : length bytes < 2 ^ 30

-- the document that is held has the node that the command asks for
abbrev pub FindsNode : Act → World → Type 0
FindsNode act old = (number : ℕ) × (node_asked act ≡ Some number) × HasNode old number

-- there is one, and the query all of whose nodes the command edits is one within the limits that compares nothing
abbrev pub FindsQuery : Act → World → Type 0
FindsQuery act old = (query : List ℕ) × (query_edited act ≡ Some query) × IsReady act old × SpellsPlain query

-- the command asks for an edit of all nodes of a query that may not be made
abbrev pub AsksForbidden : Act → World → Type 0
AsksForbidden act old = (wants : WantsBulkEdit act old) × (MayEditAll wants.edit wants.numbers wants.tree → ⊥)

-- the command is refused so only where this holds
abbrev pub Cause : Refusal → Act → World → World → Type 0
Cause no.NoDocument act old new = IsTrue (needs_document act) × IsNone old.state
Cause no.ReadFault act old new = IsSome (file_read act) × HasDocument act old × Rose old.count new.count
Cause no.NoFile act old new = (name : List ℕ) × (file_read act ≡ Some name) × HasDocument act old × HasNoFile old name
Cause no.WriteFault act old new = IsTrue (writes_file act) × IsReady act old × Rose old.count new.count
Cause no.LongFile act old new = (bytes : List ℕ) × IsInput (file_read act) old bytes × HasDocument act old × (2 ^ 30 ≤ length bytes)
Cause (no.BadXml at) act old new = (bytes : List ℕ) × IsShortInput (document_read act) old bytes × IsBad bytes at
Cause no.BadGrammar act old new = (bytes : List ℕ) × IsShortInput (grammar_read act) old bytes × IsNoFile bytes
Cause no.BadSchema act old new = (bytes : List ℕ) × IsShortInput (schema_read act) old bytes × HasDocument act old × SpellsNoSchema bytes
Cause no.LargeSchema act old new = (bytes : List ℕ) × IsShortInput (schema_read act) old bytes × HasDocument act old × SpellsLargeSchema bytes
Cause no.BadQuery act old new = (query : List ℕ) × (query_asked act ≡ Some query) × IsReady act old × SpellsNoQuery query
Cause no.LargeQuery act old new = (query : List ℕ) × (query_asked act ≡ Some query) × IsReady act old × SpellsLarge query
Cause no.ValueQuery act old new = (query : List ℕ) × (query_edited act ≡ Some query) × IsReady act old × SpellsComparison query
Cause no.NoNode act old new = (number : ℕ) × (node_asked act ≡ Some number) × LacksNode old number
Cause no.BadName act old new = (FindsNode act old ⊎ FindsQuery act old) × GivesNoName act
Cause no.BadFragment act old new = FindsNode act old × GivesNoFragment act
Cause no.BadValue act old new = FindsNode act old × (GivesNoName act → ⊥) × GivesNoValue act
Cause no.NotAllowed act old new = ((wants : WantsEdit act old) × (IsAllowed wants.tree wants.edit → ⊥)) ⊎ AsksForbidden act old
Cause no.TooMany act old new =
    ((bytes : List ℕ) × IsShortInput (grammar_read act) old bytes × IsFileOfMany bytes)
    ⊎ ((wants : WantsEdit act old) × IsAllowed wants.tree wants.edit × (2 ^ 63 ≤ node_count (edited wants.tree wants.edit)))
Cause no.Memory act old new = IsReady act old
