-- What errors of the layers below say, and that a refusal says the same.
use Rattle.std.specs.Prelude.{◌≡◌, ◌≤◌, ◌<◌, ℕ, List, Some}
use Rattle.plain_tree.specs.Lawful.{IsName}
use Rattle.plain_tree.specs.Tree.{Trees}
use Rattle.xml_nodes.specs.Spelling.{SpellsList, SpellsValue}
use Rattle.xml_profile.specs.declared.error.XmlError.{XmlError}
use Rattle.xml_profile.specs.declared.error.XmlError.TheVariants as xml
use Rattle.xml_profile.specs.Reading.{IsBad}
use Rattle.bulk_rewrite.specs.declared.renaming_all.BulkError.{BulkError}
use Rattle.bulk_rewrite.specs.declared.renaming_all.BulkError.TheVariants as bulk
use Rattle.tree_updates.specs.declared.store.EditError.{EditError}
use Rattle.tree_updates.specs.declared.store.EditError.TheVariants as edit
use Rattle.grammar_file.specs.declared.error.FileError.{FileError}
use Rattle.grammar_file.specs.declared.error.FileError.TheVariants as file
use Rattle.xpath_parser.specs.declared.error.QueryError.{QueryError}
use Rattle.xpath_parser.specs.declared.error.QueryError.TheVariants as query
use Rattle.content_models.specs.declared.error.SchemaError.{SchemaError}
use Rattle.content_models.specs.declared.error.SchemaError.TheVariants as schema
use Rattle.store_core.specs.Acts.{Act, node_asked}
use Rattle.store_core.specs.Editing.{GivesNoFragment, GivesNoName, GivesNoValue}
use Rattle.store_core.specs.GrammarFiles.{IsNoFile, IsFileOfMany}
use Rattle.store_core.specs.GrammarStores.{IsNoStore}
use Rattle.store_core.specs.Schemas.{SpellsNoSchema, SpellsLargeSchema}
use Rattle.store_core.specs.Selecting.{SpellsNoQuery, SpellsLarge, SpellsComparison}
use Rattle.store_core.specs.declared.answer.Refusal.{Refusal}
use Rattle.store_core.specs.declared.answer.Refusal.TheVariants as no

-- what is wrong with the bytes of a document
abbrev pub SaysOfDocument : XmlError → List ℕ → Type 0
SaysOfDocument (xml.Bad at) bytes = IsBad bytes at
SaysOfDocument xml.Memory bytes = Unit {0}

abbrev pub IsNoDocument : Refusal → List ℕ → Type 0
IsNoDocument (no.BadXml at) bytes = IsBad bytes at
IsNoDocument no.Memory bytes = Unit {0}
IsNoDocument _ bytes = ⊥

-- what is wrong with those of a grammar file
abbrev pub SaysOfFile : FileError → List ℕ → Type 0
SaysOfFile file.Bad bytes = IsNoFile bytes
SaysOfFile file.TooMany bytes = IsFileOfMany bytes
SaysOfFile file.Memory bytes = Unit {0}

-- what is wrong with those of a schema
abbrev pub SaysOfSchema : SchemaError → List ℕ → Type 0
SaysOfSchema schema.Bad bytes = SpellsNoSchema bytes
SaysOfSchema schema.Large bytes = SpellsLargeSchema bytes
SaysOfSchema schema.Memory bytes = Unit {0}

abbrev pub IsNoSchema : Refusal → List ℕ → Type 0
IsNoSchema no.BadSchema bytes = SpellsNoSchema bytes
IsNoSchema no.LargeSchema bytes = SpellsLargeSchema bytes
IsNoSchema no.Memory bytes = Unit {0}
IsNoSchema _ bytes = ⊥

-- what is wrong with those of a query
abbrev pub SaysOfQuery : QueryError → List ℕ → Type 0
SaysOfQuery query.Bad bytes = SpellsNoQuery bytes
SaysOfQuery query.Large bytes = SpellsLarge bytes
SaysOfQuery query.Memory bytes = Unit {0}

abbrev pub IsNoQuery : Refusal → List ℕ → Type 0
IsNoQuery no.BadQuery bytes = SpellsNoQuery bytes
IsNoQuery no.LargeQuery bytes = SpellsLarge bytes
IsNoQuery no.Memory bytes = Unit {0}
IsNoQuery _ bytes = ⊥

-- or why they are no query that compares nothing
abbrev pub IsNoPlainQuery : Refusal → List ℕ → Type 0
IsNoPlainQuery no.ValueQuery bytes = SpellsComparison bytes
IsNoPlainQuery refusal bytes = IsNoQuery refusal bytes

-- of all bytes of which the error is true the refusal is
abbrev pub RefusesDocument : XmlError → Refusal → Type 0
RefusesDocument error refusal = (bytes : List ℕ) → SaysOfDocument error bytes → IsNoDocument refusal bytes

abbrev pub RefusesFile : FileError → Refusal → Type 0
RefusesFile error refusal = (bytes : List ℕ) → SaysOfFile error bytes → IsNoStore refusal bytes

abbrev pub RefusesSchema : SchemaError → Refusal → Type 0
RefusesSchema error refusal = (bytes : List ℕ) → SaysOfSchema error bytes → IsNoSchema refusal bytes

abbrev pub RefusesQuery : QueryError → Refusal → Type 0
RefusesQuery error refusal = (bytes : List ℕ) → SaysOfQuery error bytes → IsNoQuery refusal bytes

-- what a refused edit is told
abbrev pub refusal_of : EditError → Refusal
refusal_of (edit.NoNode count) = no.NoNode
refusal_of (edit.NotAllowed kind) = no.NotAllowed
refusal_of edit.TooMany = no.TooMany
refusal_of edit.Memory = no.Memory

-- what an edit of all nodes of a query is told that is refused
abbrev pub refusal_of_all : BulkError → Refusal
refusal_of_all bulk.NotAllowed = no.NotAllowed
refusal_of_all bulk.Memory = no.Memory

-- why a name is not taken, and why no fragment and no value is read of bytes
abbrev pub IsNoName : Refusal → List ℕ → Type 0
IsNoName no.BadName name = IsName name → ⊥
IsNoName no.Memory name = Unit {0}
IsNoName _ name = ⊥

abbrev pub IsNoFragment : Refusal → List ℕ → Type 0
IsNoFragment no.BadFragment bytes = (nodes : Trees) → SpellsList bytes nodes → ⊥
IsNoFragment no.Memory bytes = Unit {0}
IsNoFragment _ bytes = ⊥

abbrev pub IsNoValue : Refusal → List ℕ → Type 0
IsNoValue no.BadValue bytes = (value : List ℕ) → SpellsValue bytes value → ⊥
IsNoValue no.Memory bytes = Unit {0}
IsNoValue _ bytes = ⊥

-- the command asks for a node with a number below this count
abbrev pub AsksBelow : Act → ℕ → Type 0
AsksBelow act count = (number : ℕ) × (node_asked act ≡ Some number) × (number < count)

-- why what a command gives makes no edit
abbrev pub GivesNoEdit : Refusal → Act → Type 0
GivesNoEdit no.BadName act = GivesNoName act
GivesNoEdit no.BadFragment act = GivesNoFragment act
GivesNoEdit no.BadValue act = (GivesNoName act → ⊥) × GivesNoValue act
GivesNoEdit no.Memory act = Unit {0}
GivesNoEdit _ act = ⊥

-- why a command comes to no edit of a document with so many nodes: there is no such node, or what it gives makes none
abbrev pub IsNoEdit : Refusal → Act → ℕ → Type 0
IsNoEdit no.NoNode act count = (number : ℕ) × (node_asked act ≡ Some number) × (count ≤ number)
IsNoEdit refusal act count = AsksBelow act count × GivesNoEdit refusal act
