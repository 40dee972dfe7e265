-- Edits that commands ask for, and what they make of what is held.
use Rattle.std.specs.Prelude.{◌≡◌, ◌≤◌, ◌<◌, ◌⊎◌, ◌+◌, ◌*◌, ◌-◌, ◌^◌, ℕ, max, min, List, take, Some}
use Rattle.tree_outside.specs.Outside.{Stays}
use Rattle.plain_tree.specs.Additions.{added, new_pairs}
use Rattle.plain_tree.specs.Allowed.{IsAllowed}
use Rattle.plain_tree.specs.Edits.{edited, merged, number_of}
use Rattle.plain_tree.specs.Lawful.{IsName}
use Rattle.plain_tree.specs.NodePairs.{Pair}
use Rattle.plain_tree.specs.Tree.{Tree, Trees, trees, node_count}
use Rattle.plain_tree.specs.declared.nodes.Nodes.{Nodes}
use Rattle.plain_tree.specs.declared.edit.Edit.{Edit}
use Rattle.plain_tree.specs.declared.edit.Edit.TheVariants as edit
use Rattle.xml_nodes.specs.Spelling.{SpellsList, SpellsValue}
use Rattle.slt_grammar.specs.Digrams.{IsSettled}
use Rattle.slt_grammar.specs.Grammars.{size}
use Rattle.slt_grammar.specs.Ranks.{greatest_rank}
use Rattle.slt_grammar.specs.declared.rules.Rule.{Rule}
use Rattle.fcns_encoding.specs.Interning.{Interns}
use Rattle.store_core.specs.Acts.{Act, Rename, Insert, Append, Delete, Value, Attr, Copy, name_given, fragment_given, value_given}
use Rattle.store_core.specs.Texts.{answer_line}
use Rattle.store_core.specs.Worlds.{Held, with_names, PartsStandFor, World}
use Rattle.store_core.specs.declared.answer.Answer.{Answer}
use Rattle.store_core.specs.declared.answer.Answer.TheVariants as ok
use Rattle.store_words.specs.declared.words.Settings.{Settings}

-- the command asks for this edit: the name that it gives is a Name, its bytes spell the fragment or the value
abbrev pub AsksEdit : Act → Edit → Type 0
AsksEdit (Rename number name) e = IsName name × (e ≡ edit.Rename number name)
AsksEdit (Insert number bytes) e = (fragment : Nodes) × SpellsList bytes (trees fragment) × (e ≡ edit.Insert number fragment)
AsksEdit (Append number bytes) e = (fragment : Nodes) × SpellsList bytes (trees fragment) × (e ≡ edit.Append number fragment)
AsksEdit (Delete number) e = e ≡ edit.Delete number
AsksEdit (Value number bytes) e = (value : List ℕ) × SpellsValue bytes value × (e ≡ edit.Value number value)
AsksEdit (Attr number name bytes) e = (value : List ℕ) × IsName name × SpellsValue bytes value × (e ≡ edit.Attr number name value)
AsksEdit (Copy number) e = e ≡ edit.Copy number
AsksEdit act e = ⊥

-- it is one that asks for an edit, if what it gives is lawful
abbrev pub IsEdit : Act → Type 0
IsEdit (Rename number name) = Unit {0}
IsEdit (Insert number bytes) = Unit {0}
IsEdit (Append number bytes) = Unit {0}
IsEdit (Delete number) = Unit {0}
IsEdit (Value number bytes) = Unit {0}
IsEdit (Attr number name bytes) = Unit {0}
IsEdit (Copy number) = Unit {0}
IsEdit act = ⊥

-- the name that it gives is no Name, and its bytes spell no fragment, and no value
abbrev pub GivesNoName : Act → Type 0
GivesNoName act = (name : List ℕ) × (name_given act ≡ Some name) × (IsName name → ⊥)

abbrev pub GivesNoFragment : Act → Type 0
GivesNoFragment act = (bytes : List ℕ) × (fragment_given act ≡ Some bytes) × ((nodes : Trees) → SpellsList bytes nodes → ⊥)

abbrev pub GivesNoValue : Act → Type 0
GivesNoValue act = (bytes : List ℕ) × (value_given act ≡ Some bytes) × ((value : List ℕ) → SpellsValue bytes value → ⊥)

-- it asks for one at a node of the document that is held
pub record WantsEdit (act : Act) (w : World) : Type 0 where
  pub held : Held
  pub tree : Tree
  pub edit : Edit
  pub is : w.state ≡ Some held
  pub stand : PartsStandFor held.parts tree
  pub asked : AsksEdit act edit
  pub there : number_of edit < node_count tree

-- one more edit was accepted; the count stops at the greatest of 64 bits
abbrev pub one_more : ℕ → ℕ
one_more edits = min (edits + 1) (2 ^ 64 - 1)

-- settling is due after so many edits
pub record IsDue (settings : Settings) (edits : ℕ) : Type 0 where
  pub some : 0 < settings.repair
  pub reached : settings.repair ≤ edits

-- Behind an edit, the last of so many since the grammar was settled: where settling isn't due they are counted; where it is, the rules are settled
-- and the count is 0, or memory was wanting, the edits are counted, and the line says so.
abbrev pub IsSettledWhereDue : Settings → ℕ → Held → ℕ → Answer → Type 0
IsSettledWhereDue settings edits held nodes answer =
    ((IsDue settings edits → ⊥) × (held.edits ≡ edits) × (answer ≡ ok.Nodes nodes))
    ⊎ ((IsDue settings edits × IsSettled held.parts.rules settings.rank × (held.edits ≡ 0) × (answer ≡ ok.Nodes nodes))
    ⊎ (IsDue settings edits × (held.edits ≡ edits) × (answer ≡ ok.Unsettled nodes)))

-- The document that is held becomes the edited one. The names grow by those that the edit brings. The edit makes a grammar of no more than
-- twice the size there was, once more for each text that was merged, and what the edit adds; the rules are no larger than these, are these
-- where settling isn't due, and none has a rank that is greater than the settings' and than all there were.
pub record Edits (settings : Settings) (act : Act) (old : World) (out : List ℕ) (new : World) : Type 0 where
  pub wants : WantsEdit act old
  pub allowed : IsAllowed wants.tree wants.edit
  pub held : Held
  pub state : new.state ≡ Some held
  pub stand : PartsStandFor held.parts (edited wants.tree wants.edit)
  pub names : Interns wants.held.parts.names (new_pairs wants.tree wants.edit) held.parts.names
  pub made : List Rule
  pub few : size made ≤ (2 + merged wants.tree wants.edit) * size wants.held.parts.rules + added wants.edit
  pub size : size held.parts.rules ≤ size made
  pub kept : (IsDue settings (one_more wants.held.edits) → ⊥) → held.parts.rules ≡ made
  pub ranks : greatest_rank held.parts.rules ≤ max settings.rank (greatest_rank wants.held.parts.rules)
  pub answer : Answer
  pub settled : IsSettledWhereDue settings (one_more wants.held.edits) held (node_count (edited wants.tree wants.edit)) answer
  pub files : Stays old.files new.files
  pub printed : out ≡ answer_line answer

-- all is as before, but some first names that the edit brings have come, and it may be made
pub record KeepsNames (act : Act) (old new : World) : Type 0 where
  pub wants : WantsEdit act old
  pub allowed : IsAllowed wants.tree wants.edit
  pub names : List Pair
  pub grown : (k : ℕ) × Interns wants.held.parts.names (take k (new_pairs wants.tree wants.edit)) names
  pub state : new.state ≡ Some (record wants.held { parts = with_names wants.held.parts names })
  pub files : Stays old.files new.files
