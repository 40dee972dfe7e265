-- Edits of all nodes that a query selects, and what they make of what is held.
use Rattle.std.specs.Prelude.{◌≡◌, ◌≤◌, ℕ, max, List, [], take, Some}
use Rattle.tree_outside.specs.Outside.{Stays}
use Rattle.plain_tree.specs.Lawful.{IsName}
use Rattle.plain_tree.specs.NodePairs.{Pair}
use Rattle.plain_tree.specs.Tree.{Tree, node_count}
use Rattle.slt_grammar.specs.Grammars.{size}
use Rattle.slt_grammar.specs.Ranks.{greatest_rank}
use Rattle.slt_grammar.specs.declared.rules.Rule.{Rule}
use Rattle.fcns_encoding.specs.Interning.{Interns}
use Rattle.selecting_automaton.specs.Words.{Selection, word_algebra, word_downward}
use Rattle.bulk_rewrite.specs.DeletedAll.{deleting_run}
use Rattle.bulk_rewrite.specs.Joining.{MayDelete, deleted}
use Rattle.bulk_rewrite.specs.Making.{AreFew}
use Rattle.bulk_rewrite.specs.Numbered.{has}
use Rattle.bulk_rewrite.specs.RenamedAll.{MayRename, renamed_pairs}
use Rattle.bulk_rewrite.specs.Renaming.{renamed}
use Rattle.store_core.specs.Acts.{Act, RenameAll, DeleteAll}
use Rattle.store_core.specs.Editing.{IsDue, IsSettledWhereDue, one_more}
use Rattle.store_core.specs.Selecting.{IsSelectorOf, Selects, SpellsPlain}
use Rattle.store_core.specs.Texts.{answer_line}
use Rattle.store_core.specs.Worlds.{Held, with_names, PartsStandFor, World}
use Rattle.store_core.specs.declared.answer.Answer.{Answer}
use Rattle.store_words.specs.declared.words.Settings.{Settings}

pub data BulkEdit : Type 0 where
  -- the nodes get this name
  Renaming : (name : List ℕ) → BulkEdit
  -- they are deleted, with all below them
  Deletion : BulkEdit

-- the command asks for this edit of all nodes that the query selects: the name that it gives is a Name
abbrev pub AsksBulkEdit : Act → BulkEdit → List ℕ → Type 0
AsksBulkEdit (RenameAll name text) edit query = IsName name × (edit ≡ Renaming name) × (query ≡ text)
AsksBulkEdit (DeleteAll text) edit query = (edit ≡ Deletion) × (query ≡ text)
AsksBulkEdit act edit query = ⊥

-- it is one that asks for such an edit, if what it gives is lawful
abbrev pub IsBulkEdit : Act → Type 0
IsBulkEdit (RenameAll name text) = Unit {0}
IsBulkEdit (DeleteAll text) = Unit {0}
IsBulkEdit act = ⊥

-- the document after the edit of the nodes with these numbers
abbrev pub edited_all : BulkEdit → List ℕ → Tree → Tree
edited_all (Renaming name) numbers t = renamed (has numbers) name 0 t
edited_all Deletion numbers t = deleted (has numbers) 0 t

-- whether the edit may be made of them
abbrev pub MayEditAll : BulkEdit → List ℕ → Tree → Type 0
MayEditAll (Renaming name) numbers t = MayRename numbers name t
MayEditAll Deletion numbers t = MayDelete (has numbers) t

-- the pairs of kinds and names that it brings, in document order
abbrev pub pairs_brought : BulkEdit → List ℕ → Tree → List Pair
pairs_brought (Renaming name) numbers t = renamed_pairs numbers name t
pairs_brought Deletion numbers t = []

-- there is a rule for each of different triples of a rule, states of its arguments and a down state that the edit's run meets, none of more
-- nodes than the body that it comes from
abbrev pub AreFewFor : BulkEdit → Selection → List Pair → List Rule → List Rule → Type 0
AreFewFor (Renaming name) selector names G H = AreFew (word_algebra selector) (word_downward selector) G H
AreFewFor Deletion selector names G H = AreFew (word_algebra selector) (deleting_run (word_downward selector) names) G H

-- so few are these, by a selector of the query
pub record AreMadeFor (edit : BulkEdit) (query : List ℕ) (names : List Pair) (G made : List Rule) : Type 0 where
  pub selector : Selection
  pub selects : IsSelectorOf query names selector
  pub few : AreFewFor edit selector names G made

-- the command asks for one of the document that is held, of the nodes that its query selects, which compares nothing
pub record WantsBulkEdit (act : Act) (w : World) : Type 0 where
  pub held : Held
  pub tree : Tree
  pub edit : BulkEdit
  pub query : List ℕ
  pub numbers : List ℕ
  pub is : w.state ≡ Some held
  pub asked : AsksBulkEdit act edit query
  pub selects : Selects query w tree numbers
  pub plain : SpellsPlain query

-- The document that is held becomes the one with the edit of all these nodes. The names grow by those that the edit brings. The rules are no
-- larger than those that the edit makes, and are these where settling isn't due; none has a rank that is greater than the settings' and than
-- all there were.
pub record EditsAll (settings : Settings) (act : Act) (old : World) (out : List ℕ) (new : World) : Type 0 where
  pub wants : WantsBulkEdit act old
  pub allowed : MayEditAll wants.edit wants.numbers wants.tree
  pub held : Held
  pub state : new.state ≡ Some held
  pub stand : PartsStandFor held.parts (edited_all wants.edit wants.numbers wants.tree)
  pub names : Interns wants.held.parts.names (pairs_brought wants.edit wants.numbers wants.tree) held.parts.names
  pub made : List Rule
  pub few : AreMadeFor wants.edit wants.query wants.held.parts.names wants.held.parts.rules made
  pub size : size held.parts.rules ≤ size made
  pub kept : (IsDue settings (one_more wants.held.edits) → ⊥) → held.parts.rules ≡ made
  pub ranks : greatest_rank held.parts.rules ≤ max settings.rank (greatest_rank wants.held.parts.rules)
  pub answer : Answer
  pub settled : IsSettledWhereDue settings (one_more wants.held.edits) held (node_count (edited_all wants.edit wants.numbers wants.tree)) answer
  pub files : Stays old.files new.files
  pub printed : out ≡ answer_line answer

-- all is as before, but some first names that the edit brings have come, and it may be made
pub record KeepsNamesOfAll (act : Act) (old new : World) : Type 0 where
  pub wants : WantsBulkEdit act old
  pub allowed : MayEditAll wants.edit wants.numbers wants.tree
  pub names : List Pair
  pub grown : (k : ℕ) × Interns wants.held.parts.names (take k (pairs_brought wants.edit wants.numbers wants.tree)) names
  pub state : new.state ≡ Some (record wants.held { parts = with_names wants.held.parts names })
  pub files : Stays old.files new.files
