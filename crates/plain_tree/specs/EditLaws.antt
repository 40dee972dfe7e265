-- What holds of every edit that is allowed in a document.
use Rattle.std.specs.Prelude.{◌≡◌, ◌+◌, ◌≤◌, max, length}
use Rattle.plain_tree.specs.declared.edit.Edit.{Edit}
use Rattle.plain_tree.specs.declared.edit.Edit.TheVariants.{Insert, Append}
use Rattle.plain_tree.specs.Additions.{nodes_come, nodes_go}
use Rattle.plain_tree.specs.Allowed.{IsAllowed, AreLawfulParts}
use Rattle.plain_tree.specs.Edits.{placed, edited, merged}
use Rattle.plain_tree.specs.InTurn.{plain_edits, in_turn, LeaveDocuments}
use Rattle.plain_tree.specs.Joined.{joined, joined_all}
use Rattle.plain_tree.specs.Lawful.{IsDocument}
use Rattle.plain_tree.specs.Meetings.{seams, joined_at_each}
use Rattle.plain_tree.specs.Tree.{Tree, none, more, trees, node_count}

-- the edit is allowed in the document, and gives it lawful parts
pub record IsEditOf (document : Tree) (e : Edit) : Type 0 where
  pub document_is : IsDocument document
  pub allowed : IsAllowed document e
  pub parts : AreLawfulParts e

-- no texts are neighbours in the edit's fragment, where it has one
abbrev pub HasJoinedFragment : Edit → Type 0
HasJoinedFragment (Insert n fragment) = joined_all (trees fragment) ≡ trees fragment
HasJoinedFragment (Append n fragment) = joined_all (trees fragment) ≡ trees fragment
HasJoinedFragment e = Unit {0}

-- a document is a document after the edit, with texts that meet joined or not
abbrev pub EditsKeepDocuments : Type 0
EditsKeepDocuments = (t : Tree) (e : Edit) → IsEditOf t e → IsDocument (placed t e) × IsDocument (edited t e)

-- the edited document comes of the one with the edit but for texts that meet, by joining these at the seams
abbrev pub TextsJoinAtSeams : Type 0
TextsJoinAtSeams = (t : Tree) (e : Edit) → IsEditOf t e → more (edited t e) none ≡ joined_at_each (seams t e) (more (placed t e) none)

-- each text that became one with the text before it is a node less, and at each seam at most one did
abbrev pub MergedTextsAreCounted : Type 0
MergedTextsAreCounted = (t : Tree) (e : Edit) → IsEditOf t e → (node_count (edited t e) + merged t e ≡ node_count (placed t e)) × (merged t e ≤ length (seams t e))

-- where no texts are neighbours, none are after the edit
abbrev pub EditsKeepTextsJoined : Type 0
EditsKeepTextsJoined = (t : Tree) (e : Edit) → IsEditOf t e → HasJoinedFragment e → joined t ≡ t → joined (edited t e) ≡ edited t e

-- but for texts that meet, the document has the nodes more that come, and those fewer that go
abbrev pub EditsAreCounted : Type 0
EditsAreCounted = (t : Tree) (e : Edit) → IsEditOf t e → node_count (placed t e) + nodes_go t e ≡ node_count t + nodes_come t e

-- the edit is edits, one after another, whose nodes are placed and join nothing; no document on the way has more nodes than the first or the last
abbrev pub PlainEditsInTurn : Type 0
PlainEditsInTurn = (t : Tree) (e : Edit) → IsEditOf t e
    → LeaveDocuments (max (node_count t) (node_count (edited t e))) t (plain_edits t e) × (in_turn t (plain_edits t e) ≡ edited t e)
