-- A node with all below it, and what is left where it goes.
use Rattle.std.specs.Prelude.{◌≡◌, ℕ, ◌+◌, ◌-◌, ◌<◌, ◌≤◌, ◌^◌, List, [], Option, None, Some, length}
use Rattle.plain_tree.specs.declared.edit.Edit.{Edit}
use Rattle.plain_tree.specs.declared.kind.Kind.TheVariants.{Text}
use Rattle.plain_tree.specs.Edits.{made, placed}
use Rattle.plain_tree.specs.Lawful.{IsDocument}
use Rattle.plain_tree.specs.Numbers.{texts}
use Rattle.plain_tree.specs.Siblings.{from_node}
use Rattle.plain_tree.specs.Tree.{Tree, node, Trees, none, more, node_count}
use Rattle.slt_grammar.specs.Coding.{Codes}
use Rattle.slt_grammar.specs.Grammars.{value}
use Rattle.slt_grammar.specs.Keyed.{rules_of}
use Rattle.slt_grammar.specs.Standing.{StandsFor}
use Rattle.digram_index.specs.Linked.{IsIndexOf}
use Rattle.segment_counts.specs.Counting.{AreCounts}
use Rattle.preorder_address.specs.Spots.{IsSpot}
use Rattle.preorder_address.specs.TreeNumbers.{text_rank_at}
use Rattle.preorder_address.specs.declared.spot.Spot.{Spot}
use Rattle.tree_updates.specs.declared.meeting_text.Neighbours.{Neighbours}
use Rattle.tree_updates.specs.declared.node_extent.Extent.{Extent}
use Rattle.tree_updates.specs.declared.node_extent.Span.{Span}
use Rattle.tree_updates.specs.declared.store.Store.{Store}

-- node n of the document and all below it: so many nodes, and so many texts from this one of the document's on
pub record IsExtentOf (t : Tree) (n : ℕ) (e : Extent) : Type 0 where
  pub here : Tree
  pub behind : Trees
  pub from_is : from_node n (more t none) ≡ more here behind
  pub nodes : e.nodes ≡ node_count here
  pub rank : text_rank_at t n ≡ Some e.rank
  pub texts_are : e.texts ≡ length (texts here)

-- the edit, but for texts that meet by it, leaves a document
pub record LeavesDocument (t : Tree) (e : Edit) : Type 0 where
  pub alone : made more e (more t none) ≡ more (placed t e) none
  pub document : IsDocument (placed t e)

-- the store's grammar and names code the document, whatever its texts are
pub record IsCodedBy (s : Store) (t : Tree) : Type 0 where
  pub document : IsDocument t
  pub code : Codes s.names (more t none) (value (rules_of s.grammar.rules))

-- The store's grammar, names and texts stand for the document, and the counts and the index are those of the grammar. Some of its rules may be
-- called by nobody.
pub record IsUnsweptFor (s : Store) (t : Tree) : Type 0 where
  pub stand : StandsFor (rules_of s.grammar.rules) s.names s.texts.texts t
  pub small : node_count t < 2 ^ 63
  pub counts : AreCounts s.names (rules_of s.grammar.rules) s.counts
  pub index : IsIndexOf s.grammar s.index

-- node n of the document stands between two texts, of which the right one has this number
pub record StandsBetween (t : Tree) (n right : ℕ) : Type 0 where
  pub before : List ℕ
  pub here : Tree
  pub after : List ℕ
  pub behind : Trees
  pub from_is : from_node (n - 1) (more t none) ≡ more (node Text [] before none) (more here (more (node Text [] after none) behind))
  pub right_is : right ≡ n + node_count here

-- the spot of node n of the store's document, and none where the document has no such node
abbrev pub IsSpotOrEnd : Store → Tree → ℕ → Option Spot → Type 0
IsSpotOrEnd s t n None = node_count t ≤ n
IsSpotOrEnd s t n (Some spot) = IsSpot s.names s.grammar.rules n spot

-- node n of the store's document with all below it, and the spot of the node behind them
pub record IsSpanOf (s : Store) (t : Tree) (n : ℕ) (span : Span) : Type 0 where
  pub extent : IsExtentOf t n span.extent
  pub behind : IsSpotOrEnd s t (n + span.extent.nodes) span.behind

-- the spots of the two texts between which node n of the store's document stands
pub record AreBeside (s : Store) (t : Tree) (n : ℕ) (beside : Neighbours) : Type 0 where
  pub between : StandsBetween t n beside.number
  pub left : IsSpot s.names s.grammar.rules (n - 1) beside.left
  pub right : IsSpot s.names s.grammar.rules beside.number beside.right
