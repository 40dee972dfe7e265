-- Fragments that come into a document.
use Rattle.std.specs.Prelude.{◌≡◌, ◌≤◌, ℕ, suc, ◌+◌, List, [], ◌∷◌, Some, length}
use Rattle.std.specs.List.{insert_slice}
use Rattle.plain_tree.specs.declared.edit.Edit.TheVariants.{Append}
use Rattle.plain_tree.specs.declared.kind.Kind.{Kind}
use Rattle.plain_tree.specs.declared.kind.Kind.TheVariants.{Text}
use Rattle.plain_tree.specs.Edits.{chained, made}
use Rattle.plain_tree.specs.NodePairs.{Pair}
use Rattle.plain_tree.specs.Numbers.{texts, texts_all}
use Rattle.plain_tree.specs.Siblings.{from_node}
use Rattle.plain_tree.specs.Tree.{Tree, node, Trees, none, more, trees, node_count_all}
use Rattle.slt_grammar.specs.Coding.{CodesTo}
use Rattle.slt_grammar.specs.Terms.{Term, Hole}
use Rattle.fcns_encoding.specs.Labels.{term_labels}
use Rattle.preorder_address.specs.TreeNumbers.{end_at}
use Rattle.tree_updates.specs.declared.growing.Growth.{Growth}
use Rattle.tree_updates.specs.declared.growing.Site.{Site}

-- the nodes of a fragment come there, so many with all below them
pub record IsFragmentGrowth (names : List Pair) (F : List Tree) (count : ℕ) (site : Site) (g : Growth) : Type 0 where
  pub front : Term
  pub code : CodesTo names (Hole 0) (trees F) front
  pub body : g.body ≡ term_labels front
  pub texts : g.texts ≡ texts_all (trees F)
  pub site_is : g.site ≡ site
  pub nodes : g.nodes ≡ count

-- behind the last kid of node n a fragment comes to this place of the code, and its texts to this rank
pub record IsEndSite (t : Tree) (n : ℕ) (site : Site) : Type 0 where
  pub place : end_at t n ≡ Some site.place
  pub fits : site.rank ≤ length (texts t)
  pub texts_are : (F : List Tree) → texts_all (made more (Append n F) (more t none)) ≡ insert_slice (texts t) site.rank (texts_all (trees F))

-- the last kid of node n is a text with this value, which has this number
pub record EndsInText (t : Tree) (n last : ℕ) (value : List ℕ) : Type 0 where
  pub kind : Kind
  pub name : List ℕ
  pub content : List ℕ
  pub front : Trees
  pub behind : Trees
  pub from_is : from_node n (more t none) ≡ more (node kind name content (chained more front (more (node Text [] value none) none))) behind
  pub last_is : last ≡ n + suc (node_count_all front)

-- By the fragment two texts meet: that before it, with this number, and its first.
pub record MeetsAtEnd (t : Tree) (n last : ℕ) (fragment : List Tree) : Type 0 where
  pub before : List ℕ
  pub first : List ℕ
  pub others : List Tree
  pub ends : EndsInText t n last before
  pub begins : fragment ≡ node Text [] first none ∷ others
