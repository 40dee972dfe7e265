-- What comes into a document at one place of its code.
use Rattle.std.specs.Prelude.{◌≡◌, ◌+◌, ◌*◌, ◌<◌, ◌≤◌, ◌^◌, List, [], ◌∷◌, length, slice_set}
use Rattle.std.specs.List.{insert_slice}
use Rattle.plain_tree.specs.Lawful.{IsDocument}
use Rattle.plain_tree.specs.NodePairs.{Pair}
use Rattle.plain_tree.specs.Numbers.{texts}
use Rattle.plain_tree.specs.Tree.{Tree, none, more, node_count}
use Rattle.slt_grammar.specs.Coding.{Codes}
use Rattle.slt_grammar.specs.Terms.{Term, Hole, holes_of, substitute}
use Rattle.segment_counts.specs.Weights.{all_weight}
use Rattle.tree_updates.specs.CodePlaces.{IsBodyOf}
use Rattle.tree_updates.specs.Differences.{hole_at}
use Rattle.tree_updates.specs.Extents.{IsCodedBy}
use Rattle.tree_updates.specs.declared.deleting_between.JoinedText.{JoinedText}
use Rattle.tree_updates.specs.declared.growing.Growth.{Growth}
use Rattle.tree_updates.specs.declared.store.Store.{Store}

-- With what comes the document becomes another: where the body's term comes around what stands at the place of its code, there is the other's
-- code; the texts come before the one at the rank, and so many nodes come.
pub record GrowsInto (names : List Pair) (t u : Tree) (g : Growth) : Type 0 where
  pub front : Term
  pub body : IsBodyOf front g.body
  pub place : g.site.place < 2 * node_count t + 1
  pub code : (around this : Term) → holes_of around ≡ Hole 0 ∷ [] → hole_at all_weight around ≡ g.site.place → Codes names (more t none) (substitute around (this ∷ []))
      → Codes names (more u none) (substitute around (substitute front (this ∷ []) ∷ []))
  pub rank : g.site.rank ≤ length (texts t)
  pub texts_are : texts u ≡ insert_slice (texts t) g.site.rank g.texts
  pub nodes : node_count u ≡ node_count t + g.nodes
  pub document : IsDocument u
  pub small : node_count u < 2 ^ 63

-- with another value for one of its texts the document becomes another, which has the same code
pub record GetsText (s : Store) (t : Tree) (j : JoinedText) (one : Tree) : Type 0 where
  pub within : j.rank < length s.texts.texts
  pub texts_are : texts one ≡ slice_set (texts t) j.rank j.value
  pub coded : IsCodedBy s one
  pub count : node_count one ≡ node_count t
