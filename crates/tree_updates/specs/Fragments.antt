-- Trees by their code, and what becomes of a value and of a store where they come before a node.
use Rattle.std.specs.Prelude.{◌≡◌, ℕ, ◌<◌, ◌^◌, List, [], ◌∷◌, Some}
use Rattle.rule_arena.specs.declared.label.Label.{Label}
use Rattle.plain_tree.specs.declared.edit.Edit.TheVariants.{Insert}
use Rattle.plain_tree.specs.Edits.{placed}
use Rattle.plain_tree.specs.NodePairs.{Pair}
use Rattle.plain_tree.specs.Numbers.{texts_all}
use Rattle.plain_tree.specs.Tree.{Tree, trees, node_count}
use Rattle.slt_grammar.specs.Coding.{CodesTo}
use Rattle.slt_grammar.specs.Terms.{Term, Node, Hole, substitute}
use Rattle.slt_grammar.specs.declared.rules.Rule.{Rule}
use Rattle.fcns_encoding.specs.Labels.{term_labels}
use Rattle.fcns_encoding.specs.declared.coding.Coded.{Coded}
use Rattle.segment_counts.specs.Weights.{node_weight}
use Rattle.preorder_address.specs.TreeNumbers.{text_rank_at}
use Rattle.tree_updates.specs.Differences.{DifferThere}
use Rattle.tree_updates.specs.Extents.{LeavesDocument}
use Rattle.tree_updates.specs.declared.store.Store.{Store}

-- the labels are the code of these trees, with a parameter where the code of others is to follow
pub record IsCodeOf (names : List Pair) (F : List Tree) (body : List Label) : Type 0 where
  pub front : Term
  pub codes : CodesTo names (Hole 0) (trees F) front
  pub is : body ≡ term_labels front

-- the node with this number stands in the hole of a term that was put in its place
pub record GetsBefore (G H : List Rule) (number : ℕ) (front : Term) : Type 0 where
  pub symbol : ℕ
  pub left : Term
  pub right : Term
  pub differ : DifferThere node_weight G H number (Node symbol left right) (substitute front (Node symbol left right ∷ []))

-- These are the code and the texts of trees that may come before node n of the document, whose texts begin at this rank. But for texts that
-- meet, that leaves a document, of fewer than 2^63 nodes.
pub record MayComeBefore (s : Store) (t : Tree) (n rank : ℕ) (F : List Tree) (c : Coded) : Type 0 where
  pub leaves : LeavesDocument t (Insert n F)
  pub small : node_count (placed t (Insert n F)) < 2 ^ 63
  pub rank_is : Some rank ≡ text_rank_at t n
  pub code : IsCodeOf s.names F c.body
  pub texts_are : c.texts ≡ texts_all (trees F)
