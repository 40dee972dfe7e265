-- Nodes that come once more before themselves, with all below them.
use Rattle.std.specs.Prelude.{◌≡◌, ℕ, ◌-◌, ◌<◌, ◌^◌, List, [], ◌∷◌, length}
use Rattle.plain_tree.specs.declared.edit.Edit.TheVariants.{Copy}
use Rattle.plain_tree.specs.Edits.{placed}
use Rattle.plain_tree.specs.Tree.{Tree, trees, node_count}
use Rattle.rule_arena.specs.declared.label.Label.{Label}
use Rattle.rule_arena.specs.declared.label.Label.TheVariants.{Symbol, Param}
use Rattle.slt_grammar.specs.Coding.{CodesTo}
use Rattle.slt_grammar.specs.Grammars.{IsGrammar, value, value_at}
use Rattle.slt_grammar.specs.Keyed.{rules_of}
use Rattle.slt_grammar.specs.RuleValues.{HasRuleMore, HaveOtherValues}
use Rattle.slt_grammar.specs.Standing.{StandsFor}
use Rattle.slt_grammar.specs.Terms.{Term, Node, Hole}
use Rattle.slt_grammar.specs.declared.rules.Rule.{Rule}
use Rattle.digram_index.specs.Linked.{IsIndexOf}
use Rattle.segment_counts.specs.Counting.{AreCounts}
use Rattle.tree_updates.specs.Extents.{IsExtentOf, LeavesDocument}
use Rattle.tree_updates.specs.Fragments.{GetsBefore}
use Rattle.tree_updates.specs.declared.node_extent.Extent.{Extent}
use Rattle.tree_updates.specs.declared.store.Store.{Store}

-- Node n has this extent. But for texts that meet, its copy leaves a document, of fewer than 2^63 nodes.
pub record MayCopy (t : Tree) (n : ℕ) (e : Extent) : Type 0 where
  pub leaves : LeavesDocument t (Copy n)
  pub small : node_count (placed t (Copy n)) < 2 ^ 63
  pub extent : IsExtentOf t n e

-- a symbol over a child, with a parameter where others follow
abbrev pub IsTwinBody : ℕ → Label → List Label → Type 0
IsTwinBody symbol child body = body ≡ Symbol symbol ∷ child ∷ Param ∷ []

-- What is below the node with this number became a rule of its own, at this place. Then a node with this symbol came before that node, over the
-- same rule.
pub record SharesBelow (G H : List Rule) (rule number symbol : ℕ) : Type 0 where
  pub shared : List Rule
  pub lawful : IsGrammar shared
  pub more : HasRuleMore rule G shared
  pub same : value shared ≡ value G
  pub others : HaveOtherValues (length shared - 1) shared H
  pub gets : GetsBefore shared H number (Node symbol (value_at shared rule) (Hole 0))
  pub left_is : gets.left ≡ value_at shared rule

-- In the store's grammar an equal node came before node n of the document, which has this extent. Its texts and counts are those of the rules
-- before.
pub record HasUncountedCopy (s : Store) (t : Tree) (n : ℕ) (e : Extent) : Type 0 where
  pub may : MayCopy t n e
  pub before : List Rule
  pub lawful : IsGrammar before
  pub stand : StandsFor before s.names s.texts.texts t
  pub counts : AreCounts s.names before s.counts
  pub front : Term
  pub codes : CodesTo s.names (Hole 0) (trees (may.extent.here ∷ [])) front
  pub gets : GetsBefore before (rules_of s.grammar.rules) n front
  pub others : HaveOtherValues (length before - 1) before (rules_of s.grammar.rules)
  pub index : IsIndexOf s.grammar s.index
