-- Stores in whose grammar a node came before itself, before its texts and nodes are counted.
use Rattle.std.proofs.Common.{◌≡◌, ℕ, ◌-◌, ◌<◌, List, [], ◌∷◌, length}
use Rattle.plain_tree.specs.Tree.{Tree, node_count}
use Rattle.rule_arena.specs.declared.label.Label.{Label}
use Rattle.rule_arena.specs.declared.label.Label.TheVariants.{Bottom}
use Rattle.slt_grammar.specs.Grammars.{IsGrammar, value_at}
use Rattle.slt_grammar.specs.Keyed.{Keyed, rules_of}
use Rattle.slt_grammar.specs.RuleValues.{HaveOtherValues}
use Rattle.slt_grammar.specs.Terms.{Node, Hole}
use Rattle.digram_index.specs.Linked.{IsIndexOf, Linked}
use Rattle.segment_counts.specs.Changes.{IsWeighed}
use Rattle.segment_counts.specs.Counting.{AreCounts, CountTable}
use Rattle.preorder_address.specs.Spots.{IsSpot}
use Rattle.preorder_address.specs.declared.spot.Spot.{Spot}
use Rattle.tree_updates.specs.Copies.{HasUncountedCopy, IsTwinBody, MayCopy, SharesBelow}
use Rattle.tree_updates.specs.Extents.{IsUnsweptFor}
use Rattle.tree_updates.specs.Fragments.{GetsBefore, IsCodeOf}
use Rattle.tree_updates.specs.declared.node_extent.Extent.{Extent}
use Rattle.tree_updates.specs.declared.store.Store.{Store}
use Rattle.tree_updates.proofs.CopiedCodes.{alone-code, over-codes, rule-weighs, shared-stands}
use Rattle.tree_updates.proofs.NodeExtents.{extent-low}

module _ (a : Store) (t : Tree) (u : IsUnsweptFor a t) (n : ℕ) (x : Extent) (M : MayCopy t n x) (s : Spot) (S : IsSpot a.names a.grammar.rules n s) (H : Keyed) (I : Linked) (index : IsIndexOf H I) where
  low : n < node_count t
  low = extent-low t n x M.extent

  -- where nothing is below the node
  module _ (alone : x.nodes ≡ 1) (body : List Label) (twin : IsTwinBody s.symbol Bottom body) where
    pub twin-code : IsCodeOf a.names (M.extent.here ∷ []) body
    twin-code = alone-code a.grammar.rules a.names a.texts.texts t u.stand n low x M s S alone body twin

    pub alone-uncounted : IsGrammar (rules_of a.grammar.rules) → GetsBefore (rules_of a.grammar.rules) (rules_of H.rules) n twin-code.front → HaveOtherValues (length (rules_of a.grammar.rules) - 1) (rules_of a.grammar.rules) (rules_of H.rules)
        → HasUncountedCopy (record { grammar = H; names = a.names; texts = a.texts; counts = a.counts; index = I; marks = a.marks }) t n x
    alone-uncounted lawful gets others = record {
      may = M;
      before = rules_of a.grammar.rules;
      lawful = lawful;
      stand = u.stand;
      counts = u.counts;
      front = twin-code.front;
      codes = twin-code.codes;
      gets = gets;
      others = others;
      index = index;
    }

  -- where what is below it became a rule
  pub whole-uncounted : (rule : ℕ) (X : SharesBelow (rules_of a.grammar.rules) (rules_of H.rules) rule n s.symbol) → 1 < x.nodes → (C : CountTable) → (IsWeighed a.names (value_at X.shared rule) (x.nodes - 1) x.texts → AreCounts a.names X.shared C)
      → HasUncountedCopy (record { grammar = H; names = a.names; texts = a.texts; counts = C; index = I; marks = a.marks }) t n x
  whole-uncounted rule X some C counted = record {
    may = M;
    before = X.shared;
    lawful = X.lawful;
    stand = shared-stands a.grammar.rules a.names a.texts.texts t u.stand n low x M s S (rules_of H.rules) rule X;
    counts = counted (rule-weighs a.grammar.rules a.names a.texts.texts t u.stand n low x M s S (rules_of H.rules) rule X some);
    front = Node s.symbol (value_at X.shared rule) (Hole 0);
    codes = over-codes a.grammar.rules a.names a.texts.texts t u.stand n low x M s S (rules_of H.rules) rule X;
    gets = X.gets;
    others = X.others;
    index = index;
  }
