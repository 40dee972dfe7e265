-- Digrams, and where they occur in a grammar.
use Rattle.std.specs.Prelude.{◌≡◌, ◌+◌, ◌-◌, ℕ, List, [], ◌∷◌, get_or, slice_get, Option, Some, None}
use Rattle.rule_arena.specs.Preorder.{parents}
use Rattle.rule_arena.specs.Terms.{Node, kids_of}
use Rattle.rule_arena.specs.declared.key.Key.{Key}
use Rattle.rule_arena.specs.declared.label.Label.{Label}
use Rattle.rule_arena.specs.declared.label.Label.TheVariants.{Param}
use Rattle.slt_grammar.specs.Algebras.{ranks_of}
use Rattle.slt_grammar.specs.Bodies.{arity}
use Rattle.slt_grammar.specs.Keyed.{KeyedRule, rules_of, nodes_at, key_at}
use Rattle.slt_grammar.specs.declared.digram.Digram.{Digram}

-- an occurrence of a digram, without its lower node: the digram with its rank, and the number of the upper node
pub record Cell : Type 0 where
  pub digram : Digram
  pub rank : ℕ
  pub upper : ℕ

-- the node above the node at a place, with the place under it from 1 on
abbrev pub parent_node : List Node → ℕ → Option (Node × ℕ)
parent_node ns p = get_or (parents kids_of (λ n. n) (None ∷ []) ns) p None

-- the rank of a digram of these labels
abbrev pub joint_rank : List ℕ → Label → Label → ℕ
joint_rank ranks upper lower = arity ranks upper + arity ranks lower - 1

-- a parameter is no lower node
abbrev pub occurrence_under : List ℕ → Node → ℕ → Label → Option Cell
occurrence_under ranks up c Param = None
occurrence_under ranks up c lower = Some (record {
  digram = record { upper = up.label; place = c; lower = lower };
  rank = joint_rank ranks up.label lower;
  upper = up.key.number;
})

abbrev pub occurrence_below : List ℕ → Option (Node × ℕ) → Option Node → Option Cell
occurrence_below ranks None n = None
occurrence_below ranks (Some u) None = None
occurrence_below ranks (Some u) (Some n) = occurrence_under ranks u.0 u.1 n.label

-- the occurrence whose lower node stands at a place of a rule, if there is one: a root and a parameter are no lower nodes
abbrev pub occurrence_at : List KeyedRule → ℕ → ℕ → Option Cell
occurrence_at G r p = occurrence_below (ranks_of (rules_of G)) (parent_node (nodes_at G r) p) (slice_get (nodes_at G r) p)

-- a node is the lower node of an occurrence
pub record OccursAt (G : List KeyedRule) (lower : Key) (o : Cell) : Type 0 where
  pub rule : ℕ
  pub place : ℕ
  pub there : key_at G rule place ≡ Some lower
  pub here : occurrence_at G rule place ≡ Some o
