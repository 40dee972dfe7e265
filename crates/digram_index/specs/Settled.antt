-- Occurrences that share no node.
use Rattle.std.specs.Prelude.{◌≡◌, ◌≢◌, ◌≤◌, ℕ, List, [], ◌∷◌, length}
use Rattle.rule_arena.specs.declared.key.Key.{Key}
use Rattle.slt_grammar.specs.Algebras.{ranks_of}
use Rattle.slt_grammar.specs.Digrams.{Occurrence, Occurs, AreDisjoint}
use Rattle.slt_grammar.specs.Keyed.{KeyedRule, rules_of}
use Rattle.slt_grammar.specs.declared.digram.Digram.{Digram}
use Rattle.slt_grammar.specs.declared.rules.Rule.{Rule}
use Rattle.digram_index.specs.Digrams.{Cell, OccursAt, joint_rank}

-- the numbers of an occurrence's two nodes
pub record NodePair : Type 0 where
  pub low : ℕ
  pub high : ℕ

-- the digram occurs at these nodes
pub record OccursBetween (G : List KeyedRule) (d : Digram) (n : NodePair) : Type 0 where
  pub key : Key
  pub occurrence : Cell
  pub at : OccursAt G key occurrence
  pub low : key.number ≡ n.low
  pub high : occurrence.upper ≡ n.high
  pub digram : occurrence.digram ≡ d

-- they share no node
pub record PairsShareNone (a b : NodePair) : Type 0 where
  pub lows : a.low ≢ b.low
  pub highs : a.high ≢ b.high
  pub down : a.low ≢ b.high
  pub back : a.high ≢ b.low

-- a pair shares a node with none of others
abbrev pub SharesNone : NodePair → List NodePair → Type 0
SharesNone a [] = Unit {0}
SharesNone a (b ∷ bs) = PairsShareNone a b × SharesNone a bs

-- the digram occurs at all these pairs, and no two of them share a node
abbrev pub OccurApart : List KeyedRule → Digram → List NodePair → Type 0
OccurApart G d [] = Unit {0}
OccurApart G d (n ∷ ns) = OccursBetween G d n × (SharesNone n ns × OccurApart G d ns)

-- so many occurrences of the digram share no node
abbrev pub HasApart : List KeyedRule → Digram → ℕ → Type 0
HasApart G d least = (ns : List NodePair) × (OccurApart G d ns × (least ≤ length ns))

-- two occurrences of a digram share no node, in rules without keys
pub record HasTwoDisjoint (G : List Rule) (d : Digram) : Type 0 where
  pub first : Occurrence
  pub second : Occurrence
  pub occurs_first : Occurs G d first
  pub occurs_second : Occurs G d second
  pub first_second : AreDisjoint first second

-- the digram's rank is within the bound
abbrev pub IsWithin : List KeyedRule → ℕ → Digram → Type 0
IsWithin G bound d = joint_rank (ranks_of (rules_of G)) d.upper d.lower ≤ bound
