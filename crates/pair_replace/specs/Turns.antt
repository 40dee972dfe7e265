-- The turns in which occurrences are folded.
use Rattle.std.specs.Prelude.{◌≡◌, ◌+◌, ◌-◌, ◌*◌, ◌≤◌, ℕ, [], ◌∷◌, length, Option, IfSome, IfNone}
use Rattle.rule_arena.specs.declared.key.Key.{Key}
use Rattle.slt_grammar.specs.Algebras.{ranks_of}
use Rattle.slt_grammar.specs.Bodies.{calls_in}
use Rattle.slt_grammar.specs.Grammars.{calls_of, size, value_at}
use Rattle.slt_grammar.specs.Keyed.{Keyed, rules_of}
use Rattle.slt_grammar.specs.declared.digram.Digram.{Digram}
use Rattle.digram_index.specs.Keeping.{IsIndexBut}
use Rattle.digram_index.specs.Linked.{Linked}
use Rattle.pair_replace.specs.Chains.{IsHead, IsLinkedAs}
use Rattle.pair_replace.specs.NewRules.{IsNewRule}

-- what holds between two folds
pub record IsRound (g : Keyed) (I : Linked) (d : Digram) (rule : ℕ) (own : Key) (first : Keyed) (count : ℕ) : Type 0 where
  pub index : IsIndexBut g I (λ k. k ≡ own.number)
  pub new : IsNewRule g.rules d rule own
  pub values : (r : ℕ) → value_at (rules_of g.rules) r ≡ value_at (rules_of first.rules) r
  pub many : length g.rules ≡ length first.rules
  pub ranks : ranks_of (rules_of g.rules) ≡ ranks_of (rules_of first.rules)
  pub size_left : size (rules_of g.rules) + count ≡ size (rules_of first.rules)
  pub calls : (r : ℕ) → calls_in r (d.upper ∷ d.lower ∷ []) ≡ 0 → calls_of (rules_of first.rules) r ≤ calls_of (rules_of g.rules) r
  pub called : count ≤ calls_of (rules_of g.rules) rule
  pub room : 1 + 17 * (3 - count) ≤ I.spare_links
  pub cells : g.limit ≤ length I.cells

-- the occurrence to fold next, if there is one
pub record IsTurn (I : Linked) (d : Digram) (next : Option Key) : Type 0 where
  pub some : IfSome next (λ key. IsHead I d key.number)
  pub none : IfNone next ((k : ℕ) → IsLinkedAs I d k → ⊥)
