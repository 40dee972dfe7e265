-- Rules that are used again.
use Rattle.std.specs.Prelude.{◌+◌, ◌<◌, ℕ, List, length}
use Rattle.rule_arena.specs.declared.key.Key.{Key}
use Rattle.slt_grammar.specs.Calling.{BeginsWith}
use Rattle.slt_grammar.specs.Keyed.{KeyedRule}
use Rattle.slt_grammar.specs.KeyedEdits.{Stands}

-- no rule but the start, and the term at a node begins with its body, if the node stands behind it
pub record BeginsWithin (G : List KeyedRule) (at : Key) (rule : ℕ) (arguments : List Key) : Type 0 where
  pub before : rule + 1 < length G
  pub begins : (S : Stands G at) → rule < S.rule → BeginsWith G at rule arguments
