use Rattle.std.proofs.Common.{◌≡◌, ◌<◌, ℕ, length}
use Rattle.slt_grammar.specs.Grammars.{body_at}
use Rattle.slt_grammar.specs.Keyed.{rules_of}
use Rattle.border_repair.specs.Rims.{rim_at}
use Rattle.border_repair.specs.Weighing.{rim_of}
use Rattle.border_repair.proofs.rims.add_rims.Given as goal

-- the rims of the rules so far
abbrev pub invariant-loop-rule : goal.invariant-loop-rule
invariant-loop-rule g l = record {
  many : length l.rims.items ≡ l.rule;
  each : (r : ℕ) → r < l.rule → rim_at l.rims.items r ≡ rim_of (rim_at l.rims.items) (body_at (rules_of l.grammar.rules) r);
}
