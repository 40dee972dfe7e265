use Rattle.std.proofs.Common.{◌≡◌, ◌+◌, ◌*◌, ◌-◌, ◌<◌, ◌^◌, ℕ, length, min, slice_index}
use Rattle.slt_grammar.specs.Bodies.{calls_in}
use Rattle.slt_grammar.specs.Grammars.{body_at}
use Rattle.slt_grammar.specs.Keyed.{rules_of}
use Rattle.border_repair.proofs.uses.add_uses.Given as goal

abbrev pub invariant-labels : goal.invariant-labels
invariant-labels g l = record {
  used : (q : ℕ) → q < length l.uses
      → min (slice_index l.initial.uses q + l.times * calls_in q (body_at (rules_of l.grammar.rules) l.rule)) (2 ^ 64 - 1) ≡ min (slice_index l.uses q + l.times * calls_in q l.walk) (2 ^ 64 - 1);
  fits : (q : ℕ) → slice_index l.uses q < 2 ^ 64;
}

abbrev pub decreases-labels : goal.decreases-labels
decreases-labels g l = length l.walk
