use Rattle.std.proofs.Common.{◌≡◌, ◌+◌, ◌≤◌, ◌++◌, ◌∷◌, [], None, length, reverse}
use Rattle.slt_grammar.specs.Bodies.{params}
use Rattle.slt_grammar.specs.Grammars.{body_at}
use Rattle.slt_grammar.specs.Keyed.{rules_of}
use Rattle.border_repair.specs.Rims.{rim_at}
use Rattle.border_repair.specs.Weighing.{borders_from}
use Rattle.border_repair.proofs.rims.add_borders.Given as goal

abbrev pub invariant-labels : goal.invariant-labels
invariant-labels g l = record {
  done : borders_from (rim_at l.rims) (None ∷ []) (body_at (rules_of l.grammar.rules) l.rule) ≡ l.borders.items ++ borders_from (rim_at l.rims) (reverse l.coming.items) l.walk;
  few : length l.borders.items + params l.walk ≤ 8;
}

abbrev pub decreases-labels : goal.decreases-labels
decreases-labels g l = length l.walk
