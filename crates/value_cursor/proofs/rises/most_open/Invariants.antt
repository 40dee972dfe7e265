use Rattle.std.proofs.Common.{◌≡◌, ◌≤◌, length}
use Rattle.std.specs.Prelude.{vec_capacity}
use Rattle.slt_grammar.specs.Keyed.{rules_of}
use Rattle.value_cursor.specs.Rises.{AreRises}
use Rattle.value_cursor.proofs.rises.most_open.Given as goal

abbrev pub invariant-loop-rule : goal.invariant-loop-rule
invariant-loop-rule g l = record {
  rises : AreRises l.rule (rules_of l.grammar.rules) l.rows.items;
  len : length l.rows.items ≡ l.rule;
  room : length l.grammar.rules ≤ vec_capacity l.rows;
}
