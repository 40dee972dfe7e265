use Rattle.std.proofs.Common.{◌≡◌, ◌+◌, length, take}
use Rattle.slt_grammar.specs.RulePuts.{AreNewParams}
use Rattle.slt_grammar.proofs.add_rule.add_params.Given as goal

abbrev pub invariant-loop-i : goal.invariant-loop-i
invariant-loop-i l = record {
  params : AreNewParams l.initial.arena l.arena (take l.i l.keys);
  spare : l.arena.spare + l.i ≡ l.initial.arena.spare;
  limit : l.arena.limit ≡ l.initial.arena.limit;
  len : length l.keys ≡ length l.initial.keys;
}
