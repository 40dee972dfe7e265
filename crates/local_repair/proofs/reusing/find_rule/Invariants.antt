use Rattle.std.proofs.Common.{◌≢◌, IfSome, None}
use Rattle.digram_index.specs.Linked.{cell}
use Rattle.local_repair.proofs.reusing.find_rule.Given as goal

abbrev pub invariant-loop : goal.invariant-loop
invariant-loop l = IfSome l.alike (λ key. cell l.index key.number ≢ None)
