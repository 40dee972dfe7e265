use Rattle.std.proofs.Common.{◌≡◌, take}
use Rattle.slt_grammar.proofs.reading.children.Given as goal

abbrev pub invariant-loop-i : goal.invariant-loop-i
invariant-loop-i l = take l.i l.keys ≡ take l.i l.item.kids
