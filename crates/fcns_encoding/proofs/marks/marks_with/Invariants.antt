use Rattle.fcns_encoding.specs.Marks.{used_by}
use Rattle.fcns_encoding.proofs.MarkLemmas.{AreMarked}
use Rattle.fcns_encoding.proofs.marks.marks_with.Given as goal

abbrev pub invariant-loop-at : goal.invariant-loop-at
invariant-loop-at l = AreMarked l.sharing (used_by l.cells) l.cells l.at l.marks.items l.written.items
