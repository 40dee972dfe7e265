use Rattle.std.proofs.Common.{sym, subst, arith}
use Rattle.fcns_encoding.proofs.CellLemmas.{has_get}
use Rattle.fcns_encoding.proofs.MarkLemmas.{used_by-more}
use Rattle.fcns_encoding.specs.Marks.{AreCounted}
use Rattle.fcns_encoding.specs.declared.subterms.Cell.{Cell}
use Rattle.fcns_encoding.proofs.marks.count_uses.Goals as goal

-- where no cell is
abbrev blank : Cell
blank = record { symbol = 0; first = 0; second = 0 }

pub count_use-requires-in-loop-cell : goal.count_use-requires-in-loop-cell
count_use-requires-in-loop-cell c =
    let low = c.requires.earlier c.loop-cell.cell-index _ (has_get c.args.cells.now c.loop-cell.cell-index blank c.loop-cell-test.true) in
    omega (arith, low.1, c.loop-cell-test.true, c.requires.len, c.loop-cell.auto.uses, c.count_use.auto.uses)

pub loop-cell-preserved : goal.loop-cell-preserved
loop-cell-preserved c =
    let more = used_by-more c.args.cells.now c.loop-cell.cell-index _ (has_get c.args.cells.now c.loop-cell.cell-index _ c.loop-cell-test.true) in
    subst (λ ks. AreCounted ks c.count_use-in-loop-cell.new.uses) (sym more) (c.count_use-in-loop-cell.ensures _ (c.count_use.ensures _ c.loop-cell.invariant))
