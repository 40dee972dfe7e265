use Rattle.std.proofs.Common.{◌≡◌, ◌<◌, ◌+◌, ap, ◌∙◌, length, get_or, arith}
use Rattle.fcns_encoding.proofs.CellLemmas.{has_get, get_is}
use Rattle.fcns_encoding.proofs.MarkLemmas.{marked-more, written-length}
use Rattle.fcns_encoding.specs.Marks.{used_by, times, capped}
use Rattle.fcns_encoding.specs.declared.subterms.Cell.{Cell}
use Rattle.fcns_encoding.proofs.marks.marks_with.Goals as goal

-- where no cell is
abbrev blank : Cell
blank = record { symbol = 0; first = 0; second = 0 }

pub labels_of-labels-requires-clause-first : goal.labels_of-labels-requires-clause-first
labels_of-labels-requires-clause-first c =
    let cell = has_get c.args.cells.now c.loop-at.at blank c.loop-at-test.true in
    omega (arith, (c.requires.earlier c.loop-at.at _ cell).0, written-length c.args.sharing _ c.args.cells.now c.loop-at.at _ _ _ cell c.loop-at.invariant, ap length c.as_slice.ensures.value)

pub labels_of-labels-requires-clause-second : goal.labels_of-labels-requires-clause-second
labels_of-labels-requires-clause-second c =
    let cell = has_get c.args.cells.now c.loop-at.at blank c.loop-at-test.true in
    omega (arith, (c.requires.earlier c.loop-at.at _ cell).1, written-length c.args.sharing _ c.args.cells.now c.loop-at.at _ _ _ cell c.loop-at.invariant, ap length c.as_slice.ensures.value)

pub loop-at-preserved : goal.loop-at-preserved
loop-at-preserved c =
    let cell = has_get c.args.cells.now c.loop-at.at blank c.loop-at-test.true in
    let there : c.loop-at.at + 1 < length c.args.uses.now = omega (arith, c.loop-at-test.true, c.requires.len) in
    let uses : get_or c.args.uses.now (c.loop-at.at + 1) 0 ≡ capped (times (c.loop-at.at + 1) (used_by c.args.cells.now)) = get_is c.args.uses.now (c.loop-at.at + 1) _ 0 (c.requires.counted (c.loop-at.at + 1) there) in
    let labels = c.labels_of-labels.ensures _ (c.as_slice.ensures.value ∙ c.loop-at.invariant.written_are) in
    marked-more c.args.sharing _ c.args.cells.now c.loop-at.at _ _ _ _ _ c.shares-shared.result c.labels_of-labels.result c.labels_where.result cell c.loop-at.invariant (labels, c.shares-shared.ensures _ _ uses labels) c.labels_where.ensures c.in_ok-push-3.ensures.items
    c.in_ok-push-4.ensures.items
