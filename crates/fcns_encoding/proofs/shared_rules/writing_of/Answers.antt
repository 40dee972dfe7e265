use Rattle.std.proofs.Common.{◌≡◌, ◌<◌, ◌-◌, ◌+◌, ap, ◌∙◌, length, Some, arith}
use Rattle.fcns_encoding.proofs.CellLemmas.{has_get}
use Rattle.fcns_encoding.proofs.SharingLemmas.{part-zero, stands-call, stands-cell}
use Rattle.fcns_encoding.specs.Sharing.{part_at}
use Rattle.fcns_encoding.proofs.shared_rules.writing_of.Goals as goal

pub returns-in-Some : goal.returns-in-Some
returns-in-Some c =
    let w = c.requires.places in
    let within : c.args.number < length c.args.places.now = omega (arith, c.requires.there, c.requires.len) in
    stands-call c.args.table.marks.now c.args.table.cells.now c.requires.earlier w.0 c.args.number c.args.places.now w.2 w.1 c.requires.there c.in-Some.place (has_get c.args.places.now c.args.number _ within ∙ ap Some c.in-Some.is)

pub returns-in-0 : goal.returns-in-0
returns-in-0 c = ap (part_at c.args.table.marks.now c.args.table.cells.now) c.in-0.is ∙ part-zero c.args.table.marks.now c.args.table.cells.now

pub returns-in_default : goal.returns-in_default
returns-in_default c =
    let w = c.requires.places in
    let within : c.args.number < length c.args.places.now = omega (arith, c.requires.there, c.requires.len) in
    let some : c.args.number - 1 < length c.args.table.cells.now = omega (arith, c.requires.there, c.in_default) in
    let n : c.args.number ≡ c.args.number - 1 + 1 = omega (arith, c.in_default) in
    stands-cell c.args.table.marks.now c.args.table.cells.now c.requires.earlier w.0 c.args.number c.args.places.now w.2 w.1 c.requires.there _ (c.args.number - 1) n (has_get c.args.table.cells.now (c.args.number - 1) _ some)
    (has_get c.args.places.now c.args.number _ within ∙ ap Some c.in-None.is)
