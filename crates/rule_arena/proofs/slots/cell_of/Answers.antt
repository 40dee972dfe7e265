use Rattle.std.proofs.Common.{IsSome, rules}
use Rattle.slab.specs.Slab.{get}
use Rattle.rule_arena.proofs.SeenLemmas.{raw_some, seen-some, read_is}
use Rattle.rule_arena.proofs.slots.cell_of.Goals as goal

pub unwrap-requires : goal.unwrap-requires
unwrap-requires c =
    let there : IsSome (get c.args.slots.now c.number.result) = rw c.number.ensures (raw_some c.args.slots.now c.args.key.number c.requires) in
    search rules

pub returns-clause-cell : goal.returns-clause-cell
returns-clause-cell c =
    seen-some c.args.slots.now c.args.key.number c.unwrap.result.now
    (read_is c.args.slots.now c.args.key.number c.number.result c.get.result c.unwrap.result c.number.ensures c.get.ensures c.unwrap.ensures)
