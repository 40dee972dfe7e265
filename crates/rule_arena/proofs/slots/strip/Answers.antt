use Rattle.std.proofs.Common.{None, ◌∙◌, IsSome, rules, refl, ap}
use Rattle.slab.specs.Slab.{Slab, get}
use Rattle.rule_arena.specs.Changing.{bare}
use Rattle.rule_arena.specs.Linked.{Raw}
use Rattle.rule_arena.specs.Siblings.{seen}
use Rattle.rule_arena.proofs.SeenLemmas.{raw_some, write_is, seen-write}
use Rattle.rule_arena.proofs.slots.strip.Goals as goal

pub unwrap-cell-requires : goal.unwrap-cell-requires
unwrap-cell-requires c =
    let there : IsSome (get c.args.slots.now c.number.result) = rw c.number.ensures (raw_some c.args.slots.now c.args.key.number c.requires) in
    search rules

pub returns : goal.returns
returns c =
    let f : Raw → Raw = λ r. record r { parent = None; count = 0 } in
    ap (λ (s : Slab Raw). seen s) (write_is c.args.slots.now c.args.key.number c.number.result c.get_mut.result c.unwrap-cell.result c.strip.new.self f c.number.ensures c.get_mut.ensures.value c.unwrap-cell.ensures c.strip.ensures)
    ∙ seen-write c.args.slots.now c.args.key.number f bare (λ r. refl) (λ r e. refl) c.requires
