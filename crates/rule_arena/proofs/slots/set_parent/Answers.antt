use Rattle.std.proofs.Common.{◌∙◌, IsSome, rules, refl, ap}
use Rattle.slab.specs.Slab.{Slab, get}
use Rattle.rule_arena.specs.Changing.{hung}
use Rattle.rule_arena.specs.Linked.{Raw}
use Rattle.rule_arena.specs.Siblings.{seen}
use Rattle.rule_arena.proofs.SeenLemmas.{raw_some, write_is, seen-write}
use Rattle.rule_arena.proofs.slots.set_parent.Goals as goal

pub unwrap-cell-requires : goal.unwrap-cell-requires
unwrap-cell-requires c =
    let there : IsSome (get c.args.slots.now c.number.result) = rw c.number.ensures (raw_some c.args.slots.now c.args.key.number c.requires.there) in
    search rules

pub returns : goal.returns
returns c =
    let f : Raw → Raw = λ r. record r { parent = c.args.parent } in
    ap (λ (s : Slab Raw). seen s) (write_is c.args.slots.now c.args.key.number c.number.result c.get_mut.result c.unwrap-cell.result c.set_parent.new.self f c.number.ensures c.get_mut.ensures.value c.unwrap-cell.ensures c.set_parent.ensures)
    ∙ seen-write c.args.slots.now c.args.key.number f (hung c.args.parent) (λ r. refl) (λ r e. refl) c.requires.there
