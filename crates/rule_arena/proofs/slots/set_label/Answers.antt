use Rattle.std.proofs.Common.{◌∙◌, IsSome, rules, refl, ap}
use Rattle.slab.specs.Slab.{Slab, get}
use Rattle.rule_arena.specs.Changing.{labelled_cell}
use Rattle.rule_arena.specs.Linked.{Raw}
use Rattle.rule_arena.specs.Siblings.{seen}
use Rattle.rule_arena.proofs.SeenLemmas.{raw_some, write_is, seen-write}
use Rattle.rule_arena.proofs.slots.set_label.Goals as goal

pub unwrap-cell-requires : goal.unwrap-cell-requires
unwrap-cell-requires c =
    let there : IsSome (get c.args.slots.now c.number.result) = rw c.number.ensures (raw_some c.args.slots.now c.args.key.number c.requires) in
    search rules

pub returns : goal.returns
returns c =
    let f : Raw → Raw = λ r. record r { label = c.args.label } in
    ap (λ (s : Slab Raw). seen s) (write_is c.args.slots.now c.args.key.number c.number.result c.get_mut.result c.unwrap-cell.result c.set_label.new.self f c.number.ensures c.get_mut.ensures.value c.unwrap-cell.ensures c.set_label.ensures)
    ∙ seen-write c.args.slots.now c.args.key.number f (labelled_cell c.args.label) (λ r. refl) (λ r e. refl) c.requires
