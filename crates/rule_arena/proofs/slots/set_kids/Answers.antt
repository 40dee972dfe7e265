use Rattle.std.proofs.Common.{◌∙◌, IsSome, length, rules, ap}
use Rattle.slab.specs.Slab.{Slab, get}
use Rattle.rule_arena.specs.Changing.{changed}
use Rattle.rule_arena.specs.Linked.{Raw}
use Rattle.rule_arena.specs.Linking.{lined, with_row}
use Rattle.rule_arena.specs.Siblings.{seen}
use Rattle.rule_arena.specs.declared.key.Key.{Key}
use Rattle.rule_arena.proofs.SeenLemmas.{raw_some, lined-some, write_is, seen-kids}
use Rattle.rule_arena.proofs.slots.set_kids.Goals as goal

pub unwrap-cell-requires : goal.unwrap-cell-requires
unwrap-cell-requires c =
    let h = lined-some c.args.slots.now c.args.key 1 c.args.kids.now c.args.key.number (raw_some c.args.slots.now c.args.key.number c.requires.there) in
    let there : IsSome (get c.line_up-first.new.slots c.number.result) = rw (c.line_up-first.ensures.slots, c.number.ensures) h in
    search rules

pub returns : goal.returns
returns c =
    ap (λ (s : Slab Raw). seen s) (write_is c.line_up-first.new.slots c.args.key.number c.number.result c.get_mut.result c.unwrap-cell.result c.set_kids.new.self (with_row c.line_up-first.result (length c.args.kids.now)) c.number.ensures c.get_mut.ensures.value c.unwrap-cell.ensures c.set_kids.ensures)
    ∙ ap (λ (s : Slab Raw). seen (changed s c.args.key.number (with_row c.line_up-first.result (length c.args.kids.now)))) c.line_up-first.ensures.slots
    ∙ ap (λ (k : Key). seen (changed (lined c.args.slots.now c.args.key 1 c.args.kids.now) c.args.key.number (with_row k (length c.args.kids.now)))) c.line_up-first.ensures.first
    ∙ seen-kids c.args.slots.now c.args.key c.args.kids.now c.requires.there c.requires.kids_there c.requires.distinct c.requires.apart c.requires.free
