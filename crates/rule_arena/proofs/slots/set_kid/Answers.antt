use Rattle.std.proofs.Common.{◌∙◌, sym, ap}
use Rattle.rule_arena.specs.Siblings.{after}
use Rattle.rule_arena.proofs.KidWrites.{old_there, kid_there, up_there1, steps_there1, done}
use Rattle.rule_arena.proofs.slots.set_kid.Goals as goal

pub cell_of-requires : goal.cell_of-requires
cell_of-requires c =
    old_there c.args.slots.now c.requires.tied c.args.key c.args.kid c.args.old c.args.at c.requires.child c.requires.root c.requires.apart

pub set_next-requires : goal.set_next-requires
set_next-requires c =
    kid_there c.args.slots.now c.requires.tied c.args.key c.args.kid c.args.old c.args.at c.requires.child c.requires.root c.requires.apart

pub lead-requires-clause-there : goal.lead-requires-clause-there
lead-requires-clause-there c =
    up_there1 c.args.slots.now c.requires.tied c.args.key c.args.kid c.args.old c.args.at c.requires.child c.requires.root c.requires.apart c.next-next.result (c.next-next.ensures ∙ sym (ap after c.cell_of.ensures.raw)) c.set_next.new.slots c.set_next.ensures

pub lead-requires-clause-before : goal.lead-requires-clause-before
lead-requires-clause-before c =
    steps_there1 c.args.slots.now c.requires.tied c.args.key c.args.kid c.args.old c.args.at c.requires.child c.requires.root c.requires.apart c.next-next.result (c.next-next.ensures ∙ sym (ap after c.cell_of.ensures.raw)) c.set_next.new.slots c.set_next.ensures

pub returns : goal.returns
returns c =
    done c.args.slots.now c.requires.tied c.args.key c.args.kid c.args.old c.args.at c.requires.child c.requires.root c.requires.apart c.next-next.result (c.next-next.ensures ∙ sym (ap after c.cell_of.ensures.raw)) c.set_next.new.slots c.set_next.ensures c.lead.new.slots c.lead.ensures
