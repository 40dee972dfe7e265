use Rattle.std.proofs.Common.{sym, ◌∙◌}
use Rattle.xml_tokenizer.proofs.Ending.{came_none, came_step, came_whole, came_dead, came_end}
use Rattle.xml_tokenizer.proofs.scan.end_in.Goals as goal

pub loop-left-init : goal.loop-left-init
loop-left-init c = came_none c.args.from c.args.bytes.now

pub returns-in-empty : goal.returns-in-empty
returns-in-empty c = came_end c.args.from c.args.bytes.now c.loop-left.rest.now c.skip_same-left.result.now c.loop-left.scan c.loop-left.invariant c.skip_same-left.ensures.came c.in-empty.len_below

pub loop-left-preserved : goal.loop-left-preserved
loop-left-preserved c =
    came_step c.args.from c.args.bytes.now c.loop-left.rest.now c.skip_same-left.result.now c.loop-left.scan c.loop-left.invariant c.skip_same-left.ensures.came c.in-On.next
    c.in-len1-up.len_at_least (sym c.in-On.is ∙ c.step_of.ensures)

pub returns-in-Whole : goal.returns-in-Whole
returns-in-Whole c =
    came_whole c.args.from c.args.bytes.now c.loop-left.rest.now c.skip_same-left.result.now c.loop-left.scan c.loop-left.invariant c.skip_same-left.ensures.came
    c.in-len1-up.len_at_least (sym c.in-Whole.is ∙ c.step_of.ensures)

pub returns-in-Dead : goal.returns-in-Dead
returns-in-Dead c =
    came_dead c.args.from c.args.bytes.now c.loop-left.rest.now c.skip_same-left.result.now c.loop-left.scan c.loop-left.invariant c.skip_same-left.ensures.came
    c.in-len1-up.len_at_least (sym c.in-Dead.is ∙ c.step_of.ensures)
