use Rattle.std.proofs.Common.{arith, sym}
use Rattle.rule_arena.proofs.RoomLemmas.{room-seen, room-past}
use Rattle.rule_arena.proofs.arena.room_in.Goals as goal

pub returns-then-capacity-gt-MOST_NODES : goal.returns-then-capacity-gt-MOST_NODES
returns-then-capacity-gt-MOST_NODES c = sym (room-past c.args.slots.now (omega (arith, c.if-capacity-gt-MOST_NODES.true, c.capacity-capacity.ensures.value)))

pub returns-else-capacity-gt-MOST_NODES : goal.returns-else-capacity-gt-MOST_NODES
returns-else-capacity-gt-MOST_NODES c =
    omega (arith, room-seen c.args.slots.now (omega (arith, c.if-capacity-gt-MOST_NODES.false, c.capacity-capacity.ensures.value)), c.capacity-capacity.ensures.value, c.len.ensures)
