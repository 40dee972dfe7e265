use Rattle.std.proofs.Common.{◌≤◌, arith}
use Rattle.std.specs.Prelude.{Bool, true, false}
use mir.Val.{bool_byte}
use Rattle.content_models.proofs.Bits.{rest-below}
use Rattle.content_models.proofs.marking.next_bits.Goals as goal

byte-small : (b : Bool) → bool_byte b ≤ 1
byte-small true = omega arith
byte-small false = omega arith

pub overflow_mul-bits : goal.overflow_mul-bits
overflow_mul-bits c = let h = rest-below c.args.sets.now c.args.ended c.args.row.now c.loop-left.left c.requires (omega arith) in omega (arith, h, c.loop-left.invariant.1)

pub overflow_add-bits : goal.overflow_add-bits
overflow_add-bits c = let h = rest-below c.args.sets.now c.args.ended c.args.row.now c.loop-left.left c.requires (omega arith) in omega (arith, h, c.loop-left.invariant.1, byte-small c.goes_on.result)
