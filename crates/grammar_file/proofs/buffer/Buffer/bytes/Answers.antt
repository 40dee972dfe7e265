use Rattle.std.proofs.Common.{◌≡◌, [], ap, ◌∙◌, arith, refl}
use Rattle.std.specs.Prelude.{Ok}
use Rattle.arrayvec.specs.ArrayVec.{ArrayVec}
use Rattle.tree_outside.specs.declared.traits.Failed.{Failed}
use Rattle.grammar_file.specs.Buffers.{Puts}
use Rattle.grammar_file.specs.BufferOf.{seen, held_of}
use Rattle.grammar_file.proofs.Putting.{puts_nothing, puts_then, puts_written}
use Rattle.grammar_file.proofs.buffer.Buffer.bytes.Goals as goal
use Rattle.grammar_file.proofs.buffer.Buffer.bytes.Goals.{then-remaining_capacity-bytes+in_ok-flush, else-remaining_capacity-bytes}

-- what doesn't fit once there is room is written with nothing held
pub returns-in-Err : goal.returns-in-Err
returns-in-Err g c =
    let a = seen g.K.Sink c.args.self.now in
    let now = c.if-remaining_capacity-bytes.self in
    let room : Puts {E = Failed} a (seen g.K.Sink now) (Ok tt) [] = elim c.if-remaining_capacity-bytes.branch [
      | then-remaining_capacity-bytes+in_ok-flush w ↦ rw w.self-is w.in_ok-flush.ensures.puts
      | else-remaining_capacity-bytes w ↦ rw w.self-is (puts_nothing a)
    ] in
    let empty : held_of now ≡ [] = elim c.if-remaining_capacity-bytes.branch [
      | then-remaining_capacity-bytes+in_ok-flush w ↦ rw w.self-is w.in_ok-flush.ensures.empty
      | else-remaining_capacity-bytes w ↦ let fits = c.in-Err.ensures.variant.1 (rw w.self-is (omega (arith, w.if-remaining_capacity-bytes.false, c.remaining_capacity.ensures))) in cc
    ] in
    puts_then a (seen g.K.Sink now) _ c.write.result [] c.args.bytes.now room
    (puts_written (seen g.K.Sink now) _ c.write.result c.args.bytes.now empty (ap (λ (v : ArrayVec _). v.items) c.in-Err.ensures.err ∙ empty) c.write.ensures.content
    (λ fits. omega (arith, c.add.ensures)) c.write.ensures.kept c.write.ensures.lost c.write.ensures.cause refl)
