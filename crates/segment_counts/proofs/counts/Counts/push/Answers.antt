use Rattle.std.proofs.Common.{◌+◌, length, ap, arith}
use Rattle.std.specs.Prelude.{vec_capacity}
use Rattle.segment_counts.proofs.Cuts.{cut-narrow, free-is, pushed-room, pushed-rows}
use Rattle.segment_counts.proofs.counts.Counts.push.Goals as goal

pub unwrap-requires : goal.unwrap-requires
unwrap-requires c =
    let h = c.self.invariant in
    let free = free-is _ _ _ _ _ h c.args.self.now c.self.view_is c.requires.room in
    c.extend_from_slice.ensures.succeeds (omega (arith, c.self.inside.segments.ok.0, cut-narrow _ _ _ h.cut, h.places, free, c.requires.width))

pub overflow_cast-end : goal.overflow_cast-end
overflow_cast-end c =
    let h = c.self.invariant in
    let free = free-is _ _ _ _ _ h c.args.self.now c.self.view_is c.requires.room in
    omega (arith, ap length c.as_slice.ensures.value, cut-narrow _ _ _ h.cut, h.small, free, c.requires.width)

pub push_reserved-requires : goal.push_reserved-requires
push_reserved-requires c =
    let h = c.self.invariant in
    let free = free-is _ _ _ _ _ h c.args.self.now c.self.view_is c.requires.room in
    omega (arith, c.self.inside.ends.ok.0, h.end_places, free)

pub invariant_of-self : goal.invariant_of-self
invariant_of-self c =
    let h = c.self.invariant in
    let free = free-is _ _ _ _ _ h c.args.self.now c.self.view_is c.requires.room in
    pushed-room _ _ c.args.row.now _ _ (length c.as_slice.result.now + length c.args.row.now) _ _ _ (vec_capacity c.push_reserved.new.self) _ h free c.requires.width
    (rw c.unwrap.ensures at c.extend_from_slice.ensures.items) (omega (arith, ap length c.as_slice.ensures.value)) c.push_reserved.ensures.items c.extend_from_slice.ensures.capacity (omega (arith, c.push_reserved.ensures.capacity))

pub returns-clause-rows : goal.returns-clause-rows
returns-clause-rows c =
    let h = c.self.invariant in
    let free = free-is _ _ _ _ _ h c.args.self.now c.self.view_is c.requires.room in
    pushed-rows _ _ c.args.row.now _ _ (length c.as_slice.result.now + length c.args.row.now) _ _ _ (vec_capacity c.push_reserved.new.self) _ h free c.requires.width
    (rw c.unwrap.ensures at c.extend_from_slice.ensures.items) (omega (arith, ap length c.as_slice.ensures.value)) c.push_reserved.ensures.items c.extend_from_slice.ensures.capacity (omega (arith, c.push_reserved.ensures.capacity))
    c.args.self.now c.self.view_is
