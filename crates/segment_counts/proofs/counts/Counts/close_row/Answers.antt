use Rattle.std.proofs.Common.{◌<◌, arith, ap, length, ◌∙◌}
use Rattle.segment_counts.specs.Counting.{CountTable}
use Rattle.std.proofs.lemmas.List.Edits.{length-remove}
use Rattle.segment_counts.proofs.Cuts.{room-is, table-length}
use Rattle.segment_counts.proofs.RowMoves.{closed-room, closed-rows}
use Rattle.segment_counts.proofs.counts.Counts.close_row.Goals as goal

pub invariant_of-self : goal.invariant_of-self
invariant_of-self c =
    let h : c.args.rule < length c.self.inside.ends.items = omega (arith, c.requires.rule, ap (λ (K : CountTable). K.rules) c.self.view_is) in
    rw c.remove.ensures.items (closed-room c.self.inside.segments.items c.self.inside.ends.items c.args.rule _ _ c.self.inside.room c.self.invariant h c.args.self.now c.self.view_is c.requires.empty _ (omega (arith, c.remove.ensures.capacity)))

pub returns-clause-rows : goal.returns-clause-rows
returns-clause-rows c =
    let h : c.args.rule < length c.self.inside.ends.items = omega (arith, c.requires.rule, ap (λ (K : CountTable). K.rules) c.self.view_is) in
    rw c.remove.ensures.items (closed-rows c.self.inside.segments.items c.self.inside.ends.items c.args.rule _ _ c.self.inside.room c.self.invariant h c.args.self.now c.self.view_is c.requires.empty)

pub returns-clause-room : goal.returns-clause-room
returns-clause-room c =
    let h : c.args.rule < length c.self.inside.ends.items = omega (arith, c.requires.rule, ap (λ (K : CountTable). K.rules) c.self.view_is) in
    rw c.remove.ensures.items (table-length c.self.inside.segments.items _ c.self.inside.room (omega (arith, length-remove c.self.inside.ends.items c.args.rule h, c.self.invariant.within)) ∙ room-is _ _ _ _ _ c.self.invariant c.args.self.now c.self.view_is)
