use Rattle.std.proofs.Common.{◌∙◌, arith}
use Rattle.segment_counts.proofs.Brought.{end-kept}
use Rattle.segment_counts.proofs.row_moves.keep_from.Goals as goal

pub returns-clause-items : goal.returns-clause-items
returns-clause-items g c =
    let v = c.args.items.now in
    c.truncate.ensures.items
    ∙ end-kept v.items c.as_mut_slice.result.now c.args.from _ c.as_mut_slice.ensures.value (omega (arith, c.len.ensures, v.ok.0)) _ _ (omega (arith, v.ok.0)) c.copy_within.ensures.after c.copy_within.ensures.len
