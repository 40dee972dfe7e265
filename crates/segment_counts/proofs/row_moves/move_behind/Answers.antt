use Rattle.std.proofs.Common.{◌∙◌, ◌-◌, ◌++◌, arith, ap, map, take, drop, length, length-drop}
use Rattle.std.proofs.lemmas.List.{take_all}
use Rattle.segment_counts.specs.Cuts.{moved}
use Rattle.segment_counts.proofs.RowMoves.{put-behind}
use Rattle.segment_counts.proofs.row_moves.move_behind.Goals as goal

pub move_all-requires : goal.move_all-requires
move_all-requires c =
    let a = c.args in
    rw (take_all (length a.ends.now - a.rule) (drop a.rule a.ends.now) (omega (arith, length-drop a.rule a.ends.now))) c.requires.fit

pub returns : goal.returns
returns c =
    let a = c.args in
    put-behind a.ends.now _ a.rule c.requires.rule ∙ ap (λ ys. take a.rule a.ends.now ++ ys) (c.move_all.ensures ∙ ap (map (moved a.from a.to)) (take_all (length a.ends.now - a.rule) (drop a.rule a.ends.now) (omega (arith, length-drop a.rule a.ends.now))))
