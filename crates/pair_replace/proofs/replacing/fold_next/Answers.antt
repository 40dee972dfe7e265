use Rattle.std.proofs.Common.{◌∙◌}
use Rattle.digram_index.proofs.Marks.{keeps-still, keeps-then}
use Rattle.pair_replace.proofs.Rounds.{round-same, round-next, apart-next, enough, err-says}
use Rattle.pair_replace.proofs.Counts.{count-alike}
use Rattle.pair_replace.proofs.FewerCells.{fewer}
use Rattle.pair_replace.proofs.NextFolds.{folds}
use Rattle.pair_replace.proofs.ChainLemmas.{head-same}
use Rattle.pair_replace.proofs.replacing.fold_next.Goals as goal

pub fold_at-requires-clause-fold : goal.fold_at-requires-clause-fold
fold_at-requires-clause-fold c =
    let m = c.make_room.ensures in
    let R = round-same c.args.grammar.now c.args.index.now c.make_room.new.index c.args.digram c.args.new.now.place c.args.new.now.lower c.requires.round.0 c.args.count c.requires.round.1 m.rules m.cells m.more m.spares in
    folds c.args.grammar.now c.limit-limit.ensures.keyed c.args.digram c.args.new.now.place c.args.new.now.lower R.new c.make_room.new.index R.index c.args.lower
    (head-same c.args.index.now c.make_room.new.index c.args.digram c.args.lower.number m.cells c.requires.head)

pub returns-in_err-make_room-clause-refused : goal.returns-in_err-make_room-clause-refused
returns-in_err-make_room-clause-refused c =
    let m = c.make_room.ensures in
    err-says _ c.from_residual.result (λ first R. round-same c.args.grammar.now c.args.index.now c.make_room.new.index c.args.digram c.args.new.now.place c.args.new.now.lower first c.args.count R m.rules m.cells m.more m.spares)

pub returns-clause-round : goal.returns-clause-round
returns-clause-round c = λ first R.
    let m = c.make_room.ensures in
    let f = c.fold_at.ensures in
    let N = round-same c.args.grammar.now c.args.index.now c.make_room.new.index c.args.digram c.args.new.now.place c.args.new.now.lower first c.args.count R m.rules m.cells m.more m.spares in
    round-next c.args.grammar.now c.fold_at.new.grammar c.limit-limit.ensures.keyed c.make_room.new.index c.fold_at.new.index c.args.digram c.args.new.now.place c.args.new.now.lower first c.args.count N
    (enough c.args.count c.make_room.new.index.spare_links N.room c.in_ok-make_room.ensures.room) c.args.lower
    (head-same c.args.index.now c.make_room.new.index c.args.digram c.args.lower.number m.cells c.requires.head) f.rules f.index f.others f.values f.size f.spare f.cells

pub returns-clause-apart : goal.returns-clause-apart
returns-clause-apart c =
    let m = c.make_room.ensures in
    let R = round-same c.args.grammar.now c.args.index.now c.make_room.new.index c.args.digram c.args.new.now.place c.args.new.now.lower c.requires.round.0 c.args.count c.requires.round.1 m.rules m.cells m.more m.spares in
    apart-next c.args.grammar.now c.limit-limit.ensures.keyed c.args.index.now c.make_room.new.index c.fold_at.new.index c.args.digram c.args.new.now.place c.args.new.now.lower c.requires.round.0 c.args.count R m.cells c.args.lower
    (head-same c.args.index.now c.make_room.new.index c.args.digram c.args.lower.number m.cells c.requires.head) c.fold_at.ensures.others

pub returns-clause-fewer : goal.returns-clause-fewer
returns-clause-fewer c = λ differ.
    let m = c.make_room.ensures in
    let f = c.fold_at.ensures in
    let R = round-same c.args.grammar.now c.args.index.now c.make_room.new.index c.args.digram c.args.new.now.place c.args.new.now.lower c.requires.round.0 c.args.count c.requires.round.1 m.rules m.cells m.more m.spares in
    let H = head-same c.args.index.now c.make_room.new.index c.args.digram c.args.lower.number m.cells c.requires.head in
    let F = folds c.args.grammar.now c.limit-limit.ensures.keyed c.args.digram c.args.new.now.place c.args.new.now.lower R.new c.make_room.new.index R.index c.args.lower H in
    fewer c.args.grammar.now c.fold_at.new.grammar c.limit-limit.ensures.keyed c.limit-folded.ensures.keyed c.args.digram c.args.new.now.place c.args.new.now.lower R.new c.make_room.new.index c.fold_at.new.index R.index f.index
    c.args.lower H differ (f.rules F) (f.others F)
    ∙ count-alike c.args.index.now c.make_room.new.index c.args.digram m.cells

pub returns-clause-marks : goal.returns-clause-marks
returns-clause-marks c =
    keeps-then c.args.grammar.now.rules c.args.grammar.now.rules c.fold_at.new.grammar.rules c.args.index.now c.make_room.new.index c.fold_at.new.index
    (keeps-still c.args.grammar.now.rules c.args.index.now c.make_room.new.index c.make_room.ensures.marks) c.fold_at.ensures.marks

pub returns-in_err-make_room-clause-marks : goal.returns-in_err-make_room-clause-marks
returns-in_err-make_room-clause-marks c = keeps-still c.args.grammar.now.rules c.args.index.now c.make_room.new.index c.make_room.ensures.marks
