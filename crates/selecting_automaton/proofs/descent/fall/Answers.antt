use Rattle.std.proofs.Common.{◌+◌, take, drop, get_or, false, refl}
use Rattle.selecting_automaton.specs.Wanting.{eyes}
use Rattle.selecting_automaton.specs.Judging.{entered}
use Rattle.selecting_automaton.specs.declared.judge.Judge.{Judge}
use Rattle.selecting_automaton.specs.declared.turns.Turn.TheVariants as turns
use Rattle.selecting_automaton.proofs.Stacks.{around}
use Rattle.selecting_automaton.proofs.Descending.{descent-ready, descent-turned, descent-whole}
use Rattle.selecting_automaton.proofs.descent.fall.Goals as goal

pub turn-requires : goal.turn-requires
turn-requires c =
    let ts = c.args.turns.now in
    let i = c.turns.turn-index in
    let r = descent-ready (eyes c.args.sight.now.kinds.now) c.args.sight.now.symbol (take i ts) (drop (i + 1) ts) ts (get_or ts i (turns.Truth false))
    (record { stack = 0; kids = c.args.kids; rest = c.args.rest }) c.args.down c.turns.descent refl
    c.turns.invariant (around ts i (turns.Truth false) c.turns-test.true) c.requires in
    record { shallow = r.shallow; room = r.room; left = r.left; right = r.right }

pub turns-preserved : goal.turns-preserved
turns-preserved c =
    let j : Judge = record { stack = 0; kids = c.args.kids; rest = c.args.rest } in
    descent-turned (eyes c.args.sight.now.kinds.now) c.args.sight.now.symbol c.args.turns.now c.turns.turn-index (turns.Truth false) (entered j c.args.down) c.turns.descent c.turn.new.self
    c.turns-test.true c.turns.invariant c.turn.ensures

pub returns : goal.returns
returns c =
    descent-whole (eyes c.args.sight.now.kinds.now) c.args.sight.now.symbol c.args.turns.now c.turns.turn-index c.turns.descent (record { stack = 0; kids = c.args.kids; rest = c.args.rest }) c.args.down refl
    c.turns-test.false c.turns.invariant
