use Rattle.std.proofs.Common.{◌+◌, take, drop, get_or, false}
use Rattle.selecting_automaton.specs.Wanting.{eyes}
use Rattle.selecting_automaton.specs.declared.turns.Turn.TheVariants as turns
use Rattle.selecting_automaton.proofs.Stacks.{around}
use Rattle.selecting_automaton.proofs.Climbing.{climb-ready, climb-turned, climb-whole}
use Rattle.selecting_automaton.proofs.climb.rise.Goals as goal

pub turn-requires : goal.turn-requires
turn-requires c =
    let ts = c.args.turns.now in
    let i = c.turns.turn-index in
    let r = climb-ready (eyes c.args.sight.now.kinds.now) c.args.sight.now.symbol (take i ts) (drop (i + 1) ts) ts (get_or ts i (turns.Truth false)) c.args.kids c.args.rest c.turns.climb
    c.turns.invariant (around ts i (turns.Truth false) c.turns-test.true) c.requires in
    record { shallow = r.shallow; room = r.room; chain = r.known.chain; code = r.known.code }

pub turns-preserved : goal.turns-preserved
turns-preserved c =
    climb-turned (eyes c.args.sight.now.kinds.now) c.args.sight.now.symbol c.args.turns.now c.turns.turn-index (turns.Truth false) c.turns.climb c.turn.new.self c.args.kids c.args.rest
    c.turns-test.true c.turns.invariant c.turn.ensures

pub returns : goal.returns
returns c =
    climb-whole (eyes c.args.sight.now.kinds.now) c.args.sight.now.symbol c.args.turns.now c.turns.turn-index c.turns.climb c.args.kids c.args.rest c.turns-test.false c.turns.invariant
