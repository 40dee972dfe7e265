use Rattle.std.proofs.Common.{◌≡◌, take, fold}
use Rattle.selecting_automaton.specs.Wanting.{eyes}
use Rattle.selecting_automaton.specs.Judging.{entered, descended}
use Rattle.selecting_automaton.proofs.descent.fall.Given as goal

abbrev pub invariant-turns : goal.invariant-turns
invariant-turns l =
    l.descent ≡ fold (descended (eyes l.sight.kinds.now) l.sight.symbol) (entered (record { stack = 0; kids = l.fn.kids; rest = l.fn.rest }) l.fn.down) (take l.turn-index l.turns)
