use Rattle.std.proofs.Common.{◌≡◌, take, fold}
use Rattle.selecting_automaton.specs.Wanting.{eyes}
use Rattle.selecting_automaton.specs.Judging.{climbing, climbed}
use Rattle.selecting_automaton.proofs.climb.rise.Given as goal

abbrev pub invariant-turns : goal.invariant-turns
invariant-turns l = l.climb ≡ fold (climbed (eyes l.sight.kinds.now) l.sight.symbol) (climbing l.fn.kids l.fn.rest) (take l.turn-index l.turns)
