use Rattle.std.proofs.Common.{◌≡◌, ◌<◌, ◌≤◌, ◌+◌, ◌*◌, ◌-◌, ◌++◌, ◌∷◌, length, reverse, sum_by, All}
use Rattle.slt_grammar.specs.Grammars.{body_at}
use Rattle.slt_grammar.specs.Keyed.{rules_of}
use Rattle.rule_runs.specs.Reached.{FallsOnce}
use Rattle.rule_runs.specs.Descents.{HasOutcome, Standing, AreWaiting, triple_at, fall_cost}
use Rattle.rule_runs.specs.Listing.{AreEarlier}
use Rattle.rule_runs.specs.Notes.{AreKept, HasBody, unread}
use Rattle.rule_runs.specs.Risen.{keys, pair_at}
use Rattle.rule_runs.proofs.Triples.{known_triples, open_triples}
use Rattle.rule_runs.proofs.falling.run_on.Given as goal

abbrev pub decreases-bodies : goal.decreases-bodies
decreases-bodies g l = fall_cost (rules_of l.grammar.rules) (keys l.risen.known) l.frame + sum_by (fall_cost (rules_of l.grammar.rules) (keys l.risen.known)) (reverse l.frames.items)

abbrev pub invariant-bodies : goal.invariant-bodies
invariant-bodies g l =
    let A = g.A.Rising.algebra l.automaton in
    let W = g.A.Falling.downward l.automaton in
    let G = rules_of l.grammar.rules in
    let ks = keys l.risen.known in
    record {
      outcomes : All (λ e. HasOutcome A W G ks l.lists e.0 e.1) l.known;
      kept : AreKept A G ks l.bodies;
      read : HasBody l.bodies l.frame.spot.pair;
      outer : All (λ f. HasBody l.bodies f.spot.pair) (reverse l.frames.items);
      earlier : AreEarlier l.lists.lists;
      listed : l.lists.kept ≡ l.fn.lists.kept;
      there : l.frame.spot.pair < length ks;
      stands : Standing A W G ks l.lists l.frame l.marks.top;
      waiting : AreWaiting A W G ks l.lists l.frame.spot (reverse l.frames.items) l.marks.below;
      reads : FallsOnce A W G (known_triples A W G ks l.known ++ (triple_at ks l.frame.spot ∷ open_triples A W G ks (reverse l.frames.items))) (2 * length (body_at G (pair_at ks l.fn.frame.spot.pair).0) + (l.steps - l.fn.steps));
      counted : l.fn.steps ≤ l.steps;
      few : l.steps + 2 * unread G ks l.bodies ≤ l.fn.steps + 2 * unread G ks l.fn.bodies;
    }
