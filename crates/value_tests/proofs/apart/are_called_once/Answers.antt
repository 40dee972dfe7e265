use Rattle.std.proofs.Common.{◌≡◌, ◌≤◌, ◌⊎◌, None, subst}
use Rattle.slt_grammar.specs.Keyed.{rules_of}
use Rattle.value_tests.specs.Assembled.{spots_at}
use Rattle.value_tests.specs.Spots.{spot_of}
use Rattle.value_tests.proofs.Tested.{once-more, once-next}
use Rattle.value_tests.proofs.apart.are_called_once.Goals as goal

pub rules-preserved : goal.rules-preserved
rules-preserved c =
    let H = rules_of c.args.grammar.now.rules in
    let s = spot_of c.in-Some.spot.now in
    let once = subst (λ n. (s.down ≡ None) ⊎ (n ≤ 1)) c.calls.ensures (c.is_apart.ensures c.if-not-is_apart.false) in
    once-more H (spots_at c.args.spots.now c.args.origins.now) c.rules.number c.rules.invariant (once-next H c.args.spots.now c.args.origins.now c.rules.number s c.rules-test.true c.in-Some.ensures H once)
