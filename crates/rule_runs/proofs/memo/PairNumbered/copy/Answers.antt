use Rattle.std.proofs.Common.{◌≡◌, ◌∙◌, length, refl, ap, arith}
use Rattle.std.proofs.lemmas.List.{take_all}
use Rattle.rule_runs.proofs.Entries.{pointwise-refl}
use Rattle.std.proofs.lemmas.Bool.{eq-eqb}
use Rattle.rule_runs.proofs.memo.PairNumbered.copy.Goals as goal

pub returns : goal.returns
returns g c =
    let states = c.args.self.now.states.items in
    let all : c.loop-state.states.items ≡ states = c.loop-state.invariant ∙ take_all c.loop-state.state-index states (omega (arith, c.loop-state-test.false, ap length c.deref-state-items.ensures.value)) in
    rw (all, eq-eqb c.args.self.now.rule c.args.self.now.rule refl, pointwise-refl g.S.PartialEq.eq g.met.S.Eq.laws.refl states) refl
