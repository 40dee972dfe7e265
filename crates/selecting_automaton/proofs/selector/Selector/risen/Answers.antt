use Rattle.std.proofs.Common.{◌≡◌, ap, sym, ◌∙◌}
use Rattle.selecting_automaton.specs.Wanting.{eyes}
use Rattle.selecting_automaton.specs.Words.{Selection, seeks}
use Rattle.selecting_automaton.proofs.Climbing.{nothing-risen}
use Rattle.selecting_automaton.proofs.selector.Selector.risen.Goals as goal

pub returns-then-self-eq0 : goal.returns-then-self-eq0
returns-then-self-eq0 c =
    let none : seeks c.args.self.now.turns ≡ 0 = sym (ap (λ (s : Selection). seeks s.turns) c.self.view_is) ∙ sym c.self.invariant.0 ∙ c.if-self-eq0.true in
    nothing-risen (eyes c.args.self.now.kinds) c.args.symbol c.args.self.now.turns _ _ none
