use Rattle.std.proofs.Common.{◌≡◌, ap, sym, ◌∙◌, arith}
use Rattle.std.proofs.lemmas.Bool.Decides.{nat_tests}
use Rattle.selecting_automaton.specs.Wanting.{eyes}
use Rattle.selecting_automaton.specs.Words.{Selection, seeks}
use Rattle.selecting_automaton.proofs.Climbing.{nothing-risen}
use Rattle.selecting_automaton.proofs.selector.Selector.has_filters.Goals as goal

pub returns-clause-parts : goal.returns-clause-parts
returns-clause-parts c =
    let are : c.self.inside.parts ≡ seeks c.args.self.now.turns = c.self.invariant.0 ∙ ap (λ (s : Selection). seeks s.turns) c.self.view_is in
    (λ t. grind (arith, nat_tests, are), λ l. grind (arith, nat_tests, are))

pub returns-clause-one : goal.returns-clause-one
returns-clause-one c = λ no symbol kids rest.
    let are : c.self.inside.parts ≡ seeks c.args.self.now.turns = c.self.invariant.0 ∙ ap (λ (s : Selection). seeks s.turns) c.self.view_is in
    let none : seeks c.args.self.now.turns ≡ 0 = grind (arith, nat_tests, are) in
    sym (nothing-risen (eyes c.args.self.now.kinds) symbol c.args.self.now.turns _ _ none)
