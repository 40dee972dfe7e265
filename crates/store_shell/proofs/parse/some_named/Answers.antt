use Rattle.std.proofs.Common.{length, ◌≡◌, ◌∙◌, arith}
use Rattle.std.proofs.lemmas.List.{nil_from_length}
use Rattle.store_shell.proofs.Arguments.{named-one}
use Rattle.store_shell.proofs.parse.some_named.Goals as goal

pub returns-then-is_empty : goal.returns-then-is_empty
returns-then-is_empty c = λ name bytes some named.
    let none : length c.in_ok-name.rest.now ≡ 0 = (let t = c.if-is_empty.true in let i = c.is_empty.ensures in grind arith) in
    some ((named-one c.args.arguments.now name c.in_ok-name.name.now bytes c.in_ok-name.rest.now named c.in_ok-name.ensures).1 ∙ nil_from_length _ none)
