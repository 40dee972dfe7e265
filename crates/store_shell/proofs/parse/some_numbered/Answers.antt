use Rattle.std.proofs.Common.{length, ◌≡◌, ◌∙◌, arith}
use Rattle.std.proofs.lemmas.List.{nil_from_length}
use Rattle.store_shell.proofs.Arguments.{numbered-one}
use Rattle.store_shell.proofs.parse.some_numbered.Goals as goal

pub returns-in_default-empty : goal.returns-in_default-empty
returns-in_default-empty c = λ n bytes some numbered.
    let read = c.in_ok-read.read in
    let none : length read.1.now ≡ 0 = omega (arith, c.in_default-empty.len_below) in
    some ((numbered-one c.args.arguments.now n read.0 bytes read.1.now numbered c.in_ok-read.ensures).1 ∙ nil_from_length _ none)
