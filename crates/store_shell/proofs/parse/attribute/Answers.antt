use Rattle.std.proofs.Common.{subst}
use Rattle.store_shell.specs.Arguments.{IsNamed}
use Rattle.store_shell.proofs.Arguments.{numbered-one}
use Rattle.store_shell.proofs.parse.attribute.Goals as goal

pub returns-in_err-name : goal.returns-in_err-name
returns-in_err-name c =
    rw c.from_residual-in_err-name.ensures
    (λ n name bytes rest numbered named.
    let same = numbered-one c.args.arguments.now n c.in_ok-number.number rest c.in_ok-number.rest.now numbered c.in_ok-number.ensures in
    c.in_err-name.ensures name bytes (subst (λ z. IsNamed z name bytes) same.1 named))
