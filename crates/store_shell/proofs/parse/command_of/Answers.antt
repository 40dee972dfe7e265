use Rattle.std.proofs.Common.{arith}
use Rattle.store_shell.proofs.Given.{no-attribute, no-renaming, no-value}
use Rattle.store_shell.proofs.parse.command_of.Goals as goal

pub returns-in-Value : goal.returns-in-Value
returns-in-Value c =
    let none = no-value c.args.arguments.now in
    rw c.in-Value.is (grind (arith, none))

pub returns-in-Attr : goal.returns-in-Attr
returns-in-Attr c =
    let none = no-attribute c.args.arguments.now in
    rw c.in-Attr.is (grind (arith, none))

pub returns-in-RenameAll : goal.returns-in-RenameAll
returns-in-RenameAll c =
    let none = no-renaming c.args.arguments.now in
    rw c.in-RenameAll.is (grind (arith, none))
