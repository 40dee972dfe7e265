use Rattle.std.proofs.Common.{ℕ, List, [], codes, refl}
use Rattle.std.proofs.lemmas.Result.{err_from_is_err_and}
use Rattle.tree_outside.proofs.Sinks.{Gets-nil}
use Rattle.store_core.specs.CommandOf.{act_of}
use Rattle.store_core.specs.Worlds.{World, world}
use Rattle.store_shell.specs.Forms.{Command, Empty, Long}
use Rattle.store_shell.proofs.Runs.{Goes-as}
use Rattle.store_shell.proofs.script.end_line.Goals as goal

pub returns-in-Empty-clause-ends : goal.returns-in-Empty-clause-ends
returns-in-Empty-clause-ends g c = λ bytes e.
    let w : World = world c.args.session.now (g.F.Shelf.told c.args.shelf.now) (g.F.Shelf.faults c.args.shelf.now) in
    ([], Goes-as bytes Empty w w [] (λ same. cc) (c.in-Empty.ensures.form bytes e) (refl, refl), Gets-nil (g.K.Sink.got c.args.sink.now))

pub returns-in_ok-write-in-Long-clause-ends : goal.returns-in_ok-write-in-Long-clause-ends
returns-in_ok-write-in-Long-clause-ends g c = λ bytes e.
    let w : World = world c.args.session.now (g.F.Shelf.told c.args.shelf.now) (g.F.Shelf.faults c.args.shelf.now) in
    let text : List ℕ = codes "! long-line\n" in
    (text, Goes-as bytes Long w w text (λ same. cc) (c.in-Long.ensures.form bytes e) (refl, refl), c.in_ok-write-in-Long.ensures.content)

pub returns-in_err-write-in-Long-clause-ends : goal.returns-in_err-write-in-Long-clause-ends
returns-in_err-write-in-Long-clause-ends g c = λ bytes e.
    let w : World = world c.args.session.now (g.F.Shelf.told c.args.shelf.now) (g.F.Shelf.faults c.args.shelf.now) in
    let text : List ℕ = codes "! long-line\n" in
    let p = err_from_is_err_and c.from_residual.result c.from_residual.ensures.1 in
    rw p.1 (text, Goes-as bytes Long w w text (λ same. cc) (c.in-Long.ensures.form bytes e) (refl, refl), c.in_err-write-in-Long.ensures.content)

pub returns-in_err-command-in-Command-clause-ends : goal.returns-in_err-command-in-Command-clause-ends
returns-in_err-command-in-Command-clause-ends g c = λ bytes e.
    let w : World = world c.args.session.now (g.F.Shelf.told c.args.shelf.now) (g.F.Shelf.faults c.args.shelf.now) in
    let v : World = world c.command.new.self (g.F.Shelf.told c.command.new.shelf) (g.F.Shelf.faults c.command.new.shelf) in
    let s = c.in_err-command-in-Command.ensures.step in
    let p = err_from_is_err_and c.from_residual-in_err-command-in-Command.result c.from_residual-in_err-command-in-Command.ensures.1 in
    rw p.1 (s.0, Goes-as bytes (Command (act_of c.in-Command.command)) w v s.0 (λ same. cc) (c.in-Command.ensures.form bytes e) s.1, s.2)

pub command-requires-clause-records : goal.command-requires-clause-records
command-requires-clause-records g c = c.in-Command.ensures.few
