use Rattle.std.proofs.Common.{◌++◌}
use Rattle.std.proofs.lemmas.Result.{err_from_is_err_and}
use Rattle.store_core.specs.CommandOf.{act_of}
use Rattle.store_core.specs.Texts.{line_of}
use Rattle.store_core.proofs.Printing.{comes_step}
use Rattle.tree_outside.proofs.Sinks.{Gets-append, GetsFront-after}
use Rattle.store_core.proofs.session.Session.command.Goals as goal

pub returns-clause-step : goal.returns-clause-step
returns-clause-step g c =
    let e = c.in_ok-outcome.ensures in
    let prints = e.prints in (
      prints.0 ++ line_of c.in_ok-outcome.outcome,
      comes_step c.args.settings (act_of c.args.command) _ _ prints.0 c.in_ok-outcome.outcome e.lawful.0 e.lawful.1 e.later prints.2,
      Gets-append _ _ _ prints.0 (line_of c.in_ok-outcome.outcome) prints.1 c.in_ok-write_line.ensures.content,
    )

pub returns-in_err-write_line-clause-step : goal.returns-in_err-write_line-clause-step
returns-in_err-write_line-clause-step g c =
    let p = err_from_is_err_and c.from_residual-in_err-write_line.result c.from_residual-in_err-write_line.ensures.1 in
    let e = c.in_ok-outcome.ensures in
    let prints = e.prints in
    rw p.1 (
      prints.0 ++ line_of c.in_ok-outcome.outcome,
      comes_step c.args.settings (act_of c.args.command) _ _ prints.0 c.in_ok-outcome.outcome e.lawful.0 e.lawful.1 e.later prints.2,
      GetsFront-after _ _ _ prints.0 (line_of c.in_ok-outcome.outcome) prints.1 c.in_err-write_line.ensures.content,
    )

pub returns-in_err-outcome-clause-step : goal.returns-in_err-outcome-clause-step
returns-in_err-outcome-clause-step g c =
    let p = err_from_is_err_and c.from_residual.result c.from_residual.ensures.1 in
    let e = c.in_err-outcome.ensures in
    let prints = e.prints in
    rw p.1 (
      prints.0 ++ line_of prints.1,
      comes_step c.args.settings (act_of c.args.command) _ _ prints.0 prints.1 e.lawful.0 e.lawful.1 e.later prints.3,
      prints.2,
    )
