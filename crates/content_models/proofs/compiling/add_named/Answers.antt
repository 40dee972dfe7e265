use Rattle.std.proofs.Common.{subst, sym}
use Rattle.content_models.specs.Compiling.{AddsOne}
use Rattle.content_models.proofs.Placing.{adds-one}
use Rattle.content_models.proofs.compiling.add_named.Goals as goal

pub returns-in_ok-add_spot-in-Some-clause-added : goal.returns-in_ok-add_spot-in-Some-clause-added
returns-in_ok-add_spot-in-Some-clause-added c =
    subst (λ rows. AddsOne c.args.names.now c.args.name.now c.args.spot c.args.rows.now.items rows) (sym c.in_ok-add_spot-in-Some.ensures)
    (adds-one c.args.names.now c.args.name.now c.args.spot c.args.rows.now.items c.in-Some.symbol c.in-Some.ensures.some c.find.ensures.distinct c.requires)
