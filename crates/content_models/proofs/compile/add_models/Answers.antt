use Rattle.std.proofs.Common.{◌∙◌}
use Rattle.content_models.proofs.Compiles.{adds-next, fronts-next}
use Rattle.content_models.proofs.compile.add_models.Goals as goal

pub models-preserved : goal.models-preserved
models-preserved c =
    let d = c.index-declarations-model.result in
    let i = c.models.invariant in
    record {
      fronts = fronts-next c.args.declarations.now c.models.model d c.models.fronts.items c.push.new.self.items c.in_ok-front.front c.models-test.true c.index-declarations-model.is c.in_ok-front.ensures.front i.fronts c.in_ok-push.ensures.items;
      added = adds-next c.args.names.now c.args.declarations.now c.models.model d c.args.rows.now.items c.models.rows.items c.add_model.new.rows.items c.models-test.true c.index-declarations-model.is i.added c.in_ok-front.ensures.added;
      rows = c.in_ok-front.ensures.rows ∙ i.rows;
    }
