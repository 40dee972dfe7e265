use Rattle.std.proofs.Common.{ap, ◌∙◌}
use Rattle.std.specs.Prelude.{not}
use Rattle.content_models.proofs.Held.{found-name, missing-name}
use Rattle.content_models.proofs.reading.Reader.is_new.Goals as goal

pub returns-clause-new : goal.returns-clause-new
returns-clause-new c = λ e gs h.
    missing-name c.args.self.now.seen gs c.as_slice.result.now c.args.line.now.name c.find.result c.as_slice.ensures h.names c.find.ensures.none (c.is_none.ensures ∙ ap not e)

pub returns-clause-old : goal.returns-clause-old
returns-clause-old c = λ e gs h.
    found-name c.args.self.now.seen gs c.as_slice.result.now c.args.line.now.name c.find.result c.as_slice.ensures h.names c.find.ensures.some (c.is_none.ensures ∙ ap not e)
