use Rattle.content_models.proofs.Held.{few-places}
use Rattle.content_models.proofs.reading.declared.Goals as goal

pub invariant_of-result : goal.invariant_of-result
invariant_of-result c = record { exact = c.requires.exact; few = few-places c.args.line c.requires.exact c.requires.small }
