use Rattle.std.proofs.Common.{◌++◌, ap, ◌∙◌}
use Rattle.std.specs.Prelude.{option_to_list}
use Rattle.layer_promises.proofs.runs.answers_told.Goals as goal

pub returns : goal.returns
returns c = c.in_ok-first.ensures.next ∙ ap (λ r. option_to_list c.in_ok-first.first ++ r) c.in_ok-second.ensures.next
