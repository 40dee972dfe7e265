use Rattle.std.proofs.Common.{Err, ap}
use Rattle.store_core.proofs.editing.fragment_of.Goals as goal

pub returns-in-Err-Bad-clause-refused : goal.returns-in-Err-Bad-clause-refused
returns-in-Err-Bad-clause-refused c = (c.in-Err-Bad.ensures.bad _ (ap (λ e. Err e) c.in-Err-Bad.field-0-is)).none
