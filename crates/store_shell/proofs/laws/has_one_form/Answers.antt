use Rattle.store_shell.proofs.OneForm.{form-one}
use Rattle.store_shell.proofs.laws.has_one_form.Goals as goal

pub returns : goal.returns
returns c = form-one
