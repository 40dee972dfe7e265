use Rattle.fcns_encoding.proofs.OpenCodes.{code-goes-before}
use Rattle.fcns_encoding.proofs.laws.code_goes_before.Goals as goal

pub returns : goal.returns
returns c = code-goes-before
