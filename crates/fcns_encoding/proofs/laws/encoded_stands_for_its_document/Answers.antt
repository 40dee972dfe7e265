use Rattle.fcns_encoding.proofs.Stands.{encoded-stands}
use Rattle.fcns_encoding.proofs.laws.encoded_stands_for_its_document.Goals as goal

pub returns : goal.returns
returns c = encoded-stands
