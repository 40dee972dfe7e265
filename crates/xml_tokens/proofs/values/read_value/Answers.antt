use Rattle.xml_tokens.specs.Seen.{byte_given}
use Rattle.xml_tokens.proofs.ReadValues.{value_found, value_missing}
use Rattle.xml_tokens.proofs.values.read_value.Goals as goal

pub returns-clause-found : goal.returns-clause-found
returns-clause-found c = value_found (byte_given c.args.spaces) c.args.inner.now c.value_of.result c.value_of.ensures

pub returns-clause-none : goal.returns-clause-none
returns-clause-none c = value_missing (byte_given c.args.spaces) c.args.inner.now c.value_of.result c.value_of.ensures
