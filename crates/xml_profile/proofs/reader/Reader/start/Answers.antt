use Rattle.std.proofs.Common.{sym, subst}
use Rattle.xml_nodes.specs.Place.{IsListPlace}
use Rattle.xml_profile.proofs.Fragments.{list_ends_at}
use Rattle.xml_profile.proofs.reader.Reader.start.Goals as goal

pub returns : goal.returns
returns c = λ calls fed s. subst (λ z. IsListPlace fed z) (sym c.start.ensures) (list_ends_at c.args.self.now calls fed s)
