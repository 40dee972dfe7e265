use Rattle.std.proofs.Common.{◌≡◌, Some, ap, sym, ◌∙◌}
use Rattle.std.specs.Option.{option_map}
use Rattle.store_core.specs.StoreOf.{held_of, parts_of}
use Rattle.store_core.specs.Worlds.{AreLawfulParts, parts_in, world}
use Rattle.store_core.proofs.Asked.{counts_told}
use Rattle.store_core.proofs.session.Session.count.Goals as goal

pub returns-clause-comes : goal.returns-clause-comes
returns-clause-comes g c = λ settings told count.
    let parts = parts_of c.in-Some.loaded.store in
    let held : parts_in c.args.self.now ≡ Some parts = ap parts_in (sym c.self.view_is ∙ ap (option_map held_of) c.in-Some.is) in
    let lawful : AreLawfulParts parts = (rw c.in-Some.is at c.self.invariant.0).parts in
    let w = world c.args.self.now told count in
    let h = c.in_ok-counted.ensures.selects lawful.tree w held lawful.stand in
    counts_told c.args.text.now lawful.tree c.count.result w (h.answer, h.selects, c.count.ensures ∙ h.count)
