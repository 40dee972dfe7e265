use Rattle.std.proofs.Common.{◌∙◌, sym}
use Rattle.plain_tree.proofs.NameShowing.{place_of-shown}
use Rattle.plain_tree.proofs.names.PlaceMap.find.Goals as goal

pub returns : goal.returns
returns c =
    let got = c.get.ensures.value in
    let copied = c.copied.ensures in
    let view = c.self.view_is in
    rw (← c.self.view_is) (c.copied.ensures ∙ c.get.ensures.value ∙ sym (place_of-shown c.args.name.now c.self.inside.map.entries))
