use Rattle.std.proofs.Common.{◌∙◌, sym, ap}
use Rattle.indexmap.proofs.CallerLemmas.{insert_entry-new}
use Rattle.plain_tree.specs.NamePlaces.{shown}
use Rattle.plain_tree.proofs.NameShowing.{place_of-shown, shown-append}
use Rattle.plain_tree.proofs.names.PlaceMap.add.Goals as goal

pub returns-clause-ok : goal.returns-clause-ok
returns-clause-ok c =
    let absent = rw (← c.self.view_is) at c.requires in
    let none = sym (place_of-shown c.args.name.items c.self.inside.map.entries) ∙ absent in
    rw (c.in_ok-insert.ensures.entries, ← c.self.view_is) (ap shown (insert_entry-new _ c.self.inside.map c.args.name c.args.place none) ∙ shown-append c.self.inside.map.entries _)
