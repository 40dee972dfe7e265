use Rattle.std.proofs.Common.{◌≡◌, inl, Some, [], refl, ap, sym, ◌∙◌}
use Rattle.std.proofs.lemmas.Result.{err_from_is_err_and}
use Rattle.std.specs.Option.{option_map}
use Rattle.rule_runs.specs.Answering.{listed_hits}
use Rattle.rule_runs.specs.Hits.{numbers}
use Rattle.tree_outside.proofs.Sinks.{Gets-nil}
use Rattle.store_core.specs.Acts.{ShowAll}
use Rattle.store_core.specs.StoreOf.{held_of, parts_of}
use Rattle.store_core.specs.Worlds.{AreLawfulParts, parts_in, world}
use Rattle.store_core.proofs.Asked.{listed-counted, listed-selected, same_world}
use Rattle.store_core.proofs.ShownAll.{all_shown, showing_fails, some_shown}
use Rattle.store_core.proofs.session.Session.show_all.Goals as goal

pub print_nodes-requires-clause-listed : goal.print_nodes-requires-clause-listed
print_nodes-requires-clause-listed g c = c.in-Ok.ensures.listed.1 refl

pub returns-in-Err-clause-prints : goal.returns-in-Err-clause-prints
returns-in-Err-clause-prints g c = λ settings told count.
    let held : parts_in c.args.self.now ≡ Some (parts_of c.in-Some.loaded.store) = ap parts_in (sym c.self.view_is ∙ ap (option_map held_of) c.in-Some.is) in
    let w = world c.args.self.now told count in
    ([], Gets-nil (g.K.Sink.got c.args.sink.now), record { begins = inl refl; cause = c.in-Err.ensures.refused (ShowAll c.args.text.now) w w refl held; leaves = inl (same_world w) })

pub returns-in_err-print_nodes-clause-prints : goal.returns-in_err-print_nodes-clause-prints
returns-in_err-print_nodes-clause-prints g c = λ settings told count.
    let p = err_from_is_err_and c.from_residual.result c.from_residual.ensures.1 in
    let held : parts_in c.args.self.now ≡ Some (parts_of c.in-Some.loaded.store) = ap parts_in (sym c.self.view_is ∙ ap (option_map held_of) c.in-Some.is) in
    let lawful : AreLawfulParts (parts_of c.in-Some.loaded.store) = (rw c.in-Some.is at c.self.invariant.0).parts in
    let w = world c.args.self.now told count in
    let selects = listed-selected c.args.text.now w lawful.tree c.in-Ok.found (c.in-Ok.ensures.selects lawful.tree w held lawful.stand) (c.in-Ok.ensures.listed.1 refl) in
    rw p.1 (showing_fails c.args.text.now lawful.tree w (numbers (listed_hits c.in-Ok.found.hits)) settings (g.K.Sink.got c.args.sink.now) (g.K.Sink.got c.print_nodes.new.sink) selects (c.in_err-print_nodes.ensures.prints lawful.tree lawful.stand))

pub returns-in-Ok-2-clause-prints : goal.returns-in-Ok-2-clause-prints
returns-in-Ok-2-clause-prints g c = λ settings told count.
    let held : parts_in c.args.self.now ≡ Some (parts_of c.in-Some.loaded.store) = ap parts_in (sym c.self.view_is ∙ ap (option_map held_of) c.in-Some.is) in
    let lawful : AreLawfulParts (parts_of c.in-Some.loaded.store) = (rw c.in-Some.is at c.self.invariant.0).parts in
    let w = world c.args.self.now told count in
    let found = c.in-Ok.ensures.selects lawful.tree w held lawful.stand in
    let listed = c.in-Ok.ensures.listed.1 refl in
    all_shown c.args.text.now lawful.tree w (numbers (listed_hits c.in-Ok.found.hits)) (g.K.Sink.got c.args.sink.now) (g.K.Sink.got c.print_nodes.new.sink) c.count.result c.in_ok-print_nodes.field-0 c.in-Ok-2.field-0
    (listed-selected c.args.text.now w lawful.tree c.in-Ok.found found listed) (c.in_ok-print_nodes.ensures.prints lawful.tree lawful.stand) c.in-Ok-2.is (c.count.ensures ∙ listed-counted c.args.text.now w lawful.tree c.in-Ok.found found listed)

pub returns-clause-prints : goal.returns-clause-prints
returns-clause-prints g c = λ settings told count.
    let held : parts_in c.args.self.now ≡ Some (parts_of c.in-Some.loaded.store) = ap parts_in (sym c.self.view_is ∙ ap (option_map held_of) c.in-Some.is) in
    let lawful : AreLawfulParts (parts_of c.in-Some.loaded.store) = (rw c.in-Some.is at c.self.invariant.0).parts in
    let w = world c.args.self.now told count in
    let selects = listed-selected c.args.text.now w lawful.tree c.in-Ok.found (c.in-Ok.ensures.selects lawful.tree w held lawful.stand) (c.in-Ok.ensures.listed.1 refl) in
    some_shown c.args.text.now lawful.tree w (numbers (listed_hits c.in-Ok.found.hits)) (parts_of c.in-Some.loaded.store) (g.K.Sink.got c.args.sink.now) (g.K.Sink.got c.print_nodes.new.sink) c.in_ok-print_nodes.field-0 held selects (c.in_ok-print_nodes.ensures.prints lawful.tree lawful.stand)
