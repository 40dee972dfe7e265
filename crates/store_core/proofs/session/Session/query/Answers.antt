use Rattle.std.proofs.Common.{◌≡◌, inl, Some, [], refl, ap, sym, ◌∙◌}
use Rattle.std.proofs.lemmas.Result.{err_from_is_err_and}
use Rattle.std.specs.Option.{option_map}
use Rattle.rule_runs.specs.Answering.{listed_hits}
use Rattle.tree_outside.proofs.Sinks.{Gets-nil}
use Rattle.store_core.specs.Acts.{Query}
use Rattle.store_core.specs.StoreOf.{held_of, parts_of}
use Rattle.store_core.specs.Worlds.{AreLawfulParts, parts_in, world}
use Rattle.store_core.proofs.Asked.{found-counted, found-listed, query_done, query_fails, query_stops, same_world}
use Rattle.store_core.proofs.session.Session.query.Goals as goal

pub print_hits-requires : goal.print_hits-requires
print_hits-requires g c = record { listed = c.in-Ok.ensures.listed.1 refl }

pub returns-in-Err-clause-prints : goal.returns-in-Err-clause-prints
returns-in-Err-clause-prints g c = λ settings told count.
    let held : parts_in c.args.self.now ≡ Some (parts_of c.in-Some.loaded.store) = ap parts_in (sym c.self.view_is ∙ ap (option_map held_of) c.in-Some.is) in
    let w = world c.args.self.now told count in
    ([], Gets-nil (g.K.Sink.got c.args.sink.now), record { begins = inl refl; cause = c.in-Err.ensures.refused (Query c.args.text.now) w w refl held; leaves = inl (same_world w) })

pub returns-in_err-print_hits-clause-prints : goal.returns-in_err-print_hits-clause-prints
returns-in_err-print_hits-clause-prints g c = λ settings told count.
    let p = err_from_is_err_and c.from_residual.result c.from_residual.ensures.1 in
    let parts = parts_of c.in-Some.loaded.store in
    let held : parts_in c.args.self.now ≡ Some parts = ap parts_in (sym c.self.view_is ∙ ap (option_map held_of) c.in-Some.is) in
    let lawful : AreLawfulParts parts = (rw c.in-Some.is at c.self.invariant.0).parts in
    let w = world c.args.self.now told count in
    let found = found-listed c.args.text.now parts w lawful.tree c.in-Ok.found held (c.in-Ok.ensures.selects lawful.tree w held lawful.stand) (c.in-Ok.ensures.listed.1 refl) (c.in-Ok.ensures.lines lawful.tree lawful.stand) in
    rw p.1 (query_fails settings c.args.text.now parts w (listed_hits c.in-Ok.found.hits) (g.K.Sink.got c.args.sink.now) (g.K.Sink.got c.print_hits.new.sink) found c.in_err-print_hits.ensures.prints)

pub returns-in-Ok-2-clause-prints : goal.returns-in-Ok-2-clause-prints
returns-in-Ok-2-clause-prints g c = λ settings told count.
    let parts = parts_of c.in-Some.loaded.store in
    let held : parts_in c.args.self.now ≡ Some parts = ap parts_in (sym c.self.view_is ∙ ap (option_map held_of) c.in-Some.is) in
    let lawful : AreLawfulParts parts = (rw c.in-Some.is at c.self.invariant.0).parts in
    let w = world c.args.self.now told count in
    let found = found-listed c.args.text.now parts w lawful.tree c.in-Ok.found held (c.in-Ok.ensures.selects lawful.tree w held lawful.stand) (c.in-Ok.ensures.listed.1 refl) (c.in-Ok.ensures.lines lawful.tree lawful.stand) in
    query_done c.args.text.now parts w (listed_hits c.in-Ok.found.hits) (g.K.Sink.got c.args.sink.now) (g.K.Sink.got c.print_hits.new.sink) c.count.result c.in_ok-print_hits.field-0 c.in-Ok-2.field-0 found c.in_ok-print_hits.ensures.prints c.in-Ok-2.is (c.count.ensures ∙ found-counted c.args.text.now w lawful.tree c.in-Ok.found (c.in-Ok.ensures.selects lawful.tree w held lawful.stand) (c.in-Ok.ensures.listed.1 refl))

pub returns-clause-prints : goal.returns-clause-prints
returns-clause-prints g c = λ settings told count.
    let parts = parts_of c.in-Some.loaded.store in
    let held : parts_in c.args.self.now ≡ Some parts = ap parts_in (sym c.self.view_is ∙ ap (option_map held_of) c.in-Some.is) in
    let lawful : AreLawfulParts parts = (rw c.in-Some.is at c.self.invariant.0).parts in
    let w = world c.args.self.now told count in
    let found = found-listed c.args.text.now parts w lawful.tree c.in-Ok.found held (c.in-Ok.ensures.selects lawful.tree w held lawful.stand) (c.in-Ok.ensures.listed.1 refl) (c.in-Ok.ensures.lines lawful.tree lawful.stand) in
    query_stops c.args.text.now parts w (listed_hits c.in-Ok.found.hits) (g.K.Sink.got c.args.sink.now) (g.K.Sink.got c.print_hits.new.sink) c.in_ok-print_hits.field-0 found c.in_ok-print_hits.ensures.prints
