use Rattle.std.proofs.Common.{◌≡◌, ◌∙◌, ap}
use Rattle.std.specs.Prelude.{slice_index_or, []}
use Rattle.plain_tree.specs.NamePlaces.{place_of}
use Rattle.plain_tree.specs.NameTable.{map_at}
use Rattle.plain_tree.proofs.NameFinding.{found_some, found_none, distinct}
use Rattle.plain_tree.proofs.names.Names.find.Goals as goal
use Rattle.plain_tree.proofs.names.Names.find.Goals.{After-find_at}

is_place : (c : After-find_at) → c.find_at.result ≡ place_of c.args.name.now (map_at c.self.inside.places c.args.kind)
is_place c = c.find_at.ensures ∙ ap (λ n. place_of c.args.name.now (slice_index_or c.self.inside.places n [])) c.number.ensures.value

pub returns-clause-some : goal.returns-clause-some
returns-clause-some c = rw (← c.self.view_is) (found_some _ _ c.self.invariant c.args.kind c.args.name.now c.find_at.result (is_place c))

pub returns-clause-none : goal.returns-clause-none
returns-clause-none c = rw (← c.self.view_is) (found_none _ _ c.self.invariant c.args.kind c.args.name.now c.find_at.result (is_place c))

pub returns-clause-distinct : goal.returns-clause-distinct
returns-clause-distinct c = rw (← c.self.view_is) (distinct _ _ c.self.invariant)
