use Rattle.std.proofs.Common.{◌≤◌, ◌+◌, List, sym, subst}
use Rattle.slt_grammar.specs.declared.level.Level.{Level}
use Rattle.path_isolation.specs.Isolations.{room_along}
use Rattle.tree_updates.proofs.Numbered.{spot-leads}
use Rattle.start_fronts.specs.Before.{KeepsBefore}
use Rattle.tree_updates.specs.Fronts.{StandsBehindFirst, first_keys}
use Rattle.tree_updates.proofs.isolating.isolate_node.Goals as goal

pub isolate_along-requires-clause-leads : goal.isolate_along-requires-clause-leads
isolate_along-requires-clause-leads g c =
    let r = c.requires.spot in
    (r.1, spot-leads r.0 c.args.grammar.now.rules r.1 c.args.spot.now r.2 _ c.way.ensures)

pub isolate_along-requires-clause-room : goal.isolate_along-requires-clause-room
isolate_along-requires-clause-room g c = subst (λ (ls : List Level). room_along c.args.grammar.now.rules ls ≤ c.args.grammar.now.spare_nodes) (sym c.way.ensures) c.requires.room

pub isolate_along-requires-clause-links : goal.isolate_along-requires-clause-links
isolate_along-requires-clause-links g c = subst (λ (ls : List Level). room_along c.args.grammar.now.rules ls ≤ c.args.index.now.spare_links) (sym c.way.ensures) c.requires.links

pub returns-clause-node : goal.returns-clause-node
returns-clause-node g c = λ names n S.
    c.isolate_along.ensures.node n (spot-leads names c.args.grammar.now.rules n c.args.spot.now S _ c.way.ensures)

pub returns-clause-spare_nodes : goal.returns-clause-spare_nodes
returns-clause-spare_nodes g c =
    subst (λ (ls : List Level). c.args.grammar.now.spare_nodes ≤ c.isolate_along.new.grammar.spare_nodes + room_along c.args.grammar.now.rules ls) c.way.ensures c.isolate_along.ensures.spare_nodes

pub returns-clause-links : goal.returns-clause-links
returns-clause-links g c =
    subst (λ (ls : List Level). c.args.index.now.spare_links ≤ c.isolate_along.new.index.spare_links + room_along c.args.grammar.now.rules ls) c.way.ensures c.isolate_along.ensures.links

pub returns-clause-front : goal.returns-clause-front
returns-clause-front g c = subst (λ (ls : List Level). StandsBehindFirst ls c.args.grammar.now.rules c.isolate_along.new.grammar.rules c.isolate_along.result) c.way.ensures c.isolate_along.ensures.front

pub returns-clause-before : goal.returns-clause-before
returns-clause-before g c = subst (λ (ls : List Level). KeepsBefore (first_keys ls) c.args.grammar.now.rules c.isolate_along.new.grammar.rules) c.way.ensures c.isolate_along.ensures.before
