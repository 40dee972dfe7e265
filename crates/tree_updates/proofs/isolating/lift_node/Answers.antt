use Rattle.std.proofs.Common.{◌≤◌, ◌+◌, List, sym, subst}
use Rattle.slt_grammar.specs.declared.level.Level.{Level}
use Rattle.path_isolation.specs.Isolations.{room_along}
use Rattle.tree_updates.proofs.Numbered.{spot-leads}
use Rattle.tree_updates.specs.Fronts.{IsSameBeforeFirst, first_keys}
use Rattle.start_fronts.specs.Moved.{MovesBefore}
use Rattle.segment_counts.specs.Weights.{node_weight}
use Rattle.tree_updates.proofs.isolating.lift_node.Goals as goal

pub lift_along-requires-clause-leads : goal.lift_along-requires-clause-leads
lift_along-requires-clause-leads g c =
    let r = c.requires.spot in
    (r.1, spot-leads r.0 c.args.grammar.now.rules r.1 c.args.spot.now r.2 _ c.way.ensures)

pub lift_along-requires-clause-room : goal.lift_along-requires-clause-room
lift_along-requires-clause-room g c = subst (λ (ls : List Level). room_along c.args.grammar.now.rules ls ≤ c.args.grammar.now.spare_nodes) (sym c.way.ensures) c.requires.room

pub lift_along-requires-clause-links : goal.lift_along-requires-clause-links
lift_along-requires-clause-links g c = subst (λ (ls : List Level). room_along c.args.grammar.now.rules ls + 1 ≤ c.args.index.now.spare_links) (sym c.way.ensures) c.requires.links

pub returns-clause-value : goal.returns-clause-value
returns-clause-value g c = λ names n S.
    c.lift_along.ensures.value n (spot-leads names c.args.grammar.now.rules n c.args.spot.now S _ c.way.ensures)

pub returns-clause-spare_nodes : goal.returns-clause-spare_nodes
returns-clause-spare_nodes g c =
    subst (λ (ls : List Level). c.args.grammar.now.spare_nodes ≤ c.lift_along.new.grammar.spare_nodes + room_along c.args.grammar.now.rules ls) c.way.ensures c.lift_along.ensures.spare_nodes

pub returns-clause-links : goal.returns-clause-links
returns-clause-links g c =
    subst (λ (ls : List Level). c.args.index.now.spare_links ≤ c.lift_along.new.index.spare_links + (room_along c.args.grammar.now.rules ls + 1)) c.way.ensures c.lift_along.ensures.links

pub returns-clause-front : goal.returns-clause-front
returns-clause-front g c = subst (λ (ls : List Level). IsSameBeforeFirst ls c.args.grammar.now.rules c.lift_along.new.grammar.rules) c.way.ensures c.lift_along.ensures.front

pub returns-clause-moves : goal.returns-clause-moves
returns-clause-moves g c = λ names n S.
    subst (λ (ls : List Level). MovesBefore node_weight (first_keys ls) n c.args.grammar.now.rules c.lift_along.new.grammar.rules) c.way.ensures
    (c.lift_along.ensures.moves n (spot-leads names c.args.grammar.now.rules n c.args.spot.now S _ c.way.ensures))
