use Rattle.segment_counts.specs.Weights.{node_weight}
use Rattle.tree_updates.specs.Fronts.{first_keys}
use Rattle.tree_updates.proofs.MovedMarks.{moves-swept}
use Rattle.tree_updates.proofs.deleting.delete_plain.Goals as goal

pub returns-clause-moves : goal.returns-clause-moves
returns-clause-moves g c =
    moves-swept node_weight (first_keys c.args.spot.now.levels.items) c.args.number c.args.store.now.grammar.rules c.take_out.new.store.grammar.rules c.sweep.new.store.grammar.rules c.sweep.ensures.value c.take_out.ensures.moves c.sweep.ensures.before
