use Rattle.std.proofs.Common.{[], arith, ◌∷◌, ◌∙◌}
use Rattle.segment_counts.specs.Changes.{leaf_weights}
use Rattle.segment_counts.proofs.Changed.{leaf-counted}
use Rattle.segment_counts.proofs.RowMoves.{leaf-rows}
use Rattle.segment_counts.proofs.counts.Counts.insert_leaf.Goals as goal

pub returns-clause-rows : goal.returns-clause-rows
returns-clause-rows c = leaf-rows c.args.self.now.rows c.open_row.new.self.rows _ c.args.rule (leaf_weights c.args.nodes c.args.texts ∷ []) c.open_row.ensures.rows c.set_row.ensures.rows (omega (arith, c.requires.rule, c.requires.room, c.open_row.ensures.room)) (omega (arith, c.requires.rule, c.requires.room))

pub returns-clause-counts : goal.returns-clause-counts
returns-clause-counts c = λ names G H a v w. leaf-counted names c.args.rule G H c.args.self.now _ c.args.nodes c.args.texts a v w c.requires.room (c.set_row.ensures.rules ∙ c.open_row.ensures.rules) (leaf-rows c.args.self.now.rows c.open_row.new.self.rows _ c.args.rule (leaf_weights c.args.nodes c.args.texts ∷ []) c.open_row.ensures.rows c.set_row.ensures.rows (omega (arith, c.requires.rule, c.requires.room, c.open_row.ensures.room)) (omega (arith, c.requires.rule, c.requires.room))) (c.set_row.ensures.room ∙ c.open_row.ensures.room) c.requires.few c.ranges.texts.fits
