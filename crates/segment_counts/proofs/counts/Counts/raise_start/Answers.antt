use Rattle.std.proofs.Common.{◌≡◌, ◌-◌, [], ◌∷◌, refl, set}
use Rattle.segment_counts.specs.Changes.{raised, start_weights}
use Rattle.segment_counts.proofs.Changed.{start-raised, raised-small}
use Rattle.segment_counts.proofs.counts.Counts.raise_start.Goals as goal

pub returns-clause-counts : goal.returns-clause-counts
returns-clause-counts c = λ names G H a v w.
    let C = c.args.self.now in
    let e : c.set_row.new.self.rows ≡ set C.rows (C.rules - 1) (raised (start_weights C) c.args.nodes c.args.texts ∷ []) =
    rw (c.set_row.ensures.rows, c.at-weights.ensures, c.rules-start.ensures) refl in
    start-raised names G H C c.set_row.new.self c.args.nodes c.args.texts a v c.requires.some c.set_row.ensures.rules w e (raised-small (start_weights c.args.self.now) c.args.nodes c.args.texts c.requires.nodes c.requires.texts c.requires.all)
