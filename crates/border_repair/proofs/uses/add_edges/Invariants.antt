use Rattle.std.proofs.Common.{◌≡◌, ◌+◌, ◌*◌, ◌∷◌, [], None, length, reverse}
use Rattle.slt_grammar.specs.Grammars.{body_at}
use Rattle.slt_grammar.specs.Keyed.{rules_of}
use Rattle.slt_grammar.specs.declared.digram.Digram.{Digram}
use Rattle.border_repair.specs.Counted.{counted}
use Rattle.border_repair.specs.Digrams.{is}
use Rattle.border_repair.specs.Rims.{rim_at}
use Rattle.border_repair.specs.Weighing.{arisen}
use Rattle.border_repair.proofs.uses.add_edges.Given as goal

abbrev pub invariant-labels : goal.invariant-labels
invariant-labels g l = (d : Digram) → counted l.initial.counts.entries d + l.times * arisen (rim_at l.rims) (is d) (None ∷ []) (body_at (rules_of l.grammar.rules) l.rule)
    ≡ counted l.counts.entries d + l.times * arisen (rim_at l.rims) (is d) (reverse l.coming.items) l.walk

abbrev pub decreases-labels : goal.decreases-labels
decreases-labels g l = length l.walk
