use Rattle.std.proofs.Common.{◌≡◌, ◌++◌, length}
use Rattle.slt_grammar.specs.Grammars.{body_at}
use Rattle.slt_grammar.specs.Keyed.{rules_of}
use Rattle.slt_grammar.proofs.listing.list_body.Given as goal

abbrev pub invariant-loop-label : goal.invariant-loop-label
invariant-loop-label g l = l.body ++ l.labels ≡ body_at (rules_of l.grammar.rules) l.rule

abbrev pub decreases-loop-label : goal.decreases-loop-label
decreases-loop-label g l = length l.labels
