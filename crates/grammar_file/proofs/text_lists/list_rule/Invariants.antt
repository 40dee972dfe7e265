use Rattle.std.proofs.Common.{◌+◌, ◌*◌, ◌-◌, length}
use Rattle.slt_grammar.specs.Segments.{node_tour}
use Rattle.grammar_file.proofs.TextListing.{Listed}
use Rattle.grammar_file.proofs.text_lists.list_rule.Given as goal

abbrev pub invariant-stops : goal.invariant-stops
invariant-stops g l = Listed l.names l.grammar.rules l.rule l.walk l.listing.done.items l.listing.begun.items l.initial.steps l.steps

abbrev pub decreases-stops : goal.decreases-stops
decreases-stops g l = (l.initial.steps + 2 * length (node_tour l.grammar.rules l.rule)) - l.steps
