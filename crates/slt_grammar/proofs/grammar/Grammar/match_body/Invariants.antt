use Rattle.std.proofs.Common.{◌+◌, ◌*◌, ◌-◌, ◌≤◌, length}
use Rattle.slt_grammar.specs.Keyed.{nodes_at}
use Rattle.slt_grammar.specs.KeyedEdits.{Stands}
use Rattle.slt_grammar.proofs.MatchWalks.{Walk}
use Rattle.slt_grammar.proofs.grammar.Grammar.match_body.Given as goal

abbrev pub invariant-loop-next : goal.invariant-loop-next
invariant-loop-next g l = (S : Stands l.self.rules l.fn.at)
    → (W : Walk (nodes_at l.self.rules l.rule) (nodes_at l.self.rules S.rule) S.place l.next l.here l.found) × (l.steps ≤ l.initial.steps + 4 * W.passed)

abbrev pub decreases-loop-next : goal.decreases-loop-next
decreases-loop-next g l = l.initial.steps + 4 * length (nodes_at l.self.rules l.rule) - l.steps
