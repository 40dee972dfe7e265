use Rattle.std.proofs.Common.{sym, subst}
use Rattle.slt_grammar.specs.Keyed.{rules_of}
use Rattle.rule_runs.specs.Descents.{Standing}
use Rattle.rule_runs.specs.Risen.{keys}
use Rattle.rule_runs.proofs.falling.wait_for.Goals as goal

pub returns-clause-stands : goal.returns-clause-stands
returns-clause-stands g c =
    let A = g.A.Rising.algebra c.args.automaton.now in
    let W = g.A.Falling.downward c.args.automaton.now in
    let G = rules_of c.args.grammar.now.rules in
    λ lists. subst (λ f. Standing A W G (keys c.args.risen.now.known) lists f c.begin.new.marks.top) (sym c.replace.ensures.after) (c.in_ok-next.ensures.stands lists)
