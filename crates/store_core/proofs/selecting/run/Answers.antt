use Rattle.std.proofs.Common.{arith, subst}
use Rattle.std.specs.Prelude.{IfOk}
use Rattle.slt_grammar.specs.Grammars.{value}
use Rattle.slt_grammar.specs.Keyed.{rules_of}
use Rattle.selecting_automaton.specs.Unfiltered.{HitsBlindly}
use Rattle.store_core.specs.Selecting.{Finds}
use Rattle.store_core.proofs.StateCounts.{once-few}
use Rattle.store_core.proofs.selecting.run.Goals as goal

pub returns-in-Some-clause-finds : goal.returns-in-Some-clause-finds
returns-in-Some-clause-finds g c =
    let t = value (rules_of c.args.grammar.now.rules) in
    let same = subst HitsBlindly c.in-Some.ensures.same c.in-Some.ensures.hits t in
    let blindly = rw c.in-Some.ensures.same at c.run_downward.ensures.finds in
    subst (λ answer. IfOk c.run_downward.result (Finds answer t c.args.listed)) same blindly

pub returns-in-Some-clause-reads : goal.returns-in-Some-clause-reads
returns-in-Some-clause-reads g c = λ parts outer few. omega (arith, once-few (rules_of c.args.grammar.now.rules) parts outer, c.run_downward.ensures.reads)
