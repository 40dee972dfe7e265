use Rattle.std.proofs.Common.{sym, ◌∙◌, arith}
use Rattle.slt_grammar.specs.Bodies.{real_nodes}
use Rattle.slt_grammar.specs.Grammars.{body_at, calls_of}
use Rattle.slt_grammar.specs.Keyed.{rules_of}
use Rattle.rule_pruning.proofs.SavingLemmas.{once-saves-none, twice-told, often-told}
use Rattle.rule_pruning.proofs.savings.saves.Goals as goal

pub returns-then-calls-lt2 : goal.returns-then-calls-lt2
returns-then-calls-lt2 c =
    let l = c.if-calls-lt2.true in
    let e = c.calls-calls.ensures in
    once-saves-none (calls_of (rules_of c.args.grammar.now.rules) c.args.rule) (real_nodes (body_at (rules_of c.args.grammar.now.rules) c.args.rule)) (omega arith)

pub returns-then-calls-eq2 : goal.returns-then-calls-eq2
returns-then-calls-eq2 c =
    twice-told c.has_nodes.result (calls_of (rules_of c.args.grammar.now.rules) c.args.rule) (real_nodes (body_at (rules_of c.args.grammar.now.rules) c.args.rule)) (sym c.calls-calls.ensures ∙ c.if-calls-eq2.true) c.has_nodes.ensures

pub returns : goal.returns
returns c =
    let l = c.if-calls-lt2.false in
    let n = c.if-calls-eq2.false in
    let e = c.calls-calls.ensures in
    often-told c.has_nodes-2.result (calls_of (rules_of c.args.grammar.now.rules) c.args.rule) (real_nodes (body_at (rules_of c.args.grammar.now.rules) c.args.rule)) (omega arith) c.has_nodes-2.ensures
