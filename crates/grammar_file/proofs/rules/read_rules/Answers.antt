use Rattle.std.proofs.Common.{ℕ, ◌≤◌, List, get_or, sym, subst}
use Rattle.std.proofs.lemmas.Result.{err_from_is_err_and}
use Rattle.slt_grammar.specs.Algebras.{ranks_of}
use Rattle.slt_grammar.specs.declared.rules.Rule.{Rule}
use Rattle.grammar_file.specs.FileBytes.{rule_bytes}
use Rattle.grammar_file.proofs.Reading.{fails_too, count_fails, list_fails}
use Rattle.grammar_file.proofs.RuleReading.{AreFormedNamed, rules_small, rules_go, rules_break, rule_some}
use Rattle.grammar_file.proofs.rules.read_rules.Goals as goal

pub returns-in_err-count : goal.returns-in_err-count
returns-in_err-count c =
    let p = err_from_is_err_and c.from_residual.result c.from_residual.ensures.1 in
    rw (p.1, p.2) (fails_too c.in_err-count.field-0.0 (count_fails (AreFormedNamed c.args.names) rule_bytes c.args.scan.now rule_some) c.in_err-count.ensures)

pub read_rule-requires : goal.read_rule-requires
read_rule-requires c =
    subst (λ (G : List Rule). (q : ℕ) → get_or (ranks_of G) q 0 ≤ 8) (sym c.as_slice.ensures)
    (rules_small c.args.names c.in_ok-count.count c.count.new.self c.loop.rules c.loop.counter c.loop.scan c.loop.invariant)

pub returns-in_err-rule : goal.returns-in_err-rule
returns-in_err-rule c =
    let p = err_from_is_err_and c.from_residual-in_err-rule.result c.from_residual-in_err-rule.ensures.1 in
    rw (p.1, p.2) (fails_too c.in_err-rule.field-0.0
    (λ bad. list_fails (AreFormedNamed c.args.names) rule_bytes c.args.scan.now c.in_ok-count.count c.count.new.self c.in_ok-count.ensures.1
    (rules_break c.args.names c.in_ok-count.count c.count.new.self c.loop.rules c.loop.counter c.loop.scan c.loop.invariant c.loop-test.true c.as_slice.result.now c.as_slice.ensures bad))
    c.in_err-rule.ensures)

pub loop-preserved : goal.loop-preserved
loop-preserved c =
    rw c.in_ok-push.ensures.ok
    (rules_go c.args.names c.in_ok-count.count c.count.new.self c.loop.rules c.loop.counter c.loop.scan c.loop.invariant c.loop-test.true c.as_slice.result.now c.as_slice.ensures
    c.read_rule.new.scan c.in_ok-rule.rule c.in_ok-rule.ensures.0.0 c.in_ok-rule.ensures.0.1 c.in_ok-rule.ensures.1)
