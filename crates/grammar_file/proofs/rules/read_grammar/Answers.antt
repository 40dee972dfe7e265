use Rattle.std.proofs.lemmas.Result.{err_from_is_err_and}
use Rattle.grammar_file.proofs.Reading.{fails_too}
use Rattle.grammar_file.proofs.RuleReading.{grammar_breaks, grammar_is_faulty}
use Rattle.grammar_file.proofs.rules.read_grammar.Goals as goal

pub returns-in_err-rules : goal.returns-in_err-rules
returns-in_err-rules c =
    let p = err_from_is_err_and c.from_residual.result c.from_residual.ensures.1 in
    rw (p.1, p.2) (fails_too c.in_err-rules.field-0.0 (grammar_breaks c.args.names c.args.scan.now) c.in_err-rules.ensures)

pub returns-in-Err : goal.returns-in-Err
returns-in-Err c =
    fails_too c.refused_by.result
    (grammar_is_faulty c.args.names c.args.scan.now c.in_ok-rules.rules c.read_rules.new.scan c.in-Err.fault c.in_ok-rules.ensures.0.0 c.in_ok-rules.ensures.1 c.in-Err.ensures.fault)
    c.refused_by.ensures.bad
