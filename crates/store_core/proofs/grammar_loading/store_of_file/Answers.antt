use Rattle.std.proofs.Common.{ap, arith, Err}
use Rattle.std.proofs.lemmas.Result.{err_from_is_err_and}
use Rattle.slt_grammar.specs.Grammars.{value}
use Rattle.slt_grammar.specs.Keyed.{rules_of}
use Rattle.store_core.proofs.GrammarFiles.{file_says}
use Rattle.segment_counts.proofs.Coded.{weight-coded}
use Rattle.store_core.proofs.grammar_loading.store_of_file.Goals as goal

pub returns-in_err-grammar-clause-refused : goal.returns-in_err-grammar-clause-refused
returns-in_err-grammar-clause-refused c =
    let p = err_from_is_err_and c.from_residual.result c.from_residual.ensures.1 in
    rw p.1 (p.2 c.args.bytes.now (file_says c.in_err-grammar.field-0.0 c.args.bytes.now
    (λ e. c.in_err-grammar.ensures.bad (ap Err e))
    (λ e. c.in_err-grammar.ensures.many (ap Err e))))

pub tables_of-requires-clause-few : goal.tables_of-requires-clause-few
tables_of-requires-clause-few c =
    let (tree, stand, small) = c.in_ok-grammar.ensures.document in
    omega (arith, weight-coded c.in_ok-grammar.field-0.names tree (value (rules_of c.in_ok-grammar.field-0.grammar.rules)) stand.code, small)

pub returns-clause-store : goal.returns-clause-store
returns-clause-store c =
    let (tree, stand, small) = c.in_ok-grammar.ensures.document in
    record {
      tree = tree;
      file = record { file = c.in_ok-grammar.ensures.file; stand = stand };
      small = small;
      counted = record { counts = c.in_ok-counts.ensures.counts; index = c.in_ok-counts.ensures.index; marks = c.new.ensures c.in_ok-grammar.field-0.names c.in_ok-grammar.field-0.grammar.rules };
    }
