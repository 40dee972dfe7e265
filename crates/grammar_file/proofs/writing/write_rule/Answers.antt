use Rattle.std.proofs.Common.{[], ◌∷◌}
use Rattle.std.specs.List.{flat_map}
use Rattle.std.proofs.lemmas.Result.{err_from_is_err_and}
use Rattle.slt_grammar.specs.Grammars.{body_at, rank_at}
use Rattle.slt_grammar.specs.Keyed.{rules_of}
use Rattle.grammar_file.specs.FileBytes.{label_bytes}
use Rattle.grammar_file.proofs.Putting.{puts_then, puts_stops}
use Rattle.grammar_file.proofs.writing.write_rule.Goals as goal

pub returns-in_err-byte-clause-puts : goal.returns-in_err-byte-clause-puts
returns-in_err-byte-clause-puts g c =
    let G = rules_of c.args.grammar.now.rules in
    puts_stops _ _ _ c.from_residual.result (rank_at G c.args.rule ∷ []) (flat_map label_bytes (body_at G c.args.rule)) (rw c.rank.ensures at c.in_err-byte.ensures)
    (err_from_is_err_and c.from_residual.result c.from_residual.ensures.1).1

pub returns-clause-puts : goal.returns-clause-puts
returns-clause-puts g c =
    let G = rules_of c.args.grammar.now.rules in
    puts_then _ _ _ c.write_body.result (rank_at G c.args.rule ∷ []) (flat_map label_bytes (body_at G c.args.rule)) (rw c.rank.ensures at c.in_ok-byte.ensures) c.write_body.ensures.puts
