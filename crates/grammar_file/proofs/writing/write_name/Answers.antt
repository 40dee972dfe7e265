use Rattle.std.proofs.Common.{[], ◌∷◌}
use Rattle.std.proofs.lemmas.Result.{err_from_is_err_and}
use Rattle.plain_tree.specs.Tree.{kind_code}
use Rattle.grammar_file.specs.FileBytes.{text_bytes}
use Rattle.grammar_file.proofs.Putting.{on_ok, puts_then, puts_stops}
use Rattle.grammar_file.proofs.Sizes.{length-name}
use Rattle.grammar_file.proofs.writing.write_name.Goals as goal

pub returns-in_err-byte-clause-puts : goal.returns-in_err-byte-clause-puts
returns-in_err-byte-clause-puts g c =
    puts_stops _ _ _ c.from_residual.result (kind_code c.args.kind ∷ []) (text_bytes c.args.name.now) (rw c.number.ensures.value at c.in_err-byte.ensures)
    (err_from_is_err_and c.from_residual.result c.from_residual.ensures.1).1

pub returns-clause-puts : goal.returns-clause-puts
returns-clause-puts g c =
    puts_then _ _ _ c.write_text.result (kind_code c.args.kind ∷ []) (text_bytes c.args.name.now) (rw c.number.ensures.value at c.in_ok-byte.ensures) c.write_text.ensures.puts

pub returns-clause-small : goal.returns-clause-small
returns-clause-small g c = on_ok c.write_text.result (length-name c.args.kind c.args.name.now c.write_text.ensures.small)
