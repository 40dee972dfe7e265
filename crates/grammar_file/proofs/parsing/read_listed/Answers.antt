use Rattle.std.proofs.lemmas.Result.{err_from_is_err_and}
use Rattle.grammar_file.proofs.DictionaryReading.{no_places, no_list}
use Rattle.grammar_file.proofs.Reading.{fails_too}
use Rattle.grammar_file.proofs.parsing.read_listed.Goals as goal

pub returns-in_err-read_places : goal.returns-in_err-read_places
returns-in_err-read_places c =
    let p = err_from_is_err_and c.from_residual-in_err-read_places.result c.from_residual-in_err-read_places.ensures.1 in
    rw (p.1, p.2) (fails_too c.in_err-read_places.field-0.0 (no_places c.args.scan.now c.read_different.new.scan c.read_different.new.table.different c.in_ok-read_different.ensures.read.1) c.in_err-read_places.ensures.read)

pub returns-in-None : goal.returns-in-None
returns-in-None c =
    no_list c.args.scan.now c.read_different.new.scan c.read_different.new.table.different c.in_ok-read_different.ensures.read.1 c.read_places.new.scan c.read_places.new.table c.in_ok-read_places.ensures.different c.in_ok-read_places.ensures.read.1
    (c.in_ok-list.ensures.none c.in-None.is)
