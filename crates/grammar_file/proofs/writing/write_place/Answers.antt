use Rattle.std.proofs.Common.{[], ◌∷◌}
use Rattle.std.proofs.lemmas.Result.{err_from_is_err_and}
use Rattle.grammar_file.specs.Numbers.{number_bytes}
use Rattle.grammar_file.proofs.Putting.{puts_then, puts_stops}
use Rattle.grammar_file.proofs.Sizes.{number-ten}
use Rattle.grammar_file.proofs.writing.write_place.Goals as goal

pub returns-in_err-byte-clause-puts : goal.returns-in_err-byte-clause-puts
returns-in_err-byte-clause-puts g c =
    puts_stops _ _ _ c.from_residual.result (c.args.tag ∷ []) (number_bytes c.args.place) c.in_err-byte.ensures
    (err_from_is_err_and c.from_residual.result c.from_residual.ensures.1).1

pub returns-clause-puts : goal.returns-clause-puts
returns-clause-puts g c = puts_then _ _ _ c.number.result (c.args.tag ∷ []) (number_bytes c.args.place) c.in_ok-byte.ensures c.number.ensures

pub returns-clause-small : goal.returns-clause-small
returns-clause-small g c = number-ten c.args.place c.ranges.place.fits

pub returns-in_err-byte-clause-small : goal.returns-in_err-byte-clause-small
returns-in_err-byte-clause-small g c = number-ten c.args.place c.ranges.place.fits
