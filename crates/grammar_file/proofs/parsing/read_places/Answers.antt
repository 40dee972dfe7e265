use Rattle.std.proofs.Common.{length, ◌∙◌, subst}
use Rattle.std.specs.List.{flat_map}
use Rattle.grammar_file.specs.Reading.{BeginsNone}
use Rattle.std.proofs.lemmas.Result.{err_from_is_err_and}
use Rattle.grammar_file.specs.Numbers.{number_bytes}
use Rattle.grammar_file.proofs.Numbers.{number_some}
use Rattle.grammar_file.proofs.PlaceReading.{AreBelow, places_go, places_break}
use Rattle.grammar_file.proofs.Reading.{Counted, fails_too, count_fails, list_fails}
use Rattle.grammar_file.proofs.parsing.read_places.Goals as goal

pub returns-in_err-count-clause-read : goal.returns-in_err-count-clause-read
returns-in_err-count-clause-read c =
    let p = err_from_is_err_and c.from_residual.result c.from_residual.ensures.1 in
    rw (p.1, p.2) (fails_too c.in_err-count.field-0.0 (count_fails (AreBelow (length c.args.table.now.different)) number_bytes c.args.scan.now number_some) c.in_err-count.ensures)

pub returns-in_err-place-clause-read : goal.returns-in_err-place-clause-read
returns-in_err-place-clause-read c =
    let p = err_from_is_err_and c.from_residual-in_err-place.result c.from_residual-in_err-place.ensures.1 in
    rw (p.1, p.2) (fails_too c.in_err-place.field-0.0
    (λ bad. list_fails (AreBelow (length c.args.table.now.different)) number_bytes c.args.scan.now c.in_ok-count.count c.count.new.self c.in_ok-count.ensures.1
    (subst (λ n. BeginsNone (Counted (AreBelow n) c.in_ok-count.count) (flat_map number_bytes) c.count.new.self) c.len-texts.ensures
    (places_break c.len-texts.result c.in_ok-count.count c.count.new.self c.loop.table.places c.loop.counter c.loop.scan c.loop.invariant.reading c.loop-test.true bad)))
    c.in_err-place.ensures)

pub loop-preserved : goal.loop-preserved
loop-preserved c = record {
  reading = rw c.in_ok-place-2.ensures.places
      (places_go c.len-texts.result c.in_ok-count.count c.count.new.self c.loop.table.places c.loop.counter c.loop.scan c.loop.invariant.reading c.loop-test.true c.place.new.self c.in_ok-place.field-0 c.in_ok-place.ensures.0 c.in_ok-place.ensures.1);
  different = c.in_ok-place-2.ensures.different ∙ c.loop.invariant.different;
}
