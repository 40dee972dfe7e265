use Rattle.std.proofs.Common.{List, ℕ, ◌∙◌}
use Rattle.std.proofs.lemmas.Result.{err_from_is_err_and}
use Rattle.grammar_file.specs.FileBytes.{text_bytes}
use Rattle.grammar_file.proofs.Reading.{fails_too, count_fails, list_fails}
use Rattle.grammar_file.proofs.TextReading.{text_some, texts_go, texts_break}
use Rattle.grammar_file.proofs.parsing.read_different.Goals as goal

pub returns-in_err-count-clause-read : goal.returns-in_err-count-clause-read
returns-in_err-count-clause-read c =
    let p = err_from_is_err_and c.from_residual.result c.from_residual.ensures.1 in
    rw (p.1, p.2) (fails_too c.in_err-count.field-0.0 (count_fails (λ (_ : List (List ℕ)). Unit {0}) text_bytes c.args.scan.now text_some) c.in_err-count.ensures)

pub returns-in_err-text-clause-read : goal.returns-in_err-text-clause-read
returns-in_err-text-clause-read c =
    let p = err_from_is_err_and c.from_residual-in_err-text.result c.from_residual-in_err-text.ensures.1 in
    rw (p.1, p.2) (fails_too c.in_err-text.field-0.0
    (λ bad. list_fails (λ (_ : List (List ℕ)). Unit {0}) text_bytes c.args.scan.now c.in_ok-count.count c.count.new.self c.in_ok-count.ensures.1
    (texts_break c.in_ok-count.count c.count.new.self c.loop.table.different c.loop.counter c.loop.scan c.loop.invariant.reading c.loop-test.true bad))
    c.in_err-text.ensures)

pub loop-preserved : goal.loop-preserved
loop-preserved c = record {
  reading = rw c.in_ok-push.ensures.different
      (texts_go c.in_ok-count.count c.count.new.self c.loop.table.different c.loop.counter c.loop.scan c.loop.invariant.reading c.loop-test.true c.text.new.self c.in_ok-text.field-0.now c.in_ok-text.ensures.1);
  places = c.in_ok-push.ensures.places ∙ c.loop.invariant.places;
}
