use Rattle.std.proofs.Common.{◌+◌, ◌/◌, ◌%◌, [], ◌∷◌, arith}
use Rattle.std.proofs.lemmas.Result.{err_from_is_err_and}
use Rattle.grammar_file.specs.Numbers.{number_bytes}
use Rattle.grammar_file.proofs.NumberLemmas.{number-one, number-next}
use Rattle.grammar_file.proofs.Putting.{putting_goes, putting_fails, putting_ends}
use Rattle.grammar_file.proofs.buffer.Buffer.number.Goals as goal

pub returns-in_err-byte : goal.returns-in_err-byte
returns-in_err-byte g c =
    let n = c.loop-rest.rest in
    let next = number-next n c.loop-rest-test.true in
    putting_fails _ _ _ _ c.from_residual.result (number_bytes c.args.number) ((128 + n % 128) ∷ []) (number_bytes (n / 128))
    (rw next at c.loop-rest.invariant) c.in_err-byte.ensures (err_from_is_err_and c.from_residual.result c.from_residual.ensures.1).1

pub loop-rest-preserved : goal.loop-rest-preserved
loop-rest-preserved g c =
    let n = c.loop-rest.rest in
    let next = number-next n c.loop-rest-test.true in
    putting_goes _ _ _ (number_bytes c.args.number) ((128 + n % 128) ∷ []) (number_bytes (n / 128))
    (rw next at c.loop-rest.invariant) c.in_ok-byte.ensures

pub returns : goal.returns
returns g c =
    let n = c.loop-rest.rest in
    let last = number-one n (omega (arith, c.loop-rest-test.false)) in
    putting_ends _ _ _ c.byte-2.result (number_bytes c.args.number) (n ∷ []) (rw last at c.loop-rest.invariant) c.byte-2.ensures
