use Rattle.std.proofs.Common.{◌<◌, ◌≤◌, ◌+◌, ◌*◌, arith}
use Rattle.std.proofs.lemmas.Result.{err_from_is_err_and}
use Rattle.grammar_file.proofs.Numbers.{number_ends, number_starts_large, number_is_byte, number_breaks, number_is_no_least, number_is}
use Rattle.grammar_file.proofs.Reading.{fails_too}
use Rattle.grammar_file.proofs.scan.Scan.+number.Goals as goal
use Rattle.grammar_file.proofs.scan.Scan.+number.Goals.{then-high-eq0-via-then-high-eq0, then-high-eq0-via-else-high-eq0+then-low-most}

pub returns-in_err-byte : goal.returns-in_err-byte
returns-in_err-byte t c =
    let p = err_from_is_err_and c.from_residual.result c.from_residual.ensures.1 in
    rw (p.1, p.2) (fails_too c.in_err-byte.field-0.0 (number_ends c.args.most c.args.self.now) c.in_err-byte.ensures)

pub returns-then-byte-most : goal.returns-then-byte-most
returns-then-byte-most t c = number_starts_large c.args.most c.args.self.now c.in_ok-byte.field-0 c.byte.new.self c.in_ok-byte.ensures.1 c.if-byte-most.true

pub returns-then-byte-lt128 : goal.returns-then-byte-lt128
returns-then-byte-lt128 t c = (c.if-byte-most.false, number_is_byte c.args.most c.args.self.now c.in_ok-byte.field-0 c.byte.new.self c.in_ok-byte.ensures.1 c.if-byte-lt128.true)

pub returns-in_err-high : goal.returns-in_err-high
returns-in_err-high t c =
    let p = err_from_is_err_and c.from_residual-in_err-high.result c.from_residual-in_err-high.ensures.1 in
    rw (p.1, p.2) (fails_too c.in_err-high.field-0.0
    (number_breaks c.args.most c.args.self.now c.in_ok-byte.field-0 c.byte.new.self c.in_ok-byte.ensures.1 c.if-byte-lt128.false) c.in_err-high.ensures)

pub returns-then-high-eq0 : goal.returns-then-high-eq0
returns-then-high-eq0 t c =
    let high = c.in_ok-high.high in
    let too_large : 0 < high → c.in_ok-byte.field-0 + 128 * high ≤ c.args.most + 128 → ⊥ = λ some fits. elim c.then-high-eq0.branch [
      | then-high-eq0-via-then-high-eq0 w ↦ omega (arith, w.if-high-eq0.true)
      | then-high-eq0-via-else-high-eq0+then-low-most w ↦ omega (arith, w.if-low-most.true, c.if-byte-lt128.false, c.in_ok-high.ensures.0)
    ] in
    number_is_no_least c.args.most c.args.self.now c.in_ok-byte.field-0 high c.byte.new.self c.number.new.self c.in_ok-byte.ensures.1 c.if-byte-lt128.false c.in_ok-high.ensures.1 too_large

pub returns : goal.returns
returns t c = (
  omega (arith, c.if-low-most.false, c.in_ok-high.ensures.0),
  number_is c.args.most c.args.self.now c.in_ok-byte.field-0 c.in_ok-high.high c.byte.new.self c.number.new.self c.in_ok-byte.ensures.1 c.if-byte-lt128.false (omega arith) c.in_ok-high.ensures.1 (omega arith),
)
