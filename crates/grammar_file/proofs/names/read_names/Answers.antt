use Rattle.std.proofs.lemmas.Result.{err_from_is_err_and}
use Rattle.grammar_file.specs.FileBytes.{name_bytes}
use Rattle.grammar_file.specs.Files.{AreNames}
use Rattle.grammar_file.proofs.NameReading.{name_some, is_absent, names_go, names_break, names_repeat}
use Rattle.grammar_file.proofs.Reading.{fails_too, count_fails, list_fails}
use Rattle.grammar_file.proofs.names.read_names.Goals as goal

pub returns-in_err-count : goal.returns-in_err-count
returns-in_err-count c =
    let p = err_from_is_err_and c.from_residual.result c.from_residual.ensures.1 in
    rw (p.1, p.2) (fails_too c.in_err-count.field-0.0 (count_fails AreNames name_bytes c.args.scan.now name_some) c.in_err-count.ensures)

pub returns-in_err-kind : goal.returns-in_err-kind
returns-in_err-kind c =
    let p = err_from_is_err_and c.from_residual-in_err-kind.result c.from_residual-in_err-kind.ensures.1 in
    rw (p.1, p.2) (fails_too c.in_err-kind.field-0.0
    (λ bad. list_fails AreNames name_bytes c.args.scan.now c.in_ok-count.count c.count.new.self c.in_ok-count.ensures.1
    (names_break c.in_ok-count.count c.count.new.self c.loop.names c.loop.counter c.loop.scan c.loop.invariant c.loop-test.true bad))
    c.in_err-kind.ensures)

pub returns-then-is_some : goal.returns-then-is_some
returns-then-is_some c =
    list_fails AreNames name_bytes c.args.scan.now c.in_ok-count.count c.count.new.self c.in_ok-count.ensures.1
    (names_repeat c.in_ok-count.count c.count.new.self c.loop.names c.loop.counter c.loop.scan c.loop.invariant c.loop-test.true
    c.read_name.new.scan c.in_ok-kind.kind c.in_ok-kind.name.now c.find.result c.in_ok-kind.ensures.1 c.if-is_some.ensures c.find.ensures.some)

pub loop-preserved : goal.loop-preserved
loop-preserved c =
    let absent = is_absent c.loop.names c.in_ok-kind.kind c.in_ok-kind.name.now c.find.result c.if-is_some.ensures c.find.ensures.none in
    rw (c.in_ok-intern.ensures.added absent)
    (names_go c.in_ok-count.count c.count.new.self c.loop.names c.loop.counter c.loop.scan c.loop.invariant c.loop-test.true
    c.read_name.new.scan c.in_ok-kind.kind c.in_ok-kind.name.now c.in_ok-kind.ensures.0 c.in_ok-kind.ensures.1 absent)
