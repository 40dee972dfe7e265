use Rattle.std.proofs.lemmas.Result.{err_from_is_err_and}
use Rattle.rule_runs.specs.Answering.{listed_hits}
use Rattle.rule_runs.specs.Hits.{numbers}
use Rattle.store_core.specs.Texts.{shown_bytes}
use Rattle.store_core.proofs.Gathering.{gathered, gathered_fails}
use Rattle.store_core.proofs.showing_all.print_nodes.Goals as goal

pub returns-clause-prints : goal.returns-clause-prints
returns-clause-prints g c = λ t stand.
    gathered (shown_bytes t) (numbers (listed_hits c.args.found.now.hits)) (g.K.Sink.got c.args.sink.now) (g.K.Sink.got c.gather_nodes.new.sink) (g.K.Sink.got c.write_to.new.sink) c.in_ok-done.done c.gather_nodes.new.held.bytes.items (c.in_ok-done.ensures.gathers t stand) c.in_ok-write_to.ensures.written

pub returns-in_err-write_to-clause-prints : goal.returns-in_err-write_to-clause-prints
returns-in_err-write_to-clause-prints g c = λ t stand.
    let p = err_from_is_err_and c.from_residual-in_err-write_to.result c.from_residual-in_err-write_to.ensures.1 in
    rw p.1 (gathered_fails (shown_bytes t) (numbers (listed_hits c.args.found.now.hits)) (g.K.Sink.got c.args.sink.now) (g.K.Sink.got c.gather_nodes.new.sink) (g.K.Sink.got c.write_to.new.sink) c.in_ok-done.done c.gather_nodes.new.held.bytes.items (c.in_ok-done.ensures.gathers t stand) c.in_err-write_to.ensures.written)
