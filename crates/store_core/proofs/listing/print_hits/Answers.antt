use Rattle.std.proofs.lemmas.Result.{err_from_is_err_and}
use Rattle.rule_runs.specs.Answering.{listed_hits}
use Rattle.store_core.specs.Printed.{hit_line}
use Rattle.store_core.proofs.Gathering.{gathered, gathered_fails}
use Rattle.store_core.proofs.listing.print_hits.Goals as goal

pub returns-clause-prints : goal.returns-clause-prints
returns-clause-prints g c =
    gathered (hit_line c.args.names.now) (listed_hits c.args.found.now.hits) (g.K.Sink.got c.args.sink.now) (g.K.Sink.got c.gather_hits.new.sink) (g.K.Sink.got c.write_held.new.sink) c.in_ok-done.done c.gather_hits.new.held.items c.in_ok-done.ensures.gathers c.in_ok-write_held.ensures.written

pub returns-in_err-write_held-clause-prints : goal.returns-in_err-write_held-clause-prints
returns-in_err-write_held-clause-prints g c =
    let p = err_from_is_err_and c.from_residual-in_err-write_held.result c.from_residual-in_err-write_held.ensures.1 in
    rw p.1 (gathered_fails (hit_line c.args.names.now) (listed_hits c.args.found.now.hits) (g.K.Sink.got c.args.sink.now) (g.K.Sink.got c.gather_hits.new.sink) (g.K.Sink.got c.write_held.new.sink) c.in_ok-done.done c.gather_hits.new.held.items c.in_ok-done.ensures.gathers c.in_err-write_held.ensures.written)
