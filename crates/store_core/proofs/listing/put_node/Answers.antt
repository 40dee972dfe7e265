use Rattle.std.proofs.lemmas.Result.{err_from_is_err_and}
use Rattle.std.proofs.Common.{codes, ◌++◌}
use Rattle.store_core.specs.Texts.{node_line}
use Rattle.store_core.proofs.Gathering.{line-of, passes-three, stops-first, stops-second}
use Rattle.store_core.proofs.listing.put_node.Goals as goal

pub returns-in_err-put-clause-passes : goal.returns-in_err-put-clause-passes
returns-in_err-put-clause-passes g c =
    let p = err_from_is_err_and c.from_residual.result c.from_residual.ensures.1 in
    let line = line-of c.args.number c.args.kind c.args.name.now _ _ _ _ _ c.as_slice.result.now c.new-front.ensures c.add_number.ensures.text c.add.ensures c.add-2.ensures c.kind_word.ensures.word c.as_slice.ensures.value in
    rw p.1 (stops-first (g.K.Sink.got c.args.sink.now) (g.K.Sink.got c.put.new.sink) c.args.held.now.items c.as_slice.result.now (c.args.name.now ++ codes "\n") (node_line c.args.number (c.args.kind, c.args.name.now)) line c.in_err-put.ensures.passes)

pub returns-in_err-put-2-clause-passes : goal.returns-in_err-put-2-clause-passes
returns-in_err-put-2-clause-passes g c =
    let p = err_from_is_err_and c.from_residual-in_err-put-2.result c.from_residual-in_err-put-2.ensures.1 in
    let line = line-of c.args.number c.args.kind c.args.name.now _ _ _ _ _ c.as_slice.result.now c.new-front.ensures c.add_number.ensures.text c.add.ensures c.add-2.ensures c.kind_word.ensures.word c.as_slice.ensures.value in
    rw p.1 (stops-second (g.K.Sink.got c.args.sink.now) (g.K.Sink.got c.put.new.sink) (g.K.Sink.got c.put-2.new.sink) c.args.held.now.items c.as_slice.result.now c.put.new.held.items c.args.name.now (codes "\n") (node_line c.args.number (c.args.kind, c.args.name.now)) line c.in_ok-put.ensures.passes c.in_err-put-2.ensures.passes)

pub returns-clause-passes : goal.returns-clause-passes
returns-clause-passes g c =
    let line = line-of c.args.number c.args.kind c.args.name.now _ _ _ _ _ c.as_slice.result.now c.new-front.ensures c.add_number.ensures.text c.add.ensures c.add-2.ensures c.kind_word.ensures.word c.as_slice.ensures.value in
    passes-three (g.K.Sink.got c.args.sink.now) (g.K.Sink.got c.put.new.sink) (g.K.Sink.got c.put-2.new.sink) (g.K.Sink.got c.put-3.new.sink) c.args.held.now.items c.as_slice.result.now c.put.new.held.items c.args.name.now c.put-2.new.held.items (codes "\n") c.put-3.new.held.items
    (node_line c.args.number (c.args.kind, c.args.name.now)) tt tt c.put-3.result line c.in_ok-put.ensures.passes c.in_ok-put-2.ensures.passes c.put-3.ensures.passes
