use Rattle.store_core.proofs.Gathering.{passes-written}
use Rattle.store_core.proofs.listing.put.Goals as goal

pub returns-then-bytes-gt-ROOM-clause-passes : goal.returns-then-bytes-gt-ROOM-clause-passes
returns-then-bytes-gt-ROOM-clause-passes g c =
    passes-written (g.K.Sink.got c.args.sink.now) (g.K.Sink.got c.write_held.new.sink) (g.K.Sink.got c.write.new.self) c.args.held.now.items c.args.bytes.now c.write_held.new.held.items c.write.result
    c.in_ok-write_held.ensures.written c.in_ok-write_held.ensures.empty c.write.ensures.content
