use Rattle.std.proofs.Common.{◌≡◌, ◌≤◌, drop, length}
use Rattle.std.specs.Prelude.{vec_capacity, vec_len}
use Rattle.tree_outside.specs.Shelf.{Keeps}
use Rattle.value_cursor.specs.Cursors.{IsInside, tokens_of}
use Rattle.xml_nodes.specs.WriterOf.{pen_of, sink_of, sink_name, count_of}
use Rattle.store_core.specs.Walking.{HasRoom, place_of}
use Rattle.store_core.proofs.Saves.{IsWriting}
use Rattle.store_core.proofs.writing.write_tokens.Given as goal

abbrev pub invariant-loop-token : goal.invariant-loop-token
invariant-loop-token g l =
    let all = tokens_of l.store.grammar.rules l.fn.walk.cursor in
    let left = tokens_of l.store.grammar.rules l.walk.cursor in
    record {
      writing : IsWriting l.store.names (drop l.fn.walk.place.used l.store.texts.texts) all left (place_of l.store l.walk.place) (pen_of l.writer) (count_of l.writer) (g.K.Sink.got (sink_of l.fn.writer)) (g.K.Sink.got (sink_of l.writer));
      inside : IsInside l.store.grammar.rules l.walk.cursor;
      room : HasRoom (vec_capacity l.walk.place.outer) (vec_len l.walk.place.outer) left;
      capacity : vec_capacity l.walk.place.outer ≡ vec_capacity l.fn.walk.place.outer;
      same : sink_name l.writer ≡ sink_name l.fn.writer;
      kept : Keeps (g.K.Sink.kept (sink_of l.fn.writer)) (g.K.Sink.kept (sink_of l.writer));
      later : g.K.Sink.faults (sink_of l.fn.writer) ≤ g.K.Sink.faults (sink_of l.writer);
    }

abbrev pub decreases-loop-token : goal.decreases-loop-token
decreases-loop-token g l = length (tokens_of l.store.grammar.rules l.walk.cursor)
