-- What making a call does to a writer and to its sink.
use Rattle.std.specs.Prelude.{◌≡◌, ◌≤◌, ℕ, List, length, Option, Result, OnOk}
use Rattle.tree_outside.specs.Outside.{Writes}
use Rattle.tree_outside.specs.Shelf.{Kept, Keeps, Loses}
use Rattle.tree_outside.specs.declared.traits.Sink.{Ghosts}
use Rattle.xml_nodes.specs.Pen.{Call, Pen}
use Rattle.xml_nodes.specs.WriterOf.{pen_of, sink_of, sink_name, count_of}
use Rattle.xml_nodes.specs.declared.writer.Writer.{Writer}
use Rattle.store_core.specs.Saving.{text_at, most_text, pen_past, count_past}

-- what is seen of a writer: what its sink tells, which borrow of the sink it has, its pen, and how many bytes it wrote
pub record Seen : Type 0 where
  pub got : Option (List ℕ)
  pub kept : Kept
  pub faults : ℕ
  pub sink : ℕ
  pub pen : Pen
  pub count : ℕ

abbrev pub seen : {K : Type 0} → Ghosts K → Writer K → Seen
seen told w = record { got = told.got (sink_of w); kept = told.kept (sink_of w); faults = told.faults (sink_of w); sink = sink_name w; pen = pen_of w; count = count_of w }

-- the call, if there is one, was made, and wrote no more than it may; or the sink failed, and got a front of what it writes
pub record Makes {E : Type 0} (old new : Seen) (result : Result (Unit {0}) E) (call : Option Call) : Type 0 where
  pub written : Writes old.got new.got result (text_at old.pen call)
  pub pen : OnOk result (new.pen ≡ pen_past old.pen call)
  pub count : OnOk result (new.count ≡ count_past old.count old.pen call)
  pub short : OnOk result (length (text_at old.pen call) ≤ most_text call)
  pub kept : Keeps old.kept new.kept
  pub lost : Loses old.kept old.got new.got result
  pub later : old.faults ≤ new.faults
  pub same_reference : new.sink ≡ old.sink
