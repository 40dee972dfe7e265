-- What the calls of an output do to its sink.
use Rattle.std.specs.Prelude.{◌≡◌, ℕ, List, length, Option, Result, OnOk}
use Rattle.tree_outside.specs.ByteCounts.{counted}
use Rattle.tree_outside.specs.Outside.{Writes, HasCause}
use Rattle.tree_outside.specs.Shelf.{Kept, Keeps, Loses}
use Rattle.tree_outside.specs.declared.traits.Sink.{Ghosts}
use Rattle.xml_nodes.specs.declared.output.Output.{Output}

-- what is seen of an output: what its sink tells, which borrow of the sink it has, and how many bytes it sent
pub record Seen : Type 0 where
  pub got : Option (List ℕ)
  pub kept : Kept
  pub faults : ℕ
  pub sink : ℕ
  pub count : ℕ

-- these bytes were sent and counted, or the sink failed, and got a front of them
pub record Sends {E : Type 0} (old new : Seen) (result : Result (Unit {0}) E) (bytes : List ℕ) : Type 0 where
  pub content : Writes old.got new.got result bytes
  pub count : OnOk result (new.count ≡ counted old.count (length bytes))
  pub kept : Keeps old.kept new.kept
  pub lost : Loses old.kept old.got new.got result
  pub cause : HasCause old.faults new.faults result
  pub same_reference : new.sink ≡ old.sink

abbrev pub seen : {K : Type 0} → Ghosts K → Output K → Seen
seen told o = record { got = told.got o.sink.now; kept = told.kept o.sink.now; faults = told.faults o.sink.now; sink = o.sink.ghost_name; count = o.count }
