-- What is seen of a buffer.
use Rattle.std.specs.Prelude.{ℕ, List}
use Rattle.tree_outside.specs.declared.traits.Sink.{Ghosts}
use Rattle.grammar_file.specs.Buffers.{Seen}
use Rattle.grammar_file.specs.declared.buffer.Buffer.{Buffer}

-- the sink as it now is
abbrev pub sink_of : {K : Type 0} → Buffer K → K
sink_of b = b.sink.now

-- which borrow of the sink it has
abbrev pub sink_name : {K : Type 0} → Buffer K → ℕ
sink_name b = b.sink.ghost_name

-- the bytes that it holds
abbrev pub held_of : {K : Type 0} → Buffer K → List ℕ
held_of b = b.held.items

-- how many bytes were put
abbrev pub count_of : {K : Type 0} → Buffer K → ℕ
count_of b = b.count

-- all of it, where the sink tells this of itself
abbrev pub seen : {K : Type 0} → Ghosts K → Buffer K → Seen
seen told b = record {
  got = told.got b.sink.now;
  kept = told.kept b.sink.now;
  faults = told.faults b.sink.now;
  sink = b.sink.ghost_name;
  held = b.held.items;
  count = b.count;
}
