-- What is seen of a writer.
use Rattle.std.specs.Prelude.{ℕ}
use Rattle.xml_nodes.specs.Pen.{Pen}
use Rattle.xml_nodes.specs.declared.writer.Writer.{Writer}

abbrev pub pen_of : {K : Type 0} → Writer K → Pen
pen_of w = record { lines = w.lines; depth = w.depth; in_tag = w.in_tag }

-- the sink as it now is
abbrev pub sink_of : {K : Type 0} → Writer K → K
sink_of w = w.output.sink.now

-- which borrow of the sink it holds
abbrev pub sink_name : {K : Type 0} → Writer K → ℕ
sink_name w = w.output.sink.ghost_name

-- how many bytes it wrote so far
abbrev pub count_of : {K : Type 0} → Writer K → ℕ
count_of w = w.output.count
