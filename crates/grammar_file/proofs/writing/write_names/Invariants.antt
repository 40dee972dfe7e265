use Rattle.std.proofs.Common.{◌-◌, length, drop}
use Rattle.grammar_file.specs.FileBytes.{list_bytes, name_bytes}
use Rattle.grammar_file.specs.BufferOf.{seen}
use Rattle.grammar_file.proofs.Sizes.{name_size}
use Rattle.grammar_file.proofs.Listing.{IsListing}
use Rattle.grammar_file.proofs.writing.write_names.Given as goal

abbrev pub invariant-loop-kind : goal.invariant-loop-kind
invariant-loop-kind g l = IsListing name_bytes name_size l.names (list_bytes name_bytes l.names) (drop l.place l.names) (seen g.K.Sink l.fn.out) (seen g.K.Sink l.out)

abbrev pub decreases-loop-kind : goal.decreases-loop-kind
decreases-loop-kind g l = length l.names - l.place
