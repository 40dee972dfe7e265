use Rattle.std.proofs.Common.{◌-◌, length, drop}
use Rattle.grammar_file.specs.FileBytes.{list_bytes, text_bytes}
use Rattle.grammar_file.specs.BufferOf.{seen}
use Rattle.grammar_file.proofs.Sizes.{text_size}
use Rattle.grammar_file.proofs.Listing.{IsListing}
use Rattle.grammar_file.proofs.writing.write_texts.Given as goal

abbrev pub invariant-loop-text : goal.invariant-loop-text
invariant-loop-text g l = IsListing text_bytes text_size l.texts.different (list_bytes text_bytes l.texts.different) (drop l.place l.texts.different) (seen g.K.Sink l.fn.out) (seen g.K.Sink l.out)

abbrev pub decreases-loop-text : goal.decreases-loop-text
decreases-loop-text g l = length l.texts.different - l.place
