use Rattle.std.proofs.Common.{drop}
use Rattle.grammar_file.specs.FileBytes.{list_bytes}
use Rattle.grammar_file.specs.Numbers.{number_bytes}
use Rattle.grammar_file.specs.BufferOf.{seen}
use Rattle.grammar_file.proofs.Sizes.{number_size}
use Rattle.grammar_file.proofs.Listing.{IsListing}
use Rattle.grammar_file.proofs.writing.write_places.Given as goal

abbrev pub invariant-loop-text : goal.invariant-loop-text
invariant-loop-text g l = IsListing number_bytes number_size l.dictionary.places (list_bytes number_bytes l.dictionary.places) (drop l.text l.dictionary.places) (seen g.K.Sink l.fn.out) (seen g.K.Sink l.out)
