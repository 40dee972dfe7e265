use Rattle.std.proofs.Common.{length}
use Rattle.std.specs.List.{flat_map}
use Rattle.slt_grammar.specs.Grammars.{body_at}
use Rattle.slt_grammar.specs.Keyed.{rules_of}
use Rattle.grammar_file.specs.BufferOf.{seen}
use Rattle.grammar_file.specs.FileBytes.{label_bytes}
use Rattle.grammar_file.proofs.Listing.{IsListing}
use Rattle.grammar_file.proofs.Sizes.{label_size}
use Rattle.grammar_file.proofs.writing.write_body.Given as goal

abbrev pub invariant-loop-label : goal.invariant-loop-label
invariant-loop-label g l =
    let body = body_at (rules_of l.grammar.rules) l.rule in
    IsListing label_bytes label_size body (flat_map label_bytes body) l.labels (seen g.K.Sink l.initial.out) (seen g.K.Sink l.out)

abbrev pub decreases-loop-label : goal.decreases-loop-label
decreases-loop-label g l = length l.labels
