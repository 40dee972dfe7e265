use Rattle.std.proofs.Common.{arith, refl}
use Rattle.value_cursor.specs.declared.kept.KeptSegments.{KeptSegments}
use Rattle.value_cursor.proofs.Keeping.{kept-more}
use Rattle.value_cursor.proofs.kept.KeptSegments.keep.Goals as goal

pub returns-clause-kept : goal.returns-clause-kept
returns-clause-kept g c =
    let old = c.args.self.now in
    let later : KeptSegments = record { tokens = c.tell_segment-whole.new.tokens; entries = old.entries; spare = c.clear.new.self; at = old.at; end = old.end } in
    let told = c.tell_segment-whole.ensures.told.1 in
    kept-more c.args.grammar.now.rules old later told.more told.added refl c.clear.ensures.items (omega (arith, c.clear.ensures.capacity, c.tell_segment-whole.ensures.room)) c.tell_segment-whole.ensures.places refl c.requires.kept
