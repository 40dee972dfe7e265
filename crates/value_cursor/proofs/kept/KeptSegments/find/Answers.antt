use Rattle.std.proofs.Common.{length, ap, arith}
use Rattle.value_cursor.proofs.kept.KeptSegments.find.Goals as goal

pub index-requires : goal.index-requires
index-requires c = omega (arith, c.requires.place, c.forget.new.self.entries.ok.0, ap length c.forget.ensures.entries)
