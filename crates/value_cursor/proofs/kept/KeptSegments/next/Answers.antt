use Rattle.std.proofs.Common.{ap}
use Rattle.value_cursor.specs.Kept.{labels_of}
use Rattle.value_cursor.proofs.Keeping.{between-next}
use Rattle.value_cursor.proofs.kept.KeptSegments.next.Goals as goal

pub returns-clause-token : goal.returns-clause-token
returns-clause-token c =
    ap labels_of (between-next c.args.self.now.at c.args.self.now.end c.args.self.now.tokens.items c.index-token.result.now c.if-self.false c.requires.within c.index-token.ensures)
