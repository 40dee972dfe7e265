use Rattle.value_cursor.proofs.Searching.{texts-before}
use Rattle.value_cursor.proofs.finder.Finder.texts.Goals as goal

pub returns : goal.returns
returns c = λ names G number t stands codes. texts-before names G c.args.self.now number t stands codes
