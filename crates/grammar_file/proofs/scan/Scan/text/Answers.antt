use Rattle.grammar_file.proofs.TextReading.{text_is_cut}
use Rattle.grammar_file.proofs.scan.Scan.text.Goals as goal

pub returns-then-len-self : goal.returns-then-len-self
returns-then-len-self c = text_is_cut c.args.self.now c.in_ok-len.len c.count.new.self c.in_ok-len.ensures.1 (rw c.self.view_is at c.if-len-self.true)
