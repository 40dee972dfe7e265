use Rattle.grammar_file.proofs.scan.Scan.+number.Given as goal

abbrev pub decreases-number : goal.decreases-number
decreases-number l = l.most
