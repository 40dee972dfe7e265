use Rattle.grammar_file.proofs.Unique.{equal-files}
use Rattle.grammar_file.proofs.laws.equal_files_have_equal_parts.Goals as goal

pub returns : goal.returns
returns c = equal-files
