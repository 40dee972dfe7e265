use Rattle.std.proofs.Common.{◌≤◌, length, reverse}
use Rattle.std.specs.Prelude.{◌↔◌, []}
use Rattle.slt_grammar.specs.Grammars.{value}
use Rattle.slt_grammar.specs.Keyed.{rules_of}
use Rattle.slt_grammar.specs.Segments.{listed}
use Rattle.grammar_file.specs.TextWalks.{AreUnfinished, coming}
use Rattle.grammar_file.specs.Unlike.{AreBehind, AreRightTexts}
use Rattle.grammar_file.proofs.TextFitting.{Fits}
use Rattle.grammar_file.proofs.texts_of.walk_texts.Given as goal

abbrev pub invariant-marks : goal.invariant-marks
invariant-marks g l = record {
  unfinished : AreUnfinished l.lists.items (reverse l.levels.items);
  within : l.at ≤ length l.texts.texts;
  behind : AreBehind l.attributes (length l.names) l.at;
  same : AreRightTexts l.names (listed (value (rules_of l.grammar.rules)) []) l.texts.texts
      ↔ Fits l.names l.texts.texts l.at l.attributes (coming l.lists.items l.names (rules_of l.grammar.rules) (reverse l.levels.items));
}

abbrev pub decreases-marks : goal.decreases-marks
decreases-marks g l = length (coming l.lists.items l.names (rules_of l.grammar.rules) (reverse l.levels.items))
