use Rattle.std.proofs.Common.{ℕ, List, ◌∷◌, length, reverse}
use Rattle.plain_tree.specs.declared.kind.Kind.{Kind}
use Rattle.slt_grammar.specs.declared.rules.Rule.{Rule}
use Rattle.grammar_file.specs.Marks.{Thins}
use Rattle.grammar_file.specs.TextLists.{AreTextLists}
use Rattle.grammar_file.specs.TextWalks.{AreUnfinished, coming}
use Rattle.grammar_file.proofs.text_walk.next_mark.Given as goal

abbrev pub invariant-levels : goal.invariant-levels
invariant-levels l = record {
  unfinished : AreUnfinished l.lists (l.level ∷ reverse l.levels.items);
  same : (names : List (Kind × List ℕ)) (G : List Rule) → AreTextLists names G (length l.lists) l.lists → Thins (coming l.lists names G (l.level ∷ reverse l.levels.items)) (coming l.lists names G (reverse l.fn.levels.items));
}

abbrev pub decreases-levels : goal.decreases-levels
decreases-levels l = l.level.rule
