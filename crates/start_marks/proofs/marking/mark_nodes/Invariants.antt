use Rattle.std.specs.List.{Contains}
use Rattle.std.specs.Prelude.{◌≡◌, ℕ, List, IsTrue}
use Rattle.plain_tree.specs.declared.kind.Kind.{Kind}
use Rattle.slt_grammar.specs.Keyed.{KeyedRule}
use Rattle.digram_index.specs.Linked.{is_marked}
use Rattle.digram_index.specs.Marking.{MarksStart}
use Rattle.preorder_address.specs.Marks.{AreMarks}
use Rattle.preorder_address.specs.declared.marks.Mark.{Mark}
use Rattle.start_marks.proofs.marking.mark_nodes.Given as goal

abbrev pub invariant-loop-mark : goal.invariant-loop-mark
invariant-loop-mark l = record {
  index : l.index ≡ record l.initial.index { marked = l.index.marked };
  only : (k : ℕ) → IsTrue (is_marked l.index k) → (mark : Mark) × Contains l.marks mark × (mark.key.number ≡ k);
  stand : (names : List (Kind × List ℕ)) (G : List KeyedRule) → AreMarks names G l.marks → MarksStart G l.index;
}
