-- Marks through changes that keep what an index has marked.
use Rattle.std.proofs.Common.{ℕ, List, Bool, slice_index_or}
use Rattle.std.specs.List.{filter}
use Rattle.std.proofs.lemmas.List.Elements.{All-filter, filter_passes}
use Rattle.plain_tree.specs.declared.kind.Kind.{Kind}
use Rattle.slt_grammar.specs.Keyed.{KeyedRule}
use Rattle.digram_index.specs.Linked.{Linked, is_marked}
use Rattle.digram_index.specs.Marking.{KeepsMarked}
use Rattle.preorder_address.specs.Marks.{AreMarks, IsMark}
use Rattle.preorder_address.specs.declared.marks.Mark.{Mark}
use Rattle.start_marks.proofs.Weights.{mark-behind}

-- the marks that an index has marked still
pub marks-kept : (names : List (Kind × List ℕ)) (G H : List KeyedRule) (I J : Linked) (marks : List Mark) → AreMarks names G marks → KeepsMarked G I H J
    → AreMarks names H (filter (λ (mark : Mark). is_marked J mark.key.number) marks)
marks-kept names G H I J marks are keeps i d h =
    let test : Mark → Bool = λ mark. is_marked J mark.key.number in
    let mark : Mark = slice_index_or (filter test marks) i d in
    let is : IsMark names G mark = All-filter test (IsMark names G) marks are i d h in
    mark-behind names G H mark is (keeps.stays mark.key is.place is.there (filter_passes test marks i d h))
