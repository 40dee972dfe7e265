use Rattle.std.proofs.Common.{◌≡◌, ◌++◌, List, length}
use Rattle.rule_runs.specs.declared.notes.Note.{Note}
use Rattle.rule_runs.proofs.note_list.NoteList.append_top.Given as goal

abbrev pub decreases-notes : goal.decreases-notes
decreases-notes g l = length l.notes.top

abbrev pub invariant-notes : goal.invariant-notes
invariant-notes g l =
    record {
      moved : (taken : List (Note g.row.S.Denot)) × (l.self ≡ l.fn.self ++ taken) × (l.fn.notes.top ≡ taken ++ l.notes.top);
      below : l.notes.below ≡ l.fn.notes.below;
      begin : l.begin ≡ length l.fn.self;
    }
