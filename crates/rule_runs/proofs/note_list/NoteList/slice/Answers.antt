use Rattle.std.proofs.Common.{◌∙◌, ap, map, slice_range}
use Rattle.rule_runs.specs.NoteLists.{in_full}
use Rattle.rule_runs.proofs.NoteLists.{map-range}
use Rattle.rule_runs.proofs.note_list.NoteList.slice.Goals as goal

pub returns : goal.returns
returns g c =
    let l = c.self.inside in
    let span = c.args.span.now in
    let f = in_full l.states.items in
    ap (map f) c.of.ensures ∙ map-range f l.notes.items span.begin span.end ∙ ap (λ ns. slice_range ns span.begin span.end) c.self.view_is
