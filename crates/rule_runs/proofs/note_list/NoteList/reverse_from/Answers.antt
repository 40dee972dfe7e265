use Rattle.std.proofs.Common.{◌≡◌, ◌≤◌, ◌∙◌, ap, arith, drop, length, map, reverse, sym, take}
use Rattle.std.proofs.lemmas.List.{length-map, length-take, take-append-drop}
use Rattle.rule_runs.specs.NoteLists.{in_full}
use Rattle.rule_runs.proofs.Layering.{end-of, end-reversed}
use Rattle.rule_runs.proofs.NoteLists.{map-turned}
use Rattle.rule_runs.proofs.note_list.NoteList.reverse_from.Goals as goal

pub returns : goal.returns
returns g c =
    let l = c.self.inside in
    let begin = c.args.begin in
    let xs = l.notes.items in
    let f = in_full l.states.items in
    let parts = sym (take-append-drop begin xs) in
    let within : begin ≤ length xs = omega (arith, c.requires, ap length c.self.view_is, length-map xs f) in
    let front : begin ≡ length (take begin xs) = omega (arith, length-take begin xs, within) in
    let part = c.slice_mut.ensures.value ∙ end-of (take begin xs) (drop begin xs) xs begin _ parts front (omega (arith, l.notes.ok.0)) in
    let turned = c.reverse.ensures.after ∙ ap reverse part in
    ap (map f) (end-reversed (take begin xs) (drop begin xs) c.reverse.new.self turned _ _ xs parts (omega (arith, l.notes.ok.0)) front) ∙ map-turned f xs c.args.self.now begin c.self.view_is
