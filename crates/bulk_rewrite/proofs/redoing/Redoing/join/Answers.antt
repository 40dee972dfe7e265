use Rattle.std.proofs.Common.{◌≡◌, [], Some, get_or, sym, ap, ◌∙◌, subst}
use Rattle.bulk_rewrite.specs.Fates.{Joins, redone_one}
use Rattle.bulk_rewrite.specs.Redoing.{TextsSoFar, all_texts, opened}
use Rattle.text_list.proofs.CopyLemmas.{found_is}
use Rattle.bulk_rewrite.proofs.Redone.{joins-at}
use Rattle.bulk_rewrite.proofs.redoing.Redoing.join.Goals as goal

pub returns-in_ok-write_both-in-Kept-clause-texts : goal.returns-in_ok-write_both-in-Kept-clause-texts
returns-in_ok-write_both-in-Kept-clause-texts c = λ r.
    let os = c.self.inside.done.originals in
    let before : TextsSoFar = record { originals = os; done = c.self.inside.done.texts; open_text = opened os c.self.inside.joined.items c.self.inside.open_text } in
    let kept : before.open_text ≡ Some c.in-Some.first.now = ap (opened os c.self.inside.joined.items) c.in-Kept.is ∙ sym c.in-Some.ensures in
    let text = found_is os c.args.place c.original.result c.unwrap-text.result c.original.ensures c.unwrap-text.ensures in
    subst (λ (s : TextsSoFar). all_texts (record { originals = os; done = c.self.inside.done.texts; open_text = Some c.write_both.new.bytes.items }) r ≡ all_texts s (redone_one Joins (get_or s.originals c.args.place []) r)) c.self.view_is
    (joins-at before c.in-Some.first.now c.unwrap-text.result.now c.write_both.new.bytes.items c.args.place kept text c.in_ok-write_both-in-Kept.ensures r)

pub returns-in_ok-extend_from_slice-in-Joined-clause-texts : goal.returns-in_ok-extend_from_slice-in-Joined-clause-texts
returns-in_ok-extend_from_slice-in-Joined-clause-texts c = λ r.
    let os = c.self.inside.done.originals in
    let joined = c.self.inside.joined.items in
    let before : TextsSoFar = record { originals = os; done = c.self.inside.done.texts; open_text = opened os joined c.self.inside.open_text } in
    let longer : opened os c.extend_from_slice.new.self.items c.self.inside.open_text ≡ Some c.extend_from_slice.new.self.items = ap (opened os c.extend_from_slice.new.self.items) c.in-Joined.is in
    let text = found_is os c.args.place c.original.result c.unwrap-text.result c.original.ensures c.unwrap-text.ensures in
    ap (λ o. all_texts (record { originals = os; done = c.self.inside.done.texts; open_text = o }) r) longer
    ∙ subst (λ (s : TextsSoFar). all_texts (record { originals = os; done = c.self.inside.done.texts; open_text = Some c.extend_from_slice.new.self.items }) r ≡ all_texts s (redone_one Joins (get_or s.originals c.args.place []) r)) c.self.view_is
    (joins-at before joined c.unwrap-text.result.now c.extend_from_slice.new.self.items c.args.place (ap (opened os joined) c.in-Joined.is) text c.in_ok-extend_from_slice-in-Joined.ensures.items r)
