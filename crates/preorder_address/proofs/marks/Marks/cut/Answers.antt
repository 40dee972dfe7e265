use Rattle.std.proofs.Common.{All, List, Option, ◌<◌, subst, sym, take}
use Rattle.std.proofs.lemmas.List.Elements.{All-same, All-take}
use Rattle.preorder_address.specs.Marks.{IsMark, MarksPlace}
use Rattle.preorder_address.specs.declared.marks.Mark.{Mark}
use Rattle.preorder_address.proofs.Marking.{marks-stay}
use Rattle.preorder_address.proofs.marks.Marks.cut.Goals as goal

pub returns : goal.returns
returns c = λ names g H place k a m s.
    let first : Mark = c.in-Some.mark in
    let ms : List Mark = c.self.inside.list.items in
    let kept = c.count_below-kept.result in
    let f = subst (λ (o : Option Mark). MarksPlace names g.rules place o) c.in-Some.is m in
    let less = subst (λ (xs : List Mark). All (λ (mark : Mark). mark.passed.all < first.passed.all) (take kept xs)) c.as_slice.ensures.value c.count_below-kept.ensures in
    All-same (IsMark names H) c.truncate.new.self.items (take kept ms) c.truncate.ensures.items
    (marks-stay names g k H place s first f.0 f.1 (take kept ms) (All-take (IsMark names g.rules) kept ms (subst (All (IsMark names g.rules)) (sym c.self.view_is) a)) less)
