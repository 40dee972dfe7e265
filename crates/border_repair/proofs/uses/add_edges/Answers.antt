use Rattle.std.proofs.Common.{rules, ◌≡◌, ◌+◌, ◌*◌, ◌∷◌, ℕ, length, reverse, ap, sym, ◌∙◌, arith}
use Rattle.border_repair.specs.Counted.{counted}
use Rattle.border_repair.specs.Digrams.{is}
use Rattle.border_repair.specs.Rims.{rim_at}
use Rattle.border_repair.specs.Weighing.{arisen, hung, shown_root}
use Rattle.border_repair.proofs.Steps.{arisen-next, arisen-none, edges-sum, stack-end, stack-top}
use Rattle.border_repair.proofs.uses.add_edges.Goals as goal

pub labels-preserved : goal.labels-preserved
labels-preserved g c d =
    let rims = rim_at c.args.rims.now in
    let e = is d in
    let above = c.in-Some.above in
    let label = c.in-Some-next.label in
    let rest = reverse c.pop.new.self.items in
    let top : reverse c.labels.coming.items ≡ above ∷ rest = stack-top c.labels.coming.items c.pop.new.self.items above c.in-Some.ensures.items in
    let here = ap (λ cs. arisen rims e cs c.labels.walk) top ∙ ap (arisen rims e (above ∷ rest)) c.in-Some-next.ensures.label ∙ arisen-next rims e above rest label c.next.new.self in
    let kids = ap (λ cs. arisen rims e cs c.next.new.self) c.in_ok-open_kids.ensures in
    let more = c.in_ok-add_hung.ensures d ∙ ap (λ l. counted c.labels.counts.entries d + c.args.times * hung e above l) c.root_of.ensures in
    c.labels.invariant d ∙ edges-sum c.args.times (counted c.labels.counts.entries d) (counted c.add_hung.new.counts.entries d) (arisen rims e (reverse c.labels.coming.items) c.labels.walk) (hung e above (shown_root rims label))
    (arisen rims e _ c.next.new.self) (arisen rims e (reverse c.open_kids.new.coming.items) c.next.new.self) here more kids

pub returns : goal.returns
returns g c d =
    let none : length c.labels.coming.items ≡ 0 = search rules in
    let rims = rim_at c.args.rims.now in
    let gone = ap (λ cs. arisen rims (is d) cs c.labels.walk) (stack-end c.labels.coming.items none) ∙ arisen-none rims (is d) c.labels.walk in
    sym (c.labels.invariant d ∙ left (counted c.labels.counts.entries d) c.args.times _ gone)
  where
    left : (a t h : ℕ) → h ≡ 0 → a + t * h ≡ a
    left a t h e = rw e (omega arith)
