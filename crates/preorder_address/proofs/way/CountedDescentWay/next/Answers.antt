use Rattle.std.proofs.Common.{ap, arith, sym, subst, length, ◌∙◌, ◌∷◌, Option}
use Rattle.std.proofs.lemmas.List.Sums.{sum_by-cons}
use Rattle.slt_grammar.specs.Keyed.{nodes_at}
use Rattle.slt_grammar.specs.declared.level.Level.{Level}
use Rattle.slt_grammar.proofs.TourLemmas.{length-node_tour}
use Rattle.preorder_address.specs.Told.{AreTold, steps_for, told_levels}
use Rattle.preorder_address.specs.declared.descent.Wanted.{Wanted}
use Rattle.preorder_address.proofs.ToldRoutes.{rule-there, number-there, told-small, told-ready, told-next}
use Rattle.preorder_address.proofs.way.CountedDescentWay.next.Goals as goal

pub find_part-found-requires-clause-rule : goal.find_part-found-requires-clause-rule
find_part-found-requires-clause-rule g c =
    let a = c.args in
    let by = a.self.now.descent.by in
    let C = a.self.now.counts.now in
    let K = c.limit-limit.ensures.keyed in
    let w = c.in_ok-wanted.wanted in
    let t = subst (λ (o : Option Wanted). AreTold a.self.now.descent.by a.self.now.counts.now a.grammar.now.rules o) c.in_ok-wanted.was c.requires in
    rule-there by C a.grammar.now K w.rule w.number t

pub find_part-found-requires-clause-number : goal.find_part-found-requires-clause-number
find_part-found-requires-clause-number g c =
    let a = c.args in
    let by = a.self.now.descent.by in
    let C = a.self.now.counts.now in
    let K = c.limit-limit.ensures.keyed in
    let w = c.in_ok-wanted.wanted in
    let t = subst (λ (o : Option Wanted). AreTold a.self.now.descent.by a.self.now.counts.now a.grammar.now.rules o) c.in_ok-wanted.was c.requires in
    number-there by C a.grammar.now K w.rule w.number t

pub next_wanted-self-requires : goal.next_wanted-self-requires
next_wanted-self-requires g c =
    let a = c.args in
    let by = a.self.now.descent.by in
    let C = a.self.now.counts.now in
    let K = c.limit-limit.ensures.keyed in
    let w = c.in_ok-wanted.wanted in
    let t = subst (λ (o : Option Wanted). AreTold a.self.now.descent.by a.self.now.counts.now a.grammar.now.rules o) c.in_ok-wanted.was c.requires in
    let p = c.find_part-found.result in
    let e = c.find_part-found.ensures in
    told-small by C a.grammar.now K w.rule w.number t p.walk p.walk.key e.falls.0 p.label p.walk.part p.offset e.calls e.falls.1

pub returns-clause-ready : goal.returns-clause-ready
returns-clause-ready g c =
    let a = c.args in
    let by = a.self.now.descent.by in
    let C = a.self.now.counts.now in
    let K = c.limit-limit.ensures.keyed in
    let w = c.in_ok-wanted.wanted in
    let t = subst (λ (o : Option Wanted). AreTold a.self.now.descent.by a.self.now.counts.now a.grammar.now.rules o) c.in_ok-wanted.was c.requires in
    let p = c.find_part-found.result in
    let e = c.find_part-found.ensures in
    subst (λ (o : Option Wanted). AreTold a.self.now.descent.by a.self.now.counts.now a.grammar.now.rules o) (sym c.next_wanted-self.ensures) (told-ready by C a.grammar.now K w.rule w.number t p.walk p.walk.key e.falls.0 p.label p.walk.part p.offset e.calls e.falls.1)

pub returns-clause-levels : goal.returns-clause-levels
returns-clause-levels g c =
    let a = c.args in
    let by = a.self.now.descent.by in
    let C = a.self.now.counts.now in
    let K = c.limit-limit.ensures.keyed in
    let w = c.in_ok-wanted.wanted in
    let t = subst (λ (o : Option Wanted). AreTold a.self.now.descent.by a.self.now.counts.now a.grammar.now.rules o) c.in_ok-wanted.was c.requires in
    let p = c.find_part-found.result in
    let e = c.find_part-found.ensures in
    ap (told_levels by C a.grammar.now.rules) c.in_ok-wanted.was ∙ told-next by C a.grammar.now K w.rule w.number t p.walk p.walk.key e.falls.0 p.label p.walk.part p.offset e.calls e.falls.1
    ∙ ap (λ (o : Option Wanted). record { rule = w.rule; key = p.walk.key } ∷ told_levels a.self.now.descent.by a.self.now.counts.now a.grammar.now.rules o) (sym c.next_wanted-self.ensures)

pub returns-clause-steps : goal.returns-clause-steps
returns-clause-steps g c =
    let a = c.args in
    let by = a.self.now.descent.by in
    let C = a.self.now.counts.now in
    let K = c.limit-limit.ensures.keyed in
    let w = c.in_ok-wanted.wanted in
    let t = subst (λ (o : Option Wanted). AreTold a.self.now.descent.by a.self.now.counts.now a.grammar.now.rules o) c.in_ok-wanted.was c.requires in
    let p = c.find_part-found.result in
    let e = c.find_part-found.ensures in
    let next = told_levels by C a.grammar.now.rules c.next_wanted-self.result in
    let l : Level = record { rule = w.rule; key = p.walk.key } in
    let s = ap (steps_for a.grammar.now.rules) (ap (told_levels by C a.grammar.now.rules) c.in_ok-wanted.was ∙ told-next by C a.grammar.now K w.rule w.number t p.walk p.walk.key e.falls.0 p.label p.walk.part p.offset e.calls e.falls.1) in
    let n = ap (λ (o : Option Wanted). steps_for a.grammar.now.rules (l ∷ told_levels a.self.now.descent.by a.self.now.counts.now a.grammar.now.rules o)) (sym c.next_wanted-self.ensures) in
    let m = sum_by-cons (λ (k : Level). length (nodes_at a.grammar.now.rules k.rule)) l next in
    omega (arith, s, n, m, e.steps, length-node_tour a.grammar.now K w.rule (rule-there by C a.grammar.now K w.rule w.number t))
