use Rattle.std.proofs.Common.{arith, refl, ap, sym, subst, ◌∙◌, ◌∷◌, Option}
use Rattle.rule_arena.specs.Terms.{Node}
use Rattle.slt_grammar.specs.Tours.{stop}
use Rattle.slt_grammar.proofs.TourLemmas.{length-node_tour}
use Rattle.preorder_address.specs.Descents.{IsWithin, steps_at, levels_at}
use Rattle.preorder_address.specs.declared.descent.Wanted.{Wanted}
use Rattle.preorder_address.specs.Numberings.{weigh_by}
use Rattle.preorder_address.specs.Routes.{stop_weight}
use Rattle.preorder_address.proofs.Finding.{sought-falls}
use Rattle.preorder_address.proofs.Told.{told-falls, told-sum}
use Rattle.preorder_address.proofs.Descending.{small-next, inside-next, steps-next, levels-next, wanted-next}
use Rattle.preorder_address.proofs.descent.Descent.next_stop.Goals as goal

pub find_part-found-requires-clause-number : goal.find_part-found-requires-clause-number
find_part-found-requires-clause-number g c =
    let a = c.args in
    let r = c.in_ok-wanted.wanted.rule in
    let h = subst (λ (o : Option Wanted). IsWithin a.self.now.by a.grammar.now.rules o) c.in_ok-wanted.was c.requires.inside in
    omega (arith, h.1, told-sum a.grammar.now c.limit-limit.ensures.keyed a.counts.now c.requires.counts a.self.now.by r h.0)

pub next_wanted-self-requires : goal.next_wanted-self-requires
next_wanted-self-requires g c =
    let a = c.args in
    let K = c.limit-limit.ensures.keyed in
    let p = c.find_part-found.result in
    let e = c.find_part-found.ensures in
    let r = c.in_ok-wanted.wanted.rule in
    let h = subst (λ (o : Option Wanted). IsWithin a.self.now.by a.grammar.now.rules o) c.in_ok-wanted.was c.requires.inside in
    let here = stop (record { key = p.walk.key; label = p.label; kids = e.falls.0 }) p.walk.part in
    let f = told-falls a.grammar.now K a.counts.now c.requires.counts a.self.now.by r h.0 c.in_ok-wanted.wanted.number p.walk here p.offset e.falls.1 in
    small-next a.grammar.now.rules K.grammar a.counts.now c.requires.counts a.self.now.by r h.0 p.label p.walk.part p.offset f.inside e.calls

pub returns-clause-levels : goal.returns-clause-levels
returns-clause-levels g c =
    let a = c.args in
    let K = c.limit-limit.ensures.keyed in
    let p = c.find_part-found.result in
    let e = c.find_part-found.ensures in
    let r = c.in_ok-wanted.wanted.rule in
    let h = subst (λ (o : Option Wanted). IsWithin a.self.now.by a.grammar.now.rules o) c.in_ok-wanted.was c.requires.inside in
    let here = stop (record { key = p.walk.key; label = p.label; kids = e.falls.0 }) p.walk.part in
    let f = told-falls a.grammar.now K a.counts.now c.requires.counts a.self.now.by r h.0 c.in_ok-wanted.wanted.number p.walk here p.offset e.falls.1 in
    ap (levels_at a.self.now.by a.grammar.now.rules) c.in_ok-wanted.was
    ∙ levels-next a.grammar.now.rules K.grammar a.counts.now c.requires.counts a.self.now.by r h.0 c.in_ok-wanted.wanted.number p.walk.key e.falls.0 p.label p.walk.part p.offset e.calls (sought-falls (stop_weight (weigh_by a.self.now.by) a.grammar.now.rules) a.grammar.now.rules r c.in_ok-wanted.wanted.number p.walk here p.offset f)
    ∙ ap (λ (o : Option Wanted). record { rule = r; key = p.walk.key } ∷ levels_at a.self.now.by a.grammar.now.rules o) (sym c.next_wanted-self.ensures)

pub returns-clause-through : goal.returns-clause-through
returns-clause-through g c =
    let a = c.args in
    let K = c.limit-limit.ensures.keyed in
    let p = c.find_part-found.result in
    let e = c.find_part-found.ensures in
    let r = c.in_ok-wanted.wanted.rule in
    let h = subst (λ (o : Option Wanted). IsWithin a.self.now.by a.grammar.now.rules o) c.in_ok-wanted.was c.requires.inside in
    let here = stop (record { key = p.walk.key; label = p.label; kids = e.falls.0 }) p.walk.part in
    let f = told-falls a.grammar.now K a.counts.now c.requires.counts a.self.now.by r h.0 c.in_ok-wanted.wanted.number p.walk here p.offset e.falls.1 in
    let x : Node = record { key = p.walk.key; label = p.label; kids = e.falls.0 } in (
      c.in_ok-wanted.wanted,
      c.in_ok-wanted.was,
      record {
        rule = refl;
        here = stop x p.walk.part;
        offset = p.offset;
        falls = f;
        earlier = e.calls;
        onward = c.next_wanted-self.ensures ∙ wanted-next a.grammar.now.rules K.grammar a.counts.now c.requires.counts a.self.now.by r h.0 p.label p.walk.part p.offset e.calls;
      },
      refl,
    )

pub returns-clause-inside : goal.returns-clause-inside
returns-clause-inside g c =
    let a = c.args in
    let K = c.limit-limit.ensures.keyed in
    let p = c.find_part-found.result in
    let e = c.find_part-found.ensures in
    let r = c.in_ok-wanted.wanted.rule in
    let h = subst (λ (o : Option Wanted). IsWithin a.self.now.by a.grammar.now.rules o) c.in_ok-wanted.was c.requires.inside in
    let here = stop (record { key = p.walk.key; label = p.label; kids = e.falls.0 }) p.walk.part in
    let f = told-falls a.grammar.now K a.counts.now c.requires.counts a.self.now.by r h.0 c.in_ok-wanted.wanted.number p.walk here p.offset e.falls.1 in
    subst (λ (o : Option Wanted). IsWithin a.self.now.by a.grammar.now.rules o) (sym c.next_wanted-self.ensures) (inside-next a.grammar.now.rules K.grammar a.counts.now c.requires.counts a.self.now.by r h.0 p.label p.walk.part p.offset f.inside e.calls)

pub returns-clause-steps : goal.returns-clause-steps
returns-clause-steps g c =
    let a = c.args in
    let K = c.limit-limit.ensures.keyed in
    let p = c.find_part-found.result in
    let e = c.find_part-found.ensures in
    let r = c.in_ok-wanted.wanted.rule in
    let h = subst (λ (o : Option Wanted). IsWithin a.self.now.by a.grammar.now.rules o) c.in_ok-wanted.was c.requires.inside in
    let t = length-node_tour a.grammar.now K r h.0 in
    let s = steps-next a.grammar.now.rules K.grammar a.counts.now c.requires.counts a.self.now.by r h.0 p.label p.walk.part p.offset e.calls in
    let u = ap (steps_at a.grammar.now.rules) c.next_wanted-self.ensures in
    let v = ap (steps_at a.grammar.now.rules) c.in_ok-wanted.was in
    omega (arith, t, s, u, v, e.steps)
