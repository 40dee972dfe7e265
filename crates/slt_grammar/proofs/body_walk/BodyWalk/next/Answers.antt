use Rattle.std.proofs.Common.{◌≡◌, [], arith, ◌∙◌, sym}
use Rattle.slt_grammar.proofs.Walking.{labels_from-node, labels_from-end, place-few}
use Rattle.slt_grammar.proofs.body_walk.BodyWalk.next.Goals as goal

pub returns-in_err-key-clause-label : goal.returns-in_err-key-clause-label
returns-in_err-key-clause-label g c =
    let w = c.self.inside in
    let none : c.args.self.now ≡ [] = sym c.self.view_is ∙ labels_from-end w.grammar.now.rules w.rule w.place (c.self.invariant ∙ c.in_err-key.was) in
    rw c.from_residual.ensures (none, none)

pub overflow_add-self : goal.overflow_add-self
overflow_add-self g c =
    let w = c.self.inside in
    omega (arith, place-few w.grammar.now c.limit-limit.ensures.keyed w.rule w.place c.in_ok-key.key (c.self.invariant ∙ c.in_ok-key.was))

pub returns-clause-label : goal.returns-clause-label
returns-clause-label g c =
    let w = c.self.inside in
    let found = c.label-label.ensures.node w.rule w.place (c.self.invariant ∙ c.in_ok-key.was) in
    sym c.self.view_is
    ∙ labels_from-node w.grammar.now.rules w.rule w.place (record { key = c.in_ok-key.key; label = c.label-label.result; kids = found.0 }) found.1
