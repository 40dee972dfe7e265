use Rattle.std.proofs.Common.{◌≡◌, ◌∷◌}
use Rattle.plain_tree.specs.Seen.{visit_of}
use Rattle.fcns_encoding.proofs.InternLemmas.{on-err}
use Rattle.fcns_encoding.proofs.VisitLemmas.{encoding-begins, encoding-goes, encoding-ends, encoding-fails, encoding-stops}
use Rattle.fcns_encoding.proofs.coding.Coded.add_tree.Goals as goal

pub loop-walk-init : goal.loop-walk-init
loop-walk-init c = rw c.new-walk.ensures (encoding-begins _ _ _ _)

pub returns-in_err-visit-clause-refused : goal.returns-in_err-visit-clause-refused
returns-in_err-visit-clause-refused c = on-err c.from_residual.result (encoding-stops _ _ _ _ _ _ _ _ c.loop-walk.invariant)

pub loop-walk-preserved : goal.loop-walk-preserved
loop-walk-preserved c =
    let e : c.loop-walk.walk ≡ visit_of c.in-Some.visit ∷ c.next.new.self = rw c.in-Some.is at c.in_ok-visit.ensures.ok in
    encoding-goes _ _ _ _ _ _ _ _ c.loop-walk.invariant (visit_of c.in-Some.visit) _ _ _ _ e c.in_ok-add.ensures.label c.in_ok-add.ensures.texts c.in_ok-add.ensures.names

pub returns-in_err-add-clause-refused : goal.returns-in_err-add-clause-refused
returns-in_err-add-clause-refused c =
    let e : c.loop-walk.walk ≡ visit_of c.in-Some.visit ∷ c.next.new.self = rw c.in-Some.is at c.in_ok-visit.ensures.ok in
    on-err c.from_residual-in_err-add.result (encoding-fails _ _ _ _ _ _ _ _ c.loop-walk.invariant (visit_of c.in-Some.visit) _ _ e c.in_err-add.ensures.refused)

pub returns-clause-labels : goal.returns-clause-labels
returns-clause-labels c = (encoding-ends _ _ _ _ _ _ _ _ c.loop-walk.invariant (rw c.in_default.is at c.in_ok-visit.ensures.ok).0).0

pub returns-clause-texts : goal.returns-clause-texts
returns-clause-texts c = (encoding-ends _ _ _ _ _ _ _ _ c.loop-walk.invariant (rw c.in_default.is at c.in_ok-visit.ensures.ok).0).1

pub returns-clause-names : goal.returns-clause-names
returns-clause-names c = (encoding-ends _ _ _ _ _ _ _ _ c.loop-walk.invariant (rw c.in_default.is at c.in_ok-visit.ensures.ok).0).2
