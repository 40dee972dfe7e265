use Rattle.std.proofs.Common.{sym, subst}
use Rattle.rule_runs.specs.declared.index.TheConstants.{FEW}
use Rattle.rule_runs.specs.Tables.{IsFound}
use Rattle.rule_runs.proofs.Tables.{found-grows, found-other}
use Rattle.rule_runs.proofs.index.Index.name.Goals as goal

pub returns-in_err-keep_first-clause-keeps : goal.returns-in_err-keep_first-clause-keeps
returns-in_err-keep_first-clause-keeps g c =
    λ other k d f. found-grows g.K.PartialEq.eq g.K.Numbered.number_of FEW c.args.self.now.first.items c.keep_first.new.first.items c.args.self.now.others.entries other k c.in_err-keep_first.ensures.grows f

pub returns-then-branch-clause-keeps : goal.returns-then-branch-clause-keeps
returns-then-branch-clause-keeps g c =
    λ other k d f. found-grows g.K.PartialEq.eq g.K.Numbered.number_of FEW c.args.self.now.first.items c.keep_first.new.first.items c.args.self.now.others.entries other k c.in_ok-keep_first.ensures.grows f

pub returns-in_err-copy-clause-keeps : goal.returns-in_err-copy-clause-keeps
returns-in_err-copy-clause-keeps g c =
    λ other k d f. found-grows g.K.PartialEq.eq g.K.Numbered.number_of FEW c.args.self.now.first.items c.keep_first.new.first.items c.args.self.now.others.entries other k c.in_ok-keep_first.ensures.grows f

pub returns-in_err-insert-clause-keeps : goal.returns-in_err-insert-clause-keeps
returns-in_err-insert-clause-keeps g c =
    let E = g.K.PartialEq.eq in
    let number = g.K.Numbered.number_of in
    λ other k d f.
    subst (λ others. IsFound E number FEW c.keep_first.new.first.items others other k) (sym c.in_err-insert.ensures.err)
    (found-grows E number FEW c.args.self.now.first.items c.keep_first.new.first.items c.args.self.now.others.entries other k c.in_ok-keep_first.ensures.grows f)

pub returns-clause-keeps : goal.returns-clause-keeps
returns-clause-keeps g c =
    let E = g.K.PartialEq.eq in
    let number = g.K.Numbered.number_of in
    λ other k d f.
    found-other E number FEW g.met.K.Eq.laws c.keep_first.new.first.items c.args.self.now.others.entries c.insert.new.self.entries c.args.key.now c.in_ok-copy.field-0 k c.args.place other c.in_ok-copy.ensures d c.in_ok-insert.ensures.updates.0
    (found-grows E number FEW c.args.self.now.first.items c.keep_first.new.first.items c.args.self.now.others.entries other k c.in_ok-keep_first.ensures.grows f)
