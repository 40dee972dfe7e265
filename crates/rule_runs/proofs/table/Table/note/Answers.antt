use Rattle.std.proofs.Common.{◌≡◌, length, sym, subst, arith}
use Rattle.rule_runs.specs.declared.index.TheConstants.{FEW}
use Rattle.rule_runs.specs.Tables.{IsIndexed, IsFound, StandsIn}
use Rattle.rule_runs.proofs.Tables.{indexed-keeps, indexed-more, stands-apart, stands-push}
use Rattle.rule_runs.proofs.table.Table.note.Goals as goal

pub invariant_of-self : goal.invariant_of-self
invariant_of-self g c =
    let self = c.self.inside in
    let E = g.K.PartialEq.eq in
    indexed-keeps E g.K.Numbered.number_of FEW (StandsIn self.entries.items) self.index.first.items c.name.new.self.first.items self.index.others.entries c.name.new.self.others.entries c.args.key
    (stands-apart E self.entries.items c.args.self.now c.args.key c.self.view_is c.requires) c.in_err-name.ensures.keeps c.self.invariant

pub invariant_of-self-in_err-push : goal.invariant_of-self-in_err-push
invariant_of-self-in_err-push g c =
    let self = c.self.inside in
    let E = g.K.PartialEq.eq in
    let kept =
    indexed-keeps E g.K.Numbered.number_of FEW (StandsIn self.entries.items) self.index.first.items c.name.new.self.first.items self.index.others.entries c.name.new.self.others.entries c.args.key
    (stands-apart E self.entries.items c.args.self.now c.args.key c.self.view_is c.requires) c.in_ok-name.ensures.keeps c.self.invariant
    in
    subst (λ es. IsIndexed E g.K.Numbered.number_of FEW (StandsIn es) c.name.new.self.first.items c.name.new.self.others.entries) (sym c.in_err-push.ensures.items) kept

pub invariant_of-self-2 : goal.invariant_of-self-2
invariant_of-self-2 g c =
    let E = g.K.PartialEq.eq in
    let number = g.K.Numbered.number_of in
    let self = c.self.inside in
    let es = self.entries.items in
    let first = c.name.new.self.first.items in
    let others = c.name.new.self.others.entries in
    let kept = indexed-keeps E number FEW (StandsIn es) self.index.first.items first self.index.others.entries others c.args.key (stands-apart E es c.args.self.now c.args.key c.self.view_is c.requires) c.in_ok-name.ensures.keeps c.self.invariant in
    let n : c.len.result ≡ length es = omega (arith, c.len.ensures, self.entries.ok.0) in
    let found = subst (λ place. IsFound E number FEW first others place c.args.key) n c.in_ok-name.ensures.found in
    subst (λ es. IsIndexed E number FEW (StandsIn es) first others) (sym c.in_ok-push.ensures.items)
    (indexed-more E number FEW g.met.K.Eq.laws g.met.K.Numbered.one_number (StandsIn es) (StandsIn _) first others c.args.key (length es) (stands-push E g.met.K.Eq.laws es c.args.key c.args.value) found kept)
