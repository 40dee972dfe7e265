use Rattle.std.proofs.Common.{rules, ap, sym, ◌∙◌}
use Rattle.std.specs.Map.{lookup}
use Rattle.std.proofs.lemmas.Option.{IfSome_then}
use Rattle.rule_runs.specs.declared.index.TheConstants.{FEW}
use Rattle.rule_runs.proofs.Lists.{none-then}
use Rattle.rule_runs.proofs.Tables.{table-absent}
use Rattle.rule_runs.proofs.table.Table.find.Goals as goal

pub returns-clause-found : goal.returns-clause-found
returns-clause-found g c =
    IfSome_then c.find.result c.find.ensures.found (λ r p. search rules)

pub returns-clause-absent : goal.returns-clause-absent
returns-clause-absent g c =
    let self = c.self.inside in
    none-then c.find.result _ _ c.find.ensures.absent (λ n.
    ap (lookup (g.K.PartialEq.eq c.args.key.now)) (sym c.self.view_is) ∙ table-absent g.K.PartialEq.eq g.K.Numbered.number_of FEW g.met.K.Eq.laws g.met.K.Numbered.one_number self.entries.items self.index.first.items self.index.others.entries c.args.key.now
    c.self.invariant (λ place f k x at. let p = n place f in search rules))
