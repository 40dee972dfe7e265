use Rattle.std.proofs.Common.{sym, refl, subst}
use Rattle.plain_tree.specs.Allowed.{MayBeNamed}
use Rattle.plain_tree.specs.Lawful.{IsLawfulName}
use Rattle.plain_tree.specs.declared.kind.Kind.{Kind}
use Rattle.tree_updates.proofs.NameableNodes.{allowed-name, at-told, element-named, name-allowed, never-named}
use Rattle.tree_updates.proofs.renaming.may_be_named.Goals as goal

pub returns-in-Element-clause-allowed : goal.returns-in-Element-clause-allowed
returns-in-Element-clause-allowed g c = λ t i told.
    let p = (at-told t c.args.number c.args.kind told).place in
    (λ h. name-allowed t c.args.number c.args.kind told c.args.name.now (element-named c.args.name.now c.args.kind p.before p.behind c.in-Element.is), λ h. refl)

pub returns-in-Instruction-clause-allowed : goal.returns-in-Instruction-clause-allowed
returns-in-Instruction-clause-allowed g c = λ t i told.
    let p = (at-told t c.args.number c.args.kind told).place in
    let x = c.args.name.now in
    let k : Kind = c.args.kind in
    let is = c.in-Instruction.is in (
      λ h. name-allowed t c.args.number k told x (subst (λ (j : Kind). MayBeNamed x j p.before p.behind) (sym is) (subst (λ (j : Kind). IsLawfulName j x) is (c.is_lawful_name.ensures.0 h))),
      λ h. c.is_lawful_name.ensures.1 (subst (λ (j : Kind). IsLawfulName j x) (sym is) (subst (λ (j : Kind). MayBeNamed x j p.before p.behind) is (allowed-name t c.args.number k told x h))),
    )

pub returns-in_default-clause-allowed : goal.returns-in_default-clause-allowed
returns-in_default-clause-allowed g c = λ t i told.
    let p = (at-told t c.args.number c.args.kind told).place in
    (λ h. cc, λ h. absurd (never-named c.args.name.now c.args.kind p.before p.behind c.in_default.not-Element c.in_default.not-Attribute c.in_default.not-Instruction (allowed-name t c.args.number c.args.kind told c.args.name.now h)))
