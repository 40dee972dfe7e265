use Rattle.std.proofs.Common.{◌≡◌, ◌≢◌, ◌∙◌, Bool, true, false, IsFalse, IsTrue, refl, sym, subst}
use Rattle.rule_arena.specs.Terms.{Node}
use Rattle.rule_arena.specs.declared.label.Label.TheVariants.{Param}
use Rattle.slt_grammar.specs.KeyedEdits.{label_at}
use Rattle.slt_grammar.proofs.MatchWalks.{label-first, label-same}
use Rattle.slt_grammar.proofs.grammar.Grammar.match_at.Goals as goal

pub returns-then-match_body-clause-some : goal.returns-then-match_body-clause-some
returns-then-match_body-clause-some g c = λ S earlier.
    let N = c.match_body.ensures.yes (subst (λ (b : Bool). IsTrue b) (sym c.if-match_body.true) refl) S in
    let d = c.label.ensures.node c.args.rule 0 c.root.ensures in
    let n : Node = record { key = c.root.result; label = c.label.result; kids = d.0 } in
    let real : label_at c.args.self.now.rules c.args.rule 0 ≢ Param = λ q.
    let x = label-same c.label.result Param (sym (label-first c.args.self.now.rules c.args.rule n d.1) ∙ q) in
    let y : true ≡ false = sym x ∙ sym c.eq.ensures ∙ c.if-eq.false in
    cc in
    record { here = S; earlier = earlier; real = real; args = N.args; roots = N.roots; enough = N.enough; keys = N.keys; many = N.many; term = N.is }

pub returns-else-match_body-clause-none : goal.returns-else-match_body-clause-none
returns-else-match_body-clause-none g c = λ arguments B.
    c.match_body.ensures.no (subst (λ (b : Bool). IsFalse b) (sym c.if-match_body.false) refl) B.here arguments
    (record { args = B.args; keys = B.keys; roots = B.roots; enough = B.enough; many = B.many; is = B.term })
