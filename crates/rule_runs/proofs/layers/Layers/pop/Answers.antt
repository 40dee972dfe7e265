use Rattle.std.proofs.Common.{◌≡◌, ◌-◌, ◌∷◌, ◌∙◌, ap, subst, arith, reverse, length, take}
use Rattle.std.proofs.Common.{IfSome}
use Rattle.rule_runs.specs.Layers.{cut_at}
use Rattle.rule_runs.proofs.Layering.{top-pop, rest-pop}
use Rattle.rule_runs.proofs.layers.Layers.pop.Goals as goal

pub returns-then-len-self-clause-some : goal.returns-then-len-self-clause-some
returns-then-len-self-clause-some g c =
    let floor = c.self.inside.floor in
    let left = reverse c.pop.new.self.items in
    let t = c.if-len-self.true in
    subst (λ v. IfSome c.pop.result (λ item. v.top ≡ item ∷ take (length left - floor) left)) c.self.view_is (top-pop floor c.pop.result c.self.inside.items.items c.pop.new.self.items c.pop.ensures.items (omega (arith, c.len.ensures, c.self.inside.items.ok.0)))

pub returns-then-len-self-clause-below : goal.returns-then-len-self-clause-below
returns-then-len-self-clause-below g c =
    let t = c.if-len-self.true in
    ap (cut_at (reverse c.self.inside.floors.items)) (rest-pop c.self.inside.floor c.pop.result c.self.inside.items.items c.pop.new.self.items c.pop.ensures.items (omega (arith, c.len.ensures, c.self.inside.items.ok.0))) ∙ ap (λ v. v.below) c.self.view_is
