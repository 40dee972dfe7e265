use Rattle.std.proofs.Common.{◌≡◌, ◌∷◌, ◌∙◌, ◌≤◌, ap, arith, reverse, length}
use Rattle.std.proofs.lemmas.List.{length-reverse}
use Rattle.rule_runs.specs.Layers.{cut_at}
use Rattle.rule_runs.proofs.Layering.{top-push, rest-push}
use Rattle.rule_runs.proofs.Lists.{reverse-push}
use Rattle.rule_runs.proofs.layers.Layers.push.Goals as goal

pub returns-clause-top : goal.returns-clause-top
returns-clause-top g c =
    let xs = c.self.inside.items.items in
    let floor = c.self.inside.floor in
    let r : reverse c.push.new.self.items ≡ c.args.item ∷ reverse xs = ap reverse c.in_ok-push.ensures.items ∙ reverse-push xs c.args.item in
    let i = c.self.invariant.0 in
    let le : floor ≤ length (reverse xs) = omega (arith, length-reverse xs) in
    rw r (top-push floor c.args.item (reverse xs) le) ∙ ap (λ v. c.args.item ∷ v.top) c.self.view_is

pub returns-clause-below : goal.returns-clause-below
returns-clause-below g c =
    let xs = c.self.inside.items.items in
    let floor = c.self.inside.floor in
    let r : reverse c.push.new.self.items ≡ c.args.item ∷ reverse xs = ap reverse c.in_ok-push.ensures.items ∙ reverse-push xs c.args.item in
    let i = c.self.invariant.0 in
    let le : floor ≤ length (reverse xs) = omega (arith, length-reverse xs) in
    rw r (ap (cut_at (reverse c.self.inside.floors.items)) (rest-push floor c.args.item (reverse xs) le)) ∙ ap (λ v. v.below) c.self.view_is
