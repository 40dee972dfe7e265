use Rattle.std.proofs.Common.{ℕ, suc, Option, Some, IsSome, refl, sym, ◌∙◌, ap, subst}
use Rattle.rule_arena.specs.declared.key.Key.{Key}
use Rattle.pair_replace.proofs.Folds.{fold-parent, the-up}
use Rattle.pair_replace.proofs.near.near_nodes.Goals as goal

pub unwrap-upper-requires : goal.unwrap-upper-requires
unwrap-upper-requires c =
    let F = c.requires.1 in
    let e = fold-parent c.args.grammar.now c.limit-limit.ensures.keyed c.args.lower c.requires.0 F in
    subst (λ (o : Option (Key × ℕ)). IsSome o) (sym e ∙ c.item-low.ensures.parent F.here.rule F.here.place F.here.there) refl

pub returns-clause-upper : goal.returns-clause-upper
returns-clause-upper c = λ q F.
    let e = fold-parent c.args.grammar.now c.limit-limit.ensures.keyed c.args.lower q F in
    the-up c.item-low.result.parent c.unwrap-upper.result F.upper (suc F.child) (sym (c.item-low.ensures.parent F.here.rule F.here.place F.here.there) ∙ e) c.unwrap-upper.ensures

pub item-high-requires : goal.item-high-requires
item-high-requires c =
    let F = c.requires.1 in
    let e = fold-parent c.args.grammar.now c.limit-limit.ensures.keyed c.args.lower c.requires.0 F in
    let z = the-up c.item-low.result.parent c.unwrap-upper.result F.upper (suc F.child) (sym (c.item-low.ensures.parent F.here.rule F.here.place F.here.there) ∙ e) c.unwrap-upper.ensures in
    (F.here.rule, F.place, F.above ∙ ap Some (sym z))

pub returns-clause-siblings : goal.returns-clause-siblings
returns-clause-siblings c = λ q F.
    let e = fold-parent c.args.grammar.now c.limit-limit.ensures.keyed c.args.lower q F in
    let z = the-up c.item-low.result.parent c.unwrap-upper.result F.upper (suc F.child) (sym (c.item-low.ensures.parent F.here.rule F.here.place F.here.there) ∙ e) c.unwrap-upper.ensures in
    sym (c.item-high.ensures.kids F.here.rule F.place (F.above ∙ ap Some (sym z)))
