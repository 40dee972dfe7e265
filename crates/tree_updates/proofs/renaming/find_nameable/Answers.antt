use Rattle.std.proofs.Common.{sym, ◌∙◌}
use Rattle.tree_updates.proofs.NameableNodes.{kind-some}
use Rattle.tree_updates.proofs.renaming.find_nameable.Goals as goal

pub unreachable-requires : goal.unreachable-requires
unreachable-requires g c =
    let s = c.args.store.now in
    let r = c.requires.store in
    kind-some r.0 c.args.number (c.in_ok-spot.ensures.there r.0 r.1) (sym c.in_default.is ∙ c.kind.ensures s.grammar.rules c.args.number r.0 c.in_ok-spot.ensures.spot r.1.stand.code)
