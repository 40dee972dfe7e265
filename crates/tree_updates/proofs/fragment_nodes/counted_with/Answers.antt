use Rattle.std.proofs.Common.{◌∙◌, ap, arith, length}
use Rattle.plain_tree.specs.NodeTree.{tree_of}
use Rattle.plain_tree.specs.Visits.{opened}
use Rattle.tree_updates.proofs.FragmentLists.{all-opened}
use Rattle.tree_updates.proofs.fragment_nodes.counted_with.Goals as goal

pub loop-walk-init : goal.loop-walk-init
loop-walk-init c =
    let e = ap (λ vs. length (opened vs)) c.new-walk.ensures ∙ all-opened (tree_of c.args.node.now) in
    (c.ranges.before.fits, omega (arith, e))

pub returns : goal.returns
returns c =
    let i = c.loop-walk.invariant in
    let e = ap (λ vs. length (opened vs)) (rw c.in_default.is at c.in_ok-visit.ensures.ok).0 in
    omega (arith, e, i.0, i.1)
