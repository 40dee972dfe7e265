use Rattle.std.proofs.Common.{◌≡◌, ◌<◌, ◌++◌, [], ◌∷◌, length, sym, ap, arith}
use Rattle.plain_tree.specs.NodeTree.{trees_of}
use Rattle.plain_tree.proofs.FreeingLemmas.{work-without, work-linked}
use Rattle.plain_tree.proofs.nodes.freed.Goals as goal

pub returns-in-None : goal.returns-in-None
returns-in-None c = let some : 0 < length c.args.waiting.items = grind arith in work-without _ _ some

pub returns-in-Some : goal.returns-in-Some
returns-in-Some c =
    let some : 0 < length c.args.waiting.items = grind arith in
    let kids : c.args.node.kids ≡ trees_of (c.pop.new.self.items ++ c.in-Some.kid ∷ []) =
    rw (← c.in-Some.ensures.items) (sym c.into_vec-inner.ensures) in
    let waits = ap trees_of c.push_reserved.ensures.items in
    rw (c.swap.ensures.items)
    (work-linked c.args.waiting.items c.pop.new.self.items c.push_reserved-in-Some.new.self.items c.in-Some.kid c.args.node _ c.len-last.result
    some c.push_reserved-in-Some.ensures.items (omega arith) kids waits)
