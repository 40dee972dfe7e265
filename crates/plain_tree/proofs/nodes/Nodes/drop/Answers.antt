use Rattle.std.proofs.Common.{◌≡◌, ◌++◌, [], ◌∷◌}
use Rattle.plain_tree.specs.NodeTree.{tree_of, trees_of}
use Rattle.plain_tree.proofs.FreeingLemmas.{trees_of-append}
use Rattle.plain_tree.proofs.nodes.Nodes.drop.Goals as goal

pub loop-node-smaller : goal.loop-node-smaller
loop-node-smaller c =
    let before : trees_of c.loop-node.waiting.items ≡ trees_of c.pop.new.self.items ++ tree_of c.in-Some.node ∷ []
    = rw (c.in-Some.ensures.items) (trees_of-append c.pop.new.self.items c.in-Some.node) in
    rw before c.freed-waiting.ensures
