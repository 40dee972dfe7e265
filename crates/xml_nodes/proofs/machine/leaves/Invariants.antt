use Rattle.std.proofs.Common.{◌≡◌, ◌++◌, true, take}
use Rattle.xml_nodes.proofs.machine.leaves.Given as goal
use Rattle.xml_nodes.specs.Machine.{attribute_leaves}
use Rattle.xml_tokens.specs.SeenTokens.{attributes_of}

-- the leaves of the attributes so far were taken
abbrev pub invariant-loop-attribute : goal.invariant-loop-attribute
invariant-loop-attribute g l =
    (g.B.Builder.log l.builder ≡ g.B.Builder.log l.initial.builder ++ attribute_leaves (attributes_of (take l.attribute-index l.attributes)))
    × (g.B.Builder.depth l.builder ≡ g.B.Builder.depth l.initial.builder)
    × (g.B.Builder.sound l.builder ≡ true)
