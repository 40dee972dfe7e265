use Rattle.std.proofs.Common.{◌≡◌, Some}
use Rattle.plain_tree.specs.Tree.{Tree}
use Rattle.plain_tree.specs.declared.kind.Kind.TheVariants.{Attribute}
use Rattle.preorder_address.specs.Marks.{AreMarks}
use Rattle.preorder_address.specs.TreeNumbers.{kind_at}
use Rattle.tree_updates.specs.Stores.{IsStoreFor}
use Rattle.tree_updates.proofs.AttributeElements.{IsBetween}
use Rattle.tree_updates.proofs.kid_attributes.element_of.Given as goal

abbrev pub invariant-loop-element : goal.invariant-loop-element
invariant-loop-element g l = record {
  between : (t : Tree) → IsStoreFor l.store t → Some Attribute ≡ kind_at t l.number → IsBetween t l.number l.element;
  marks : AreMarks l.store.names l.store.grammar.rules l.marks;
}

abbrev pub decreases-loop-element : goal.decreases-loop-element
decreases-loop-element g l = l.element
