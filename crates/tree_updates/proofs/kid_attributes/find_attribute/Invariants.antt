use Rattle.std.proofs.Common.{◌≡◌, ◌-◌, ◌^◌, Some}
use Rattle.plain_tree.specs.Siblings.{first_kids, from_node}
use Rattle.plain_tree.specs.Tree.{Tree, none, more}
use Rattle.plain_tree.specs.declared.kind.Kind.TheVariants.{Attribute}
use Rattle.preorder_address.specs.Marks.{AreMarks}
use Rattle.preorder_address.specs.TreeNumbers.{kind_at}
use Rattle.tree_updates.specs.Stores.{IsStoreFor}
use Rattle.tree_updates.proofs.AttributeNumbers.{AttributesPassed}
use Rattle.tree_updates.proofs.kid_attributes.find_attribute.Given as goal

abbrev pub invariant-loop-own : goal.invariant-loop-own
invariant-loop-own g l = record {
  passed : (t : Tree) → IsStoreFor l.store t → (kind_at t l.number ≡ Some Attribute → ⊥) → AttributesPassed l.name (first_kids (from_node l.number (more t none))) l.before;
  marks : AreMarks l.store.names l.store.grammar.rules l.marks;
}

abbrev pub decreases-loop-own : goal.decreases-loop-own
decreases-loop-own g l = 2 ^ 64 - l.before
