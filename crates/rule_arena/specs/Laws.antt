-- The laws of terms out of which a node is taken.
use Rattle.std.specs.Prelude.{◌≡◌, ◌<◌, ℕ, List, Some, slice_get}
use Rattle.rule_arena.specs.Preorder.{AreTerms, with_subterm}
use Rattle.rule_arena.specs.Terms.{Node, key_in, kids_in, kids_of, labelled}
use Rattle.rule_arena.specs.Taking.{without_term, without_node}
use Rattle.rule_arena.specs.Children.{ChildAt, merged}
use Rattle.rule_arena.specs.declared.key.Key.{Key}
use Rattle.rule_arena.specs.declared.label.Label.{Label}

-- these are one term, and no key stands twice in it
pub record IsKeyedTerm (ns : List Node) : Type 0 where
  pub term : AreTerms kids_of 1 ns
  pub once : (i j : ℕ) (k : Key) → key_in ns i ≡ Some k → key_in ns j ≡ Some k → i ≡ j

-- each child of a node can be told apart
abbrev pub ChildrenStandApart : Type 0
ChildrenStandApart =
    (ns : List Node) (q : ℕ) (N : Node) (c : ℕ) (key : Key) → IsKeyedTerm ns → slice_get ns q ≡ Some N → slice_get (kids_in ns q) c ≡ Some key → ChildAt ns q N c key

-- before the place of a node that is taken out, keys stand where they stood
abbrev pub KeysBeforeStay : Type 0
KeysBeforeStay =
    (ns : List Node) (up key : Key) (p i : ℕ) → key_in ns p ≡ Some key → i < p
    → (key_in (without_term ns up p) i ≡ key_in ns i) × (key_in (without_node ns up p) i ≡ key_in ns i)

-- a child that is dissolved, and its parent with another label: both are one node
abbrev pub DissolvingMerges : Type 0
DissolvingMerges =
    (ns : List Node) (q p : ℕ) (N : Node) (c : ℕ) (key : Key) → IsKeyedTerm ns → (C : ChildAt ns q N c key) → key_in ns p ≡ Some key → (l : Label)
    → labelled (without_node ns N.key p) q l ≡ with_subterm kids_of ns q (merged N C.rest c key C.child l)

-- a child that is detached, and another term in the place of its parent: the child might as well have stayed
abbrev pub DetachingIsCovered : Type 0
DetachingIsCovered =
    (ns : List Node) (q p : ℕ) (N : Node) (c : ℕ) (key : Key) → IsKeyedTerm ns → ChildAt ns q N c key → key_in ns p ≡ Some key → (ms : List Node)
    → with_subterm kids_of (without_term ns N.key p) q ms ≡ with_subterm kids_of ns q ms
