-- The attributes of an element.
use Rattle.std.specs.Prelude.{◌≡◌, ℕ, Bool, true, false, List, Some, slice_get}
use Rattle.std.specs.Str.{bytes_eq}
use Rattle.plain_tree.specs.declared.kind.Kind.TheVariants.{Attribute}
use Rattle.plain_tree.specs.Edits.{chained}
use Rattle.plain_tree.specs.Numbers.{nodes}
use Rattle.plain_tree.specs.Tree.{Tree, node, Trees, none, more, node_count_all}
use Rattle.tree_updates.specs.declared.kid_attributes.AttributePlace.{AttributePlace}

-- attributes alone, none of this name
abbrev pub AreOtherAttributes : List ℕ → Trees → Type 0
AreOtherAttributes name none = Unit {0}
AreOtherAttributes name (more (node k m v ks) ts) = (k ≡ Attribute) × (bytes_eq m name ≡ false) × AreOtherAttributes name ts

-- the first of them is an attribute, of this name, where one is found, and else no attribute is the first
abbrev pub IsNextAttribute : List ℕ → Trees → Bool → Type 0
IsNextAttribute name (more (node Attribute m v ks) ts) found = (m ≡ name) × (found ≡ true)
IsNextAttribute name ts found = found ≡ false

-- Among the kids of an element so many attributes stand before the one of this name; where none is found, so many attributes are there at all.
pub record IsAttributePlace (name : List ℕ) (kids : Trees) (place : AttributePlace) : Type 0 where
  pub front : Trees
  pub behind : Trees
  pub split : kids ≡ chained more front behind
  pub others : AreOtherAttributes name front
  pub next : IsNextAttribute name behind place.found
  pub before : place.before ≡ node_count_all front

-- node n is an attribute of this name
abbrev pub IsAttributeAt : Tree → ℕ → List ℕ → Type 0
IsAttributeAt t n name = (value : List ℕ) × (slice_get (nodes t) n ≡ Some (node Attribute name value none))
