-- A new attribute of an element.
use Rattle.std.specs.Prelude.{◌≡◌, ◌≤◌, ℕ, false, List, [], ◌∷◌, Some, length, slice_get}
use Rattle.std.specs.List.{insert_slice}
use Rattle.plain_tree.specs.declared.edit.Edit.TheVariants.{Attr}
use Rattle.plain_tree.specs.declared.kind.Kind.TheVariants.{Attribute}
use Rattle.plain_tree.specs.Additions.{has_attribute}
use Rattle.plain_tree.specs.Edits.{edited}
use Rattle.plain_tree.specs.NodePairs.{Pair}
use Rattle.plain_tree.specs.Numbers.{texts}
use Rattle.plain_tree.specs.Siblings.{first_kids, from_node}
use Rattle.plain_tree.specs.Tree.{Tree, none, more}
use Rattle.rule_arena.specs.declared.label.Label.{Label}
use Rattle.rule_arena.specs.declared.label.Label.TheVariants.{Bottom, Symbol, Param}
use Rattle.preorder_address.specs.TreeNumbers.{after_attributes_at}
use Rattle.tree_updates.specs.declared.growing.Growth.{Growth}
use Rattle.tree_updates.specs.declared.growing.Site.{Site}

-- the body of an attribute's node with this name, before what follows it
abbrev pub IsAttributeBody : List Pair → List ℕ → List Label → Type 0
IsAttributeBody names name body = (symbol : ℕ) × (slice_get names symbol ≡ Some (Attribute, name)) × (body ≡ Symbol symbol ∷ Bottom ∷ Param ∷ [])

-- an attribute with this name and this value comes there
pub record IsAttributeGrowth (names : List Pair) (name value : List ℕ) (site : Site) (g : Growth) : Type 0 where
  pub body : IsAttributeBody names name g.body
  pub texts : g.texts ≡ value ∷ []
  pub site_is : g.site ≡ site
  pub nodes : g.nodes ≡ 1

-- element n has no attribute of the name; one comes to this place of the code, and its value to this rank
pub record IsAttributeSite (t : Tree) (n : ℕ) (name value : List ℕ) (site : Site) : Type 0 where
  pub absent : has_attribute name (first_kids (from_node n (more t none))) ≡ false
  pub place : after_attributes_at t n ≡ Some site.place
  pub fits : site.rank ≤ length (texts t)
  pub texts_are : texts (edited t (Attr n name value)) ≡ insert_slice (texts t) site.rank (value ∷ [])
