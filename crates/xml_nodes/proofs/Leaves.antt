-- One attribute's call more.
use Rattle.std.proofs.Common.{◌≡◌, ℕ, ◌+◌, ◌<◌, List, [], ◌∷◌, ◌++◌, length, take, get_or, ap, sym, ◌∙◌, append_assoc}
use Rattle.std.proofs.lemmas.List.{take_more, map-append}
use Rattle.plain_tree.specs.declared.kind.Kind.TheVariants.{Attribute as AttributeKind}
use Rattle.xml_tokens.specs.declared.attributes.Attribute.{Attribute}
use Rattle.xml_tokens.specs.SeenTokens.{attribute_of, attributes_of}
use Rattle.xml_nodes.specs.Machine.{Event, Leaf, attribute_leaves}

abbrev leaf_of : Attribute → Event
leaf_of a = Leaf AttributeKind (attribute_of a).0 (attribute_of a).1

pub leaves_more : (before log new : List Event) (attrs : List Attribute) (i : ℕ) (a : Attribute) → i < length attrs → a ≡ get_or attrs i a
    → log ≡ before ++ attribute_leaves (attributes_of (take i attrs)) → new ≡ log ++ leaf_of a ∷ []
    → new ≡ before ++ attribute_leaves (attributes_of (take (i + 1) attrs))
leaves_more before log new attrs i a h is l n =
    let t : take (i + 1) attrs ≡ take i attrs ++ a ∷ [] = take_more attrs i a h ∙ ap (λ z. take i attrs ++ z ∷ []) (sym is) in
    let e : attribute_leaves (attributes_of (take i attrs ++ a ∷ [])) ≡ attribute_leaves (attributes_of (take i attrs)) ++ leaf_of a ∷ [] =
    ap attribute_leaves (map-append _ (take i attrs) (a ∷ [])) ∙ map-append _ (attributes_of (take i attrs)) _ in
    n ∙ ap (λ z. z ++ leaf_of a ∷ []) l ∙ append_assoc before _ _
    ∙ ap (λ z. before ++ z) (sym (ap (λ z. attribute_leaves (attributes_of z)) t ∙ e))
