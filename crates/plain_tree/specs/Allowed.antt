-- Which edits of a lawful document are allowed: those that leave one.
use Rattle.std.specs.Prelude.{◌≡◌, ◌≢◌, ℕ, List, MatchOption}
use Rattle.plain_tree.specs.declared.edit.Edit.{Edit}
use Rattle.plain_tree.specs.declared.edit.Edit.TheVariants.{Rename, Insert, Append, Delete, Value, Attr, Copy}
use Rattle.plain_tree.specs.declared.kind.Kind.{Kind}
use Rattle.plain_tree.specs.declared.kind.Kind.TheVariants.{Document, Element, Attribute, Comment, Instruction}
use Rattle.plain_tree.specs.Edits.{number_of}
use Rattle.plain_tree.specs.Lawful.{AreChars, IsName, IsNew, IsTarget, IsLawfulValue, IsFragment}
use Rattle.plain_tree.specs.Numbers.{kind_of}
use Rattle.plain_tree.specs.Places.{Place, place_at}
use Rattle.plain_tree.specs.Tree.{Tree, node, Trees, none, more, trees}

-- comments and instructions alone
abbrev pub AreAside : Trees → Type 0
AreAside none = Unit {0}
AreAside (more (node Comment name value kids) ts) = AreAside ts
AreAside (more (node Instruction name value kids) ts) = AreAside ts
AreAside ts = ⊥

-- a node of this kind, between these siblings, may get the name, which is a Name: an element any, an attribute one that no other attribute of
-- its element has, an instruction a target
abbrev pub MayBeNamed : List ℕ → Kind → Trees → Trees → Type 0
MayBeNamed name Element before behind = Unit {0}
MayBeNamed name Attribute before behind = IsNew name before × IsNew name behind
MayBeNamed name Instruction before behind = IsTarget name
MayBeNamed name kind before behind = ⊥

-- a node of this kind may get the value, which is Chars: an attribute any, a text, comment or instruction a lawful one
abbrev pub MayHaveValue : List ℕ → Kind → Type 0
MayHaveValue value Document = ⊥
MayHaveValue value Element = ⊥
MayHaveValue value Attribute = Unit {0}
MayHaveValue value kind = IsLawfulValue kind value

-- a fragment may come to stand under a node of this kind, behind its attributes: under an element any, under the document one of comments and
-- instructions alone
abbrev pub MayStandUnder : Kind → Trees → Type 0
MayStandUnder Document ts = AreAside ts
MayStandUnder Element ts = Unit {0}
MayStandUnder kind ts = ⊥

-- and before the node at this place, which is neither the document nor an attribute
abbrev pub MayStandBeside : Place → Trees → Type 0
MayStandBeside p ts = (kind_of p.here ≢ Attribute) × MatchOption p.above ⊥ (λ kind. MayStandUnder kind ts)

-- the node at this place is neither the document nor the root element
abbrev pub IsSpare : Place → Type 0
IsSpare p = MatchOption p.above ⊥ (λ kind. kind ≡ Document → kind_of p.here ≢ Element)

-- the edit is allowed at this place
abbrev pub IsAllowedAt : Edit → Place → Type 0
IsAllowedAt (Rename n name) p = MayBeNamed name (kind_of p.here) p.before p.behind
IsAllowedAt (Insert n fragment) p = MayStandBeside p (trees fragment)
IsAllowedAt (Append n fragment) p = MayStandUnder (kind_of p.here) (trees fragment)
IsAllowedAt (Delete n) p = IsSpare p
IsAllowedAt (Value n value) p = MayHaveValue value (kind_of p.here)
IsAllowedAt (Attr n name value) p = kind_of p.here ≡ Element
IsAllowedAt (Copy n) p = (kind_of p.here ≢ Attribute) × IsSpare p

-- the edit is allowed: its number is a node's, and what stands there lets it
abbrev pub IsAllowed : Tree → Edit → Type 0
IsAllowed t e = MatchOption (place_at t (number_of e)) ⊥ (IsAllowedAt e)

-- the name that an edit gives is a Name, its value consists of Chars, its fragment is one
abbrev pub AreLawfulParts : Edit → Type 0
AreLawfulParts (Rename n name) = IsName name
AreLawfulParts (Insert n fragment) = IsFragment (trees fragment)
AreLawfulParts (Append n fragment) = IsFragment (trees fragment)
AreLawfulParts (Value n value) = AreChars value
AreLawfulParts (Attr n name value) = IsName name × AreChars value
AreLawfulParts e = Unit {0}
