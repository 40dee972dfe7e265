-- The saved bytes of a document, in the manner of Canonical XML.
use Rattle.std.specs.Prelude.{ℕ, ◌==◌, Bool, true, false, ◌&&◌, List, [], ◌∷◌, ◌++◌, codes, if◌then◌else◌}
use Rattle.std.specs.List.{flat_map}
use Rattle.plain_tree.specs.declared.kind.Kind.{Kind}
use Rattle.plain_tree.specs.declared.kind.Kind.TheVariants.{Document, Element, Attribute, Text, Comment, Instruction}
use Rattle.plain_tree.specs.Tree.{Tree, node, Trees, none, more}

-- a byte of a text: & < > and #xD are escaped
abbrev pub text_byte : ℕ → List ℕ
text_byte c =
    if c == 38 then codes "&amp;" else (if c == 60 then codes "&lt;" else (if c == 62 then codes "&gt;" else (if c == 13 then codes "&#xD;" else c ∷ [])))

-- a byte of an attribute's value: & < " #x9 #xA and #xD are
abbrev pub value_byte : ℕ → List ℕ
value_byte c =
    if c == 38 then codes "&amp;"
    else (if c == 60 then codes "&lt;"
    else (if c == 34 then codes "&quot;" else (if c == 9 then codes "&#x9;" else (if c == 10 then codes "&#xA;" else (if c == 13 then codes "&#xD;" else c ∷ [])))))

-- n="v"
abbrev pub attribute_text : List ℕ → List ℕ → List ℕ
attribute_text name value = name ++ 61 ∷ 34 ∷ (flat_map value_byte value ++ 34 ∷ [])

abbrev pub comment_text : List ℕ → List ℕ
comment_text value = codes "<!--" ++ (value ++ codes "-->")

-- a space in front of a value, where there is one
abbrev pub after_space : List ℕ → List ℕ
after_space [] = []
after_space (c ∷ cs) = 32 ∷ c ∷ cs

-- <?n?> or <?n v?>
abbrev pub instruction_text : List ℕ → List ℕ → List ℕ
instruction_text name value = codes "<?" ++ (name ++ (after_space value ++ codes "?>"))

abbrev pub end_tag_text : List ℕ → List ℕ
end_tag_text name = codes "</" ++ (name ++ codes ">")

-- a node that is neither a document nor an element
abbrev pub leaf_text : Kind → List ℕ → List ℕ → List ℕ
leaf_text Attribute name value = attribute_text name value
leaf_text Text name value = flat_map text_byte value
leaf_text Comment name value = comment_text value
leaf_text Instruction name value = instruction_text name value
leaf_text kind name value = []

abbrev pub is_attribute : Tree → Bool
is_attribute (node Attribute name value kids) = true
is_attribute t = false

-- in front of a kid of an element, in_tag where its start tag is still open: a space, or the > that ends the tag
abbrev pub before_kid : Bool → Tree → List ℕ
before_kid false kid = []
before_kid true kid = if is_attribute kid then codes " " else codes ">"

-- behind the kids of an element
abbrev pub element_end : Bool → List ℕ → List ℕ
element_end true name = codes "/>"
element_end false name = end_tag_text name

abbrev mutual
  -- how a node is written (a document stands below no other node; there it would be an element)
  pub spelling : Tree → List ℕ
  spelling (node Element name value kids) = 60 ∷ (name ++ kids_text true kids name)
  spelling (node Document name value kids) = 60 ∷ (name ++ kids_text true kids name)
  spelling (node kind name value kids) = leaf_text kind name value

  -- the kids of an element with this name, and its end
  pub kids_text : Bool → Trees → List ℕ → List ℕ
  kids_text in_tag none name = element_end in_tag name
  kids_text in_tag (more t ts) name = before_kid in_tag t ++ (spelling t ++ kids_text (in_tag && is_attribute t) ts name)

-- each tree, followed by one line feed
abbrev pub lines_of : Trees → List ℕ
lines_of none = []
lines_of (more t ts) = (spelling t ++ 10 ∷ []) ++ lines_of ts

-- the kids of the document, each followed by one line feed
abbrev pub saved_bytes : Tree → List ℕ
saved_bytes (node kind name value kids) = lines_of kids
