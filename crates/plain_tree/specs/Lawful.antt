-- Lawful documents: which names, values and kids a node of each kind has.
use Rattle.std.specs.Prelude.{◌≡◌, ◌≢◌, ℕ, ◌==◌, Bool, true, false, not, List, [], ◌++◌, codes}
use Rattle.std.specs.List.{list_all}
use Rattle.plain_tree.specs.declared.kind.Kind.{Kind}
use Rattle.plain_tree.specs.declared.kind.Kind.TheVariants.{Document, Element, Attribute, Text, Comment, Instruction}
use Rattle.plain_tree.specs.Tree.{Tree, node, Trees, none, more}
use Rattle.plain_tree.specs.XmlNames.{are_chars, is_name, is_target, begins_space}
use Rattle.plain_tree.specs.Parts.{has_part}

-- a Name (production 5), the target of an instruction (17), and any number of Chars (2)
abbrev pub IsName : List ℕ → Type 0
IsName bytes = is_name bytes ≡ true

abbrev pub IsTarget : List ℕ → Type 0
IsTarget bytes = is_target bytes ≡ true

abbrev pub AreChars : List ℕ → Type 0
AreChars bytes = are_chars bytes ≡ true

-- no #xD
abbrev pub has_no_return : List ℕ → Bool
has_no_return = list_all (λ c. not (c == 13))

-- what a comment holds (production 15): no --, no - at its end, and no #xD
pub record IsCommentValue (value : List ℕ) : Type 0 where
  pub text : AreChars value
  pub no_dashes : has_part (codes "--") (value ++ codes "-") ≡ false
  pub no_return : has_no_return value ≡ true

-- what an instruction holds (production 16): no ?>, no #xD, and no white space at its front
pub record IsInstructionValue (value : List ℕ) : Type 0 where
  pub text : AreChars value
  pub no_end : has_part (codes "?>") value ≡ false
  pub no_return : has_no_return value ≡ true
  pub no_space : begins_space value ≡ false

-- elements and attributes have a Name, instructions a target, other kinds the empty name
abbrev pub IsLawfulName : Kind → List ℕ → Type 0
IsLawfulName Document name = name ≡ []
IsLawfulName Element name = IsName name
IsLawfulName Attribute name = IsName name
IsLawfulName Text name = name ≡ []
IsLawfulName Comment name = name ≡ []
IsLawfulName Instruction name = IsTarget name

-- documents and elements have the empty value, other kinds Chars, of which a text has some
abbrev pub IsLawfulValue : Kind → List ℕ → Type 0
IsLawfulValue Document value = value ≡ []
IsLawfulValue Element value = value ≡ []
IsLawfulValue Attribute value = AreChars value
IsLawfulValue Text value = AreChars value × (value ≢ [])
IsLawfulValue Comment value = IsCommentValue value
IsLawfulValue Instruction value = IsInstructionValue value

-- the name and the value are lawful at a node of this kind
abbrev pub IsLawful : Kind → List ℕ → List ℕ → Type 0
IsLawful kind name value = IsLawfulName kind name × IsLawfulValue kind value

-- the name is no attribute's of these kids
abbrev pub IsNew : List ℕ → Trees → Type 0
IsNew name none = Unit {0}
IsNew name (more (node kind n v ks) ts) = (kind ≡ Attribute → name ≢ n) × IsNew name ts

-- the kids of an element: attributes come first and have distinct names; in_tag: only attributes came so far
abbrev pub AreElementKids : Bool → Trees → Type 0
AreElementKids in_tag none = Unit {0}
AreElementKids in_tag (more (node Document n v ks) ts) = ⊥
AreElementKids in_tag (more (node Attribute n v ks) ts) = (in_tag ≡ true) × IsNew n ts × AreElementKids true ts
AreElementKids in_tag (more t ts) = AreElementKids false ts

-- the kids of a document: comments, instructions and exactly one element; rooted: the element has come
abbrev pub AreDocumentKids : Bool → Trees → Type 0
AreDocumentKids rooted none = rooted ≡ true
AreDocumentKids rooted (more (node Element n v ks) ts) = (rooted ≡ false) × AreDocumentKids true ts
AreDocumentKids rooted (more (node Comment n v ks) ts) = AreDocumentKids rooted ts
AreDocumentKids rooted (more (node Instruction n v ks) ts) = AreDocumentKids rooted ts
AreDocumentKids rooted (more t ts) = ⊥

-- the kids that a node of this kind may have
abbrev pub AreKids : Kind → Trees → Type 0
AreKids Document kids = AreDocumentKids false kids
AreKids Element kids = AreElementKids true kids
AreKids kind kids = kids ≡ none

abbrev mutual
  -- the node and all nodes below it are lawful
  pub IsLawfulTree : Tree → Type 0
  IsLawfulTree (node kind name value kids) = IsLawful kind name value × AreKids kind kids × AreLawfulTrees kids

  pub AreLawfulTrees : Trees → Type 0
  AreLawfulTrees none = Unit {0}
  AreLawfulTrees (more t ts) = IsLawfulTree t × AreLawfulTrees ts

abbrev pub IsOfKind : Kind → Tree → Type 0
IsOfKind kind (node k name value kids) = k ≡ kind

-- a lawful document
pub record IsDocument (document : Tree) : Type 0 where
  pub is_document : IsOfKind Document document
  pub lawful : IsLawfulTree document

-- lawful nodes, none of them a document or an attribute, as a fragment has
abbrev pub AreFragmentNodes : Trees → Type 0
AreFragmentNodes kids = AreElementKids false kids × AreLawfulTrees kids

-- a fragment has at least one node
abbrev pub IsFragment : Trees → Type 0
IsFragment kids = (kids ≢ none) × AreFragmentNodes kids
