-- Which tokens spell which document: the grammar over tokens (XML 1.0, fifth edition). This level knows tokens alone.
use Rattle.std.specs.Prelude.{◌≡◌, ◌≢◌, ℕ, Bool, true, false, List, [], ◌∷◌, ◌++◌, ◌⊎◌}
use Rattle.std.specs.Char.{encode_utf8}
use Rattle.std.specs.List.{list_all, flat_map}
use Rattle.plain_tree.specs.declared.kind.Kind.TheVariants as kind
use Rattle.plain_tree.specs.Tree.{Tree, node, Trees, none, more}
use Rattle.plain_tree.specs.XmlNames.{is_space}
use Rattle.xml_tokens.specs.Tokens.{Token, Character, Reference, Section, Start, Empty, End, Comment, Instruction, Declaration, Doctype}

-- what a text is made of: characters, references and sections
abbrev pub is_text_piece : Token → Bool
is_text_piece (Character c) = true
is_text_piece (Reference c) = true
is_text_piece (Section v) = true
is_text_piece t = false

-- and what a value of an edit is made of
abbrev pub is_value_piece : Token → Bool
is_value_piece (Character c) = true
is_value_piece (Reference c) = true
is_value_piece t = false

-- the bytes that a piece gives
abbrev pub given : Token → List ℕ
given (Character c) = encode_utf8 c
given (Reference c) = encode_utf8 c
given (Section v) = v
given t = []

-- ]]> doesn't stand in characters (2.4)
abbrev pub HasNoSectionEnd : List Token → Type 0
HasNoSectionEnd [] = Unit {0}
HasNoSectionEnd (p ∷ ps) = ((rest : List Token) → p ∷ ps ≢ Character 93 ∷ Character 93 ∷ Character 62 ∷ rest) × HasNoSectionEnd ps

-- a run of pieces that give this value, and then after
pub record RunGives (value : List ℕ) (tokens after : List Token) : Type 0 where
  pub pieces : List Token
  pub each : list_all is_text_piece pieces ≡ true
  pub whole : tokens ≡ pieces ++ after
  pub gives : value ≡ flat_map given pieces
  pub lawful : HasNoSectionEnd pieces

-- the attributes among the kids, by name and value
abbrev pub attributes_among : Trees → List (List ℕ × List ℕ)
attributes_among (more (node kind.Attribute n v ks) ts) = (n, v) ∷ attributes_among ts
attributes_among ts = []

abbrev pub AreAllAttributes : Trees → Type 0
AreAllAttributes none = Unit {0}
AreAllAttributes (more (node k n v ks) ts) = (k ≡ kind.Attribute) × (ks ≡ none) × AreAllAttributes ts

-- an element in one tag (production 44)
pub record IsLeaf (name : List ℕ) (kids : Trees) (tokens after : List Token) : Type 0 where
  pub no_content : AreAllAttributes kids
  pub tag : tokens ≡ Empty name (attributes_among kids) ∷ after

-- an element in a start tag, its content, and an end tag with its name (production 39)
pub record IsParent (name : List ℕ) (kids : Trees) (Inner : List Token → List Token → Type 0) (tokens after : List Token) : Type 0 where
  pub inner : List Token
  pub start_tag : tokens ≡ Start name (attributes_among kids) ∷ inner
  pub content : Inner inner (End name ∷ after)

-- a text is a run that gives some bytes
pub record IsText (name value : List ℕ) (kids : Trees) (Others : List Token → List Token → Type 0) (tokens after : List Token) : Type 0 where
  pub no_name : name ≡ []
  pub no_kids : kids ≡ none
  pub some : value ≢ []
  pub mid : List Token
  pub run : RunGives value tokens mid
  pub others : Others mid after

-- a run that gives nothing is no node
pub record IsSilent (Others : List Token → List Token → Type 0) (tokens after : List Token) : Type 0 where
  pub mid : List Token
  pub run : RunGives [] tokens mid
  pub others : Others mid after

-- what stands in front, by the kind of the first kid: an attribute came in the tag, a text is a run, and other kids follow a silent run
abbrev pub ByKind : Tree → Bool → (These Others Gone : List Token → List Token → Type 0) → List Token → List Token → Type 0
ByKind (node kind.Attribute n v ks) true These Others Gone tokens after = (ks ≡ none) × Gone tokens after
ByKind (node kind.Attribute n v ks) false These Others Gone tokens after = ⊥
ByKind (node kind.Text n v ks) in_tag These Others Gone tokens after = IsText n v ks Others tokens after
ByKind (node kind.Document n v ks) in_tag These Others Gone tokens after = ⊥
ByKind t in_tag These Others Gone tokens after = IsSilent These tokens after

abbrev mutual
  -- an element (production 39), a comment (15) or an instruction (16) stands at the front of the tokens, and after follows
  pub IsMarkup : Tree → List Token → List Token → Type 0
  IsMarkup (node kind.Element n v ks) tokens after = (v ≡ []) × (IsLeaf n ks tokens after ⊎ IsParent n ks (λ inner end. IsContent ks true inner end) tokens after)
  IsMarkup (node kind.Comment n v ks) tokens after = (n ≡ []) × (ks ≡ none) × (tokens ≡ Comment v ∷ after)
  IsMarkup (node kind.Instruction n v ks) tokens after = (ks ≡ none) × (tokens ≡ Instruction n v ∷ after)
  IsMarkup t tokens after = ⊥

  -- nodes behind a run: the first is no text
  pub AreBehindRun : Trees → List Token → List Token → Type 0
  AreBehindRun none tokens after = tokens ≡ after
  AreBehindRun (more t ts) tokens after = (mid : List Token) × IsMarkup t tokens mid × IsContent ts false mid after

  -- content (production 43) that gives these nodes, behind attributes where in_tag is true
  pub IsContent : Trees → Bool → List Token → List Token → Type 0
  IsContent none in_tag tokens after = RunGives [] tokens after
  IsContent (more t ts) in_tag tokens after =
      ByKind t in_tag (λ b e. (mid : List Token) × IsMarkup t b mid × IsContent ts false mid e) (λ b e. AreBehindRun ts b e) (λ b e. IsContent ts true b e) tokens after

-- the kids of a document, and the white space and the DOCTYPE that give none
pub data Part : Type 0 where
  Space : (c : ℕ) → Part
  Typed : Part
  Kid : (t : Tree) → Part

abbrev pub kids_of : List Part → Trees
kids_of [] = none
kids_of (Kid t ∷ ps) = more t (kids_of ps)
kids_of (p ∷ ps) = kids_of ps

-- the prolog behind its declaration, the root and what follows (productions 1, 22 and 27); typed: no DOCTYPE may come any more;
-- rooted: no element may
abbrev pub AreParts : (typed rooted : Bool) → List Part → List Token → Type 0
AreParts typed rooted [] tokens = (rooted ≡ true) × (tokens ≡ [])
AreParts typed rooted (Space c ∷ ps) tokens = (mid : List Token) × (is_space c ≡ true) × (tokens ≡ Character c ∷ mid) × AreParts typed rooted ps mid
AreParts typed rooted (Typed ∷ ps) tokens = (mid : List Token) × (typed ≡ false) × (tokens ≡ Doctype ∷ mid) × AreParts true rooted ps mid
AreParts typed rooted (Kid (node kind.Element n v ks) ∷ ps) tokens =
    (mid : List Token) × (rooted ≡ false) × IsMarkup (node kind.Element n v ks) tokens mid × AreParts true true ps mid
AreParts typed rooted (Kid t ∷ ps) tokens = (mid : List Token) × IsMarkup t tokens mid × AreParts typed rooted ps mid

-- x stands at the front, or not
abbrev pub MayBegin : Token → List Token → List Token → Type 0
MayBegin x tokens after = (tokens ≡ x ∷ after) ⊎ (tokens ≡ after)

-- the tokens spell the document (production 1), where #xFEFF may stand at the front as the mark of the order of bytes
pub record AreDocument (tokens : List Token) (tree : Tree) : Type 0 where
  pub marked : List Token
  pub declared : List Token
  pub mark : MayBegin (Character 0xFEFF) tokens marked
  pub declaration : MayBegin Declaration marked declared
  pub parts : List Part
  pub are_parts : AreParts false false parts declared
  pub is : tree ≡ node kind.Document [] [] (kids_of parts)
