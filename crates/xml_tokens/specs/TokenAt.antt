-- The token that bytes spell, as a function: each definition reads the front of the bytes, and answers what follows.
use Rattle.std.specs.Prelude.{ℕ, codes, zero, suc, ◌==◌, Bool, true, false, not, ◌||◌, ◌&&◌, List, [], ◌∷◌, ◌++◌, length, Option, Some, None, option_map, option_and_then, if◌then◌else◌}
use Rattle.std.specs.Str.{bytes_eq, is_utf8, chars}
use Rattle.std.specs.Char.{encode_utf8}
use Rattle.plain_tree.specs.XmlNames.{are_chars, is_space, begins_space, is_name, is_xml}
use Rattle.xml_tokens.specs.NameBytes.{is_name_byte}
use Rattle.xml_tokens.specs.Cutting.{front, back, behind, before, is_other}
use Rattle.plain_tree.specs.Parts.{has_part}
use Rattle.xml_tokens.specs.References.{char_of, referred}
use Rattle.xml_tokens.specs.Tokens.{Token, Character, Reference, Section, Start, Empty, End, Comment, Instruction, Declaration, Doctype}
use Rattle.xml_tokens.specs.Attributes.{is_quote, space_if_white, are_distinct}
use Rattle.xml_tokens.specs.Declarations.{is_version, is_encoding, is_yes_or_no, are_public}

infixl 10 ◌>>=◌
abbrev pub ◌>>=◌ : {A B : Type 0} → Option A → (A → Option B) → Option B
o >>= f = option_and_then f o

-- what stood in quotes, up to the quote
abbrev pub closed_at : List ℕ → List ℕ → Option (List ℕ × List ℕ)
closed_at inner [] = None
closed_at inner (c ∷ after) = Some (inner, after)

-- what stands in quotes
unfoldable pub quoted_at : List ℕ → Option (List ℕ × List ℕ)
quoted_at [] = None
quoted_at (q ∷ bytes) = if is_quote q then closed_at (front (is_other q) bytes) (back (is_other q) bytes) else None

-- a name, by the first byte that can't stand in one
unfoldable pub name_at : List ℕ → Option (List ℕ × List ℕ)
name_at bytes = if is_name (front is_name_byte bytes) then Some (front is_name_byte bytes, back is_name_byte bytes) else None

-- behind S
abbrev pub space_at : List ℕ → Option (List ℕ)
space_at bytes = if begins_space bytes then Some (back is_space bytes) else None

-- behind Eq
abbrev pub eq_at : List ℕ → Option (List ℕ)
eq_at bytes = option_map (back is_space) (behind (codes "=") (back is_space bytes))

-- in front of what an attribute's value begins with
abbrev pub put : List ℕ → Option (List ℕ) → Option (List ℕ)
put xs ys = option_map (λ zs. xs ++ zs) ys

abbrev pub put_char : Option ℕ → Option (List ℕ) → Option (List ℕ)
put_char None ys = None
put_char (Some c) ys = put (encode_utf8 c) ys

-- the value of characters and references, where give says what a byte gives; name is what stands there since the last & that no ; followed yet
abbrev pub value_in : (ℕ → ℕ) → Option (List ℕ) → List ℕ → Option (List ℕ)
value_in give None [] = Some []
value_in give None (c ∷ cs) = if c == 38 then value_in give (Some []) cs else (if c == 60 then None else put (give c ∷ []) (value_in give None cs))
value_in give (Some name) [] = None
value_in give (Some name) (c ∷ cs) =
    if c == 59 then put_char (referred name) (value_in give None cs) else value_in give (Some (name ++ c ∷ [])) cs

-- a byte that gives itself, also where white space gives a space
abbrev pub gives_itself : ℕ → Bool
gives_itself c = not (c == 38 || c == 60 || c == 9 || c == 10 || c == 13)

-- the character of the reference at the front, behind its &
abbrev pub leading_reference : List ℕ → Option (ℕ × List ℕ)
leading_reference bytes = do
  name ← closed_at (front (is_other 59) bytes) (back (is_other 59) bytes)
  c ← referred name.0
  Some (c, name.1)

unfoldable pub value_of : (ℕ → ℕ) → List ℕ → Option (List ℕ)
value_of give inner = if are_chars inner then value_in give None inner else None

-- an attribute's name, what stands in its quotes, and what follows
unfoldable pub raw_attribute_at : List ℕ → Option (List ℕ × List ℕ × List ℕ)
raw_attribute_at bytes = do
  named ← name_at bytes
  eq ← eq_at named.1
  quoted ← quoted_at eq
  Some (named.0, quoted.0, quoted.1)

-- an attribute, behind the white space in front of it
unfoldable pub attribute_at : List ℕ → Option ((List ℕ × List ℕ) × List ℕ)
attribute_at bytes = do
  raw ← raw_attribute_at bytes
  value ← value_of space_if_white raw.1
  Some ((raw.0, value), raw.2)

abbrev pub ends_tag : ℕ → Bool
ends_tag c = c == 62 || c == 47

-- no attribute follows
abbrev pub ended_attributes : List ℕ → Bool
ended_attributes [] = true
ended_attributes (c ∷ rest) = ends_tag c

abbrev pub more_attributes : (List ℕ × List ℕ) → Option (List (List ℕ × List ℕ) × List ℕ) → Option (List (List ℕ × List ℕ) × List ℕ)
more_attributes a = option_map (λ p. (a ∷ p.0, p.1))

-- the attributes in front of > or /, at most so many; rest are the bytes behind the white space of bytes
abbrev pub attributes_at : ℕ → List ℕ → List ℕ → Option (List (List ℕ × List ℕ) × List ℕ)
attributes_at most bytes [] = Some ([], [])
attributes_at zero bytes (c ∷ rest) = if ends_tag c then Some ([], c ∷ rest) else None
attributes_at (suc most) bytes (c ∷ rest) =
    if ends_tag c then Some ([], c ∷ rest)
    else (if begins_space bytes then option_and_then (λ a. more_attributes a.0 (attributes_at most a.1 (back is_space a.1))) (attribute_at (c ∷ rest)) else None)

-- behind these attributes
abbrev pub with_attributes : List (List ℕ × List ℕ) → Option (List (List ℕ × List ℕ) × List ℕ) → Option (List (List ℕ × List ℕ) × List ℕ)
with_attributes given = option_map (λ p. (given ++ p.0, p.1))

unfoldable pub all_attributes_at : List ℕ → Option (List (List ℕ × List ℕ) × List ℕ)
all_attributes_at bytes = attributes_at (length bytes) bytes (back is_space bytes)

-- by what closes the tag
abbrev pub close_at : List ℕ → List (List ℕ × List ℕ) → List ℕ → Option Token
close_at name attributes bytes =
    if not (are_distinct attributes) then None
    else (if bytes_eq bytes (codes ">") then Some (Start name attributes) else (if bytes_eq bytes (codes "/>") then Some (Empty name attributes) else None))

-- behind <
unfoldable pub start_at : List ℕ → Option Token
start_at bytes = do
  named ← name_at bytes
  given ← all_attributes_at named.1
  close_at named.0 given.0 given.1

-- behind </
unfoldable pub end_at : List ℕ → Option Token
end_at bytes = do
  named ← name_at bytes
  if bytes_eq (back is_space named.1) (codes ">") then Some (End named.0) else None

-- behind <!--
unfoldable pub comment_at : List ℕ → Option Token
comment_at bytes = do
  dashed ← before (codes "->") bytes
  value ← before (codes "-") dashed
  if are_chars value && not (has_part (codes "--") dashed) then Some (Comment value) else None

-- behind <![CDATA[
unfoldable pub section_at : List ℕ → Option Token
section_at bytes = do
  value ← before (codes "]]>") bytes
  if are_chars value && not (has_part (codes "]]>") value) then Some (Section value) else None

-- the data of an instruction, behind its target
abbrev pub data_at : List ℕ → Option (List ℕ)
data_at [] = Some []
data_at (c ∷ bytes) = if is_space c then Some (back is_space bytes) else None

-- behind <?
unfoldable pub instruction_at : List ℕ → Option Token
instruction_at bytes = do
  inner ← before (codes "?>") bytes
  named ← name_at inner
  value ← data_at named.1
  if not (is_xml named.0) && (are_chars value && not (has_part (codes "?>") value)) then Some (Instruction named.0 value) else None

-- S, a word, Eq, and what stands in quotes
unfoldable pub item_at : List ℕ → List ℕ → Option (List ℕ × List ℕ)
item_at word bytes = do
  start ← space_at bytes
  worded ← behind word start
  eq ← eq_at worded
  quoted_at eq

-- behind an item that passes the test
abbrev pub passed_at : (List ℕ → Bool) → Option (List ℕ × List ℕ) → Option (List ℕ)
passed_at test None = None
passed_at test (Some (inner, after)) = if test inner then Some after else None

-- or where there is none
abbrev pub maybe_at : (List ℕ → Bool) → List ℕ → Option (List ℕ × List ℕ) → Option (List ℕ)
maybe_at test bytes None = Some bytes
maybe_at test bytes (Some (inner, after)) = if test inner then Some after else None

abbrev pub behind_version : List ℕ → Option (List ℕ)
behind_version bytes = passed_at is_version (item_at (codes "version") bytes)

abbrev pub behind_encoding : List ℕ → Option (List ℕ)
behind_encoding bytes = maybe_at is_encoding bytes (item_at (codes "encoding") bytes)

abbrev pub behind_standalone : List ℕ → Option (List ℕ)
behind_standalone bytes = maybe_at is_yes_or_no bytes (item_at (codes "standalone") bytes)

abbrev pub is_end : List ℕ → Option (List ℕ) → Bool
is_end close None = false
is_end close (Some bytes) = bytes_eq (back is_space bytes) close

-- whether a declaration stands behind <?xml
unfoldable pub declaration_end : List ℕ → Bool
declaration_end bytes = is_end (codes "?>") (behind_version bytes >>= λ rest. behind_encoding rest >>= behind_standalone)

-- behind S and a literal that passes the test
unfoldable pub literal_at : (List ℕ → Bool) → List ℕ → Option (List ℕ)
literal_at test bytes = do
  start ← space_at bytes
  passed_at test (quoted_at start)

-- behind PUBLIC
unfoldable pub public_at : List ℕ → Option (List ℕ)
public_at bytes = do
  rest ← literal_at are_public bytes
  literal_at are_chars rest

abbrev pub otherwise : {A : Type 0} → Option (List ℕ) → (List ℕ → A) → A → A
otherwise None f a = a
otherwise (Some x) f a = f x

-- behind SYSTEM or PUBLIC and the literals, if they stand there
unfoldable pub external_at : List ℕ → Option (List ℕ)
external_at bytes =
    otherwise (behind (codes "SYSTEM") (back is_space bytes)) (λ rest. if begins_space bytes then literal_at are_chars rest else None)
    (otherwise (behind (codes "PUBLIC") (back is_space bytes)) (λ rest. if begins_space bytes then public_at rest else None) (Some bytes))

-- behind the name and the external name of a DOCTYPE
unfoldable pub behind_doctype : List ℕ → Option (List ℕ)
behind_doctype bytes = do
  start ← space_at bytes
  named ← name_at start
  external_at named.1

-- whether a DOCTYPE stands behind <!DOCTYPE
unfoldable pub doctype_end : List ℕ → Bool
doctype_end bytes = is_end (codes ">") (behind_doctype bytes)

-- behind <!
unfoldable pub bang_at : List ℕ → Option Token
bang_at bytes =
    otherwise (behind (codes "--") bytes) comment_at
    (otherwise (behind (codes "[CDATA[") bytes) section_at
    (otherwise (behind (codes "DOCTYPE") bytes) (λ rest. if doctype_end rest then Some Doctype else None) None))

-- behind <?: <?xml and white space begin a declaration
unfoldable pub question_at : List ℕ → Option Token
question_at bytes = otherwise (behind (codes "xml") bytes) (λ rest. if begins_space rest then (if declaration_end rest then Some Declaration else None) else instruction_at bytes) (instruction_at bytes)

-- behind <
unfoldable pub markup_at : List ℕ → Option Token
markup_at [] = None
markup_at (c ∷ bytes) =
    if c == 47 then end_at bytes else (if c == 63 then question_at bytes else (if c == 33 then bang_at bytes else start_at (c ∷ bytes)))

-- behind &
unfoldable pub reference_at : List ℕ → Option Token
reference_at bytes = do
  inner ← before (codes ";") bytes
  c ← referred inner
  Some (Reference c)

abbrev pub one_char : List ℕ → Option ℕ
one_char [] = None
one_char (c ∷ []) = char_of c
one_char (c ∷ d ∷ cs) = None

-- the one character that the bytes are
unfoldable pub char_at : List ℕ → Option ℕ
char_at bytes = if is_utf8 bytes then one_char (chars bytes) else None

abbrev pub character_at : List ℕ → Option Token
character_at bytes = option_map (λ c. Character c) (char_at bytes)

-- the token that all the bytes spell
unfoldable pub token_at : List ℕ → Option Token
token_at [] = None
token_at (c ∷ bytes) = if c == 60 then markup_at bytes else (if c == 38 then reference_at bytes else character_at (c ∷ bytes))
