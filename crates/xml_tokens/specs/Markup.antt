-- Characters, tags, comments, sections and instructions (XML 1.0, fifth edition, 2.4 to 2.7 and 3.1).
use Rattle.std.specs.Prelude.{◌≡◌, ℕ, ◌==◌, Bool, true, false, not, ◌&&◌, List, [], ◌∷◌, ◌++◌, codes}
use Rattle.std.specs.Char.{encode_utf8}
use Rattle.plain_tree.specs.XmlNames.{is_char, are_chars, is_space, are_spaces, is_white, is_name, is_target}
use Rattle.plain_tree.specs.Parts.{has_part}
use Rattle.xml_tokens.specs.Attributes.{AreAttributes, are_distinct}

-- CharData (production 14), one character of it: neither < nor &. The condition on ]]> is the content's.
pub record IsCharacter (c : ℕ) (x : List ℕ) : Type 0 where
  pub lawful : is_char c ≡ true
  pub no_less : (c == 60) ≡ false
  pub no_and : (c == 38) ≡ false
  pub whole : x ≡ encode_utf8 c

-- STag (production 40) and EmptyElemTag (production 44), by their close
pub record IsStart (name : List ℕ) (attributes : List (List ℕ × List ℕ)) (close x : List ℕ) : Type 0 where
  pub named : is_name name ≡ true
  pub inner : List ℕ
  pub given : AreAttributes attributes inner
  pub distinct : are_distinct attributes ≡ true
  pub space : List ℕ
  pub spaced : are_spaces space ≡ true
  pub whole : x ≡ codes "<" ++ (name ++ (inner ++ (space ++ close)))

-- ETag (production 42)
pub record IsEnd (name x : List ℕ) : Type 0 where
  pub named : is_name name ≡ true
  pub space : List ℕ
  pub spaced : are_spaces space ≡ true
  pub whole : x ≡ codes "</" ++ (name ++ (space ++ codes ">"))

-- Comment (production 15): no -- inside, and no - at the end
pub record IsComment (value x : List ℕ) : Type 0 where
  pub text : are_chars value ≡ true
  pub no_dashes : has_part (codes "--") (value ++ codes "-") ≡ false
  pub whole : x ≡ codes "<!--" ++ (value ++ codes "-->")

-- CDSect (production 18)
pub record IsSection (value x : List ℕ) : Type 0 where
  pub text : are_chars value ≡ true
  pub no_end : has_part (codes "]]>") value ≡ false
  pub whole : x ≡ codes "<![CDATA[" ++ (value ++ codes "]]>")

-- data is there only behind white space, and begins with none
abbrev pub is_apart : List ℕ → List ℕ → Bool
is_apart space [] = are_spaces space
is_apart space (c ∷ cs) = is_white space && not (is_space c)

-- PI (production 16)
pub record IsInstruction (target value x : List ℕ) : Type 0 where
  pub named : is_target target ≡ true
  pub space : List ℕ
  pub apart : is_apart space value ≡ true
  pub text : are_chars value ≡ true
  pub no_end : has_part (codes "?>") value ≡ false
  pub whole : x ≡ codes "<?" ++ (target ++ (space ++ (value ++ codes "?>")))
