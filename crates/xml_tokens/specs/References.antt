-- References, and the characters that they name (XML 1.0, fifth edition, 4.1 and 4.6).
use Rattle.std.specs.Prelude.{◌≡◌, ℕ, ◌+◌, ◌*◌, ◌==◌, Bool, false, nat_lt, List, [], ◌∷◌, ◌++◌, Option, Some, None, codes, if◌then◌else◌}
use Rattle.std.specs.Str.{bytes_eq}
use Rattle.std.specs.Char.{digit_value}
use Rattle.std.specs.List.{list_all}
use Rattle.plain_tree.specs.XmlNames.{is_char}

-- a digit in this base, and one or more of them
abbrev pub is_digit : ℕ → ℕ → Bool
is_digit base c = nat_lt (digit_value c) base

abbrev pub are_digits : ℕ → List ℕ → Bool
are_digits base [] = false
are_digits base (c ∷ cs) = list_all (is_digit base) (c ∷ cs)

-- the number that digits write, behind the number n
abbrev pub number_after : ℕ → ℕ → List ℕ → ℕ
number_after base n [] = n
number_after base n (c ∷ cs) = number_after base (n * base + digit_value c) cs

-- the character with a number (4.1, Legal Character)
abbrev pub char_of : ℕ → Option ℕ
char_of n = if is_char n then Some n else None

abbrev pub numbered : ℕ → List ℕ → Option ℕ
numbered base digits = if are_digits base digits then char_of (number_after base 0 digits) else None

-- CharRef (production 66), between &# and ;, where 120 is x
abbrev pub char_ref : List ℕ → Option ℕ
char_ref [] = None
char_ref (c ∷ cs) = if c == 120 then numbered 16 cs else numbered 10 (c ∷ cs)

-- the predefined entities (4.6): < > & ' and "
abbrev pub entity : List ℕ → Option ℕ
entity name =
    if bytes_eq name (codes "lt") then Some 60 else (if bytes_eq name (codes "gt") then Some 62 else (if bytes_eq name (codes "amp") then Some 38
    else (if bytes_eq name (codes "apos") then Some 39 else (if bytes_eq name (codes "quot") then Some 34 else None))))

-- the character that is named between & and ;, where 35 is #
unfoldable pub referred : List ℕ → Option ℕ
referred [] = None
referred (c ∷ cs) = if c == 35 then char_ref cs else entity (c ∷ cs)

-- Reference (production 67), and its character
pub record IsReference (c : ℕ) (x : List ℕ) : Type 0 where
  pub inner : List ℕ
  pub names : referred inner ≡ Some c
  pub whole : x ≡ codes "&" ++ (inner ++ codes ";")
