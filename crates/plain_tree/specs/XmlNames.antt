-- Characters, white space and names (XML 1.0, fifth edition, 2.2 and 2.3), in UTF-8.
use Rattle.std.specs.Prelude.{ℕ, ◌==◌, nat_le, Bool, false, not, ◌||◌, ◌&&◌, List, [], ◌∷◌}
use Rattle.std.specs.List.{list_all}
use Rattle.std.specs.Str.{is_utf8, chars}

abbrev pub is_within : ℕ → ℕ → ℕ → Bool
is_within low high c = nat_le low c && nat_le c high

-- Char (production 2)
unfoldable pub is_char : ℕ → Bool
is_char c = c == 9 || c == 10 || c == 13 || is_within 0x20 0xD7FF c || is_within 0xE000 0xFFFD c || is_within 0x10000 0x10FFFF c

-- the bytes are Char*
abbrev pub are_chars : List ℕ → Bool
are_chars bytes = is_utf8 bytes && list_all is_char (chars bytes)

-- S (production 3), one character of it
abbrev pub is_space : ℕ → Bool
is_space c = c == 32 || c == 9 || c == 13 || c == 10

-- S?
abbrev pub are_spaces : List ℕ → Bool
are_spaces bytes = list_all is_space bytes

-- whether S begins the bytes
abbrev pub begins_space : List ℕ → Bool
begins_space [] = false
begins_space (c ∷ cs) = is_space c

-- S
abbrev pub is_white : List ℕ → Bool
is_white bytes = begins_space bytes && are_spaces bytes

-- NameStartChar (production 4)
unfoldable pub is_name_start : ℕ → Bool
is_name_start c =
    c == 58 || is_within 65 90 c || c == 95 || is_within 97 122 c || is_within 0xC0 0xD6 c || is_within 0xD8 0xF6 c || is_within 0xF8 0x2FF c
    || is_within 0x370 0x37D c || is_within 0x37F 0x1FFF c || is_within 0x200C 0x200D c || is_within 0x2070 0x218F c || is_within 0x2C00 0x2FEF c
    || is_within 0x3001 0xD7FF c || is_within 0xF900 0xFDCF c || is_within 0xFDF0 0xFFFD c || is_within 0x10000 0xEFFFF c

-- NameChar (production 4a)
unfoldable pub is_name_char : ℕ → Bool
is_name_char c = is_name_start c || c == 45 || c == 46 || is_within 48 57 c || c == 0xB7 || is_within 0x300 0x36F c || is_within 0x203F 0x2040 c

-- Name (production 5), as characters
abbrev pub are_name_chars : List ℕ → Bool
are_name_chars [] = false
are_name_chars (c ∷ cs) = is_name_start c && list_all is_name_char cs

-- and as bytes
unfoldable pub is_name : List ℕ → Bool
is_name bytes = is_utf8 bytes && are_name_chars (chars bytes)

-- xml in any mixture of cases
abbrev pub is_xml : List ℕ → Bool
is_xml (x ∷ m ∷ l ∷ []) = (x == 88 || x == 120) && (m == 77 || m == 109) && (l == 76 || l == 108)
is_xml _ = false

-- PITarget (production 17)
abbrev pub is_target : List ℕ → Bool
is_target bytes = is_name bytes && not (is_xml bytes)
