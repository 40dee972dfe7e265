-- Names, byte by byte. In UTF-8 each byte of a character beyond ASCII is at least 128.
use Rattle.std.specs.Prelude.{ℕ, Bool, true, false, ◌||◌, ◌&&◌, nat_le, nat_lt, List, [], ◌∷◌}
use Rattle.std.specs.List.{list_all}
use Rattle.std.specs.Str.{is_utf8, chars}
use Rattle.plain_tree.specs.XmlNames.{is_name_start, is_name_char}

-- a byte that may stand in a name
abbrev pub is_name_byte : ℕ → Bool
is_name_byte c = nat_le 128 c || is_name_char c

-- bytes with which a name may go on
abbrev pub goes_name : List ℕ → Bool
goes_name bytes = is_utf8 bytes && list_all is_name_char (chars bytes)

-- a byte of ASCII that may stand in a name, and one that may begin it
abbrev pub is_low_name : ℕ → Bool
is_low_name c = nat_lt c 128 && is_name_char c

abbrev pub is_low_start : ℕ → Bool
is_low_start c = nat_lt c 128 && is_name_start c

-- no byte beyond ASCII is the first
abbrev pub begins_low : List ℕ → Bool
begins_low [] = true
begins_low (c ∷ cs) = nat_lt c 128

abbrev pub begins_start : List ℕ → Bool
begins_start [] = false
begins_start (c ∷ cs) = is_low_start c
