-- Runs of plain characters, each of which is a token.
use Rattle.std.specs.Prelude.{◌≡◌, ℕ, ◌==◌, Bool, true, not, ◌||◌, ◌&&◌, nat_le, nat_lt, List, map}
use Rattle.std.specs.List.{list_all}
use Rattle.plain_tree.specs.XmlNames.{are_chars}
use Rattle.xml_tokens.specs.Tokens.{Token, Character}

-- a byte of a run: none of <, & and ]
abbrev pub is_run : ℕ → Bool
is_run c = not (c == 60 || c == 38 || c == 93)

pub record IsRun (x : List ℕ) : Type 0 where
  pub text : are_chars x ≡ true
  pub plain : list_all is_run x ≡ true

-- a byte of ASCII that is a character of a run
abbrev pub is_low_run : ℕ → Bool
is_low_run c = nat_lt c 128 && ((nat_le 32 c || c == 9 || c == 10 || c == 13) && is_run c)

-- each character is a token
abbrev pub characters : List ℕ → List Token
characters cs = map (λ c. Character c) cs
