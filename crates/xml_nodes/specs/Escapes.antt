-- The escapes of bytes in texts and in quoted values.
use Rattle.std.specs.Prelude.{◌≡◌, ℕ, Bool, true, false, List, [], ◌∷◌, ◌++◌, Option, Some, None}
use Rattle.std.specs.Borrow.{Bor}
use Rattle.std.specs.List.{flat_map}
use Rattle.xml_nodes.specs.Saved.{text_byte, value_byte}

-- how a byte is written
abbrev pub escaped : Bool → ℕ → List ℕ
escaped true = value_byte
escaped false = text_byte

-- the answer is what stands in place of the byte, and None where it stands for itself
abbrev pub IsEscape : Bool → ℕ → Option (Bor (List ℕ)) → Type 0
IsEscape quoted byte None = escaped quoted byte ≡ byte ∷ []
IsEscape quoted byte (Some text) = escaped quoted byte ≡ text.now

-- the bytes are those in front, which stand for themselves, one with this escape, and those behind; or all stand for themselves
pub record IsCut (quoted : Bool) (bytes plain escape behind : List ℕ) : Type 0 where
  pub byte : ℕ
  pub whole : bytes ≡ plain ++ byte ∷ behind
  pub front : flat_map (escaped quoted) plain ≡ plain
  pub escape_is : escaped quoted byte ≡ escape

abbrev pub IsSplit : Bool → List ℕ → Option (Bor (List ℕ) × Bor (List ℕ) × Bor (List ℕ)) → Type 0
IsSplit quoted bytes None = flat_map (escaped quoted) bytes ≡ bytes
IsSplit quoted bytes (Some (plain, escape, behind)) = IsCut quoted bytes plain.now escape.now behind.now
