-- What the code's parts of bytes, and its values, stand for.
use Rattle.std.specs.Prelude.{ℕ, List, Option, Some, None, Vec}
use Rattle.std.specs.Borrow.{Bor}
use Rattle.xml_tokens.specs.Attributes.{kept, space_if_white}
use Rattle.xml_tokens.specs.declared.values.Value.{Value}
use Rattle.xml_tokens.specs.declared.values.Value.TheVariants as value
use Rattle.xml_tokens.specs.declared.values.Spaces.{Spaces}
use Rattle.xml_tokens.specs.declared.values.Spaces.TheVariants as spaces

-- one part, two and three
abbrev pub seen_part : Option (Bor (List ℕ)) → Option (List ℕ)
seen_part None = None
seen_part (Some x) = Some x.now

abbrev pub seen_parts : Option (Bor (List ℕ) × Bor (List ℕ)) → Option (List ℕ × List ℕ)
seen_parts None = None
seen_parts (Some (x, y)) = Some (x.now, y.now)

abbrev pub seen_three : Option (Bor (List ℕ) × Bor (List ℕ) × Bor (List ℕ)) → Option (List ℕ × List ℕ × List ℕ)
seen_three None = None
seen_three (Some (x, y, z)) = Some (x.now, y.now, z.now)

-- a character, and what follows it
abbrev pub seen_char : Option (ℕ × Bor (List ℕ)) → Option (ℕ × List ℕ)
seen_char None = None
seen_char (Some (c, after)) = Some (c, after.now)

-- what a byte of a value gives
abbrev pub byte_given : Spaces → ℕ → ℕ
byte_given spaces.Kept c = kept c
byte_given spaces.Spaced c = space_if_white c

abbrev pub value_bytes : Value → List ℕ
value_bytes (value.Same bytes) = bytes.now
value_bytes (value.Made bytes) = bytes.items

abbrev pub seen_value : Option Value → Option (List ℕ)
seen_value None = None
seen_value (Some v) = Some (value_bytes v)

abbrev pub seen_items : {Z : Type 0} → Option (Vec ℕ Z) → Option (List ℕ)
seen_items None = None
seen_items (Some v) = Some v.items
