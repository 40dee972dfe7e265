-- What a value's bytes become, token by token.
use Rattle.std.specs.Prelude.{ℕ, List, ◌++◌, Option, Some, None, if◌then◌else◌}
use Rattle.xml_tokens.specs.Tokens.{Token}
use Rattle.xml_nodes.specs.Content.{is_value_piece, given}

-- the bytes given so far, behind one token more; None where it stands in no value
abbrev pub value_step : List ℕ → Token → Option (List ℕ)
value_step value t = if is_value_piece t then Some (value ++ given t) else None
