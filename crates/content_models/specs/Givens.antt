-- What the program's lines give.
use Rattle.std.specs.Prelude.{◌≡◌, ℕ, ◌==◌, nat_lt, ◌||◌, Bool, true, List, [], ◌∷◌, Option, Some, None, reverse, if◌then◌else◌}
use Rattle.plain_tree.specs.XmlNames.{are_chars}
use Rattle.content_models.specs.declared.line_reading.Line.{Line}
use Rattle.content_models.specs.Lines.{Given}
use Rattle.content_models.specs.Postfix.{code_on, model_of_code, names_in_code}

abbrev pub given_of : Line → Given
given_of l = record { name = l.name; model = model_of_code (reverse l.code.items); depth = l.depth }

abbrev pub given_by : Option Line → List Given
given_by None = []
given_by (Some l) = given_of l ∷ []

-- the code is the model's
abbrev pub IsExact : Line → Type 0
IsExact l = reverse l.code.items ≡ code_on (model_of_code (reverse l.code.items)) []

-- more than 64 names, or parentheses nested more than 64 deep
abbrev pub is_large : Line → Bool
is_large l = nat_lt 64 (names_in_code l.code.items) || nat_lt 64 l.depth

-- whether it is a comment, where nothing or a number sign stands at the front
abbrev pub comment : List ℕ → Option Bool
comment [] = Some true
comment (c ∷ cs) = if c == 35 then Some (are_chars cs) else None
