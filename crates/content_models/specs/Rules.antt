-- What a schema's program holds.
use Rattle.std.specs.Prelude.{ℕ, List, map, reverse}
use Rattle.content_models.specs.declared.schema.Declaration.{Declaration}
use Rattle.content_models.specs.declared.schema.Schema.{Schema}
use Rattle.content_models.specs.Models.{Model}
use Rattle.content_models.specs.Postfix.{model_of_code}

abbrev pub rule_of : Declaration → List ℕ × Model
rule_of d = (d.name, model_of_code (reverse d.code.items))

-- the names with their models
abbrev pub rules_of : Schema → List (List ℕ × Model)
rules_of s = map rule_of s.declarations.items
