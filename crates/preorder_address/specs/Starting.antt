-- A level before others.
use Rattle.std.specs.Prelude.{List, ◌∷◌, Option, Some, None}
use Rattle.slt_grammar.specs.Keyed.{KeyedRule}
use Rattle.slt_grammar.specs.Ways.{HaveSameRules}
use Rattle.slt_grammar.specs.declared.level.Level.{Level}

-- a level, if there is one, and others behind it
abbrev pub started : Option Level → List Level → List Level
started None levels = levels
started (Some level) levels = level ∷ levels

-- where the rules of all are the same, those of the others are
pub same-rest : (first : Option Level) (levels : List Level) (G H : List KeyedRule) → HaveSameRules (started first levels) G H → HaveSameRules levels G H
same-rest None levels G H same = same
same-rest (Some level) levels G H same = same.1
