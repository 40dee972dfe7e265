-- What is kept of the postfix code: the operations and their counts within the limits, and else nothing.
use Rattle.std.specs.Prelude.{◌+◌, nat_lt, ◌||◌, Bool, List, [], ◌∷◌, reverse, Option, Some, None, if◌then◌else◌}
use Rattle.xpath_parser.specs.declared.postfix.Side.TheVariants.{Outer, Inner}
use Rattle.xpath_parser.specs.declared.postfix.Op.{Op}
use Rattle.xpath_parser.specs.declared.postfix.Op.TheVariants as ops
use Rattle.xpath_parser.specs.declared.postfix.Counts.{Counts}
use Rattle.xpath_parser.specs.declared.postfix.Postfix.{Postfix}
use Rattle.xpath_parser.specs.Trees.{Paths, code_of}
use Rattle.xpath_parser.specs.Limits.{outside, inside}

-- the counts with one operation more
abbrev pub counted : Op → Counts → Counts
counted (ops.Step Outer x t) c = record { outer = c.outer + 1; inner = c.inner }
counted (ops.Step Inner x t) c = record { outer = c.outer; inner = c.inner + 1 }
counted ops.Filter c = c
counted ops.Begin c = c
counted (ops.Bar Outer) c = c
counted (ops.Bar Inner) c = record { outer = c.outer; inner = c.inner + 1 }
counted ops.Exists c = c
counted (ops.Truth b) c = record { outer = c.outer; inner = c.inner + 1 }
counted (ops.Compare operand v) c = record { outer = c.outer; inner = c.inner + 1 }
counted ops.Not c = record { outer = c.outer; inner = c.inner + 1 }
counted ops.And c = record { outer = c.outer; inner = c.inner + 1 }
counted ops.Or c = record { outer = c.outer; inner = c.inner + 1 }

-- a limit is passed
abbrev pub is_past : Counts → Bool
is_past c = nat_lt 64 c.outer || nat_lt 64 c.inner

-- the operations from the last, and their counts
pub record Noted : Type 0 where
  pub counts : Counts
  pub ops : List Op

-- with these counts
abbrev pub within : Counts → List Op → Option Noted
within c o = if is_past c then None else Some (record { counts = c; ops = o })

-- with one operation more
unfoldable pub noted : Op → Option Noted → Option Noted
noted op None = None
noted op (Some n) = within (counted op n.counts) (op ∷ n.ops)

-- what is noted of a query
abbrev pub noted_query : Paths → Option Noted
noted_query ps = within (record { outer = outside ps; inner = inside ps }) (code_of ps)

-- of nothing yet
abbrev pub none_noted : Option Noted
none_noted = Some (record { counts = record { outer = 0; inner = 0 }; ops = [] })

-- what the program has noted
abbrev pub noted_of : Postfix → Option Noted
noted_of p = if p.past then None else Some (record { counts = p.counts; ops = reverse p.ops.items })
