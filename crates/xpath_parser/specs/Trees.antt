-- Queries as they are read: lists grow at their end, names are places. And the postfix code of each.
use Rattle.std.specs.Prelude.{List, [], ◌∷◌, Bool}
use Rattle.xpath_parser.specs.declared.query.Axis.{Axis}
use Rattle.xpath_parser.specs.declared.query.Axis.TheVariants as axes
use Rattle.xpath_parser.specs.declared.token.Asked.{Asked}
use Rattle.xpath_parser.specs.declared.token.Asked.TheVariants as tests
use Rattle.xpath_parser.specs.declared.token.Operand.{Operand}
use Rattle.xpath_parser.specs.declared.token.Span.{Span}
use Rattle.xpath_parser.specs.declared.postfix.Side.{Side}
use Rattle.xpath_parser.specs.declared.postfix.Side.TheVariants as sides
use Rattle.xpath_parser.specs.declared.postfix.Op.{Op}
use Rattle.xpath_parser.specs.declared.postfix.Op.TheVariants as ops

mutual
  -- the steps of a path
  pub data Steps : Type 0 where
    no_steps : Steps
    then_step : Steps → Axis → Asked → Filters → Steps

  -- the filters of a step
  pub data Filters : Type 0 where
    no_filters : Filters
    then_filter : Filters → Filter → Filters

  -- one filter: `or`, `and`, `not`, a truth, paths that lead somewhere, or a comparison with a literal
  pub data Filter : Type 0 where
    Either : Filter → Filter → Filter
    Both : Filter → Filter → Filter
    Negated : Filter → Filter
    Told : Bool → Filter
    Found : Paths → Filter
    Compared : Operand → Span → Filter

  -- the paths with `|` between them
  pub data Paths : Type 0 where
    first_path : Steps → Paths
    then_path : Paths → Steps → Paths

-- the steps with the one for which `//` stands (XPath 1.0, 2.5)
abbrev pub then_below : Steps → Steps
then_below ss = then_step ss axes.DescendantOrSelf tests.AnyNode no_filters

-- The postfix code, put on what was written before, the last first.
abbrev mutual
  pub steps_on : Side → Steps → List Op → List Op
  steps_on s no_steps o = o
  steps_on s (then_step ss x t fs) o = filters_on fs (ops.Step s x t ∷ steps_on s ss o)

  pub filters_on : Filters → List Op → List Op
  filters_on no_filters o = o
  filters_on (then_filter fs f) o = ops.Filter ∷ filter_on f (filters_on fs o)

  pub filter_on : Filter → List Op → List Op
  filter_on (Either f g) o = ops.Or ∷ filter_on g (filter_on f o)
  filter_on (Both f g) o = ops.And ∷ filter_on g (filter_on f o)
  filter_on (Negated f) o = ops.Not ∷ filter_on f o
  filter_on (Told b) o = ops.Truth b ∷ o
  filter_on (Found ps) o = ops.Exists ∷ paths_on sides.Inner ps (ops.Begin ∷ o)
  filter_on (Compared c v) o = ops.Compare c v ∷ o

  pub paths_on : Side → Paths → List Op → List Op
  paths_on s (first_path ss) o = steps_on s ss o
  paths_on s (then_path ps ss) o = steps_on s ss (ops.Bar s ∷ paths_on s ps o)

-- the postfix code of a query
abbrev pub code_of : Paths → List Op
code_of ps = paths_on sides.Outer ps []
