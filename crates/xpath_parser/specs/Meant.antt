-- The query for which a tree that was read stands, in the bytes in which its names are.
use Rattle.std.specs.Prelude.{ℕ, ◌-◌, Bool, true, false, List, take, drop}
use Rattle.xpath_parser.specs.declared.token.Asked.{Asked}
use Rattle.xpath_parser.specs.declared.token.Asked.TheVariants as tests
use Rattle.xpath_parser.specs.declared.token.Operand.{Operand}
use Rattle.xpath_parser.specs.declared.token.Operand.TheVariants as operands
use Rattle.xpath_parser.specs.declared.token.Span.{Span}
use Rattle.xpath_parser.specs.Trees.{Steps, no_steps, then_step, Filters, no_filters, then_filter, Filter, Either, Both, Negated, Told, Found, Compared, Paths, first_path, then_path}
use Rattle.xpath_parser.specs.Queries as queries
use Rattle.xpath_parser.specs.Queries.{with_step, with_filter, with_path, filtered}

-- the bytes at a place
abbrev pub part : List ℕ → Span → List ℕ
part b s = take (s.to - s.from) (drop s.from b)

-- the test, with its name
abbrev pub named : List ℕ → Asked → queries.Test
named b tests.Star = queries.Star
named b (tests.Name s) = queries.Name (part b s)
named b tests.AnyNode = queries.AnyNode
named b tests.TextNode = queries.TextNode
named b tests.CommentNode = queries.CommentNode
named b tests.InstructionNode = queries.InstructionNode

-- a truth that is given
abbrev pub told : Bool → queries.Filter
told true = queries.True
told false = queries.False

-- a comparison, with its name and its value
abbrev pub compared : List ℕ → Operand → Span → queries.Filter
compared b operands.Texts v = queries.text_is (part b v)
compared b (operands.Attributes n) v = queries.attribute_is (part b n) (part b v)

-- the same from the front, with names as they are written
abbrev mutual
  pub meant_steps : List ℕ → Steps → queries.Steps
  meant_steps b no_steps = queries.no_steps
  meant_steps b (then_step ss x t fs) = with_step (meant_steps b ss) x (named b t) (meant_filters b fs)

  pub meant_filters : List ℕ → Filters → queries.Filters
  meant_filters b no_filters = queries.no_filters
  meant_filters b (then_filter fs f) = with_filter (meant_filters b fs) (meant_filter b f)

  pub meant_filter : List ℕ → Filter → queries.Filter
  meant_filter b (Either f g) = queries.Or (meant_filter b f) (meant_filter b g)
  meant_filter b (Both f g) = queries.And (meant_filter b f) (meant_filter b g)
  meant_filter b (Negated f) = queries.Not (meant_filter b f)
  meant_filter b (Told t) = told t
  meant_filter b (Found ps) = queries.Exists (meant_paths b ps)
  meant_filter b (Compared c v) = compared b c v

  pub meant_paths : List ℕ → Paths → queries.Paths
  meant_paths b (first_path ss) = queries.path_or (meant_steps b ss) queries.no_paths
  meant_paths b (then_path ps ss) = with_path (meant_paths b ps) (meant_steps b ss)
