-- Queries, written out: the paths, the steps of a path and the filters of a step are lists from the front.
use Rattle.std.specs.Prelude.{ℕ, List}
use Rattle.xpath_parser.specs.declared.query.Axis.{Axis}
use Rattle.xpath_parser.specs.declared.query.Axis.TheVariants as axes

-- NodeTest (XPath 1.0, 2.3)
pub data Test : Type 0 where
  Star : Test
  Name : List ℕ → Test
  AnyNode : Test
  TextNode : Test
  CommentNode : Test
  InstructionNode : Test
  -- what comparisons ask: a text with a value, and an attribute with a name and a value
  TextOf : List ℕ → Test
  NameOf : List ℕ → List ℕ → Test

mutual
  -- RelativeLocationPath (2)
  pub data Steps : Type 0 where
    no_steps : Steps
    step : (axis : Axis) (test : Test) (filters : Filters) (rest : Steps) → Steps

  -- the predicates of a step (2.4), all of which have to hold
  pub data Filters : Type 0 where
    no_filters : Filters
    filter_and : Filter → Filters → Filters

  -- PredicateExpr (2.4, 3.4)
  pub data Filter : Type 0 where
    Or : Filter → Filter → Filter
    And : Filter → Filter → Filter
    Not : Filter → Filter
    True : Filter
    False : Filter
    Exists : Paths → Filter

  -- UnionExpr (3.3)
  pub data Paths : Type 0 where
    no_paths : Paths
    path_or : Steps → Paths → Paths

-- one more at the end
abbrev pub with_path : Paths → Steps → Paths
with_path no_paths ss = path_or ss no_paths
with_path (path_or rs ps) ss = path_or rs (with_path ps ss)

abbrev pub with_step : Steps → Axis → Test → Filters → Steps
with_step no_steps a t fs = step a t fs no_steps
with_step (step b u gs ss) a t fs = step b u gs (with_step ss a t fs)

abbrev pub with_filter : Filters → Filter → Filters
with_filter no_filters f = filter_and f no_filters
with_filter (filter_and g gs) f = filter_and g (with_filter gs f)

-- one filter more at the last step
abbrev pub filtered : Steps → Filter → Steps
filtered no_steps f = no_steps
filtered (step a t fs no_steps) f = step a t (with_filter fs f) no_steps
filtered (step a t fs (step b u gs ss)) f = step a t fs (filtered (step b u gs ss) f)

-- A node-set is compared with a string (3.4): some child is a text with the value, or some attribute has the name and the value.
abbrev pub text_is : List ℕ → Filter
text_is v = Exists (path_or (step axes.Child (TextOf v) no_filters no_steps) no_paths)

abbrev pub attribute_is : List ℕ → List ℕ → Filter
attribute_is x v = Exists (path_or (step axes.Attribute (NameOf x v) no_filters no_steps) no_paths)
