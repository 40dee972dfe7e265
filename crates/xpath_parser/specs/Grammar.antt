-- The grammar of queries over tokens, a part of XPath 1.0's. Each relation says what the front of a list of tokens spells, and what
-- follows it. Outer are paths outside filters, where a `/` may stand in front; Inner are those in filters.
use Rattle.std.specs.Prelude.{List, ◌∷◌, Bool}
use Rattle.xpath_parser.specs.declared.query.Axis.{Axis}
use Rattle.xpath_parser.specs.declared.query.Axis.TheVariants as axes
use Rattle.xpath_parser.specs.declared.postfix.Side.{Side}
use Rattle.xpath_parser.specs.declared.postfix.Side.TheVariants.{Outer, Inner}
use Rattle.xpath_parser.specs.declared.token.Asked.{Asked}
use Rattle.xpath_parser.specs.declared.token.Asked.TheVariants as tests
use Rattle.xpath_parser.specs.declared.token.Operand.{Operand}
use Rattle.xpath_parser.specs.declared.token.Span.{Span}
use Rattle.xpath_parser.specs.declared.token.Token.{Token}
use Rattle.xpath_parser.specs.declared.token.Token.TheVariants as tokens
use Rattle.xpath_parser.specs.Trees.{Steps, no_steps, then_step, Filters, no_filters, then_filter, Filter, Either, Both, Negated, Told, Found, Compared, Paths, first_path, then_path, then_below}

-- NodeTest (2.3): test = '*' | qname | ('node' | 'text' | 'comment' | 'processing-instruction') '(' ')'
pub data IsTest : Asked → List Token → List Token → Type 0 where
  a_kind : (t : Asked) (a : List Token) → IsTest t (tokens.Asks t ∷ a) a
  a_name : (n : Span) (a : List Token) → IsTest (tests.Name n) (tokens.Word n ∷ a) a
  a_name_and : (n : Span) (a : List Token) → IsTest (tests.Name n) (tokens.AndWord n ∷ a) a
  a_name_or : (n : Span) (a : List Token) → IsTest (tests.Name n) (tokens.OrWord n ∷ a) a

mutual
  -- the steps before a step (2, 2.5): none, those for which a front '/' or '//' stands, or some with '/' or '//' behind them
  pub data Leads : Side → Steps → List Token → List Token → Type 0 where
    at_front : (side : Side) (a : List Token) → Leads side no_steps a a
    at_root : (a : List Token) → Leads Outer no_steps (tokens.Slash ∷ a) a
    below_root : (a : List Token) → Leads Outer (then_below no_steps) (tokens.Slashes ∷ a) a
    after_slash : (side : Side) (ss : Steps) (a b : List Token) → IsSteps side ss a (tokens.Slash ∷ b) → Leads side ss a b
    after_slashes : (side : Side) (ss : Steps) (a b : List Token) → IsSteps side ss a (tokens.Slashes ∷ b) → Leads side (then_below ss) a b

  -- RelativeLocationPath (2), behind what leads to it: one step or more
  pub data IsSteps : Side → Steps → List Token → List Token → Type 0 where
    steps_of : (side : Side) (ss : Steps) (x : Axis) (t : Asked) (fs : Filters) (a b c : List Token) → Leads side ss a b → IsStep x t fs b c → IsSteps side (then_step ss x t fs) a c

  -- Step (2.1, 2.5): step = '.' | (axis '::' | '@')? test filter*
  pub data IsStep : Axis → Asked → Filters → List Token → List Token → Type 0 where
    a_dot : (a : List Token) → IsStep axes.SelfNode tests.AnyNode no_filters (tokens.Dot ∷ a) a
    a_tested : (x : Axis) (t : Asked) (fs : Filters) (a b : List Token) → IsTested x t fs a b → IsStep x t fs a b

  -- a step with its predicates (2.4); without an axis it is the child axis (2.5)
  pub data IsTested : Axis → Asked → Filters → List Token → List Token → Type 0 where
    with_axis : (x : Axis) (t : Asked) (a b : List Token) → IsTest t a b → IsTested x t no_filters (tokens.Along x ∷ a) b
    without_axis : (t : Asked) (a b : List Token) → IsTest t a b → IsTested axes.Child t no_filters a b
    with_filter : (x : Axis) (t : Asked) (fs : Filters) (f : Filter) (a b c : List Token) → IsTested x t fs a (tokens.OpenFilter ∷ b) → IsOr f b (tokens.CloseFilter ∷ c)
        → IsTested x t (then_filter fs f) a c

  -- OrExpr (3.4): or = and ('or' and)*
  pub data IsOr : Filter → List Token → List Token → Type 0 where
    or_of : (f : Filter) (a b : List Token) → IsAnd f a b → IsOr f a b
    or_more : (f g : Filter) (w : Span) (a b c : List Token) → IsOr f a (tokens.OrWord w ∷ b) → IsAnd g b c → IsOr (Either f g) a c

  -- AndExpr (3.4): and = unit ('and' unit)*
  pub data IsAnd : Filter → List Token → List Token → Type 0 where
    and_of : (f : Filter) (a b : List Token) → IsUnit f a b → IsAnd f a b
    and_more : (f g : Filter) (w : Span) (a b c : List Token) → IsAnd f a (tokens.AndWord w ∷ b) → IsUnit g b c → IsAnd (Both f g) a c

  -- what `and` joins (3.1, 3.3, 3.4, 4.3): unit = 'not' '(' or ')' | 'true' '(' ')' | 'false' '(' ')' | '(' or ')' | comparison | steps ('|' steps)*
  pub data IsUnit : Filter → List Token → List Token → Type 0 where
    a_truth : (t : Bool) (a : List Token) → IsUnit (Told t) (tokens.Truth t ∷ a) a
    in_parens : (f : Filter) (a b : List Token) → IsOr f a (tokens.Close ∷ b) → IsUnit f (tokens.Open ∷ a) b
    negated : (f : Filter) (a b : List Token) → IsOr f a (tokens.Close ∷ b) → IsUnit (Negated f) (tokens.NotOpen ∷ a) b
    a_comparison : (c : Operand) (v : Span) (a : List Token) → IsUnit (Compared c v) (tokens.Compares c v ∷ a) a
    a_search : (ps : Paths) (a b : List Token) → IsPaths Inner ps a b → IsUnit (Found ps) a b

  -- LocationPath (2): path = '/' | '/' steps | '//' steps | steps at the top, and steps inside filters
  pub data IsPath : Side → Steps → List Token → List Token → Type 0 where
    path_of : (side : Side) (ss : Steps) (a b : List Token) → IsSteps side ss a b → IsPath side ss a b
    the_root : (a : List Token) → IsPath Outer no_steps (tokens.Slash ∷ a) a

  -- UnionExpr (3.3): path ('|' path)*
  pub data IsPaths : Side → Paths → List Token → List Token → Type 0 where
    one_path : (side : Side) (ss : Steps) (a b : List Token) → IsPath side ss a b → IsPaths side (first_path ss) a b
    more_paths : (side : Side) (ps : Paths) (ss : Steps) (a b c : List Token) → IsPaths side ps a (tokens.Bar ∷ b) → IsPath side ss b c → IsPaths side (then_path ps ss) a c
