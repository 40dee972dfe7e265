-- The query for which the program's types stand.
use Rattle.xpath_parser.specs.declared.query.Filter.{Filter, Or', And', Not', True, False, Exists, TextIs, AttributeIs}
use Rattle.xpath_parser.specs.declared.query.Filter.TheBlock.{Row_of-Filter, end_of-Filter, more_of-Filter}
use Rattle.xpath_parser.specs.declared.query.Test.{Test}
use Rattle.xpath_parser.specs.declared.query.Test.TheVariants as tests
use Rattle.xpath_parser.specs.declared.query.QuerySteps.{QuerySteps, QuerySteps', Row_of-QueryStep, end_of-QueryStep, more_of-QueryStep}
use Rattle.xpath_parser.specs.declared.query.Path.{Path, Path'}
use Rattle.xpath_parser.specs.declared.query.Paths.{Paths, Paths', Row_of-Path, end_of-Path, more_of-Path}
use Rattle.xpath_parser.specs.declared.query.Filters.{Filters}
use Rattle.xpath_parser.specs.Queries as queries
use Rattle.std.specs.Prelude.{◌≡◌, List, [], ◌∷◌, Option, Some, None}
use Rattle.std.specs.Borrow.{Bor}
use Rattle.xpath_parser.specs.declared.query.Axis.{Axis}
use Rattle.xpath_parser.specs.declared.query.QueryStep.{QueryStep}

-- of a test
abbrev pub test_of : Test → queries.Test
test_of tests.Star = queries.Star
test_of (tests.Name n) = queries.Name n
test_of tests.AnyNode = queries.AnyNode
test_of tests.TextNode = queries.TextNode
test_of tests.CommentNode = queries.CommentNode
test_of tests.InstructionNode = queries.InstructionNode

-- of filters, paths and steps; a row is a list of the program's as it lies in its type
abbrev mutual
  pub filter_of : Filter → queries.Filter
  filter_of (Or' p f q g) = queries.Or (filter_of f) (filter_of g)
  filter_of (And' p f q g) = queries.And (filter_of f) (filter_of g)
  filter_of (Not' p f) = queries.Not (filter_of f)
  filter_of True = queries.True
  filter_of False = queries.False
  filter_of (Exists ps) = queries.Exists (paths_of ps)
  filter_of (TextIs v) = queries.text_is v
  filter_of (AttributeIs x v) = queries.attribute_is x v

  pub paths_of : Paths → queries.Paths
  paths_of (Paths' shape all) = path_row all

  pub path_row : {m : _} → Row_of-Path m → queries.Paths
  path_row end_of-Path = queries.no_paths
  path_row (more_of-Path p rest) = queries.path_or (path_of p) (path_row rest)

  pub path_of : Path → queries.Steps
  path_of (Path' steps) = steps_of steps

  pub steps_of : QuerySteps → queries.Steps
  steps_of (QuerySteps' shape all) = step_row all

  pub step_row : {m : _} → Row_of-QueryStep m → queries.Steps
  step_row end_of-QueryStep = queries.no_steps
  step_row (more_of-QueryStep a t shape fs rest) = queries.step a (test_of t) (filter_row fs) (step_row rest)

  pub filter_row : {m : _} → Row_of-Filter m → queries.Filters
  filter_row end_of-Filter = queries.no_filters
  filter_row (more_of-Filter f rest) = queries.filter_and (filter_of f) (filter_row rest)

-- of the filters of a step
abbrev pub filters_list : List Filter → queries.Filters
filters_list [] = queries.no_filters
filters_list (f ∷ fs) = queries.filter_and (filter_of f) (filters_list fs)

abbrev pub filters_of : Filters → queries.Filters
filters_of fs = filters_list fs.filters.items

-- the paths, the steps and the filters one by one
abbrev pub path_list : queries.Paths → List queries.Steps
path_list queries.no_paths = []
path_list (queries.path_or ss ps) = ss ∷ path_list ps

pub record Step : Type 0 where
  pub axis : Axis
  pub test : queries.Test
  pub filters : queries.Filters

abbrev pub step_list : queries.Steps → List Step
step_list queries.no_steps = []
step_list (queries.step a t fs ss) = record { axis = a; test = t; filters = fs } ∷ step_list ss

abbrev pub filter_list : queries.Filters → List queries.Filter
filter_list queries.no_filters = []
filter_list (queries.filter_and f fs) = f ∷ filter_list fs

abbrev pub step_of : QueryStep → Step
step_of s = record { axis = s.axis; test = test_of s.test; filters = filters_of s.filters }

-- what a place of a list shows
abbrev pub SeesPath : Option (Bor Path) → Option queries.Steps → Type 0
SeesPath (Some p) ss = ss ≡ Some (path_of p.now)
SeesPath None ss = ss ≡ None

abbrev pub SeesStep : Option (Bor QueryStep) → Option Step → Type 0
SeesStep (Some r) s = s ≡ Some (step_of r.now)
SeesStep None s = s ≡ None

abbrev pub SeesFilter : Option (Bor Filter) → Option queries.Filter → Type 0
SeesFilter (Some g) f = f ≡ Some (filter_of g.now)
SeesFilter None f = f ≡ None
