-- How a query is built from its postfix code.
use Rattle.std.specs.Prelude.{ℕ, List, [], ◌∷◌, reverse, map, drop, get_or}
use Rattle.xpath_parser.specs.declared.postfix.Op.{Op}
use Rattle.xpath_parser.specs.declared.postfix.Op.TheVariants as ops
use Rattle.xpath_parser.specs.declared.building.OpenSearch.{OpenSearch}
use Rattle.xpath_parser.specs.declared.building.Builder.{Builder}
use Rattle.xpath_parser.specs.declared.query.Filter.{Filter}
use Rattle.xpath_parser.specs.Shown.{filter_of, paths_of, steps_of}
use Rattle.xpath_parser.specs.Queries as queries
use Rattle.xpath_parser.specs.Queries.{with_step, with_path, filtered}
use Rattle.xpath_parser.specs.Meant.{named, told, compared}

-- paths that are being built
pub record Search : Type 0 where
  pub paths : queries.Paths
  pub steps : queries.Steps

-- the paths of the query or the filter that is being built, those around it, and the truths that wait, from the last
pub record Building : Type 0 where
  pub search : Search
  pub outer : List Search
  pub truths : List queries.Filter

-- no path yet
abbrev pub no_search : Search
no_search = record { paths = queries.no_paths; steps = queries.no_steps }

-- with the last path
abbrev pub whole : Search → queries.Paths
whole s = with_path s.paths s.steps

-- the path has ended
abbrev pub next_path : Search → Search
next_path s = record { paths = whole s; steps = queries.no_steps }

-- the last truth, and the one before
abbrev pub top : List queries.Filter → queries.Filter
top fs = get_or fs 0 queries.False

abbrev pub second : List queries.Filter → queries.Filter
second fs = get_or fs 1 queries.False

-- one operation
abbrev pub applied : List ℕ → Op → Building → Building
applied b (ops.Step side x t) s = record { search = record { paths = s.search.paths; steps = with_step s.search.steps x (named b t) queries.no_filters }; outer = s.outer; truths = s.truths }
applied b ops.Filter s = record { search = record { paths = s.search.paths; steps = filtered s.search.steps (top s.truths) }; outer = s.outer; truths = drop 1 s.truths }
applied b ops.Begin s = record { search = no_search; outer = s.search ∷ s.outer; truths = s.truths }
applied b (ops.Bar side) s = record { search = next_path s.search; outer = s.outer; truths = s.truths }
applied b ops.Exists s = record { search = get_or s.outer 0 no_search; outer = drop 1 s.outer; truths = queries.Exists (whole s.search) ∷ s.truths }
applied b (ops.Truth t) s = record { search = s.search; outer = s.outer; truths = told t ∷ s.truths }
applied b (ops.Compare c v) s = record { search = s.search; outer = s.outer; truths = compared b c v ∷ s.truths }
applied b ops.Not s = record { search = s.search; outer = s.outer; truths = queries.Not (top s.truths) ∷ drop 1 s.truths }
applied b ops.And s = record { search = s.search; outer = s.outer; truths = queries.And (second s.truths) (top s.truths) ∷ drop 2 s.truths }
applied b ops.Or s = record { search = s.search; outer = s.outer; truths = queries.Or (second s.truths) (top s.truths) ∷ drop 2 s.truths }

-- all operations, the last first
abbrev pub built : List ℕ → List Op → Building
built b [] = record { search = no_search; outer = []; truths = [] }
built b (op ∷ o) = applied b op (built b o)

-- what the program holds
abbrev pub search_of : OpenSearch → Search
search_of s = record { paths = paths_of s.paths; steps = steps_of s.steps }

-- from the last
abbrev pub truths_of : List Filter → List queries.Filter
truths_of fs = map filter_of (reverse fs)

abbrev pub searches_of : List OpenSearch → List Search
searches_of ss = map search_of (reverse ss)

abbrev pub building_of : Builder → Building
building_of b = record { search = search_of b.search; outer = searches_of b.outer.items; truths = truths_of b.truths.items }
