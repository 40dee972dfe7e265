-- The run over a query's postfix code builds the query.
use Rattle.std.proofs.Common.{◌≡◌, ℕ, List, [], ◌∷◌, refl, ap, ◌∙◌}
use Rattle.xpath_parser.specs.declared.query.Axis.{Axis}
use Rattle.xpath_parser.specs.declared.postfix.Side.{Side}
use Rattle.xpath_parser.specs.declared.postfix.Side.TheVariants.{Outer, Inner}
use Rattle.xpath_parser.specs.declared.postfix.Op.{Op}
use Rattle.xpath_parser.specs.declared.postfix.Op.TheVariants as ops
use Rattle.xpath_parser.specs.Trees.{Steps, no_steps, then_step, Filters, no_filters, then_filter, Filter, Either, Both, Negated, Told, Found, Compared, Paths, first_path, then_path, steps_on, filters_on, filter_on, paths_on, code_of}
use Rattle.xpath_parser.specs.Queries as queries
use Rattle.xpath_parser.specs.Queries.{with_step, with_filter, with_path, filtered}
use Rattle.xpath_parser.specs.Meant.{named, meant_steps, meant_filters, meant_filter, meant_paths}
use Rattle.xpath_parser.specs.Building.{whole, Building, applied, built}
use Rattle.xpath_parser.proofs.Rows.{filtered-last}

abbrev truth_on : queries.Filter → Building → Building
truth_on f s = record { search = s.search; outer = s.outer; truths = f ∷ s.truths }

abbrev stepped : Building → queries.Steps → Building
stepped s ss = record { search = record { paths = s.search.paths; steps = ss }; outer = s.outer; truths = s.truths }

abbrev pathed : Building → queries.Paths → queries.Steps → Building
pathed s ps ss = record { search = record { paths = ps; steps = ss }; outer = s.outer; truths = s.truths }

abbrev before : List ℕ → Paths → queries.Paths
before b (first_path ss) = queries.no_paths
before b (then_path ps ss) = meant_paths b ps

abbrev last : List ℕ → Paths → queries.Steps
last b (first_path ss) = meant_steps b ss
last b (then_path ps ss) = meant_steps b ss

all-paths : (b : List ℕ) (ps : Paths) → with_path (before b ps) (last b ps) ≡ meant_paths b ps
all-paths b (first_path ss) = refl
all-paths b (then_path ps ss) = refl

mutual
  filter-built : (b : List ℕ) (f : Filter) (o : List Op) → built b (filter_on f o) ≡ truth_on (meant_filter b f) (built b o)
  filter-built b (Either f g) o = ap (applied b ops.Or) (filter-built b g (filter_on f o) ∙ ap (truth_on (meant_filter b g)) (filter-built b f o))
  filter-built b (Both f g) o = ap (applied b ops.And) (filter-built b g (filter_on f o) ∙ ap (truth_on (meant_filter b g)) (filter-built b f o))
  filter-built b (Negated f) o = ap (applied b ops.Not) (filter-built b f o)
  filter-built b (Told t) o = refl
  filter-built b (Compared c v) o = refl
  filter-built b (Found ps) o = ap (applied b ops.Exists) (paths-built b Inner ps (ops.Begin ∷ o) refl refl) ∙ ap (λ qs. truth_on (queries.Exists qs) (built b o)) (all-paths b ps)

  filters-built : (b : List ℕ) (fs : Filters) (o : List Op) (ss : queries.Steps) (x : Axis) (t : queries.Test) → (built b o).search.steps ≡ with_step ss x t queries.no_filters
      → built b (filters_on fs o) ≡ stepped (built b o) (with_step ss x t (meant_filters b fs))
  filters-built b no_filters o ss x t e = ap (stepped (built b o)) e
  filters-built b (then_filter fs f) o ss x t e =
      ap (applied b ops.Filter) (filter-built b f (filters_on fs o) ∙ ap (truth_on (meant_filter b f)) (filters-built b fs o ss x t e))
      ∙ ap (stepped (built b o)) (filtered-last ss x t (meant_filters b fs) (meant_filter b f))

  steps-built : (b : List ℕ) (side : Side) (ss : Steps) (o : List Op) → (built b o).search.steps ≡ queries.no_steps → built b (steps_on side ss o) ≡ stepped (built b o) (meant_steps b ss)
  steps-built b side no_steps o e = ap (stepped (built b o)) e
  steps-built b side (then_step ss x t fs) o e =
      let h = steps-built b side ss o e in
      filters-built b fs (ops.Step side x t ∷ steps_on side ss o) (meant_steps b ss) x (named b t) (ap (λ s. with_step s.search.steps x (named b t) queries.no_filters) h)
      ∙ ap (λ s. stepped s (with_step (meant_steps b ss) x (named b t) (meant_filters b fs))) h

  -- the paths but the last, and the last
  paths-built : (b : List ℕ) (side : Side) (ps : Paths) (o : List Op) → (built b o).search.steps ≡ queries.no_steps → (built b o).search.paths ≡ queries.no_paths
      → built b (paths_on side ps o) ≡ pathed (built b o) (before b ps) (last b ps)
  paths-built b side (first_path ss) o e n = steps-built b side ss o e ∙ ap (λ ps. pathed (built b o) ps (meant_steps b ss)) n
  paths-built b side (then_path ps ss) o e n =
      let h = ap (applied b (ops.Bar side)) (paths-built b side ps o e n) ∙ ap (λ qs. pathed (built b o) qs queries.no_steps) (all-paths b ps) in
      steps-built b side ss (ops.Bar side ∷ paths_on side ps o) (ap (λ s. s.search.steps) h) ∙ ap (λ s. stepped s (meant_steps b ss)) h

pub query-built : (b : List ℕ) (ps : Paths) → whole (built b (code_of ps)).search ≡ meant_paths b ps
query-built b ps = ap (λ s. whole s.search) (paths-built b Outer ps [] refl refl) ∙ all-paths b ps
