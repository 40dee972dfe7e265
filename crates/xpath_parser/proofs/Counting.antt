-- The counts of the postfix code are those of the query.
use Rattle.std.proofs.Common.{◌≡◌, ℕ, ◌+◌, List, [], ◌∷◌, refl, ap, ◌∙◌, arith}
use Rattle.xpath_parser.specs.declared.postfix.Side.TheVariants.{Outer, Inner}
use Rattle.xpath_parser.specs.declared.postfix.Op.{Op}
use Rattle.xpath_parser.specs.declared.postfix.Op.TheVariants as ops
use Rattle.xpath_parser.specs.declared.postfix.Counts.{Counts}
use Rattle.xpath_parser.specs.Trees.{Steps, no_steps, then_step, Filters, no_filters, then_filter, Filter, Either, Both, Negated, Told, Found, Compared, Paths, first_path, then_path, steps_on, filters_on, filter_on, paths_on, code_of}
use Rattle.xpath_parser.specs.Limits.{steps_outside, outside, parts_of_filters, parts_of_filter, parts_of_paths, parts_of_steps, steps_inside, inside}
use Rattle.xpath_parser.specs.Noting.{counted}
use Rattle.xpath_parser.proofs.Kept.{counts}

-- so many more of each
abbrev more : Counts → ℕ → ℕ → Counts
more c m n = record { outer = c.outer + m; inner = c.inner + n }

same_counts : (m k n j : ℕ) → m ≡ k → n ≡ j → ◌≡◌ {A = Counts} (record { outer = m; inner = n }) (record { outer = k; inner = j })
same_counts m k n j e f = cc

more-none : (c : Counts) → c ≡ more c 0 0
more-none c = same_counts c.outer (c.outer + 0) c.inner (c.inner + 0) (omega arith) (omega arith)

more-more : (c : Counts) (m n k j : ℕ) → more (more c m n) k j ≡ more c (m + k) (n + j)
more-more c m n k j = same_counts ((c.outer + m) + k) (c.outer + (m + k)) ((c.inner + n) + j) (c.inner + (n + j)) (omega arith) (omega arith)

-- one inside
abbrev one : Counts → Counts
one c = record { outer = c.outer; inner = c.inner + 1 }

more-one : (c : Counts) (m : ℕ) → one (more c 0 m) ≡ more c 0 (m + 1)
more-one c m = same_counts (c.outer + 0) (c.outer + 0) ((c.inner + m) + 1) (c.inner + (m + 1)) refl (omega arith)

inner-more : (c : Counts) (m n : ℕ) → more (more c 0 m) 0 n ≡ more c 0 (m + n)
inner-more c m n = same_counts ((c.outer + 0) + 0) (c.outer + 0) ((c.inner + m) + n) (c.inner + (m + n)) (omega arith) (omega arith)

one-more : (c : Counts) (m n : ℕ) → more (one (more c 0 m)) 0 n ≡ more c 0 ((m + n) + 1)
one-more c m n = same_counts ((c.outer + 0) + 0) (c.outer + 0) (((c.inner + m) + 1) + n) (c.inner + ((m + n) + 1)) (omega arith) (omega arith)

joined : (c : Counts) (m n : ℕ) → one (more (more c 0 m) 0 n) ≡ more c 0 ((m + n) + 1)
joined c m n = ap one (inner-more c m n) ∙ more-one c (m + n)

mutual
  filters-counted : (fs : Filters) (o : List Op) → counts (filters_on fs o) ≡ more (counts o) 0 (parts_of_filters fs)
  filters-counted no_filters o = more-none (counts o)
  filters-counted (then_filter fs f) o =
      filter-counted f (filters_on fs o) ∙ ap (λ c. more c 0 (parts_of_filter f)) (filters-counted fs o) ∙ inner-more (counts o) (parts_of_filters fs) (parts_of_filter f)

  filter-counted : (f : Filter) (o : List Op) → counts (filter_on f o) ≡ more (counts o) 0 (parts_of_filter f)
  filter-counted (Either f g) o = ap one (filter-counted g (filter_on f o) ∙ ap (λ c. more c 0 (parts_of_filter g)) (filter-counted f o)) ∙ joined (counts o) (parts_of_filter f) (parts_of_filter g)
  filter-counted (Both f g) o = ap one (filter-counted g (filter_on f o) ∙ ap (λ c. more c 0 (parts_of_filter g)) (filter-counted f o)) ∙ joined (counts o) (parts_of_filter f) (parts_of_filter g)
  filter-counted (Negated f) o = ap one (filter-counted f o) ∙ more-one (counts o) (parts_of_filter f)
  filter-counted (Told b) o = same_counts (counts o).outer ((counts o).outer + 0) ((counts o).inner + 1) ((counts o).inner + 1) (omega arith) refl
  filter-counted (Compared c v) o = same_counts (counts o).outer ((counts o).outer + 0) ((counts o).inner + 1) ((counts o).inner + 1) (omega arith) refl
  filter-counted (Found ps) o = paths-counted ps (ops.Begin ∷ o)

  paths-counted : (ps : Paths) (o : List Op) → counts (paths_on Inner ps o) ≡ more (counts o) 0 (parts_of_paths ps)
  paths-counted (first_path ss) o = steps-counted ss o
  paths-counted (then_path ps ss) o =
      steps-counted ss (ops.Bar Inner ∷ paths_on Inner ps o) ∙ ap (λ c. more (one c) 0 (parts_of_steps ss)) (paths-counted ps o) ∙ one-more (counts o) (parts_of_paths ps) (parts_of_steps ss)

  steps-counted : (ss : Steps) (o : List Op) → counts (steps_on Inner ss o) ≡ more (counts o) 0 (parts_of_steps ss)
  steps-counted no_steps o = more-none (counts o)
  steps-counted (then_step ss x t fs) o =
      filters-counted fs (ops.Step Inner x t ∷ steps_on Inner ss o) ∙ ap (λ c. more (one c) 0 (parts_of_filters fs)) (steps-counted ss o) ∙ one-more (counts o) (parts_of_steps ss) (parts_of_filters fs)

-- one step outside, and its filters
stepped : (c : Counts) (m n k : ℕ) → ◌≡◌ {A = Counts} (record { outer = (c.outer + m) + 1 + 0; inner = (c.inner + n) + k }) (more c (m + 1) (n + k))
stepped c m n k = same_counts ((c.outer + m) + 1 + 0) (c.outer + (m + 1)) ((c.inner + n) + k) (c.inner + (n + k)) (omega arith) (omega arith)

outer-steps : (ss : Steps) (o : List Op) → counts (steps_on Outer ss o) ≡ more (counts o) (steps_outside ss) (steps_inside ss)
outer-steps no_steps o = more-none (counts o)
outer-steps (then_step ss x t fs) o =
    filters-counted fs (ops.Step Outer x t ∷ steps_on Outer ss o)
    ∙ ap (λ c. more (counted (ops.Step Outer x t) c) 0 (parts_of_filters fs)) (outer-steps ss o)
    ∙ stepped (counts o) (steps_outside ss) (steps_inside ss) (parts_of_filters fs)

outer-paths : (ps : Paths) (o : List Op) → counts (paths_on Outer ps o) ≡ more (counts o) (outside ps) (inside ps)
outer-paths (first_path ss) o = outer-steps ss o
outer-paths (then_path ps ss) o =
    outer-steps ss (ops.Bar Outer ∷ paths_on Outer ps o) ∙ ap (λ c. more c (steps_outside ss) (steps_inside ss)) (outer-paths ps o)
    ∙ more-more (counts o) (outside ps) (inside ps) (steps_outside ss) (steps_inside ss)

pub query-counted : (ps : Paths) → counts (code_of ps) ≡ record { outer = outside ps; inner = inside ps }
query-counted ps = outer-paths ps [] ∙ same_counts (0 + outside ps) (outside ps) (0 + inside ps) (inside ps) (omega arith) (omega arith)
