-- How large a query is: its steps outside filters, and the parts in its filters.
use Rattle.std.specs.Prelude.{ℕ, ◌+◌, ◌<◌, ◌⊎◌}
use Rattle.xpath_parser.specs.Trees.{Steps, no_steps, then_step, Filters, no_filters, then_filter, Filter, Either, Both, Negated, Told, Found, Compared, Paths, first_path, then_path}

-- the steps of a path, those in its filters aside
abbrev pub steps_outside : Steps → ℕ
steps_outside no_steps = 0
steps_outside (then_step ss x t fs) = steps_outside ss + 1

-- of all paths
abbrev pub outside : Paths → ℕ
outside (first_path ss) = steps_outside ss
outside (then_path ps ss) = outside ps + steps_outside ss

-- the parts in the filters of a step: each step, each `or`, `and` and `|`, each `not`, `true()` and `false()`, and each comparison is one
abbrev mutual
  pub parts_of_filters : Filters → ℕ
  parts_of_filters no_filters = 0
  parts_of_filters (then_filter fs f) = parts_of_filters fs + parts_of_filter f

  pub parts_of_filter : Filter → ℕ
  parts_of_filter (Either f g) = (parts_of_filter f + parts_of_filter g) + 1
  parts_of_filter (Both f g) = (parts_of_filter f + parts_of_filter g) + 1
  parts_of_filter (Negated f) = parts_of_filter f + 1
  parts_of_filter (Told b) = 1
  parts_of_filter (Found ps) = parts_of_paths ps
  parts_of_filter (Compared c v) = 1

  pub parts_of_paths : Paths → ℕ
  parts_of_paths (first_path ss) = parts_of_steps ss
  parts_of_paths (then_path ps ss) = (parts_of_paths ps + parts_of_steps ss) + 1

  pub parts_of_steps : Steps → ℕ
  parts_of_steps no_steps = 0
  parts_of_steps (then_step ss x t fs) = (parts_of_steps ss + parts_of_filters fs) + 1

-- the parts in the filters of a path's steps
abbrev pub steps_inside : Steps → ℕ
steps_inside no_steps = 0
steps_inside (then_step ss x t fs) = steps_inside ss + parts_of_filters fs

-- of all paths
abbrev pub inside : Paths → ℕ
inside (first_path ss) = steps_inside ss
inside (then_path ps ss) = inside ps + steps_inside ss

-- more than 64 steps outside filters, or more than 64 parts inside
abbrev pub IsLarge : Paths → Type 0
IsLarge ps = (64 < outside ps) ⊎ (64 < inside ps)
