-- A query that is spelled is as large as it is written out.
use Rattle.std.proofs.Common.{◌≡◌, ◌≤◌, inl, inr, ℕ, ◌+◌, true, false, List, [], refl, ap, arith}
use Rattle.xpath_parser.specs.declared.query.Axis.{Axis}
use Rattle.xpath_parser.specs.Grammar.{Leads, at_front, at_root, below_root, after_slash, after_slashes, IsSteps, steps_of, IsStep, a_dot, a_tested, IsTested, with_axis, without_axis, with_filter as one_filter, IsOr, or_of, or_more, IsAnd, and_of, and_more, IsUnit, a_truth, in_parens, negated, a_comparison, a_search, IsPath, path_of, the_root, IsPaths, one_path, more_paths}
use Rattle.xpath_parser.specs.Limits as read
use Rattle.xpath_parser.specs.Meant.{meant_steps, meant_filters, meant_filter, meant_paths, named}
use Rattle.xpath_parser.specs.Queries.{Steps, no_steps, step, Filters, no_filters, filter_and, Filter, Paths, no_paths, path_or, Test, with_step, with_filter, with_path}
use Rattle.xpath_parser.specs.Spelled.{Spells}
use Rattle.xpath_parser.specs.Trees as trees
use Rattle.xpath_parser.proofs.Comparing.{compared-is}
use Rattle.selecting_automaton.specs.Sizes.{parts_of_steps, parts_of_filters, parts_of_filter, parts_of_paths, parts_of_more, steps_along, parts_along, steps_outside, parts_inside}

steps-with_step : (ss : Steps) (a : Axis) (t : Test) (fs : Filters) → steps_along (with_step ss a t fs) ≡ steps_along ss + 1
steps-with_step no_steps a t fs = refl
steps-with_step (step b u gs ss) a t fs = omega (arith, steps-with_step ss a t fs)

along-with_step : (ss : Steps) (a : Axis) (t : Test) (fs : Filters) → parts_along (with_step ss a t fs) ≡ parts_along ss + parts_of_filters fs
along-with_step no_steps a t fs = omega arith
along-with_step (step b u gs ss) a t fs = omega (arith, along-with_step ss a t fs)

parts-with_step : (ss : Steps) (a : Axis) (t : Test) (fs : Filters) → parts_of_steps (with_step ss a t fs) ≡ parts_of_steps ss + parts_of_filters fs + 1
parts-with_step no_steps a t fs = omega arith
parts-with_step (step b u gs ss) a t fs = omega (arith, parts-with_step ss a t fs)

parts-with_filter : (fs : Filters) (f : Filter) → parts_of_filters (with_filter fs f) ≡ parts_of_filters fs + parts_of_filter f
parts-with_filter no_filters f = omega arith
parts-with_filter (filter_and g fs) f = omega (arith, parts-with_filter fs f)

more-with_path : (ps : Paths) (ss : Steps) → 1 ≤ parts_of_steps ss → parts_of_more (with_path ps ss) ≡ parts_of_more ps + parts_of_steps ss + 1
more-with_path no_paths ss some = omega arith
more-with_path (path_or r ps) ss some = omega (arith, more-with_path ps ss some)

-- there is a first path
record IsSomePath (ps : Paths) : Type 0 where
  first : Steps
  later : Paths
  is : ps ≡ path_or first later

paths-with_path : (ps : Paths) (ss : Steps) → IsSomePath ps → 1 ≤ parts_of_steps ss → parts_of_paths (with_path ps ss) ≡ parts_of_paths ps + parts_of_steps ss + 1
paths-with_path ps ss some k = rw some.is (omega (arith, more-with_path some.later ss k))

steps-with_path : (ps : Paths) (ss : Steps) → steps_outside (with_path ps ss) ≡ steps_outside ps + steps_along ss
steps-with_path no_paths ss = omega arith
steps-with_path (path_or r ps) ss = omega (arith, steps-with_path ps ss)

parts-with_path : (ps : Paths) (ss : Steps) → parts_inside (with_path ps ss) ≡ parts_inside ps + parts_along ss
parts-with_path no_paths ss = omega arith
parts-with_path (path_or r ps) ss = omega (arith, parts-with_path ps ss)

steps-meant : (bytes : List ℕ) (ss : trees.Steps) → steps_along (meant_steps bytes ss) ≡ read.steps_outside ss
steps-meant bytes trees.no_steps = refl
steps-meant bytes (trees.then_step ss x t fs) = omega (arith, steps-with_step (meant_steps bytes ss) x (named bytes t) (meant_filters bytes fs), steps-meant bytes ss)

-- as many steps outside filters
pub outside-meant : (bytes : List ℕ) (ps : trees.Paths) → steps_outside (meant_paths bytes ps) ≡ read.outside ps
outside-meant bytes (trees.first_path ss) = omega (arith, steps-meant bytes ss)
outside-meant bytes (trees.then_path ps ss) = omega (arith, steps-with_path (meant_paths bytes ps) (meant_steps bytes ss), outside-meant bytes ps, steps-meant bytes ss)

module _ (bytes : List ℕ) where
  -- steps of as many parts
  record SameSteps (ss : trees.Steps) : Type 0 where
    parts : parts_of_steps (meant_steps bytes ss) ≡ read.parts_of_steps ss
    along : parts_along (meant_steps bytes ss) ≡ read.steps_inside ss

  no_steps_same : SameSteps trees.no_steps
  no_steps_same = record { parts = refl; along = refl }

  one_more : (ss : trees.Steps) (x : Axis) (t : _) (fs : trees.Filters) → SameSteps ss → parts_of_filters (meant_filters bytes fs) ≡ read.parts_of_filters fs → SameSteps (trees.then_step ss x t fs)
  one_more ss x t fs same e =
      let p = same.parts in
      let a = same.along in
      record {
        parts = omega (arith, parts-with_step (meant_steps bytes ss) x (named bytes t) (meant_filters bytes fs));
        along = omega (arith, along-with_step (meant_steps bytes ss) x (named bytes t) (meant_filters bytes fs));
      }

  below : (ss : trees.Steps) → SameSteps ss → SameSteps (trees.then_below ss)
  below ss same = one_more ss _ _ trees.no_filters same refl

  some-parts : (side : _) (ss : trees.Steps) (a b : _) → IsSteps side ss a b → 1 ≤ read.parts_of_steps ss
  some-parts _ _ _ _ (steps_of side ss x t fs a b c l s) = omega arith

  some-path : (side : _) (ss : trees.Steps) (a b : _) → ((x y : _) → IsPath side trees.no_steps x y → ⊥) → IsPath side ss a b → 1 ≤ read.parts_of_steps ss
  some-path _ _ _ _ none (path_of side ss a b i) = some-parts side ss a b i
  some-path _ _ _ _ none (the_root a) = absurd (none _ _ (the_root a))

  some_path : (ps : trees.Paths) → IsSomePath (meant_paths bytes ps)
  some_path (trees.first_path ss) = record { first = meant_steps bytes ss; later = no_paths; is = refl }
  some_path (trees.then_path ps ss) =
      let some = some_path ps in
      record { first = some.first; later = with_path some.later (meant_steps bytes ss); is = ap (λ (qs : Paths). with_path qs (meant_steps bytes ss)) some.is }

  mutual
    leads-same : (side : _) (ss : trees.Steps) (a b : _) → Leads side ss a b → SameSteps ss
    leads-same _ _ _ _ (at_front side a) = no_steps_same
    leads-same _ _ _ _ (at_root a) = no_steps_same
    leads-same _ _ _ _ (below_root a) = below trees.no_steps no_steps_same
    leads-same _ _ _ _ (after_slash side ss a b i) = steps-same side ss a _ i
    leads-same _ _ _ _ (after_slashes side ss a b i) = below ss (steps-same side ss a _ i)

    steps-same : (side : _) (ss : trees.Steps) (a b : _) → IsSteps side ss a b → SameSteps ss
    steps-same _ _ _ _ (steps_of side ss x t fs a b c l s) = one_more ss x t fs (leads-same side ss a b l) (step-same x t fs b c s)

    step-same : (x : Axis) (t : _) (fs : trees.Filters) (a b : _) → IsStep x t fs a b → parts_of_filters (meant_filters bytes fs) ≡ read.parts_of_filters fs
    step-same _ _ _ _ _ (a_dot a) = refl
    step-same _ _ _ _ _ (a_tested x t fs a b i) = tested-same x t fs a b i

    tested-same : (x : Axis) (t : _) (fs : trees.Filters) (a b : _) → IsTested x t fs a b → parts_of_filters (meant_filters bytes fs) ≡ read.parts_of_filters fs
    tested-same _ _ _ _ _ (with_axis x t a b i) = refl
    tested-same _ _ _ _ _ (without_axis t a b i) = refl
    tested-same _ _ _ _ _ (one_filter x t fs f a b c i o) = omega (arith, parts-with_filter (meant_filters bytes fs) (meant_filter bytes f), tested-same x t fs a _ i, or-same f b _ o)

    or-same : (f : trees.Filter) (a b : _) → IsOr f a b → parts_of_filter (meant_filter bytes f) ≡ read.parts_of_filter f
    or-same _ _ _ (or_of f a b i) = and-same f a b i
    or-same _ _ _ (or_more f g w a b c i j) = omega (arith, or-same f a _ i, and-same g b c j)

    and-same : (f : trees.Filter) (a b : _) → IsAnd f a b → parts_of_filter (meant_filter bytes f) ≡ read.parts_of_filter f
    and-same _ _ _ (and_of f a b i) = unit-same f a b i
    and-same _ _ _ (and_more f g w a b c i j) = omega (arith, and-same f a _ i, unit-same g b c j)

    unit-same : (f : trees.Filter) (a b : _) → IsUnit f a b → parts_of_filter (meant_filter bytes f) ≡ read.parts_of_filter f
    unit-same _ _ _ (a_truth true a) = refl
    unit-same _ _ _ (a_truth false a) = refl
    unit-same _ _ _ (in_parens f a b i) = or-same f a _ i
    unit-same _ _ _ (negated f a b i) = omega (arith, or-same f a _ i)
    unit-same _ _ _ (a_comparison c v a) = elim (compared-is bytes c v) [ inl w ↦ ap parts_of_filter w.1 | inr w ↦ ap parts_of_filter w.2 ]
    unit-same _ _ _ (a_search ps a b i) = paths-same _ ps a b i (λ x y h. elim h [ path_of side ss a b s ↦ let k = some-parts _ trees.no_steps a b s in omega arith ])

    path-same : (side : _) (ss : trees.Steps) (a b : _) → IsPath side ss a b → SameSteps ss
    path-same _ _ _ _ (path_of side ss a b i) = steps-same side ss a b i
    path-same _ _ _ _ (the_root a) = no_steps_same

    paths-same : (side : _) (ps : trees.Paths) (a b : _) → IsPaths side ps a b → ((x y : _) → IsPath side trees.no_steps x y → ⊥) → parts_of_paths (meant_paths bytes ps) ≡ read.parts_of_paths ps
    paths-same _ _ _ _ (one_path side ss a b i) none = let s = (path-same side ss a b i).parts in let k = some-path side ss a b none i in omega arith
    paths-same _ _ _ _ (more_paths side ps ss a b c i j) none =
        let s = (path-same side ss b c j).parts in
        let k = some-path side ss b c none j in
        omega (arith, paths-with_path (meant_paths bytes ps) (meant_steps bytes ss) (some_path ps) (omega arith), paths-same side ps a _ i none)

  outer-same : (side : _) (ps : trees.Paths) (a b : _) → IsPaths side ps a b → parts_inside (meant_paths bytes ps) ≡ read.inside ps
  outer-same _ _ _ _ (one_path side ss a b i) = let s = (path-same side ss a b i).along in omega arith
  outer-same _ _ _ _ (more_paths side ps ss a b c i j) = let s = (path-same side ss b c j).along in omega (arith, parts-with_path (meant_paths bytes ps) (meant_steps bytes ss), outer-same side ps a _ i)

-- as many parts in filters
pub inside-meant : (bytes : List ℕ) (ps : trees.Paths) → Spells bytes ps → parts_inside (meant_paths bytes ps) ≡ read.inside ps
inside-meant bytes ps spelled = outer-same bytes _ ps spelled.tokens [] spelled.parsed
