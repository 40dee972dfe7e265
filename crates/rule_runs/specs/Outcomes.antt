-- What spots are found to be.
use Rattle.std.specs.Prelude.{List, [], ◌∷◌, ◌++◌, map, slice_range}
use Rattle.rule_runs.specs.declared.spots.Handed.{Handed}
use Rattle.rule_runs.specs.declared.spots.Passed.{Passed}
use Rattle.rule_runs.specs.declared.spots.Spot.{Spot}
use Rattle.rule_runs.specs.declared.told.Told.{Told}

-- what is handed to the parameters of a spot's rule, and the stretch behind the last of them
pub record Outcome (D : Type 0) : Type 0 where
  pub handed : List (Handed D)
  pub last : Told

abbrev pub outcome : {D : Type 0} → List (Handed D) → Told → Outcome D
outcome handed last = record { handed = handed; last = last }

-- the stretches before parameters, and their down states
abbrev pub befores : {D : Type 0} → List (Handed D) → List Told
befores = map (λ h. h.before)

abbrev pub downs_handed : {D : Type 0} → List (Handed D) → List D
downs_handed = map (λ h. h.down)

-- all stretches
abbrev pub tolds : {D : Type 0} → Outcome D → List Told
tolds o = befores o.handed ++ o.last ∷ []

-- the outcomes of spots, where what these hand on stands in one list
abbrev pub outcome_in : {D : Type 0} → List (Handed D) → Passed → Outcome D
outcome_in handed p = outcome (slice_range handed p.handed.begin p.handed.end) p.last

abbrev pub outcomes_of : {D : Type 0} → List (Handed D) → List (Spot D × Passed) → List (Spot D × Outcome D)
outcomes_of handed = map (λ e. (e.0, outcome_in handed e.1))
