-- Outcomes of spots, where what these hand on stands in one list.
use Rattle.std.proofs.Common.{◌≡◌, ◌≢◌, ℕ, ◌+◌, ◌≤◌, List, [], ◌∷◌, ◌++◌, length, slice_range, slice_get, Some, refl, ap, ◌∙◌, arith, length-append, All}
use Rattle.std.proofs.lemmas.List.{map-append}
use Rattle.std.proofs.lemmas.List.Elements.{All-append, All-head, All-map, All-tail, All-weaker}
use Rattle.rule_runs.specs.declared.descent.Descended.{Descended}
use Rattle.rule_runs.specs.declared.descent.Descended.TheVariants.{Done, Waits}
use Rattle.rule_runs.specs.declared.spots.Handed.{Handed}
use Rattle.rule_runs.specs.declared.spots.Passed.{Passed}
use Rattle.rule_runs.specs.declared.spots.Spot.{Spot}
use Rattle.rule_runs.specs.declared.told.Told.{Told}
use Rattle.rule_runs.specs.Spans.{LiesWithin}
use Rattle.rule_runs.specs.Outcomes.{Outcome, outcome, outcome_in, outcomes_of}
use Rattle.rule_runs.proofs.Spans.{lies-more, range-more, range-new}
use Rattle.rule_runs.proofs.Lists.{all-one, all-unmap, slice_get-map}

module _ {D : Type 0} (handed more : List (Handed D)) where
  -- no outcome changes where more is handed on behind it
  outcomes-stay : (es : List (Spot D × Passed)) → All (λ e. LiesWithin (length handed) e.1.handed) es → outcomes_of (handed ++ more) es ≡ outcomes_of handed es
  outcomes-stay [] h = refl
  outcomes-stay (e ∷ es) h =
      let P : Spot D × Passed → Type 0 = λ e. LiesWithin (length handed) e.1.handed in
      let first = All-head P e es h in
      ap (λ hs. (e.0, outcome hs e.1.last) ∷ outcomes_of (handed ++ more) es) (range-more handed more e.1.handed.begin e.1.handed.end first.0 first.1) ∙ ap (λ os. (e.0, outcome_in handed e.1) ∷ os) (outcomes-stay es (All-tail P e es h))

  -- a spot is noted that hands these on
  pub outcomes-noted : (new : List (Handed D)) (es : List (Spot D × Passed)) (known : List (Spot D × Outcome D)) (spot : Spot D) (p : Passed) → All (λ e. LiesWithin (length handed) e.1.handed) es → outcomes_of handed es ≡ known
      → new ≡ handed ++ more → p.handed.begin ≡ length handed → p.handed.end ≡ length new → outcomes_of new (es ++ (spot, p) ∷ []) ≡ known ++ (spot, outcome more p.last) ∷ []
  outcomes-noted new es known spot p h k n b e =
      let end : p.handed.end ≡ length handed + length more = omega (arith, e, ap length n, length-append handed more) in
      let r : slice_range (handed ++ more) p.handed.begin p.handed.end ≡ more = rw (b, end) (range-new handed more) in
      ap (λ hs. outcomes_of hs (es ++ (spot, p) ∷ [])) n
      ∙ map-append (λ (e : Spot D × Passed). (e.0, outcome_in (handed ++ more) e.1)) es ((spot, p) ∷ [])
      ∙ ap (λ hs. outcomes_of (handed ++ more) es ++ (spot, outcome hs p.last) ∷ []) r
      ∙ ap (λ os. os ++ (spot, outcome more p.last) ∷ []) (outcomes-stay es h ∙ k)

module _ {D : Type 0} where
  -- what is handed on stands among more, too
  pub within-more : (es : List (Spot D × Passed)) (n m : ℕ) → n ≤ m → All (λ e. LiesWithin n e.1.handed) es → All (λ e. LiesWithin m e.1.handed) es
  within-more es n m le h = All-weaker (λ (e : Spot D × Passed). LiesWithin n e.1.handed) (λ (e : Spot D × Passed). LiesWithin m e.1.handed) (λ e w. lies-more e.1.handed n m le w) es h

  pub within-noted : (es : List (Spot D × Passed)) (n m : ℕ) (spot : Spot D) (p : Passed) → n ≤ m → p.handed.begin ≡ n → p.handed.end ≡ m → All (λ e. LiesWithin n e.1.handed) es → All (λ e. LiesWithin m e.1.handed) (es ++ (spot, p) ∷ [])
  within-noted es n m spot p le b e h =
      let P : Spot D × Passed → Type 0 = λ e. LiesWithin m e.1.handed in
      All-append P es ((spot, p) ∷ []) (within-more es n m le h) (all-one P (spot, p) (omega arith, omega arith))

  -- the spots are those of the entries
  pub outcome-at : (handed : List (Handed D)) (es : List (Spot D × Passed)) (i : ℕ) (spot : Spot D) (p : Passed) → slice_get es i ≡ Some (spot, p) → slice_get (outcomes_of handed es) i ≡ Some (spot, outcome_in handed p)
  outcome-at handed es i spot p e = slice_get-map (λ (e : Spot D × Passed). (e.0, outcome_in handed e.1)) es i (spot, p) e

  pub absent-outcome : (handed : List (Handed D)) (spot : Spot D) (es : List (Spot D × Passed)) → All (λ e. e.0 ≢ spot) es → All (λ e. e.0 ≢ spot) (outcomes_of handed es)
  absent-outcome handed spot es h = All-map (λ (e : Spot D × Outcome D). e.0 ≢ spot) (λ (e : Spot D × Passed). (e.0, outcome_in handed e.1)) es h

  pub absent-entry : (handed : List (Handed D)) (spot : Spot D) (es : List (Spot D × Passed)) → All (λ e. e.0 ≢ spot) (outcomes_of handed es) → All (λ e. e.0 ≢ spot) es
  absent-entry handed spot es h = all-unmap (λ (e : Spot D × Passed). (e.0, outcome_in handed e.1)) (λ (e : Spot D × Outcome D). e.0 ≢ spot) es h

-- what comes next of a body is one thing
pub same-done : {D : Type 0} (s t : Told) → ◌≡◌ {A = Descended D} (Done s) (Done t) → s ≡ t
same-done s t e = cc

pub same-waits : {D : Type 0} (s t : Spot D) → Waits s ≡ Waits t → s ≡ t
same-waits s t e = cc
