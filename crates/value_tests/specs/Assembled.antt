-- The rules that are made of spots, one after another.
use Rattle.std.specs.Prelude.{◌≡◌, ◌⊎◌, ◌≤◌, ◌<◌, ◌+◌, ◌-◌, ℕ, List, [], ◌∷◌, ◌++◌, length, map, get_or, slice_get, Option, Some, None}
use Rattle.rule_arena.specs.declared.label.Label.{Label}
use Rattle.slt_grammar.specs.Grammars.{body_at, rank_at, calls_of}
use Rattle.slt_grammar.specs.declared.rules.Rule.{Rule}
use Rattle.value_tests.specs.Relabelled.{Spot}
use Rattle.value_tests.specs.Steps.{Becomes}

-- where no spot is
abbrev pub no_spot : Spot ℕ (Option ℕ)
no_spot = record { rule = 0; states = []; down = None }

-- the start, from the first text on
abbrev pub start_spot : List Rule → Spot ℕ (Option ℕ)
start_spot G = record { rule = length G - 1; states = []; down = Some 0 }

-- the spots of the new rules, by their numbers
abbrev pub spots_at : List (Spot ℕ (Option ℕ)) → List ℕ → List (Spot ℕ (Option ℕ))
spots_at spots origins = map (λ id. get_or spots id no_spot) origins

-- a number where no place is, and else none
abbrev pub if_plain : Option ℕ → ℕ → ℕ
if_plain None n = n
if_plain (Some place) n = 0

-- how many nodes a new rule has that is without marks
abbrev pub plain_nodes : List Rule → List (Spot ℕ (Option ℕ)) → ℕ → ℕ
plain_nodes G spots p =
    let s = get_or spots p no_spot in
    if_plain s.down (length (body_at G s.rule))

-- A spot without marks is of a rule from `next` on that is before the start's, and the next one then is the rule behind. One with marks
-- changes nothing.
abbrev pub RisesTo : Spot ℕ (Option ℕ) → ℕ → ℕ → ℕ → Type 0
RisesTo s start next after = ((s.down ≡ None) × (next ≤ s.rule) × (s.rule < start) × (after ≡ s.rule + 1)) ⊎ ((place : ℕ) × (s.down ≡ Some place) × (after ≡ next))

-- a new rule is without marks, or is called at one place at most
abbrev pub IsCalledOnce : List Rule → List (Spot ℕ (Option ℕ)) → ℕ → Type 0
IsCalledOnce H spots p = ((get_or spots p no_spot).down ≡ None) ⊎ (calls_of H p ≤ 1)

module _ (w : Label → ℕ) (G : List Rule) (symbols : ℕ) (marks : ℕ → ℕ) where
  -- a body was made for the spot of a number, whatever spots come later
  pub record IsBodyFor (spots : List (Spot ℕ (Option ℕ))) (id : ℕ) (body : List Label) : Type 0 where
    pub spot : Spot ℕ (Option ℕ)
    pub there : slice_get spots id ≡ Some spot
    pub old : spot.rule < length G
    pub states : length spot.states ≡ rank_at G spot.rule
    pub becomes : (later : List (Spot ℕ (Option ℕ))) → Becomes w G symbols marks (spots ++ later) spot.states (spot.down ∷ []) (body_at G spot.rule) body

  -- a rule is that of a spot, among the rules that are made of these
  pub record IsRuleFor (spots : List (Spot ℕ (Option ℕ))) (s : Spot ℕ (Option ℕ)) (R : Rule) : Type 0 where
    pub old : s.rule < length G
    pub states : length s.states ≡ rank_at G s.rule
    pub rank : R.rank ≡ rank_at G s.rule
    pub body : Becomes w G symbols marks spots s.states (s.down ∷ []) (body_at G s.rule) R.body

  -- the rule of a number is that of the spot that is its origin
  pub record IsRuleAt (spots : List (Spot ℕ (Option ℕ))) (origins : List ℕ) (p : ℕ) (R : Rule) : Type 0 where
    pub id : ℕ
    pub spot : Spot ℕ (Option ℕ)
    pub origin : slice_get origins p ≡ Some id
    pub there : slice_get spots id ≡ Some spot
    pub rule : IsRuleFor (spots_at spots origins) spot R

  -- so is each of these
  abbrev pub AreRulesFor : List (Spot ℕ (Option ℕ)) → List ℕ → List Rule → Type 0
  AreRulesFor spots origins H = (p : ℕ) (R : Rule) → slice_get H p ≡ Some R → IsRuleAt spots origins p R
