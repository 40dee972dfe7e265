-- The automaton that checks elements against the models of a schema.
use Rattle.std.specs.Prelude.{ℕ, ◌==◌, ◌/◌, ◌%◌, nat_le, List, [], ◌∷◌, get_or, length, map, replicate, set, bit_or, Bool, true, false, not, if◌then◌else◌}
use Rattle.std.specs.List.{list_all}
use Rattle.slt_grammar.specs.Algebras.{Algebra}
use Rattle.slt_grammar.specs.Automata.{Downward}
use Rattle.content_models.specs.declared.sorts.Sort.{Sort}
use Rattle.content_models.specs.declared.sorts.Sort.TheVariants.{Other, Free, Ruled}
use Rattle.content_models.specs.declared.states.Chain.{Chain}
use Rattle.content_models.specs.declared.states.Chain.TheVariants.{Empty, Stuck, Near, Far}
use Rattle.content_models.specs.declared.states.OneState.{OneState}
use Rattle.content_models.specs.declared.ways.Spot.{Spot}
use Rattle.content_models.specs.declared.ways.Way.{Way}
use Rattle.content_models.specs.Ways.{leads, to_end, word}

-- what a checker is: what each symbol is, where each model begins, and the places of each symbol in the models
pub record Checking : Type 0 where
  pub sorts : List Sort
  pub fronts : List Way
  pub rows : List (List Spot)

-- for each model a set of its places, all empty
abbrev pub no_sets : List ℕ
no_sets = replicate 64 0

-- the sets with one place more
abbrev pub marked : List ℕ → Spot → List ℕ
marked sets s = set sets s.model (bit_or (get_or sets s.model 0) s.bit)

-- with those places of a row whose bits are set, the first lowest
abbrev pub opened : List Spot → ℕ → List ℕ → List ℕ
opened [] bits sets = sets
opened (s ∷ row) bits sets = opened row (bits / 2) (if bits % 2 == 1 then marked sets s else sets)

-- the sets for which a state stands
abbrev pub sets_of : List (List Spot) → Chain → List ℕ
sets_of rows Empty = no_sets
sets_of rows Stuck = no_sets
sets_of rows (Near f bits) = opened (get_or rows f []) bits no_sets
sets_of rows (Far sets) = sets

-- no element is in the chain
abbrev pub has_ended : Chain → Bool
has_ended Empty = true
has_ended _ = false

-- the chain can be read behind a place
abbrev pub goes_on : List ℕ → Bool → Spot → Bool
goes_on sets ended s = leads s.next (get_or sets s.model 0) ended

-- the places of a row behind which it can be, as sets and as bits
abbrev pub next_sets : List ℕ → Bool → List Spot → List ℕ → List ℕ
next_sets sets ended [] next = next
next_sets sets ended (s ∷ row) next = next_sets sets ended row (if goes_on sets ended s then marked next s else next)

abbrev pub next_bits : List ℕ → Bool → List Spot → ℕ
next_bits sets ended row = word (map (goes_on sets ended) row)

-- the state of a chain that can be read from these places
abbrev pub near : ℕ → ℕ → Chain
near f bits = if bits == 0 then Stuck else Near f bits

abbrev pub far : List ℕ → Chain
far sets = if list_all (λ w. w == 0) sets then Stuck else Far sets

-- with an element of the symbol before it, whose places are this row
abbrev pub before : ℕ → List Spot → List ℕ → Bool → Chain
before f row sets ended = if nat_le (length row) 64 then near f (next_bits sets ended row) else far (next_sets sets ended row no_sets)

abbrev pub behind : List (List Spot) → ℕ → Chain → Chain
behind rows f Empty = before f (get_or rows f []) no_sets true
behind rows f Stuck = Stuck
behind rows f (Near g bits) = before f (get_or rows f []) (opened (get_or rows g []) bits no_sets) false
behind rows f (Far sets) = before f (get_or rows f []) sets false

abbrev pub known_at : List (List Spot) → Sort → ℕ → Chain → Chain
known_at rows Other f rest = rest
known_at rows Free f rest = behind rows f rest
known_at rows (Ruled i) f rest = behind rows f rest

-- a model does not match the chain
abbrev pub misses : Checking → ℕ → Chain → Bool
misses c i kids = not (leads (get_or c.fronts i to_end) (get_or (sets_of c.rows kids) i 0) (has_ended kids))

abbrev pub is_wrong : Checking → Sort → Chain → Bool
is_wrong c Other kids = false
is_wrong c Free kids = false
is_wrong c (Ruled i) kids = misses c i kids

abbrev pub checking_algebra : Checking → Algebra Chain
checking_algebra c = record { bottom = Empty; node = λ f kids rest. known_at c.rows (get_or c.sorts f Other) f rest }

abbrev pub checking_downward : Checking → Downward Chain OneState
checking_downward c = record { start = record {}; step = λ f d kids rest. record { hit = is_wrong c (get_or c.sorts f Other) kids; left = d; right = d } }
