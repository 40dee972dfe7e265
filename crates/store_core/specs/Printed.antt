-- What a sink gets of nodes, of which what is printed is gathered before it is written.
use Rattle.std.specs.Prelude.{◌≡◌, ℕ, List, [], ◌++◌, Option, Result, MatchResult, OnOk, slice_get}
use Rattle.std.specs.List.{flat_map}
use Rattle.std.specs.Option.{option_map_or}
use Rattle.tree_outside.specs.Outside.{Gets, GetsFront}
use Rattle.plain_tree.specs.declared.kind.Kind.{Kind}
use Rattle.rule_runs.specs.declared.listing.Hit.{Hit}
use Rattle.store_core.specs.Texts.{node_line}

-- the line of a node by its symbol, the place of its kind and name
abbrev pub hit_line : List (Kind × List ℕ) → Hit → List ℕ
hit_line names hit = option_map_or (node_line hit.number) (slice_get names hit.symbol) []

abbrev pub hit_lines : List (Kind × List ℕ) → List Hit → List ℕ
hit_lines names = flat_map (hit_line names)

-- of these bytes the sink got the first and the others are held, or it failed and got a front of them
abbrev pub Passes : {E : Type 0} → Option (List ℕ) → Option (List ℕ) → List ℕ → Result (Unit {0}) E → List ℕ → Type 0
Passes before now bytes result held = MatchResult result
    (λ _. (got : List ℕ) × Gets before now got × (bytes ≡ got ++ held))
    (λ _. GetsFront before now bytes)

-- what is printed of some first items was gathered, and of all where there was memory for that
pub record Gathers {E A : Type 0} (before now : Option (List ℕ)) (print : A → List ℕ) (items : List A) (done : Result (Unit {0}) E) (held : List ℕ) : Type 0 where
  pub first : List A
  pub later : List A
  pub whole : items ≡ first ++ later
  pub all : OnOk done (later ≡ [])
  pub got : List ℕ
  pub gets : Gets before now got
  pub bytes : flat_map print first ≡ got ++ held
