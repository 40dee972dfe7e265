-- What comes of a line's end, and of a piece of a script.
use Rattle.std.specs.Prelude.{◌≡◌, ℕ, List, ◌++◌, Option, Result, MatchResult}
use Rattle.tree_outside.specs.Outside.{Gets, GetsFront, Stays}
use Rattle.store_core.specs.Worlds.{World}
use Rattle.store_words.specs.declared.words.Settings.{Settings}
use Rattle.store_shell.specs.Forms.{Quit, IsForm}
use Rattle.store_shell.specs.Lines.{IsCut, kept}
use Rattle.store_shell.specs.Runs.{DoesLine}
use Rattle.store_shell.specs.Serving.{Did, Stops, Quits}
use Rattle.store_shell.specs.declared.script.Flow.{Flow}
use Rattle.store_shell.specs.declared.script.Flow.TheVariants as flow

-- the line isn't quit, and prints and leaves this
pub record Goes (settings : Settings) (line : List ℕ) (old : World) (out : List ℕ) (new : World) : Type 0 where
  pub no_quit : IsForm line Quit → ⊥
  pub does : DoesLine settings line old out new

-- a line: it was done and the sink got its text, or it is quit and nothing was done
abbrev pub Ended : Settings → List ℕ → Flow → World → World → Option (List ℕ) → Option (List ℕ) → Type 0
Ended settings line flow.On old new before now = (out : List ℕ) × Goes settings line old out new × Gets before now out
Ended settings line flow.Quit old new before now = IsForm line Quit × (new ≡ old) × Stays before now

-- a line, at which the sink may have failed
abbrev pub Ends : {E : Type 0} → Settings → List ℕ → Result Flow E → World → World → Option (List ℕ) → Option (List ℕ) → Type 0
Ends settings line result old new before now = MatchResult result (λ flow. Ended settings line flow old new before now)
    (λ _. (out : List ℕ) × Goes settings line old out new × GetsFront before now out)

-- lines: all were done and the line is what follows them, or those before a quit were done
abbrev pub Fed : Settings → List (List ℕ) → List ℕ → Flow → World → World → Option (List ℕ) → Option (List ℕ) → Option (List ℕ) → Type 0
Fed settings lines tail flow.On old new before now line = Did settings lines old new before now × (line ≡ kept tail)
Fed settings lines tail flow.Quit old new before now line = (done : List (List ℕ)) × Quits lines done × Did settings done old new before now

-- A piece, where this part of a line came before it: the lines that end in it were done up to a quit, or the sink failed at
-- one of them.
pub record Feeds {E : Type 0} (settings : Settings) (part piece : List ℕ) (result : Result Flow E) (old new : World) (before now line : Option (List ℕ)) : Type 0 where
  pub lines : List (List ℕ)
  pub tail : List ℕ
  pub cut : IsCut (part ++ piece) lines tail
  pub does : MatchResult result (λ flow. Fed settings lines tail flow old new before now line) (λ _. Stops settings lines old new before now)
