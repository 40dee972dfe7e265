-- What the machine does for the lines of a script.
use Rattle.std.specs.Prelude.{◌≡◌, ◌+◌, ◌-◌, ◌^◌, ◌≤◌, min, ℕ, List, [], ◌∷◌, ◌++◌, Result, Err, codes}
use Rattle.store_core.specs.Machine.{Step}
use Rattle.store_core.specs.Worlds.{World}
use Rattle.store_core.specs.declared.answer.Answer.{Answer}
use Rattle.store_core.specs.declared.answer.Refusal.{Refusal}
use Rattle.store_core.specs.declared.answer.Refusal.TheVariants.{ReadFault, WriteFault}
use Rattle.store_words.specs.declared.words.Settings.{Settings}
use Rattle.store_shell.specs.Forms.{Form, Empty, Long, Bad, Quit, Command, IsForm}

-- what a line of this form prints and leaves, by these settings
abbrev pub One : Settings → Form → World → List ℕ → World → Type 0
One settings Empty old out new = (out ≡ []) × (new ≡ old)
One settings Long old out new = (out ≡ codes "! long-line\n") × (new ≡ old)
One settings Bad old out new = (out ≡ codes "! bad-command\n") × (new ≡ old)
One settings Quit old out new = (out ≡ []) × (new ≡ old)
One settings (Command act) old out new = Step settings act old out new

-- one line
pub record DoesLine (settings : Settings) (line : List ℕ) (old : World) (out : List ℕ) (new : World) : Type 0 where
  pub form : Form
  pub says : IsForm line form
  pub does : One settings form old out new

-- line after line; the outputs are joined
abbrev pub Run : Settings → List (List ℕ) → World → List ℕ → World → Type 0
Run settings [] old out new = (out ≡ []) × (new ≡ old)
Run settings (line ∷ lines) old out new = (mid : World) × (first : List ℕ) × (rest : List ℕ) × DoesLine settings line old first mid × Run settings lines mid rest new × (out ≡ first ++ rest)

-- 1 for what is refused for a fault of the shelf
abbrev pub fault_of : Result Answer Refusal → ℕ
fault_of (Err ReadFault) = 1
fault_of (Err WriteFault) = 1
fault_of _ = 0

-- 1 for a line that is answered `! read-fault` or `! write-fault`
abbrev pub line_fault : (settings : Settings) (form : Form) (old : World) (out : List ℕ) (new : World) → One settings form old out new → ℕ
line_fault settings Empty old out new does = 0
line_fault settings Long old out new does = 0
line_fault settings Bad old out new does = 0
line_fault settings Quit old out new does = 0
line_fault settings (Command act) old out new does = fault_of does.outcome

-- how many lines are
abbrev pub line_faults : (settings : Settings) (lines : List (List ℕ)) (old : World) (out : List ℕ) (new : World) → Run settings lines old out new → ℕ
line_faults settings [] old out new run = 0
line_faults settings (line ∷ lines) old out new run =
    line_fault settings run.3.form old run.1 run.0 run.3.does + line_faults settings lines run.0 run.2 new run.4

-- a count rose at least so often, or stands at its last value
abbrev pub RoseBy : ℕ → ℕ → ℕ → Type 0
RoseBy times before now = min (before + times) (2 ^ 64 - 1) ≤ now
