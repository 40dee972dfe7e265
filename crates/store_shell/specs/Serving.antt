-- What `serve` does: its contract on the script, the session, the files and the sink.
use Rattle.std.specs.Prelude.{◌≡◌, ◌<◌, ◌≤◌, ◌+◌, ◌^◌, ◌⊎◌, ℕ, List, [], ◌∷◌, ◌++◌, length, Option, IfSome}
use Rattle.tree_outside.specs.Outside.{Gets, GetsFront, Stays}
use Rattle.store_words.specs.Words.{IsWords}
use Rattle.store_core.specs.Worlds.{World}
use Rattle.store_words.specs.declared.words.Settings.{Settings}
use Rattle.store_shell.specs.Forms.{Quit, IsForm, HasNoQuit}
use Rattle.store_shell.specs.Lines.{IsCut}
use Rattle.store_shell.specs.Runs.{DoesLine, Run, RoseBy, line_fault, line_faults}
use Rattle.store_shell.specs.declared.status.Status.{Status}
use Rattle.store_shell.specs.declared.status.Status.TheVariants as status

-- the bytes that were taken from the source, at most 2^30: the lines that ended, and what follows them
pub record Script : Type 0 where
  pub bytes : List ℕ
  pub within : length bytes ≤ 2 ^ 30
  pub lines : List (List ℕ)
  pub tail : List ℕ
  pub cut : IsCut bytes lines tail

-- No quit is among these lines, they were done, and the sink got their text. The shelf's count rose for each that was answered
-- `! read-fault` or `! write-fault`.
pub record Did (settings : Settings) (lines : List (List ℕ)) (old new : World) (before now : Option (List ℕ)) : Type 0 where
  pub no_quit : HasNoQuit lines
  pub out : List ℕ
  pub ran : Run settings lines old out new
  pub got : Gets before now out
  pub faults : RoseBy (line_faults settings lines old out new ran) old.count new.count

-- The sink failed at one of the lines, which isn't quit: session and files stand as after it, and the sink got the text of
-- the lines before it and a front of its own. The shelf's count rose as for lines that were done.
pub record Stops (settings : Settings) (lines : List (List ℕ)) (old new : World) (before now : Option (List ℕ)) : Type 0 where
  pub done : List (List ℕ)
  pub last : List ℕ
  pub later : List (List ℕ)
  pub whole : lines ≡ done ++ last ∷ later
  pub no_quit : IsForm last Quit → ⊥
  pub mid : World
  pub between : Option (List ℕ)
  pub did : Did settings done old mid before between
  pub text : List ℕ
  pub does : DoesLine settings last mid text new
  pub got : GetsFront between now text
  pub faults : RoseBy (line_faults settings done old did.out mid did.ran + line_fault settings does.form mid text new does.does) old.count new.count

-- one of the lines is quit, and these come before it
pub record Quits (lines before : List (List ℕ)) : Type 0 where
  pub quit : List ℕ
  pub says : IsForm quit Quit
  pub behind : List (List ℕ)
  pub whole : lines ≡ before ++ quit ∷ behind

-- nothing was left but these bytes, fewer than 2^30, where the source tells what is left
pub record IsWhole (script : Script) (left : Option (List ℕ)) : Type 0 where
  pub short : length script.bytes < 2 ^ 30
  pub all : IfSome left (λ left. left ≡ script.bytes)

-- with the unfinished last line
abbrev pub all_lines : Script → List (List ℕ)
all_lines script = script.lines ++ script.tail ∷ []

-- The script was done: the lines before a quit that ended, or where nothing was left all lines, or those before a quit.
pub record Finishes (settings : Settings) (script : Script) (left : Option (List ℕ)) (old new : World) (before now : Option (List ℕ)) : Type 0 where
  pub lines : List (List ℕ)
  pub end : Quits script.lines lines ⊎ (IsWhole script left × ((lines ≡ all_lines script) ⊎ Quits (all_lines script) lines))
  pub did : Did settings lines old new before now

-- the words were refused, or there was no memory to begin with
abbrev pub IsRefused : Status → Type 0
IsRefused status.Words = Unit {0}
IsRefused status.Memory = Unit {0}
IsRefused _ = ⊥

-- Nothing was read or written.
pub record Refused (script : Script) (old new : World) (before now : Option (List ℕ)) : Type 0 where
  pub bytes : script.bytes ≡ []
  pub world : new ≡ old
  pub got : Stays before now

-- the settings of a script that was read are those that the words give
abbrev pub AreSettings : List (List ℕ) → Status → Settings → Type 0
AreSettings words status.Words settings = Unit {0}
AreSettings words status.Memory settings = Unit {0}
AreSettings words _ settings = IsWords words settings.rank settings.repair

-- what a status says of the script taken, of what was left in the source before, of the worlds and of the sink
abbrev pub Serves : Settings → Script → Option (List ℕ) → Status → World → World → Option (List ℕ) → Option (List ℕ) → Type 0
Serves settings script left status.Done old new before now = Finishes settings script left old new before now
Serves settings script left status.ReadFault old new before now = (length script.bytes < 2 ^ 30) × Did settings script.lines old new before now
Serves settings script left status.LongScript old new before now = (length script.bytes ≡ 2 ^ 30) × Did settings script.lines old new before now
Serves settings script left status.WriteFault old new before now =
    Stops settings script.lines old new before now ⊎ (IsWhole script left × Stops settings (all_lines script) old new before now)
Serves settings script left status.Words old new before now = Refused script old new before now
Serves settings script left status.Memory old new before now = Refused script old new before now

-- the exit status with which a program says how a script ended
abbrev pub exit_status : Status → ℕ
exit_status status.Done = 0
exit_status status.Memory = 1
exit_status status.Words = 2
exit_status status.ReadFault = 3
exit_status status.WriteFault = 4
exit_status status.LongScript = 5
