-- Notes in lists where the states of symbols stand apart.
use Rattle.std.specs.Prelude.{ℕ, ◌<◌, List, Option, Some, None, slice_get}
use Rattle.rule_runs.specs.declared.notes.Note.{Note}
use Rattle.rule_runs.specs.declared.notes.Note.TheVariants.{Bottom as NoteBottom, Param as NoteParam, Symbol as NoteSymbol, Call as NoteCall}
use Rattle.rule_runs.specs.declared.note_list.Brief.{Brief}
use Rattle.rule_runs.specs.declared.note_list.Brief.TheVariants.{Bottom, Param, Symbol, Call}
use Rattle.rule_runs.specs.declared.note_list.Seen.{Seen}
use Rattle.rule_runs.specs.declared.note_list.Seen.TheVariants.{Bottom as SeenBottom, Param as SeenParam, Symbol as SeenSymbol, Call as SeenCall}

-- the note of a symbol, if there are states of its children
abbrev pub symbol_over : {S : Type 0} → ℕ → Option (S × S) → Note S
symbol_over f None = NoteBottom
symbol_over f (Some states) = NoteSymbol f states.0 states.1

-- a note with the states that stand at its place
abbrev pub in_full : {S : Type 0} → List (S × S) → Brief → Note S
in_full states Bottom = NoteBottom
in_full states Param = NoteParam
in_full states (Symbol f place) = symbol_over f (slice_get states place)
in_full states (Call pair) = NoteCall pair

-- its place is among so many
abbrev pub HasStates : ℕ → Brief → Type 0
HasStates count (Symbol f place) = place < count
HasStates count b = Unit {0}

-- the note that is looked at
abbrev pub seen : {S : Type 0} → Seen S → Note S
seen SeenBottom = NoteBottom
seen SeenParam = NoteParam
seen (SeenSymbol f kids rest) = NoteSymbol f kids.now rest.now
seen (SeenCall pair) = NoteCall pair
