-- The machine that reads the tokens of a model. It has a stack of its own and writes postfix code.
use Rattle.std.specs.Prelude.{◌≡◌, List, [], ◌∷◌, Bool, true, false, Option, Some as Just, None, reverse}
use Rattle.content_models.specs.declared.machine.Level.{Level}
use Rattle.content_models.specs.declared.machine.Machine.{Machine}
use Rattle.content_models.specs.declared.machine.Mode.{Mode}
use Rattle.content_models.specs.declared.machine.Mode.TheVariants.{Wanted, AtomDone, ItemDone}
use Rattle.content_models.specs.declared.postfix.Op.{Op}
use Rattle.content_models.specs.declared.postfix.Op.TheVariants.{Push, PushNothing, Join, Choose, MakeOptional, MakeAny, MakeSome}
use Rattle.content_models.specs.Spelled.{Token, Word, Open, Close, Comma, Bar, Question, Star, Plus}

-- what the machine is at, with its frames and its code from the last
pub record At : Type 0 where
  pub mode : Mode
  pub level : Level
  pub frames : List Level
  pub code : List Op

-- where the program's machine is
abbrev pub frames_of : Machine → List Level
frames_of m = reverse m.frames.items

abbrev pub code_in : Machine → List Op
code_in m = reverse m.code.items

abbrev pub at_of : Machine → At
at_of m = record { mode = m.mode; level = m.level; frames = frames_of m; code = code_in m }

-- the level at the front of a model
abbrev pub first_level : Level
first_level = record { bars = false; commas = false }

-- it comes to this
abbrev pub moved : Mode → Level → List Level → List Op → Option At
moved m l fs o = Just (record { mode = m; level = l; frames = fs; code = o })

-- the code with the operations of the operands that wait
abbrev pub commas_on : Bool → List Op → List Op
commas_on true o = Join ∷ o
commas_on false o = o

abbrev pub bars_on : Bool → List Op → List Op
bars_on true o = Choose ∷ o
bars_on false o = o

abbrev pub level_on : Level → List Op → List Op
level_on l o = bars_on l.bars (commas_on l.commas o)

-- a parenthesis is closed
abbrev pub closed : List Level → List Op → Option At
closed [] o = None
closed (l ∷ fs) o = moved AtomDone l fs o

-- an atom is to come; behind an opened parenthesis it may be closed at once
abbrev pub wanted : Bool → Level → List Level → List Op → Token → Option At
wanted opened l fs o (Word w) = moved AtomDone l fs (Push w ∷ o)
wanted opened l fs o Open = moved (Wanted true) first_level (l ∷ fs) o
wanted true l fs o Close = closed fs (PushNothing ∷ o)
wanted opened l fs o _ = None

-- an item has ended
abbrev pub after_item : Level → List Level → List Op → Token → Option At
after_item l fs o Comma = moved (Wanted false) (record { bars = l.bars; commas = true }) fs (commas_on l.commas o)
after_item l fs o Bar = moved (Wanted false) (record { bars = true; commas = false }) fs (level_on l o)
after_item l fs o Close = closed fs (level_on l o)
after_item l fs o _ = None

-- an atom has ended
abbrev pub after_atom : Level → List Level → List Op → Token → Option At
after_atom l fs o Question = moved ItemDone l fs (MakeOptional ∷ o)
after_atom l fs o Star = moved ItemDone l fs (MakeAny ∷ o)
after_atom l fs o Plus = moved ItemDone l fs (MakeSome ∷ o)
after_atom l fs o t = after_item l fs o t

abbrev pub step_in : Mode → Level → List Level → List Op → Token → Option At
step_in (Wanted opened) l fs o t = wanted opened l fs o t
step_in AtomDone l fs o t = after_atom l fs o t
step_in ItemDone l fs o t = after_item l fs o t

-- one token is read
abbrev pub step : At → Token → Option At
step s t = step_in s.mode s.level s.frames s.code t

-- the code where the tokens end, if a model has ended
abbrev pub ended_in : Mode → Level → List Level → List Op → Option (List Op)
ended_in (Wanted opened) l fs o = None
ended_in m l [] o = Just (level_on l o)
ended_in m l (f ∷ fs) o = None

abbrev pub ended : At → Option (List Op)
ended s = ended_in s.mode s.level s.frames s.code

-- all tokens are read
abbrev pub run : Option At → List Token → Option (List Op)
run None ts = None
run (Just s) [] = ended s
run (Just s) (t ∷ ts) = run (step s t) ts

-- before the first token
abbrev pub start : Option At
start = moved (Wanted false) first_level [] []

-- the machine reads the tokens from there on, to this code
abbrev pub Reads : Mode → Level → List Level → List Op → List Token → List Op → Type 0
Reads m l fs o ts code = run (moved m l fs o) ts ≡ Just code
