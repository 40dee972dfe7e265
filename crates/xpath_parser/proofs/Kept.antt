-- What is kept of the postfix code: the machine that keeps less runs as the one that keeps all.
use Rattle.std.proofs.Common.{◌≡◌, List, [], ◌∷◌, Bool, true, false, Option, Some, None, refl, ap, sym, ◌∙◌, arith, if◌then◌else◌}
use Rattle.std.specs.Option.{option_map}
use Rattle.xpath_parser.specs.declared.query.Axis.{Axis}
use Rattle.xpath_parser.specs.declared.query.Axis.TheVariants as axes
use Rattle.xpath_parser.specs.declared.token.Token.{Token}
use Rattle.xpath_parser.specs.declared.token.Token.TheVariants as tokens
use Rattle.xpath_parser.specs.declared.postfix.Side.TheVariants.{Outer, Inner}
use Rattle.xpath_parser.specs.declared.postfix.Op.{Op}
use Rattle.xpath_parser.specs.declared.postfix.Op.TheVariants as ops
use Rattle.xpath_parser.specs.declared.postfix.Counts.{Counts}
use Rattle.xpath_parser.specs.declared.machine.Level.{Level}
use Rattle.xpath_parser.specs.declared.machine.Place.{Place}
use Rattle.xpath_parser.specs.declared.machine.Place.TheVariants.{Top, Inside}
use Rattle.xpath_parser.specs.declared.machine.Frame.{Frame}
use Rattle.xpath_parser.specs.declared.machine.Frame.TheVariants as frames
use Rattle.xpath_parser.specs.declared.machine.Mode.{Mode}
use Rattle.xpath_parser.specs.declared.machine.Mode.TheVariants as modes
use Rattle.xpath_parser.specs.Noting.{counted, is_past, Noted, within, noted, none_noted}
use Rattle.xpath_parser.specs.Run as machine
use Rattle.xpath_parser.proofs.ListRun as plain

-- the counts of a code
abbrev pub counts : List Op → Counts
counts [] = record { outer = 0; inner = 0 }
counts (op ∷ o) = counted op (counts o)

-- what is noted of a code
abbrev pub kept : List Op → Option Noted
kept [] = none_noted
kept (op ∷ o) = noted op (kept o)

-- past the limits is past them for good
passed : (op : Op) (c : Counts) → is_past c ≡ true → is_past (counted op c) ≡ true
passed (ops.Step Outer x t) c h = grind (arith)
passed (ops.Step Inner x t) c h = grind (arith)
passed ops.Filter c h = h
passed ops.Begin c h = h
passed (ops.Bar Outer) c h = h
passed (ops.Bar Inner) c h = grind (arith)
passed ops.Exists c h = h
passed (ops.Truth b) c h = grind (arith)
passed (ops.Compare operand v) c h = grind (arith)
passed ops.Not c h = grind (arith)
passed ops.And c h = grind (arith)
passed ops.Or c h = grind (arith)

noted-within : (op : Op) (c : Counts) (o : List Op) (b : Bool) → is_past c ≡ b → noted op (if b then None else Some (record { counts = c; ops = o })) ≡ within (counted op c) (op ∷ o)
unfolding noted
noted-within op c o true h = ap (λ b. if b then None else Some (record { counts = counted op c; ops = op ∷ o })) (sym (passed op c h))
noted-within op c o false h = refl

-- all of it within the limits, and else nothing
pub kept-within : (o : List Op) → kept o ≡ within (counts o) o
kept-within [] = refl
kept-within (op ∷ o) = ap (noted op) (kept-within o) ∙ noted-within op (counts o) o (is_past (counts o)) refl

-- the same place, with what is kept of its code
abbrev pub kept_at : plain.At → machine.At (Option Noted)
kept_at s = record { mode = s.mode; frames = s.frames; code = kept s.code }

abbrev pub Follows : Option (machine.At (Option Noted)) → Option plain.At → Type 0
Follows m p = m ≡ option_map kept_at p

ands-kept : (b : Bool) (o : List Op) → machine.ands_on noted b (kept o) ≡ kept (plain.ands_on b o)
ands-kept true o = refl
ands-kept false o = refl

ors-kept : (b : Bool) (o : List Op) → machine.ors_on noted b (kept o) ≡ kept (plain.ors_on b o)
ors-kept true o = refl
ors-kept false o = refl

level-kept : (l : Level) (o : List Op) → machine.level_on noted l (kept o) ≡ kept (plain.level_on l o)
level-kept l o = ap (machine.ors_on noted l.ors) (ands-kept l.ands o) ∙ ors-kept l.ors (plain.ands_on l.ands o)

parens-kept : (fs : List Frame) (o : List Op) → Follows (machine.closed_parens noted fs (kept o)) (plain.closed_parens fs o)
parens-kept [] o = refl
parens-kept (frames.Parens l ∷ fs) o = refl
parens-kept (frames.NotParens l ∷ fs) o = refl
parens-kept (frames.Bracket p ∷ fs) o = refl

filter-kept : (fs : List Frame) (o : List Op) → Follows (machine.closed_filter noted fs (kept o)) (plain.closed_filter fs o)
filter-kept [] o = refl
filter-kept (frames.Parens l ∷ fs) o = refl
filter-kept (frames.NotParens l ∷ fs) o = refl
filter-kept (frames.Bracket p ∷ fs) o = refl

unit-kept : (l : Level) (fs : List Frame) (o : List Op) (t : Token) → Follows (machine.after_unit noted l fs (kept o) t) (plain.after_unit l fs o t)
unit-kept l fs o (tokens.AndWord n) = ap (machine.moved (modes.UnitWanted (record { ors = l.ors; ands = true })) fs) (ands-kept l.ands o)
unit-kept l fs o (tokens.OrWord n) = ap (machine.moved (modes.UnitWanted (record { ors = true; ands = false })) fs) (level-kept l o)
unit-kept l fs o tokens.Close = ap (machine.closed_parens noted fs) (level-kept l o) ∙ parens-kept fs (plain.level_on l o)
unit-kept l fs o tokens.CloseFilter = ap (machine.closed_filter noted fs) (level-kept l o) ∙ filter-kept fs (plain.level_on l o)
unit-kept l fs o _ = refl

paths-kept : (p : Place) (fs : List Frame) (o : List Op) (t : Token) → Follows (machine.after_paths noted p fs (kept o) t) (plain.after_paths p fs o t)
paths-kept Top fs o t = refl
paths-kept (Inside l) fs o t = unit-kept l fs (ops.Exists ∷ o) t

stepped-kept : (p : Place) (fs : List Frame) (o : List Op) (t : Token) → Follows (machine.after_step noted p fs (kept o) t) (plain.after_step p fs o t)
stepped-kept p fs o tokens.Slash = refl
stepped-kept p fs o tokens.Slashes = refl
stepped-kept p fs o tokens.Bar = refl
stepped-kept p fs o t = paths-kept p fs o t

tested-kept : (p : Place) (fs : List Frame) (o : List Op) (t : Token) → Follows (machine.after_test noted p fs (kept o) t) (plain.after_test p fs o t)
tested-kept p fs o tokens.OpenFilter = refl
tested-kept p fs o t = stepped-kept p fs o t

test-kept : (p : Place) (x : Axis) (fs : List Frame) (o : List Op) (t : Token) → Follows (machine.test_wanted noted p x fs (kept o) t) (plain.test_wanted p x fs o t)
test-kept p x fs o (tokens.Asks t) = refl
test-kept p x fs o (tokens.Word n) = refl
test-kept p x fs o (tokens.AndWord n) = refl
test-kept p x fs o (tokens.OrWord n) = refl
test-kept p x fs o _ = refl

step-kept : (p : Place) (fs : List Frame) (o : List Op) (t : Token) → Follows (machine.step_wanted noted p fs (kept o) t) (plain.step_wanted p fs o t)
step-kept p fs o (tokens.Along x) = refl
step-kept p fs o tokens.Dot = refl
step-kept p fs o t = test-kept p axes.Child fs o t

wanted-kept : (l : Level) (fs : List Frame) (o : List Op) (t : Token) → Follows (machine.unit_wanted noted l fs (kept o) t) (plain.unit_wanted l fs o t)
wanted-kept l fs o tokens.Open = refl
wanted-kept l fs o tokens.NotOpen = refl
wanted-kept l fs o (tokens.Truth b) = refl
wanted-kept l fs o (tokens.Compares c v) = refl
wanted-kept l fs o t = step-kept (Inside l) fs (ops.Begin ∷ o) t

first-kept : (fs : List Frame) (o : List Op) (t : Token) → Follows (machine.first_wanted noted fs (kept o) t) (plain.first_wanted fs o t)
first-kept fs o tokens.Slash = refl
first-kept fs o tokens.Slashes = refl
first-kept fs o t = step-kept Top fs o t

root-kept : (fs : List Frame) (o : List Op) (t : Token) → Follows (machine.after_root noted fs (kept o) t) (plain.after_root fs o t)
root-kept fs o tokens.Bar = refl
root-kept fs o t = step-kept Top fs o t

token-kept : (m : Mode) (fs : List Frame) (o : List Op) (t : Token)
    → Follows (machine.step noted (record { mode = m; frames = fs; code = kept o }) t) (plain.step (record { mode = m; frames = fs; code = o }) t)
token-kept modes.PathWanted fs o t = first-kept fs o t
token-kept modes.Rooted fs o t = root-kept fs o t
token-kept (modes.StepWanted p) fs o t = step-kept p fs o t
token-kept (modes.TestWanted p x) fs o t = test-kept p x fs o t
token-kept (modes.Tested p) fs o t = tested-kept p fs o t
token-kept (modes.Dotted p) fs o t = stepped-kept p fs o t
token-kept (modes.UnitWanted l) fs o t = wanted-kept l fs o t
token-kept (modes.UnitDone l) fs o t = unit-kept l fs o t

path-kept : (p : Place) (o : List Op) → machine.ended_path noted p (kept o) ≡ option_map kept (plain.ended_path p o)
path-kept Top o = refl
path-kept (Inside l) o = refl

end-kept : (m : Mode) (fs : List Frame) (o : List Op) → machine.ended noted (record { mode = m; frames = fs; code = kept o }) ≡ option_map kept (plain.ended (record { mode = m; frames = fs; code = o }))
end-kept (modes.Tested p) fs o = path-kept p o
end-kept (modes.Dotted p) fs o = path-kept p o
end-kept _ fs o = refl

run-kept : (s : Option plain.At) (ts : List Token) → machine.run noted (option_map kept_at s) ts ≡ option_map kept (plain.run s ts)
run-kept None ts = refl
run-kept (Some s) [] = end-kept s.mode s.frames s.code
run-kept (Some s) (t ∷ ts) = ap (λ m. machine.run noted m ts) (token-kept s.mode s.frames s.code t) ∙ run-kept (plain.step s t) ts

pub query-kept : (ts : List Token) → machine.run noted (machine.start none_noted) ts ≡ option_map kept (plain.run plain.start ts)
query-kept ts = run-kept plain.start ts
