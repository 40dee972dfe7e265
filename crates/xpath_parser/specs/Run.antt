-- The machine that reads tokens. It has a stack of its own and writes postfix code, which it never reads: so the code may be kept in any form.
use Rattle.std.specs.Prelude.{◌≡◌, ℕ, List, [], ◌∷◌, Bool, true, false, Option, Some, None, reverse}
use Rattle.plain_tree.specs.XmlNames.{is_space}
use Rattle.xml_tokens.specs.Cutting.{back}
use Rattle.xpath_parser.specs.Noting.{Noted, noted, noted_of}
use Rattle.xpath_parser.specs.declared.query.Axis.{Axis}
use Rattle.xpath_parser.specs.declared.query.Axis.TheVariants as axes
use Rattle.xpath_parser.specs.declared.token.Asked.TheVariants as tests
use Rattle.xpath_parser.specs.declared.token.Token.{Token}
use Rattle.xpath_parser.specs.declared.token.Token.TheVariants as tokens
use Rattle.xpath_parser.specs.declared.postfix.Op.{Op}
use Rattle.xpath_parser.specs.declared.postfix.Op.TheVariants as ops
use Rattle.xpath_parser.specs.declared.postfix.Side.{Side}
use Rattle.xpath_parser.specs.declared.postfix.Side.TheVariants.{Outer, Inner}
use Rattle.xpath_parser.specs.declared.machine.Level.{Level}
use Rattle.xpath_parser.specs.declared.machine.Place.{Place}
use Rattle.xpath_parser.specs.declared.machine.Place.TheVariants.{Top, Inside}
use Rattle.xpath_parser.specs.declared.machine.Frame.{Frame}
use Rattle.xpath_parser.specs.declared.machine.Frame.TheVariants as frames
use Rattle.xpath_parser.specs.declared.machine.Mode.{Mode}
use Rattle.xpath_parser.specs.declared.machine.Mode.TheVariants as modes
use Rattle.xpath_parser.specs.declared.machine.Machine.{Machine}

-- what the machine is at, with its frames from the innermost
pub record At (Code : Type 0) : Type 0 where
  pub mode : Mode
  pub frames : List Frame
  pub code : Code

-- what the program's machine holds
abbrev pub frames_of : Machine → List Frame
frames_of m = reverse m.frames.items

abbrev pub code_in : Machine → Option Noted
code_in m = noted_of m.postfix

-- where the program's machine is
abbrev pub at_of : Machine → At (Option Noted)
at_of m = record { mode = m.mode; frames = frames_of m; code = code_in m }

-- it comes to this
abbrev pub moved : {Code : Type 0} → Mode → List Frame → Code → Option (At Code)
moved m fs o = Some (record { mode = m; frames = fs; code = o })

-- the side on which a path stands
abbrev pub side_of : Place → Side
side_of Top = Outer
side_of (Inside l) = Inner

-- what is to come behind `|`
abbrev pub path_wanted : Place → Mode
path_wanted Top = modes.PathWanted
path_wanted (Inside l) = modes.StepWanted (Inside l)

-- the level inside a bracket or a parenthesis
abbrev pub first_level : Level
first_level = record { ors = false; ands = false }

module _ {Code : Type 0} (write : Op → Code → Code) where
  -- the operations with those of the operands that stand before
  abbrev pub ands_on : Bool → Code → Code
  ands_on true o = write ops.And o
  ands_on false o = o

  abbrev pub ors_on : Bool → Code → Code
  ors_on true o = write ops.Or o
  ors_on false o = o

  abbrev pub level_on : Level → Code → Code
  level_on l o = ors_on l.ors (ands_on l.ands o)

  -- what is open is closed
  abbrev pub closed_parens : List Frame → Code → Option (At Code)
  closed_parens [] o = None
  closed_parens (frames.Parens l ∷ fs) o = moved (modes.UnitDone l) fs o
  closed_parens (frames.NotParens l ∷ fs) o = moved (modes.UnitDone l) fs (write ops.Not o)
  closed_parens (frames.Bracket p ∷ fs) o = None

  abbrev pub closed_filter : List Frame → Code → Option (At Code)
  closed_filter [] o = None
  closed_filter (frames.Bracket p ∷ fs) o = moved (modes.Tested p) fs (write ops.Filter o)
  closed_filter (frames.Parens l ∷ fs) o = None
  closed_filter (frames.NotParens l ∷ fs) o = None

  -- a unit has ended
  abbrev pub after_unit : Level → List Frame → Code → Token → Option (At Code)
  after_unit l fs o (tokens.AndWord n) = moved (modes.UnitWanted (record { ors = l.ors; ands = true })) fs (ands_on l.ands o)
  after_unit l fs o (tokens.OrWord n) = moved (modes.UnitWanted (record { ors = true; ands = false })) fs (level_on l o)
  after_unit l fs o tokens.Close = closed_parens fs (level_on l o)
  after_unit l fs o tokens.CloseFilter = closed_filter fs (level_on l o)
  after_unit l fs o _ = None

  -- the paths of a filter have ended
  abbrev pub after_paths : Place → List Frame → Code → Token → Option (At Code)
  after_paths Top fs o t = None
  after_paths (Inside l) fs o t = after_unit l fs (write ops.Exists o) t

  -- a step has ended
  abbrev pub after_step : Place → List Frame → Code → Token → Option (At Code)
  after_step p fs o tokens.Slash = moved (modes.StepWanted p) fs o
  after_step p fs o tokens.Slashes = moved (modes.StepWanted p) fs (write (ops.Step (side_of p) axes.DescendantOrSelf tests.AnyNode) o)
  after_step p fs o tokens.Bar = moved (path_wanted p) fs (write (ops.Bar (side_of p)) o)
  after_step p fs o t = after_paths p fs o t

  -- a test has ended, or a filter
  abbrev pub after_test : Place → List Frame → Code → Token → Option (At Code)
  after_test p fs o tokens.OpenFilter = moved (modes.UnitWanted first_level) (frames.Bracket p ∷ fs) o
  after_test p fs o t = after_step p fs o t

  -- a test is to come
  abbrev pub test_wanted : Place → Axis → List Frame → Code → Token → Option (At Code)
  test_wanted p x fs o (tokens.Asks t) = moved (modes.Tested p) fs (write (ops.Step (side_of p) x t) o)
  test_wanted p x fs o (tokens.Word n) = moved (modes.Tested p) fs (write (ops.Step (side_of p) x (tests.Name n)) o)
  test_wanted p x fs o (tokens.AndWord n) = moved (modes.Tested p) fs (write (ops.Step (side_of p) x (tests.Name n)) o)
  test_wanted p x fs o (tokens.OrWord n) = moved (modes.Tested p) fs (write (ops.Step (side_of p) x (tests.Name n)) o)
  test_wanted p x fs o _ = None

  -- a step is to come
  abbrev pub step_wanted : Place → List Frame → Code → Token → Option (At Code)
  step_wanted p fs o (tokens.Along x) = moved (modes.TestWanted p x) fs o
  step_wanted p fs o tokens.Dot = moved (modes.Dotted p) fs (write (ops.Step (side_of p) axes.SelfNode tests.AnyNode) o)
  step_wanted p fs o t = test_wanted p axes.Child fs o t

  -- a unit is to come
  abbrev pub unit_wanted : Level → List Frame → Code → Token → Option (At Code)
  unit_wanted l fs o tokens.Open = moved (modes.UnitWanted first_level) (frames.Parens l ∷ fs) o
  unit_wanted l fs o tokens.NotOpen = moved (modes.UnitWanted first_level) (frames.NotParens l ∷ fs) o
  unit_wanted l fs o (tokens.Truth b) = moved (modes.UnitDone l) fs (write (ops.Truth b) o)
  unit_wanted l fs o (tokens.Compares c v) = moved (modes.UnitDone l) fs (write (ops.Compare c v) o)
  unit_wanted l fs o t = step_wanted (Inside l) fs (write ops.Begin o) t

  -- a path is to come
  abbrev pub first_wanted : List Frame → Code → Token → Option (At Code)
  first_wanted fs o tokens.Slash = moved modes.Rooted fs o
  first_wanted fs o tokens.Slashes = moved (modes.StepWanted Top) fs (write (ops.Step Outer axes.DescendantOrSelf tests.AnyNode) o)
  first_wanted fs o t = step_wanted Top fs o t

  -- '/' stands at the path's front
  abbrev pub after_root : List Frame → Code → Token → Option (At Code)
  after_root fs o tokens.Bar = moved modes.PathWanted fs (write (ops.Bar Outer) o)
  after_root fs o t = step_wanted Top fs o t

  -- one token is read
  abbrev pub step : At Code → Token → Option (At Code)
  step s t = elim s.mode [
    | modes.PathWanted ↦ first_wanted s.frames s.code t
    | modes.Rooted ↦ after_root s.frames s.code t
    | modes.StepWanted p ↦ step_wanted p s.frames s.code t
    | modes.TestWanted p x ↦ test_wanted p x s.frames s.code t
    | modes.Tested p ↦ after_test p s.frames s.code t
    | modes.Dotted p ↦ after_step p s.frames s.code t
    | modes.UnitWanted l ↦ unit_wanted l s.frames s.code t
    | modes.UnitDone l ↦ after_unit l s.frames s.code t
  ]

  -- the code where the tokens end, if a query has ended
  abbrev pub ended_path : Place → Code → Option Code
  ended_path Top o = Some o
  ended_path (Inside l) o = None

  abbrev pub ended : At Code → Option Code
  ended s = elim s.mode [
    | modes.PathWanted ↦ None
    | modes.Rooted ↦ Some s.code
    | modes.StepWanted p ↦ None
    | modes.TestWanted p x ↦ None
    | modes.Tested p ↦ ended_path p s.code
    | modes.Dotted p ↦ ended_path p s.code
    | modes.UnitWanted l ↦ None
    | modes.UnitDone l ↦ None
  ]

  -- all tokens are read
  abbrev pub run : Option (At Code) → List Token → Option Code
  run None ts = None
  run (Some s) [] = ended s
  run (Some s) (t ∷ ts) = run (step s t) ts

-- before the first token
abbrev pub start : {Code : Type 0} → Code → Option (At Code)
start o = moved modes.PathWanted [] o

-- no token stands at the front of the bytes, or the machine refuses it
abbrev pub Refuses : At (Option Noted) → Option (Token × List ℕ) → Type 0
Refuses m None = Unit {0}
Refuses m (Some p) = step noted m p.0 ≡ None

-- the machine has read the token at the front of the bytes, and this follows it
pub record Takes (old new : At (Option Noted)) (found : Option (Token × List ℕ)) (rest : List ℕ) : Type 0 where
  pub token : Token
  pub after : List ℕ
  pub is : found ≡ Some (token, after)
  pub skipped : rest ≡ back is_space after
  pub read : step noted old token ≡ Some new
