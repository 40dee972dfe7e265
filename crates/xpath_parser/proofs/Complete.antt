-- What is spelled is read.
use Rattle.std.proofs.Common.{◌≡◌, List, [], ◌∷◌, Bool, true, false, Option, Some, None, refl}
use Rattle.xpath_parser.specs.declared.query.Axis.{Axis}
use Rattle.xpath_parser.specs.declared.query.Axis.TheVariants as axes
use Rattle.xpath_parser.specs.declared.token.Asked.{Asked}
use Rattle.xpath_parser.specs.declared.token.Token.{Token}
use Rattle.xpath_parser.specs.declared.token.Token.TheVariants as tokens
use Rattle.xpath_parser.specs.declared.postfix.Op.{Op}
use Rattle.xpath_parser.specs.declared.postfix.Op.TheVariants as ops
use Rattle.xpath_parser.specs.declared.postfix.Side.{Side}
use Rattle.xpath_parser.specs.declared.postfix.Side.TheVariants.{Outer, Inner}
use Rattle.xpath_parser.specs.declared.machine.Level.{Level}
use Rattle.xpath_parser.specs.declared.machine.Place.{Place}
use Rattle.xpath_parser.specs.declared.machine.Place.TheVariants.{Top, Inside}
use Rattle.xpath_parser.specs.declared.machine.Frame.{Frame}
use Rattle.xpath_parser.specs.declared.machine.Frame.TheVariants as frames
use Rattle.xpath_parser.specs.declared.machine.Mode.{Mode}
use Rattle.xpath_parser.specs.declared.machine.Mode.TheVariants as modes
use Rattle.xpath_parser.specs.Trees.{Steps, Filters, Filter, Paths, steps_on, filters_on, filter_on, paths_on, code_of}
use Rattle.xpath_parser.specs.Grammar.{IsTest, a_kind, a_name, a_name_and, a_name_or, Leads, at_front, at_root, below_root, after_slash, after_slashes, IsSteps, steps_of, IsStep, a_dot, a_tested, IsTested, with_axis, without_axis, with_filter, IsOr, or_of, or_more, IsAnd, and_of, and_more, IsUnit, a_truth, in_parens, negated, a_comparison, a_search, IsPath, path_of, the_root, IsPaths, one_path, more_paths}
use Rattle.xpath_parser.specs.Run.{first_level, path_wanted, side_of}
use Rattle.xpath_parser.proofs.ListRun.{moved, level_on, after_unit, run, start}

abbrev place : Side → Level → Place
place Outer l = Top
place Inner l = Inside l

-- what follows an or-expression: neither `and` nor more of a path
abbrev after_or : List Frame → List Op → List Token → Option (List Op)
after_or fs o [] = None
after_or fs o (tokens.AndWord w ∷ ts) = None
after_or fs o (t ∷ ts) = run (after_unit first_level fs o t) ts

-- what follows paths
abbrev after_whole : Side → Level → List Frame → List Op → List Token → Option (List Op)
after_whole Outer l fs o [] = Some o
after_whole Outer l fs o (tokens.Bar ∷ ts) = run (moved modes.PathWanted fs (ops.Bar Outer ∷ o)) ts
after_whole Outer l fs o (t ∷ ts) = None
after_whole Inner l fs o [] = None
after_whole Inner l fs o (tokens.Bar ∷ ts) = run (moved (modes.StepWanted (Inside l)) fs (ops.Bar Inner ∷ o)) ts
after_whole Inner l fs o (t ∷ ts) = run (after_unit l fs (ops.Exists ∷ o) t) ts

none_some : (x : List Op) → ◌≡◌ {A = Option (List Op)} None (Some x) → ⊥
none_some x e = cc

nothing : (x : List Op) (o : Option (List Op)) → ◌≡◌ {A = Option (List Op)} None (Some x) → o ≡ Some x
nothing x o e = absurd (none_some x e)

-- nothing is read from a refusal
refused : (x : List Op) (o : Option (List Op)) (ts : List Token) → run None ts ≡ Some x → o ≡ Some x
refused x o [] e = nothing x o e
refused x o (t ∷ ts) e = nothing x o e

-- where one mode reads on, so does another
abbrev Reads : List Op → Mode → List Frame → List Op → List Token → Type 0
Reads x m fs o ts = run (moved m fs o) ts ≡ Some x

front-of-path : (x : List Op) (fs : List Frame) (o : List Op) (ts : List Token) → Reads x (modes.StepWanted Top) fs o ts → Reads x modes.PathWanted fs o ts
front-of-path x fs o [] e = e
front-of-path x fs o (tokens.Slash ∷ ts) e = refused x _ ts e
front-of-path x fs o (tokens.Slashes ∷ ts) e = refused x _ ts e
front-of-path x fs o (_ ∷ ts) e = e

behind-root : (x : List Op) (fs : List Frame) (o : List Op) (ts : List Token) → Reads x (modes.StepWanted Top) fs o ts → Reads x modes.Rooted fs o ts
behind-root x fs o [] e = nothing x _ e
behind-root x fs o (tokens.Bar ∷ ts) e = refused x _ ts e
behind-root x fs o (_ ∷ ts) e = e

root-alone : (x : List Op) (l : Level) (fs : List Frame) (o : List Op) (ts : List Token) → after_whole Outer l fs o ts ≡ Some x → Reads x modes.Rooted fs o ts
root-alone x l fs o [] e = e
root-alone x l fs o (tokens.Bar ∷ ts) e = e
root-alone x l fs o (_ ∷ ts) e = nothing x _ e

undotted : (x : List Op) (p : Place) (fs : List Frame) (o : List Op) (ts : List Token) → Reads x (modes.Dotted p) fs o ts → Reads x (modes.Tested p) fs o ts
undotted x p fs o [] e = e
undotted x Top fs o (tokens.OpenFilter ∷ ts) e = refused x _ ts e
undotted x (Inside l) fs o (tokens.OpenFilter ∷ ts) e = refused x _ ts e
undotted x p fs o (_ ∷ ts) e = e

path-ended : (x : List Op) (side : Side) (l : Level) (fs : List Frame) (o : List Op) (ts : List Token) → after_whole side l fs o ts ≡ Some x → Reads x (modes.Dotted (place side l)) fs o ts
path-ended x Outer l fs o [] e = e
path-ended x Outer l fs o (tokens.Bar ∷ ts) e = e
path-ended x Outer l fs o (_ ∷ ts) e = nothing x _ e
path-ended x Inner l fs o [] e = e
path-ended x Inner l fs o (tokens.Bar ∷ ts) e = e
path-ended x Inner l fs o (tokens.Slash ∷ ts) e = refused x _ ts e
path-ended x Inner l fs o (tokens.Slashes ∷ ts) e = refused x _ ts e
path-ended x Inner l fs o (_ ∷ ts) e = e

-- a step may begin a unit
unit-of-step : (x : List Op) (l : Level) (fs : List Frame) (o : List Op) (ts : List Token) → Reads x (modes.StepWanted (Inside l)) fs (ops.Begin ∷ o) ts → Reads x (modes.UnitWanted l) fs o ts
unit-of-step x l fs o [] e = e
unit-of-step x l fs o (tokens.Open ∷ ts) e = refused x _ ts e
unit-of-step x l fs o (tokens.NotOpen ∷ ts) e = refused x _ ts e
unit-of-step x l fs o (tokens.Truth b ∷ ts) e = refused x _ ts e
unit-of-step x l fs o (tokens.Compares c v ∷ ts) e = refused x _ ts e
unit-of-step x l fs o (_ ∷ ts) e = e

search-ended : (x : List Op) (l : Level) (fs : List Frame) (o : List Op) (ts : List Token) → Reads x (modes.UnitDone l) fs (ops.Exists ∷ o) ts → after_whole Inner l fs o ts ≡ Some x
search-ended x l fs o [] e = e
search-ended x l fs o (tokens.Bar ∷ ts) e = refused x _ ts e
search-ended x l fs o (_ ∷ ts) e = e

ands-ended : (x : List Op) (ors : Bool) (fs : List Frame) (o : List Op) (ts : List Token) → Reads x (modes.UnitDone (record { ors = ors; ands = false })) fs (ops.And ∷ o) ts
    → Reads x (modes.UnitDone (record { ors = ors; ands = true })) fs o ts
ands-ended x ors fs o [] e = e
ands-ended x ors fs o (_ ∷ ts) e = e

-- after an or-expression
or-ended : (x : List Op) (l : Level) (fs : List Frame) (o : List Op) (ts : List Token) → after_or fs (level_on l o) ts ≡ Some x → Reads x (modes.UnitDone l) fs o ts
or-ended x l fs o [] e = e
or-ended x l fs o (tokens.AndWord w ∷ ts) e = nothing x _ e
or-ended x l fs o (_ ∷ ts) e = e

test-read : (x : List Op) (t : Asked) (a b : List Token) → IsTest t a b → (p : Place) (d : Axis) (fs : List Frame) (o : List Op) → Reads x (modes.Tested p) fs (ops.Step (side_of p) d t ∷ o) b → Reads x (modes.TestWanted p d) fs o a
test-read x _ _ _ (a_kind t a) p d fs o e = e
test-read x _ _ _ (a_name n a) p d fs o e = e
test-read x _ _ _ (a_name_and n a) p d fs o e = e
test-read x _ _ _ (a_name_or n a) p d fs o e = e

child-read : (x : List Op) (t : Asked) (a b : List Token) → IsTest t a b → (p : Place) (fs : List Frame) (o : List Op) → Reads x (modes.Tested p) fs (ops.Step (side_of p) axes.Child t ∷ o) b → Reads x (modes.StepWanted p) fs o a
child-read x _ _ _ (a_kind t a) p fs o e = e
child-read x _ _ _ (a_name n a) p fs o e = e
child-read x _ _ _ (a_name_and n a) p fs o e = e
child-read x _ _ _ (a_name_or n a) p fs o e = e

whole-bar : (x : List Op) (side : Side) (l : Level) (fs : List Frame) (o : List Op) (ts : List Token) → Reads x (path_wanted (place side l)) fs (ops.Bar side ∷ o) ts → after_whole side l fs o (tokens.Bar ∷ ts) ≡ Some x
whole-bar x Outer l fs o ts e = e
whole-bar x Inner l fs o ts e = e

slash-read : (x : List Op) (p : Place) (fs : List Frame) (o : List Op) (ts : List Token) → Reads x (modes.StepWanted p) fs o ts → Reads x (modes.Dotted p) fs o (tokens.Slash ∷ ts)
slash-read x p fs o ts e = e

mutual
  leads-read : (x : List Op) (side : Side) (ss : Steps) (a b : List Token) → Leads side ss a b → (l : Level) (fs : List Frame) (o : List Op)
      → Reads x (modes.StepWanted (place side l)) fs (steps_on side ss o) b → Reads x (path_wanted (place side l)) fs o a
  leads-read x _ _ _ _ (at_front Outer a) l fs o e = front-of-path x fs o a e
  leads-read x _ _ _ _ (at_front Inner a) l fs o e = e
  leads-read x _ _ _ _ (at_root a) l fs o e = behind-root x fs o a e
  leads-read x _ _ _ _ (below_root a) l fs o e = e
  leads-read x _ _ _ _ (after_slash side ss a b d) l fs o e = steps-read x side ss a (tokens.Slash ∷ b) d l fs o e
  leads-read x _ _ _ _ (after_slashes Outer ss a b d) l fs o e = steps-read x Outer ss a (tokens.Slashes ∷ b) d l fs o e
  leads-read x _ _ _ _ (after_slashes Inner ss a b d) l fs o e = steps-read x Inner ss a (tokens.Slashes ∷ b) d l fs o e

  steps-read : (x : List Op) (side : Side) (ss : Steps) (a b : List Token) → IsSteps side ss a b → (l : Level) (fs : List Frame) (o : List Op)
      → Reads x (modes.Dotted (place side l)) fs (steps_on side ss o) b → Reads x (path_wanted (place side l)) fs o a
  steps-read x _ _ _ _ (steps_of Outer ss d t gs a b c lead s) l fs o e =
      leads-read x Outer ss a b lead l fs o (step-read x d t gs b c s (place Outer l) fs (steps_on Outer ss o) e)
  steps-read x _ _ _ _ (steps_of Inner ss d t gs a b c lead s) l fs o e =
      leads-read x Inner ss a b lead l fs o (step-read x d t gs b c s (place Inner l) fs (steps_on Inner ss o) e)

  step-read : (x : List Op) (d : Axis) (t : Asked) (gs : Filters) (a b : List Token) → IsStep d t gs a b → (p : Place) (fs : List Frame) (o : List Op)
      → Reads x (modes.Dotted p) fs (filters_on gs (ops.Step (side_of p) d t ∷ o)) b → Reads x (modes.StepWanted p) fs o a
  step-read x _ _ _ _ _ (a_dot a) p fs o e = e
  step-read x _ _ _ _ _ (a_tested d t gs a b s) p fs o e = tested-read x d t gs a b s p fs o (undotted x p fs _ b e)

  tested-read : (x : List Op) (d : Axis) (t : Asked) (gs : Filters) (a b : List Token) → IsTested d t gs a b → (p : Place) (fs : List Frame) (o : List Op)
      → Reads x (modes.Tested p) fs (filters_on gs (ops.Step (side_of p) d t ∷ o)) b → Reads x (modes.StepWanted p) fs o a
  tested-read x _ _ _ _ _ (with_axis d t a b s) p fs o e = test-read x t a b s p d fs o e
  tested-read x _ _ _ _ _ (without_axis t a b s) p fs o e = child-read x t a b s p fs o e
  tested-read x _ _ _ _ _ (with_filter d t gs f a b c s i) p fs o e =
      tested-read x d t gs a (tokens.OpenFilter ∷ b) s p fs o (or-read x f b (tokens.CloseFilter ∷ c) i (frames.Bracket p ∷ fs) (filters_on gs (ops.Step (side_of p) d t ∷ o)) e)

  or-read : (x : List Op) (f : Filter) (a b : List Token) → IsOr f a b → (fs : List Frame) (o : List Op)
      → after_or fs (filter_on f o) b ≡ Some x → Reads x (modes.UnitWanted first_level) fs o a
  or-read x _ _ _ (or_of f a b s) fs o e = and-read x f a b s false fs o (or-ended x first_level fs (filter_on f o) b e)
  or-read x _ _ _ (or_more f g w a b c s i) fs o e =
      or-read x f a (tokens.OrWord w ∷ b) s fs o (and-read x g b c i true fs (filter_on f o) (or-ended x (record { ors = true; ands = false }) fs (filter_on g (filter_on f o)) c e))

  and-read : (x : List Op) (f : Filter) (a b : List Token) → IsAnd f a b → (ors : Bool) (fs : List Frame) (o : List Op)
      → Reads x (modes.UnitDone (record { ors = ors; ands = false })) fs (filter_on f o) b → Reads x (modes.UnitWanted (record { ors = ors; ands = false })) fs o a
  and-read x _ _ _ (and_of f a b s) ors fs o e = unit-read x f a b s (record { ors = ors; ands = false }) fs o e
  and-read x _ _ _ (and_more f g w a b c s i) ors fs o e =
      and-read x f a (tokens.AndWord w ∷ b) s ors fs o (unit-read x g b c i (record { ors = ors; ands = true }) fs (filter_on f o) (ands-ended x ors fs (filter_on g (filter_on f o)) c e))

  unit-read : (x : List Op) (f : Filter) (a b : List Token) → IsUnit f a b → (l : Level) (fs : List Frame) (o : List Op)
      → Reads x (modes.UnitDone l) fs (filter_on f o) b → Reads x (modes.UnitWanted l) fs o a
  unit-read x _ _ _ (a_truth t a) l fs o e = e
  unit-read x _ _ _ (a_comparison c v a) l fs o e = e
  unit-read x _ _ _ (in_parens f a b s) l fs o e = or-read x f a (tokens.Close ∷ b) s (frames.Parens l ∷ fs) o e
  unit-read x _ _ _ (negated f a b s) l fs o e = or-read x f a (tokens.Close ∷ b) s (frames.NotParens l ∷ fs) o e
  unit-read x _ _ _ (a_search ps a b s) l fs o e = unit-of-step x l fs o a (paths-read x Inner ps a b s l fs (ops.Begin ∷ o) (search-ended x l fs _ b e))

  path-read : (x : List Op) (side : Side) (ss : Steps) (a b : List Token) → IsPath side ss a b → (l : Level) (fs : List Frame) (o : List Op)
      → after_whole side l fs (steps_on side ss o) b ≡ Some x → Reads x (path_wanted (place side l)) fs o a
  path-read x _ _ _ _ (path_of side ss a b s) l fs o e = steps-read x side ss a b s l fs o (path-ended x side l fs (steps_on side ss o) b e)
  path-read x _ _ _ _ (the_root a) l fs o e = root-alone x l fs o a e

  paths-read : (x : List Op) (side : Side) (ps : Paths) (a b : List Token) → IsPaths side ps a b → (l : Level) (fs : List Frame) (o : List Op)
      → after_whole side l fs (paths_on side ps o) b ≡ Some x → Reads x (path_wanted (place side l)) fs o a
  paths-read x _ _ _ _ (one_path side ss a b s) l fs o e = path-read x side ss a b s l fs o e
  paths-read x _ _ _ _ (more_paths side ps ss a b c s i) l fs o e =
      paths-read x side ps a (tokens.Bar ∷ b) s l fs o (whole-bar x side l fs (paths_on side ps o) b (path-read x side ss b c i l fs (ops.Bar side ∷ paths_on side ps o) e))

-- what is spelled is read
pub query-read : (ps : Paths) (ts : List Token) → IsPaths Outer ps ts [] → run start ts ≡ Some (code_of ps)
query-read ps ts s = paths-read (code_of ps) Outer ps ts [] s first_level [] [] refl
