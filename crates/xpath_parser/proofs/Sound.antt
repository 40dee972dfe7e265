-- What is read is spelled: what the machine holds is spelled by what it has read.
use Rattle.std.proofs.Common.{◌≡◌, List, [], ◌∷◌, Bool, true, false, Option, Some, None, refl, subst, sym, ◌∙◌}
use Rattle.xpath_parser.specs.declared.query.Axis.{Axis}
use Rattle.xpath_parser.specs.declared.query.Axis.TheVariants as axes
use Rattle.xpath_parser.specs.declared.token.Asked.{Asked}
use Rattle.xpath_parser.specs.declared.token.Asked.TheVariants as tests
use Rattle.xpath_parser.specs.declared.token.Span.{Span}
use Rattle.xpath_parser.specs.declared.token.Token.{Token}
use Rattle.xpath_parser.specs.declared.token.Token.TheVariants as tokens
use Rattle.xpath_parser.specs.declared.postfix.Op.{Op}
use Rattle.xpath_parser.specs.declared.postfix.Op.TheVariants as ops
use Rattle.xpath_parser.specs.declared.postfix.Side.{Side}
use Rattle.xpath_parser.specs.declared.postfix.Side.TheVariants.{Outer, Inner}
use Rattle.xpath_parser.specs.declared.machine.Level.{Level}
use Rattle.xpath_parser.specs.declared.machine.Place.{Place}
use Rattle.xpath_parser.specs.declared.machine.Place.TheVariants.{Top, Inside}
use Rattle.xpath_parser.specs.declared.machine.Frame.{Frame}
use Rattle.xpath_parser.specs.declared.machine.Frame.TheVariants as frames
use Rattle.xpath_parser.specs.declared.machine.Mode.{Mode}
use Rattle.xpath_parser.specs.declared.machine.Mode.TheVariants as modes
use Rattle.xpath_parser.specs.Trees.{Steps, no_steps, then_step, Filters, no_filters, then_filter, Filter, Either, Both, Negated, Told, Found, Compared, Paths, first_path, then_path, then_below, steps_on, filters_on, filter_on, paths_on, code_of}
use Rattle.xpath_parser.specs.Grammar.{a_kind, a_name, a_name_and, a_name_or, Leads, at_front, at_root, below_root, after_slash, after_slashes, steps_of, IsStep, a_dot, a_tested, IsTested, with_axis, without_axis, with_filter, IsOr, or_of, or_more, IsAnd, and_of, and_more, IsUnit, a_truth, in_parens, negated, a_comparison, a_search, IsPath, path_of, the_root, IsPaths, one_path, more_paths}
use Rattle.xpath_parser.specs.Run.{first_level, path_wanted, side_of}
use Rattle.xpath_parser.proofs.ListRun.{At, ands_on, ors_on, level_on, closed_parens, closed_filter, after_unit, after_paths, after_step, after_test, test_wanted, step_wanted, unit_wanted, first_wanted, after_root, step, ended_path, ended, run, start}

-- what stands before the operand that is read
data OrsSoFar : Bool → List Token → List Token → List Op → List Op → Type 0 where
  no_or : (a : List Token) (o : List Op) → OrsSoFar false a a o o
  an_or : (f : Filter) (w : Span) (a b : List Token) (o : List Op) → IsOr f a (tokens.OrWord w ∷ b) → OrsSoFar true a b o (filter_on f o)

data AndsSoFar : Bool → List Token → List Token → List Op → List Op → Type 0 where
  no_and : (a : List Token) (o : List Op) → AndsSoFar false a a o o
  an_and : (f : Filter) (w : Span) (a b : List Token) (o : List Op) → IsAnd f a (tokens.AndWord w ∷ b) → AndsSoFar true a b o (filter_on f o)

data PathsSoFar : Side → List Token → List Token → List Op → List Op → Type 0 where
  no_bar : (side : Side) (a : List Token) (o : List Op) → PathsSoFar side a a o o
  a_bar : (side : Side) (ps : Paths) (a b : List Token) (o : List Op) → IsPaths side ps a (tokens.Bar ∷ b) → PathsSoFar side a b o (ops.Bar side ∷ paths_on side ps o)

-- all tokens, what is open, what is to come, what was written
mutual
  -- an or-expression begins
  data OrAt : List Token → List Frame → List Token → List Op → Type 0 where
    in_bracket : (all : List Token) (p : Place) (fs : List Frame) (d : Axis) (t : Asked) (gs : Filters) (a b : List Token) (o : List Op)
        → StepAt all p fs a o → IsTested d t gs a (tokens.OpenFilter ∷ b) → OrAt all (frames.Bracket p ∷ fs) b (filters_on gs (ops.Step (side_of p) d t ∷ o))
    in_paren : (all : List Token) (l : Level) (fs : List Frame) (a : List Token) (o : List Op) → UnitAt all l fs (tokens.Open ∷ a) o → OrAt all (frames.Parens l ∷ fs) a o
    in_not : (all : List Token) (l : Level) (fs : List Frame) (a : List Token) (o : List Op) → UnitAt all l fs (tokens.NotOpen ∷ a) o → OrAt all (frames.NotParens l ∷ fs) a o

  -- a unit begins
  data UnitAt : List Token → Level → List Frame → List Token → List Op → Type 0 where
    unit_at : (all : List Token) (l : Level) (fs : List Frame) (a b c : List Token) (o p q : List Op)
        → OrAt all fs a o → OrsSoFar l.ors a b o p → AndsSoFar l.ands b c p q → UnitAt all l fs c q

  -- the first path begins
  data PathsAt : List Token → Place → List Frame → List Token → List Op → Type 0 where
    top_at : (all : List Token) → PathsAt all Top [] all []
    in_at : (all : List Token) (l : Level) (fs : List Frame) (a : List Token) (o : List Op) → UnitAt all l fs a o → PathsAt all (Inside l) fs a (ops.Begin ∷ o)

  -- a path begins
  data PathAt : List Token → Place → List Frame → List Token → List Op → Type 0 where
    path_at : (all : List Token) (p : Place) (fs : List Frame) (a b : List Token) (o q : List Op)
        → PathsAt all p fs a o → PathsSoFar (side_of p) a b o q → PathAt all p fs b q

  -- a step begins
  data StepAt : List Token → Place → List Frame → List Token → List Op → Type 0 where
    step_at : (all : List Token) (p : Place) (fs : List Frame) (ss : Steps) (a b : List Token) (o : List Op)
        → PathAt all p fs a o → Leads (side_of p) ss a b → StepAt all p fs b (steps_on (side_of p) ss o)

-- something has ended
data TestedAt : List Token → Place → List Frame → List Token → List Op → Type 0 where
  tested_at : (all : List Token) (p : Place) (fs : List Frame) (d : Axis) (t : Asked) (gs : Filters) (a b : List Token) (o : List Op)
      → StepAt all p fs a o → IsTested d t gs a b → TestedAt all p fs b (filters_on gs (ops.Step (side_of p) d t ∷ o))

data SteppedAt : List Token → Place → List Frame → List Token → List Op → Type 0 where
  stepped_at : (all : List Token) (p : Place) (fs : List Frame) (d : Axis) (t : Asked) (gs : Filters) (a b : List Token) (o : List Op)
      → StepAt all p fs a o → IsStep d t gs a b → SteppedAt all p fs b (filters_on gs (ops.Step (side_of p) d t ∷ o))

data WholeAt : List Token → Place → List Frame → List Token → List Op → Type 0 where
  whole_at : (all : List Token) (p : Place) (fs : List Frame) (ps : Paths) (a b : List Token) (o : List Op)
      → PathsAt all p fs a o → IsPaths (side_of p) ps a b → WholeAt all p fs b (paths_on (side_of p) ps o)

data DoneAt : List Token → Level → List Frame → List Token → List Op → Type 0 where
  done_at : (all : List Token) (l : Level) (fs : List Frame) (f : Filter) (a b : List Token) (o : List Op)
      → UnitAt all l fs a o → IsUnit f a b → DoneAt all l fs b (filter_on f o)

data OrDoneAt : List Token → List Frame → List Token → List Op → Type 0 where
  or_done_at : (all : List Token) (fs : List Frame) (f : Filter) (a b : List Token) (o : List Op)
      → OrAt all fs a o → IsOr f a b → OrDoneAt all fs b (filter_on f o)

data AndDone : List Token → List Token → List Op → List Op → Type 0 where
  and_done : (g : Filter) (b d : List Token) (p : List Op) → IsAnd g b d → AndDone b d p (filter_on g p)

and-done : (ands : Bool) (f : Filter) (b c d : List Token) (p q : List Op) → AndsSoFar ands b c p q → IsUnit f c d → AndDone b d p (ands_on ands (filter_on f q))
and-done _ f _ _ d _ _ (no_and a o) u = and_done f a d o (and_of f a d u)
and-done _ f _ _ d _ _ (an_and g w a b o s) u = and_done (Both g f) a d o (and_more g f w a b d s u)

or-done : (all : List Token) (fs : List Frame) (ors : Bool) (a b d : List Token) (o p q : List Op) → OrAt all fs a o → OrsSoFar ors a b o p → AndDone b d p q → OrDoneAt all fs d (ors_on ors q)
or-done all fs _ _ _ _ _ _ _ at (no_or a o) (and_done g b d p s) = or_done_at all fs g a d o at (or_of g a d s)
or-done all fs _ _ _ _ _ _ _ at (an_or f w a b o r) (and_done g c d p s) = or_done_at all fs (Either f g) a d o at (or_more f g w a b d r s)

level-done : (all : List Token) (l : Level) (fs : List Frame) (b : List Token) (o : List Op) → DoneAt all l fs b o → OrDoneAt all fs b (level_on l o)
level-done _ _ _ _ _ (done_at _ _ _ f _ d _ (unit_at all l fs a b c o p q at ors ands) u) =
    or-done all fs l.ors a b d o p (ands_on l.ands (filter_on f q)) at ors (and-done l.ands f b c d p q ands u)

-- what the machine holds
abbrev Sound : List Token → Mode → List Frame → List Op → List Token → Type 0
Sound all modes.PathWanted fs o ts = PathAt all Top fs ts o
Sound all modes.Rooted fs o ts = PathAt all Top fs (tokens.Slash ∷ ts) o
Sound all (modes.StepWanted p) fs o ts = StepAt all p fs ts o
Sound all (modes.TestWanted p d) fs o ts = StepAt all p fs (tokens.Along d ∷ ts) o
Sound all (modes.Tested p) fs o ts = TestedAt all p fs ts o
Sound all (modes.Dotted p) fs o ts = SteppedAt all p fs ts o
Sound all (modes.UnitWanted l) fs o ts = UnitAt all l fs ts o
Sound all (modes.UnitDone l) fs o ts = DoneAt all l fs ts o

abbrev IsSound : List Token → Option At → List Token → Type 0
IsSound all None ts = Unit {0}
IsSound all (Some s) ts = Sound all s.mode s.frames s.code ts

or-closed : (all : List Token) (fs : List Frame) (o : List Op) (ts : List Token) → OrDoneAt all fs (tokens.Close ∷ ts) o → IsSound all (closed_parens fs o) ts
or-closed _ _ _ ts (or_done_at _ _ f _ _ _ (in_bracket all p fs d t gs a b o s i) r) = tt
or-closed _ _ _ ts (or_done_at _ _ f _ _ _ (in_paren all l fs a o u) r) = done_at all l fs f (tokens.Open ∷ a) ts o u (in_parens f a ts r)
or-closed _ _ _ ts (or_done_at _ _ f _ _ _ (in_not all l fs a o u) r) = done_at all l fs (Negated f) (tokens.NotOpen ∷ a) ts o u (negated f a ts r)

filter-closed : (all : List Token) (fs : List Frame) (o : List Op) (ts : List Token) → OrDoneAt all fs (tokens.CloseFilter ∷ ts) o → IsSound all (closed_filter fs o) ts
filter-closed _ _ _ ts (or_done_at _ _ f _ _ _ (in_bracket all p fs d t gs a b o s i) r) = tested_at all p fs d t (then_filter gs f) a ts o s (with_filter d t gs f a b ts i r)
filter-closed _ _ _ ts (or_done_at _ _ f _ _ _ (in_paren all l fs a o u) r) = tt
filter-closed _ _ _ ts (or_done_at _ _ f _ _ _ (in_not all l fs a o u) r) = tt

and-next : (all : List Token) (l : Level) (fs : List Frame) (w : Span) (ts a b : List Token) (o p q : List Op) → OrAt all fs a o → OrsSoFar l.ors a b o p → AndDone b (tokens.AndWord w ∷ ts) p q
    → UnitAt all (record { ors = l.ors; ands = true }) fs ts q
and-next all l fs w ts a _ o _ _ at ors (and_done g b d p s) = unit_at all (record { ors = l.ors; ands = true }) fs a b ts o p (filter_on g p) at ors (an_and g w b ts p s)

and-goes-on : (all : List Token) (l : Level) (fs : List Frame) (w : Span) (ts : List Token) (o : List Op) → DoneAt all l fs (tokens.AndWord w ∷ ts) o
    → UnitAt all (record { ors = l.ors; ands = true }) fs ts (ands_on l.ands o)
and-goes-on _ _ _ w ts _ (done_at _ _ _ f _ _ _ (unit_at all l fs a b c o p q at ors ands) u) =
    and-next all l fs w ts a b o p (ands_on l.ands (filter_on f q)) at ors (and-done l.ands f b c (tokens.AndWord w ∷ ts) p q ands u)

or-goes-on : (all : List Token) (fs : List Frame) (w : Span) (ts : List Token) (o : List Op) → OrDoneAt all fs (tokens.OrWord w ∷ ts) o → UnitAt all (record { ors = true; ands = false }) fs ts o
or-goes-on all fs w ts _ (or_done_at _ _ f a b o at s) = unit_at all (record { ors = true; ands = false }) fs a ts ts o (filter_on f o) (filter_on f o) at (an_or f w a ts o s) (no_and ts (filter_on f o))

first-unit : (all : List Token) (fs : List Frame) (ts : List Token) (o : List Op) → OrAt all fs ts o → UnitAt all first_level fs ts o
first-unit all fs ts o at = unit_at all first_level fs ts ts ts o o o at (no_or ts o) (no_and ts o)

unit-sound : (all : List Token) (l : Level) (fs : List Frame) (o : List Op) (t : Token) (ts : List Token) → DoneAt all l fs (t ∷ ts) o → IsSound all (after_unit l fs o t) ts
unit-sound all l fs o (tokens.AndWord w) ts s = and-goes-on all l fs w ts o s
unit-sound all l fs o (tokens.OrWord w) ts s = or-goes-on all fs w ts (level_on l o) (level-done all l fs (tokens.OrWord w ∷ ts) o s)
unit-sound all l fs o tokens.Close ts s = or-closed all fs (level_on l o) ts (level-done all l fs (tokens.Close ∷ ts) o s)
unit-sound all l fs o tokens.CloseFilter ts s = filter-closed all fs (level_on l o) ts (level-done all l fs (tokens.CloseFilter ∷ ts) o s)
unit-sound all l fs o _ ts s = tt

-- the path with a step that has ended
path-whole : (side : Side) (ss : Steps) (a b c : List Token) (o q : List Op) → PathsSoFar side a b o q → IsPath side ss b c → (ps : Paths) × IsPaths side ps a c × (steps_on side ss q ≡ paths_on side ps o)
path-whole _ ss _ _ c _ _ (no_bar side a o) s = (first_path ss, one_path side ss a c s, refl)
path-whole _ ss _ _ c _ _ (a_bar side ps a b o r) s = (then_path ps ss, more_paths side ps ss a b c r s, refl)

whole-of : (all : List Token) (p : Place) (fs : List Frame) (ss : Steps) (a c : List Token) (o : List Op) → PathAt all p fs a o → IsPath (side_of p) ss a c → WholeAt all p fs c (steps_on (side_of p) ss o)
whole-of _ _ _ ss _ c _ (path_at all p fs a b o q at so) s =
    let w = path-whole (side_of p) ss a b c o q so s in
    subst (λ (x : List Op). WholeAt all p fs c x) (sym w.2) (whole_at all p fs w.0 a c o at w.1)

stepped-whole : (all : List Token) (p : Place) (fs : List Frame) (c : List Token) (o : List Op) → SteppedAt all p fs c o → WholeAt all p fs c o
stepped-whole _ _ _ _ _ (stepped_at _ _ _ d t gs _ c _ (step_at all p fs ss a b o at lead) s) =
    whole-of all p fs (then_step ss d t gs) a c o at (path_of (side_of p) (then_step ss d t gs) a c (steps_of (side_of p) ss d t gs a b c lead s))

steps-whole : (all : List Token) (p : Place) (fs : List Frame) (c : List Token) (o : List Op) → SteppedAt all p fs (tokens.Slash ∷ c) o → StepAt all p fs c o
steps-whole _ _ _ c _ (stepped_at _ _ _ d t gs _ _ _ (step_at all p fs ss a b o at lead) s) =
    step_at all p fs (then_step ss d t gs) a c o at (after_slash (side_of p) (then_step ss d t gs) a c (steps_of (side_of p) ss d t gs a b (tokens.Slash ∷ c) lead s))

steps-below : (all : List Token) (p : Place) (fs : List Frame) (c : List Token) (o : List Op) → SteppedAt all p fs (tokens.Slashes ∷ c) o → StepAt all p fs c (ops.Step (side_of p) axes.DescendantOrSelf tests.AnyNode ∷ o)
steps-below _ _ _ c _ (stepped_at _ _ _ d t gs _ _ _ (step_at all p fs ss a b o at lead) s) =
    step_at all p fs (then_below (then_step ss d t gs)) a c o at (after_slashes (side_of p) (then_step ss d t gs) a c (steps_of (side_of p) ss d t gs a b (tokens.Slashes ∷ c) lead s))

next-path : (all : List Token) (p : Place) (fs : List Frame) (c : List Token) (o : List Op) → WholeAt all p fs (tokens.Bar ∷ c) o → PathAt all p fs c (ops.Bar (side_of p) ∷ o)
next-path _ _ _ c _ (whole_at all p fs ps a b o at s) = path_at all p fs a c o (ops.Bar (side_of p) ∷ paths_on (side_of p) ps o) at (a_bar (side_of p) ps a c o s)

front : (all : List Token) (p : Place) (fs : List Frame) (c : List Token) (o : List Op) → PathAt all p fs c o → StepAt all p fs c o
front all p fs c o at = step_at all p fs no_steps c c o at (at_front (side_of p) c)

path-begins : (all : List Token) (p : Place) (fs : List Frame) (c : List Token) (o : List Op) → PathAt all p fs c o → Sound all (path_wanted p) fs o c
path-begins all Top fs c o at = at
path-begins all (Inside l) fs c o at = front all (Inside l) fs c o at

search-done : (all : List Token) (l : Level) (fs : List Frame) (c : List Token) (o : List Op) → WholeAt all (Inside l) fs c o → DoneAt all l fs c (ops.Exists ∷ o)
search-done _ _ _ c _ (whole_at _ _ _ ps _ _ _ (in_at all l fs a o u) s) = done_at all l fs (Found ps) a c o u (a_search ps a c s)

paths-sound : (all : List Token) (p : Place) (fs : List Frame) (o : List Op) (t : Token) (ts : List Token) → WholeAt all p fs (t ∷ ts) o → IsSound all (after_paths p fs o t) ts
paths-sound all Top fs o t ts s = tt
paths-sound all (Inside l) fs o t ts s = unit-sound all l fs (ops.Exists ∷ o) t ts (search-done all l fs (t ∷ ts) o s)

stepped-sound : (all : List Token) (p : Place) (fs : List Frame) (o : List Op) (t : Token) (ts : List Token) → SteppedAt all p fs (t ∷ ts) o → IsSound all (after_step p fs o t) ts
stepped-sound all p fs o tokens.Slash ts s = steps-whole all p fs ts o s
stepped-sound all p fs o tokens.Slashes ts s = steps-below all p fs ts o s
stepped-sound all p fs o tokens.Bar ts s = path-begins all p fs ts (ops.Bar (side_of p) ∷ o) (next-path all p fs ts o (stepped-whole all p fs (tokens.Bar ∷ ts) o s))
stepped-sound all p fs o t ts s = paths-sound all p fs o t ts (stepped-whole all p fs (t ∷ ts) o s)

stepped : (all : List Token) (p : Place) (fs : List Frame) (c : List Token) (o : List Op) → TestedAt all p fs c o → SteppedAt all p fs c o
stepped _ _ _ _ _ (tested_at all p fs d t gs a b o at s) = stepped_at all p fs d t gs a b o at (a_tested d t gs a b s)

filter-opened : (all : List Token) (p : Place) (fs : List Frame) (c : List Token) (o : List Op) → TestedAt all p fs (tokens.OpenFilter ∷ c) o → UnitAt all first_level (frames.Bracket p ∷ fs) c o
filter-opened _ _ _ c _ (tested_at all p fs d t gs a b o at s) = first-unit all (frames.Bracket p ∷ fs) c (filters_on gs (ops.Step (side_of p) d t ∷ o)) (in_bracket all p fs d t gs a c o at s)

tested-sound : (all : List Token) (p : Place) (fs : List Frame) (o : List Op) (t : Token) (ts : List Token) → TestedAt all p fs (t ∷ ts) o → IsSound all (after_test p fs o t) ts
tested-sound all p fs o tokens.OpenFilter ts s = filter-opened all p fs ts o s
tested-sound all p fs o t ts s = stepped-sound all p fs o t ts (stepped all p fs (t ∷ ts) o s)

along-sound : (all : List Token) (p : Place) (d : Axis) (fs : List Frame) (o : List Op) (t : Token) (ts : List Token) → StepAt all p fs (tokens.Along d ∷ t ∷ ts) o → IsSound all (test_wanted p d fs o t) ts
along-sound all p d fs o (tokens.Asks t) ts s = tested_at all p fs d t no_filters (tokens.Along d ∷ tokens.Asks t ∷ ts) ts o s (with_axis d t (tokens.Asks t ∷ ts) ts (a_kind t ts))
along-sound all p d fs o (tokens.Word n) ts s = tested_at all p fs d (tests.Name n) no_filters (tokens.Along d ∷ tokens.Word n ∷ ts) ts o s (with_axis d (tests.Name n) (tokens.Word n ∷ ts) ts (a_name n ts))
along-sound all p d fs o (tokens.AndWord n) ts s = tested_at all p fs d (tests.Name n) no_filters (tokens.Along d ∷ tokens.AndWord n ∷ ts) ts o s (with_axis d (tests.Name n) (tokens.AndWord n ∷ ts) ts (a_name_and n ts))
along-sound all p d fs o (tokens.OrWord n) ts s = tested_at all p fs d (tests.Name n) no_filters (tokens.Along d ∷ tokens.OrWord n ∷ ts) ts o s (with_axis d (tests.Name n) (tokens.OrWord n ∷ ts) ts (a_name_or n ts))
along-sound all p d fs o _ ts s = tt

child-sound : (all : List Token) (p : Place) (fs : List Frame) (o : List Op) (t : Token) (ts : List Token) → StepAt all p fs (t ∷ ts) o → IsSound all (test_wanted p axes.Child fs o t) ts
child-sound all p fs o (tokens.Asks t) ts s = tested_at all p fs axes.Child t no_filters (tokens.Asks t ∷ ts) ts o s (without_axis t (tokens.Asks t ∷ ts) ts (a_kind t ts))
child-sound all p fs o (tokens.Word n) ts s = tested_at all p fs axes.Child (tests.Name n) no_filters (tokens.Word n ∷ ts) ts o s (without_axis (tests.Name n) (tokens.Word n ∷ ts) ts (a_name n ts))
child-sound all p fs o (tokens.AndWord n) ts s = tested_at all p fs axes.Child (tests.Name n) no_filters (tokens.AndWord n ∷ ts) ts o s (without_axis (tests.Name n) (tokens.AndWord n ∷ ts) ts (a_name_and n ts))
child-sound all p fs o (tokens.OrWord n) ts s = tested_at all p fs axes.Child (tests.Name n) no_filters (tokens.OrWord n ∷ ts) ts o s (without_axis (tests.Name n) (tokens.OrWord n ∷ ts) ts (a_name_or n ts))
child-sound all p fs o _ ts s = tt

step-sound : (all : List Token) (p : Place) (fs : List Frame) (o : List Op) (t : Token) (ts : List Token) → StepAt all p fs (t ∷ ts) o → IsSound all (step_wanted p fs o t) ts
step-sound all p fs o (tokens.Along d) ts s = s
step-sound all p fs o tokens.Dot ts s = stepped_at all p fs axes.SelfNode tests.AnyNode no_filters (tokens.Dot ∷ ts) ts o s (a_dot ts)
step-sound all p fs o t ts s = child-sound all p fs o t ts s

wanted-sound : (all : List Token) (l : Level) (fs : List Frame) (o : List Op) (t : Token) (ts : List Token) → UnitAt all l fs (t ∷ ts) o → IsSound all (unit_wanted l fs o t) ts
wanted-sound all l fs o tokens.Open ts s = first-unit all (frames.Parens l ∷ fs) ts o (in_paren all l fs ts o s)
wanted-sound all l fs o tokens.NotOpen ts s = first-unit all (frames.NotParens l ∷ fs) ts o (in_not all l fs ts o s)
wanted-sound all l fs o (tokens.Truth b) ts s = done_at all l fs (Told b) (tokens.Truth b ∷ ts) ts o s (a_truth b ts)
wanted-sound all l fs o (tokens.Compares c v) ts s = done_at all l fs (Compared c v) (tokens.Compares c v ∷ ts) ts o s (a_comparison c v ts)
wanted-sound all l fs o t ts s =
    step-sound all (Inside l) fs (ops.Begin ∷ o) t ts (front all (Inside l) fs (t ∷ ts) (ops.Begin ∷ o) (path_at all (Inside l) fs (t ∷ ts) (t ∷ ts) (ops.Begin ∷ o) (ops.Begin ∷ o) (in_at all l fs (t ∷ ts) o s) (no_bar Inner (t ∷ ts) (ops.Begin ∷ o))))

first-sound : (all : List Token) (fs : List Frame) (o : List Op) (t : Token) (ts : List Token) → PathAt all Top fs (t ∷ ts) o → IsSound all (first_wanted fs o t) ts
first-sound all fs o tokens.Slash ts s = s
first-sound all fs o tokens.Slashes ts s = step_at all Top fs (then_below no_steps) (tokens.Slashes ∷ ts) ts o s (below_root ts)
first-sound all fs o t ts s = step-sound all Top fs o t ts (front all Top fs (t ∷ ts) o s)

root-whole : (all : List Token) (fs : List Frame) (ts : List Token) (o : List Op) → PathAt all Top fs (tokens.Slash ∷ ts) o → WholeAt all Top fs ts o
root-whole all fs ts o s = whole-of all Top fs no_steps (tokens.Slash ∷ ts) ts o s (the_root ts)

root-sound : (all : List Token) (fs : List Frame) (o : List Op) (t : Token) (ts : List Token) → PathAt all Top fs (tokens.Slash ∷ t ∷ ts) o → IsSound all (after_root fs o t) ts
root-sound all fs o tokens.Bar ts s = next-path all Top fs ts o (root-whole all fs (tokens.Bar ∷ ts) o s)
root-sound all fs o t ts s = step-sound all Top fs o t ts (step_at all Top fs no_steps (tokens.Slash ∷ t ∷ ts) (t ∷ ts) o s (at_root (t ∷ ts)))

token-sound : (all : List Token) (m : Mode) (fs : List Frame) (o : List Op) (t : Token) (ts : List Token) → Sound all m fs o (t ∷ ts) → IsSound all (step (record { mode = m; frames = fs; code = o }) t) ts
token-sound all modes.PathWanted fs o t ts s = first-sound all fs o t ts s
token-sound all modes.Rooted fs o t ts s = root-sound all fs o t ts s
token-sound all (modes.StepWanted p) fs o t ts s = step-sound all p fs o t ts s
token-sound all (modes.TestWanted p d) fs o t ts s = along-sound all p d fs o t ts s
token-sound all (modes.Tested p) fs o t ts s = tested-sound all p fs o t ts s
token-sound all (modes.Dotted p) fs o t ts s = stepped-sound all p fs o t ts s
token-sound all (modes.UnitWanted l) fs o t ts s = wanted-sound all l fs o t ts s
token-sound all (modes.UnitDone l) fs o t ts s = unit-sound all l fs o t ts s

none_some : (x : List Op) → ◌≡◌ {A = Option (List Op)} None (Some x) → ⊥
none_some x e = cc

some_same : (x y : List Op) → Some x ≡ Some y → x ≡ y
some_same x y e = cc

abbrev Spelled : List Token → List Op → Type 0
Spelled all x = (ps : Paths) × IsPaths Outer ps all [] × (x ≡ code_of ps)

whole-spelled : (all : List Token) (fs : List Frame) (o : List Op) → WholeAt all Top fs [] o → Spelled all o
whole-spelled _ _ _ (whole_at _ _ _ ps _ _ _ (top_at all) s) = (ps, s, refl)

spelled-along : (all : List Token) (o x : List Op) → Some o ≡ Some x → Spelled all o → Spelled all x
spelled-along all o x e s = (s.0, s.1, sym (some_same o x e) ∙ s.2)

ended-sound : (all : List Token) (x : List Op) (p : Place) (fs : List Frame) (o : List Op) → SteppedAt all p fs [] o → ended_path p o ≡ Some x → Spelled all x
ended-sound all x Top fs o s e = spelled-along all o x e (whole-spelled all fs o (stepped-whole all Top fs [] o s))
ended-sound all x (Inside l) fs o s e = absurd (none_some x e)

end-sound : (all : List Token) (x : List Op) (m : Mode) (fs : List Frame) (o : List Op) → Sound all m fs o [] → ended (record { mode = m; frames = fs; code = o }) ≡ Some x → Spelled all x
end-sound all x modes.Rooted fs o s e = spelled-along all o x e (whole-spelled all fs o (root-whole all fs [] o s))
end-sound all x (modes.Tested p) fs o s e = ended-sound all x p fs o (stepped all p fs [] o s) e
end-sound all x (modes.Dotted p) fs o s e = ended-sound all x p fs o s e
end-sound all x _ fs o s e = absurd (none_some x e)

run-sound : (all : List Token) (x : List Op) (s : Option At) (ts : List Token) → IsSound all s ts → run s ts ≡ Some x → Spelled all x
run-sound all x None ts s e = absurd (none_some x e)
run-sound all x (Some m) [] s e = end-sound all x m.mode m.frames m.code s e
run-sound all x (Some m) (t ∷ ts) s e = run-sound all x (step m t) ts (token-sound all m.mode m.frames m.code t ts s) e

-- what is read is spelled
pub query-spelled : (ts : List Token) (x : List Op) → run start ts ≡ Some x → (ps : Paths) × IsPaths Outer ps ts [] × (x ≡ code_of ps)
query-spelled ts x e = run-sound ts x start ts (path_at ts Top [] ts ts [] [] (top_at ts) (no_bar Outer ts [])) e
