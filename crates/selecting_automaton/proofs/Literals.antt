-- The values with which a query compares: their marks, and how few they are.
use Rattle.std.proofs.Common.{◌≡◌, ℕ, suc, ◌+◌, ◌<◌, ◌≤◌, List, [], ◌∷◌, ◌++◌, All, length, length-append, Bool, true, false, refl, arith}
use Rattle.std.specs.Prelude.{if◌then◌else◌}
use Rattle.std.specs.Str.{bytes_eq}
use Rattle.std.proofs.lemmas.List.Elements.{All-nil, All-cons, All-head, All-tail, All-weaker}
use Rattle.std.proofs.lemmas.Slice.Eq.{bytes_eq-Decides}
use Rattle.text_list.specs.Marking.{mark_from, mark_of}
use Rattle.xpath_parser.specs.Comparing.{literals_of_test, literals_of_steps, literals_of_filters, literals_of_filter, literals_of}
use Rattle.xpath_parser.specs.Queries.{Test, Star, Name, AnyNode, TextNode, CommentNode, InstructionNode, TextOf, NameOf, Steps, no_steps, step, Filters, no_filters, filter_and, Filter, Or, And, Not, True, False, Exists, Paths, no_paths, path_or}
use Rattle.selecting_automaton.specs.Sizes.{parts_of_steps, parts_of_filters, parts_of_filter, parts_of_paths, parts_of_more, steps_along, parts_along, steps_outside, parts_inside}

module _ (mark : List ℕ → ℕ) where
  -- texts with the same mark are equal, if it is one
  abbrev pub TellsTexts : Type 0
  TellsTexts = (u v : List ℕ) → 0 < mark v → mark u ≡ mark v → u ≡ v

  -- all of these have marks
  abbrev pub AreMarked : List (List ℕ) → Type 0
  AreMarked vs = All (λ (v : List ℕ). 0 < mark v) vs

  pub marked-front : (us vs : List (List ℕ)) → AreMarked (us ++ vs) → AreMarked us
  marked-front [] vs h = All-nil (λ (v : List ℕ). 0 < mark v)
  marked-front (u ∷ us) vs h =
      let P : List ℕ → Type 0 = λ v. 0 < mark v in
      All-cons P u us (All-head P u (us ++ vs) h) (marked-front us vs (All-tail P u (us ++ vs) h))

  pub marked-behind : (us vs : List (List ℕ)) → AreMarked (us ++ vs) → AreMarked vs
  marked-behind [] vs h = h
  marked-behind (u ∷ us) vs h = marked-behind us vs (All-tail (λ (v : List ℕ). 0 < mark v) u (us ++ vs) h)

literals-mark : (place : ℕ) (ls : List (List ℕ)) → AreMarked (mark_from place ls) ls
literals-mark place [] = All-nil (λ (v : List ℕ). 0 < 0)
literals-mark place (l ∷ ls) =
    let P : List ℕ → Type 0 = λ v. 0 < mark_from place (l ∷ ls) v in
    All-cons P l ls (own (bytes_eq l l) ((bytes_eq-Decides l l).1 refl))
    (All-weaker (λ (v : List ℕ). 0 < mark_from (suc place) ls v) P (λ v h. later v (bytes_eq v l) h) ls (literals-mark (suc place) ls)) where
      own : (b : Bool) → b ≡ true → 0 < (if b then suc place else mark_from (suc place) ls l)
      own true e = omega arith
      own false e = absurd (cc)

      later : (v : List ℕ) (b : Bool) → 0 < mark_from (suc place) ls v → 0 < (if b then suc place else mark_from (suc place) ls v)
      later v true h = omega arith
      later v false h = h

-- literals have marks among themselves
pub all-marked : (ls : List (List ℕ)) → AreMarked (mark_of ls) ls
all-marked ls = literals-mark 0 ls

test-few : (t : Test) → length (literals_of_test t) ≤ 1
test-few Star = omega arith
test-few (Name n) = omega arith
test-few AnyNode = omega arith
test-few TextNode = omega arith
test-few CommentNode = omega arith
test-few InstructionNode = omega arith
test-few (TextOf v) = omega arith
test-few (NameOf x v) = omega arith

-- of two lists, one after the other
both-few : (us vs : List (List ℕ)) (m n : ℕ) → length us ≤ m → length vs ≤ n → length (us ++ vs) ≤ m + n
both-few us vs m n h k = omega (arith, length-append us vs, h, k)

-- of a step and what follows it
step-few : (us vs ws : List (List ℕ)) (m n : ℕ) → length us ≤ 1 → length vs ≤ m → length ws ≤ n → length ((us ++ vs) ++ ws) ≤ (m + n) + 1
step-few us vs ws m n h k l = omega (arith, length-append (us ++ vs) ws, length-append us vs, h, k, l)

mutual
  steps-few : (ss : Steps) → length (literals_of_steps ss) ≤ parts_of_steps ss
  steps-few no_steps = omega arith
  steps-few (step a t fs ss) = step-few (literals_of_test t) (literals_of_filters fs) (literals_of_steps ss) (parts_of_filters fs) (parts_of_steps ss) (test-few t) (filters-few fs) (steps-few ss)

  filters-few : (fs : Filters) → length (literals_of_filters fs) ≤ parts_of_filters fs
  filters-few no_filters = omega arith
  filters-few (filter_and f fs) = both-few (literals_of_filter f) (literals_of_filters fs) (parts_of_filter f) (parts_of_filters fs) (filter-few f) (filters-few fs)

  filter-few : (f : Filter) → length (literals_of_filter f) ≤ parts_of_filter f
  filter-few (Or f g) = let h = both-few (literals_of_filter f) (literals_of_filter g) (parts_of_filter f) (parts_of_filter g) (filter-few f) (filter-few g) in omega (arith, h)
  filter-few (And f g) = let h = both-few (literals_of_filter f) (literals_of_filter g) (parts_of_filter f) (parts_of_filter g) (filter-few f) (filter-few g) in omega (arith, h)
  filter-few (Not f) = omega (arith, filter-few f)
  filter-few True = omega arith
  filter-few False = omega arith
  filter-few (Exists ps) = paths-few ps

  paths-few : (ps : Paths) → length (literals_of ps) ≤ parts_of_paths ps
  paths-few no_paths = omega arith
  paths-few (path_or ss ps) = let h = both-few (literals_of_steps ss) (literals_of ps) (parts_of_steps ss) (parts_of_more ps) (steps-few ss) (more-few ps) in omega (arith, h)

  more-few : (ps : Paths) → length (literals_of ps) ≤ parts_of_more ps
  more-few no_paths = omega arith
  more-few (path_or ss ps) = let h = both-few (literals_of_steps ss) (literals_of ps) (parts_of_steps ss) (parts_of_more ps) (steps-few ss) (more-few ps) in omega (arith, h)

along-few : (ss : Steps) → length (literals_of_steps ss) ≤ parts_along ss + steps_along ss
along-few no_steps = omega arith
along-few (step a t fs ss) =
    let h = step-few (literals_of_test t) (literals_of_filters fs) (literals_of_steps ss) (parts_of_filters fs) (parts_along ss + steps_along ss) (test-few t) (filters-few fs) (along-few ss) in
    omega (arith, h)

-- each literal is one of the query's parts, or stands in a step outside
pub few-literals : (ps : Paths) → length (literals_of ps) ≤ parts_inside ps + steps_outside ps
few-literals no_paths = omega arith
few-literals (path_or ss ps) =
    let h = both-few (literals_of_steps ss) (literals_of ps) (parts_along ss + steps_along ss) (parts_inside ps + steps_outside ps) (along-few ss) (few-literals ps) in
    omega (arith, h)
