-- The sums along a tour are the weights of the segments.
use Rattle.std.proofs.Common.{◌≡◌, ℕ, zero, suc, ◌+◌, ◌<◌, ◌≤◌, List, [], ◌∷◌, ◌++◌, length, get_or, refl, ap, sym, ◌∙◌, arith, sum_by, subst}
use Rattle.std.specs.Prelude.{set}
use Rattle.std.proofs.lemmas.List.Sums.{sum_by-cons, sum_by-append}
use Rattle.rule_arena.specs.declared.label.Label.{Label}
use Rattle.rule_arena.specs.declared.label.Label.TheVariants.{Bottom, Symbol, Call, Param}
use Rattle.slt_grammar.specs.Bodies.{params}
use Rattle.slt_grammar.specs.Segments.{segment, preorder, part_of}
use Rattle.slt_grammar.specs.declared.rules.Rule.{Rule}
use Rattle.slt_grammar.proofs.Meanings.{params-append}
use Rattle.slt_grammar.proofs.TourLemmas.{params-segment, segment-first, segment-others}
use Rattle.segment_counts.specs.Tallies.{Adds, Tally}

-- what labels still bring to a segment, where the tour stands at segment `at`
abbrev pub later : (Label → ℕ) → List Label → ℕ → ℕ → ℕ
later w ls zero i = sum_by w (segment i ls)
later w ls (suc at) zero = 0
later w ls (suc at) (suc i) = later w ls at i

-- n where i is j, else 0
abbrev pub at_place : ℕ → ℕ → ℕ → ℕ
at_place zero zero n = n
at_place zero (suc i) n = 0
at_place (suc j) zero n = 0
at_place (suc j) (suc i) n = at_place j i n

pub later-none : (w : Label → ℕ) (at i : ℕ) → later w [] at i ≡ 0
later-none w zero i = refl
later-none w (suc at) zero = refl
later-none w (suc at) (suc i) = later-none w at i

pub later-param : (w : Label → ℕ) (ls : List Label) (at i : ℕ) → later w (Param ∷ ls) at i ≡ later w ls (suc at) i
later-param w ls zero zero = refl
later-param w ls zero (suc i) = refl
later-param w ls (suc at) zero = refl
later-param w ls (suc at) (suc i) = later-param w ls at i

pub later-plain : (w : Label → ℕ) (xs ls : List Label) → params xs ≡ 0 → (at i : ℕ) → later w (xs ++ ls) at i ≡ at_place at i (sum_by w xs) + later w ls at i
later-plain w xs ls p zero zero = omega (arith, ap (sum_by w) (segment-first xs ls p), sum_by-append w xs (segment 0 ls))
later-plain w xs ls p zero (suc i) = omega (arith, ap (sum_by w) (segment-others i xs ls p))
later-plain w xs ls p (suc at) zero = omega arith
later-plain w xs ls p (suc at) (suc i) = later-plain w xs ls p at i

pub get_or-set : (xs : List ℕ) (at n i : ℕ) → at < length xs → get_or (set xs at (get_or xs at 0 + n)) i 0 ≡ get_or xs i 0 + at_place at i n
get_or-set [] at n i h = absurd (omega arith)
get_or-set (x ∷ xs) zero n zero h = refl
get_or-set (x ∷ xs) zero n (suc i) h = omega arith
get_or-set (x ∷ xs) (suc at) n zero h = omega arith
get_or-set (x ∷ xs) (suc at) n (suc i) h = get_or-set xs at n i (omega arith)

length-set : (xs : List ℕ) (at n : ℕ) → length (set xs at n) ≡ length xs
length-set [] at n = refl
length-set (x ∷ xs) zero n = refl
length-set (x ∷ xs) (suc at) n = ap suc (length-set xs at n)

at_place-small : (j i n : ℕ) → at_place j i n ≤ n
at_place-small zero zero n = omega arith
at_place-small zero (suc i) n = omega arith
at_place-small (suc j) zero n = omega arith
at_place-small (suc j) (suc i) n = at_place-small j i n

-- a tally of labels of which these are left
pub record IsTally (w : Label → ℕ) (all left : List Label) (t : Tally) : Type 0 where
  pub each : (i : ℕ) → get_or t.sums i 0 + later w left t.at i ≡ sum_by w (segment i all)
  pub place : t.at + params left ≡ params all
  pub weight : t.total + sum_by w left ≡ sum_by w all
  pub under : (i : ℕ) → get_or t.sums i 0 ≤ t.total
  pub width : length t.sums ≡ 9

pub tally-start : (w : Label → ℕ) (all : List Label) (t : Tally) → ((i : ℕ) → get_or t.sums i 0 ≡ 0) → length t.sums ≡ 9 → t.at ≡ 0 → t.total ≡ 0 → IsTally w all all t
tally-start w all t s n a z = record {
  each = λ i. omega (arith, s i, ap (λ k. later w all k i) a);
  place = omega (arith, a);
  weight = omega (arith, z);
  under = λ i. omega (arith, s i);
  width = n;
}

module _ (w : Label → ℕ) (none : w Param ≡ 0) (all rest : List Label) where
  -- a stop that stands for no parameter
  plain : (xs : List Label) (n : ℕ) (s t : Tally) → IsTally w all (xs ++ rest) s → params all ≤ 8 → params xs ≡ 0 → n ≡ sum_by w xs → t ≡ record { sums = set s.sums s.at (get_or s.sums s.at 0 + n); at = s.at; total = s.total + n } → IsTally w all rest t
  plain xs n s t i few p e a =
      let q = params-append xs rest in
      let h : s.at < length s.sums = omega (arith, i.width, i.place, few) in
      let u : Tally = record { sums = set s.sums s.at (get_or s.sums s.at 0 + n); at = s.at; total = s.total + n } in
      let made : IsTally w all rest u = record {
        each = λ j. omega (arith, i.each j, get_or-set s.sums s.at n j h, later-plain w xs rest p s.at j, ap (at_place s.at j) e);
        place = omega (arith, i.place, p, q);
        weight = omega (arith, i.weight, e, sum_by-append w xs rest);
        under = λ j. omega (arith, i.under j, get_or-set s.sums s.at n j h, at_place-small s.at j n);
        width = length-set s.sums s.at (get_or s.sums s.at 0 + n) ∙ i.width;
      } in
      subst (λ (x : Tally). IsTally w all rest x) (sym a) made

  -- a stop was taken in
  pub tally-step : (G : List Rule) (l : Label) (part n : ℕ) (s t : Tally) → IsTally w all (part_of G l part ++ rest) s → params all ≤ 8 → n ≡ sum_by w (part_of G l part) → Adds l n s t → IsTally w all rest t
  tally-step G Param part n s t i few e a =
      let made : IsTally w all rest (record { sums = s.sums; at = s.at + 1; total = s.total }) = record {
        each = λ j. omega (arith, i.each j, later-param w rest s.at j, more s.at j);
        place = omega (arith, i.place);
        weight = omega (arith, i.weight, none, sum_by-cons w Param rest);
        under = i.under;
        width = i.width;
      } in
      subst (λ (x : Tally). IsTally w all rest x) (sym a) made
    where
      more : (at j : ℕ) → later w rest (at + 1) j ≡ later w rest (suc at) j
      more at j = let e : at + 1 ≡ suc at = omega arith in ap (λ k. later w rest k j) e
  tally-step G Bottom zero n s t i few e a = plain (Bottom ∷ []) n s t i few refl e a
  tally-step G Bottom (suc part) n s t i few e a = plain [] n s t i few refl e a
  tally-step G (Symbol f) zero n s t i few e a = plain (Symbol f ∷ []) n s t i few refl e a
  tally-step G (Symbol f) (suc part) n s t i few e a = plain [] n s t i few refl e a
  tally-step G (Call q) part n s t i few e a = plain (segment part (preorder G q)) n s t i few (params-segment part (preorder G q)) e a

-- nothing is left
pub tally-end : (w : Label → ℕ) (all : List Label) (t : Tally) → IsTally w all [] t → (i : ℕ) → get_or t.sums i 0 ≡ sum_by w (segment i all)
tally-end w all t i j = omega (arith, i.each j, later-none w t.at j)
