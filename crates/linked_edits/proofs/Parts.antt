-- A list of nodes in two parts, item by item with its parents.
use Rattle.std.proofs.Common.{◌≡◌, ℕ, ◌+◌, ◌<◌, List, ◌++◌, length, get_or, None, slice_get, ap, ◌∙◌, arith}
use Rattle.rule_arena.specs.Terms.{Node}
use Rattle.rule_arena.proofs.PreorderLemmas.{slice_get-left, slice_get-right}
use Rattle.digram_index.proofs.OpenPlaces.{Opens, length-ups, open_behind, ups, ups-append}
use Rattle.digram_index.proofs.Sides.{get-left, get-right}

pub record AreSplit (os : Opens) (xs front back : List Node) : Type 0 where
  pub left : (t : ℕ) → t < length front → (slice_get xs t ≡ slice_get front t) × (get_or (ups os xs) t None ≡ get_or (ups os front) t None)
  pub right : (t u : ℕ) → t ≡ length front + u → (slice_get xs t ≡ slice_get back u) × (get_or (ups os xs) t None ≡ get_or (ups (open_behind os front) back) u None)

pub split : (os : Opens) (xs front back : List Node) → xs ≡ front ++ back → AreSplit os xs front back
split os xs front back e = record {
  left = λ t h. (
    ap (λ (zs : List Node). slice_get zs t) e ∙ slice_get-left front back t h,
    whole t ∙ get-left (ups os front) (ups (open_behind os front) back) t (omega (arith, h, length-ups os front)),
  );
  right = λ t u z. (
    ap (λ (zs : List Node). slice_get zs t) e ∙ ap (λ (j : ℕ). slice_get (front ++ back) j) z ∙ slice_get-right front back u,
    whole t ∙ get-right (ups os front) (ups (open_behind os front) back) t u (omega (arith, z, length-ups os front)),
  );
}
  where
    whole : (t : ℕ) → get_or (ups os xs) t None ≡ get_or (ups os front ++ ups (open_behind os front) back) t None
    whole t = ap (λ (zs : List Node). get_or (ups os zs) t None) e ∙ ap (λ (zs : Opens). get_or zs t None) (ups-append os front back)
