-- Sums of the weights of a node's kids.
use Rattle.std.proofs.Common.{◌≡◌, ℕ, zero, suc, ◌+◌, ◌-◌, ◌<◌, ◌≤◌, List, [], ◌∷◌, length, get_or, set, take, drop, refl, ap, sym, ◌∙◌, arith, subst, length-set, ◌⊎◌, inl, inr}
use Rattle.std.specs.Prelude.{sum, Bool, true, false, eqb, if◌then◌else◌}
use Rattle.std.proofs.lemmas.Bool.{eqb-true, eqb-false, cases_lt}
use Rattle.std.proofs.lemmas.List.{get_or-set_same, get_or-set_other, get_or-take}
use Rattle.std.proofs.lemmas.List.Sums.{sum_by-cons}
use Rattle.preorder_address.specs.Weighing.{passed}
use Rattle.preorder_address.specs.declared.site.KidPlace.{KidPlace}

pub sum-one : (us : List ℕ) → sum (take 1 us) ≡ get_or us 0 0
sum-one [] = refl
sum-one (u ∷ us) = omega (arith, sum_by-cons (λ (x : ℕ). x) u [])

get_or-behind : (us : List ℕ) (i : ℕ) → get_or (drop 1 us) i 0 ≡ get_or us (suc i) 0
get_or-behind [] i = refl
get_or-behind (u ∷ us) i = refl

pub get_or-sum : (k : ℕ) (us : List ℕ) (j : ℕ) → j < k → get_or us j 0 ≤ sum (take k us)
get_or-sum zero us j h = absurd (omega arith)
get_or-sum (suc k) [] j h = omega arith
get_or-sum (suc k) (u ∷ us) zero h = omega (arith, sum_by-cons (λ (x : ℕ). x) u (take k us))
get_or-sum (suc k) (u ∷ us) (suc j) h = omega (arith, sum_by-cons (λ (x : ℕ). x) u (take k us), get_or-sum k us j (omega arith))

take-past : (k : ℕ) (us : List ℕ) (j : ℕ) → k ≤ j → get_or (take k us) j 0 ≡ 0
take-past zero us j h = refl
take-past (suc k) [] j h = refl
take-past (suc k) (u ∷ us) zero h = absurd (omega arith)
take-past (suc k) (u ∷ us) (suc j) h = take-past k us j (omega arith)

pub sums-apart : (a b : ℕ) (us : List ℕ) → sum (take (a + b) us) ≡ sum (take a us) + sum (take b (drop a us))
sums-apart zero b us = let z : 0 + b ≡ b = omega arith in omega (arith, ap (λ k. sum (take k us)) z)
sums-apart (suc a) zero [] = let z : suc a + 0 ≡ suc a = omega arith in omega (arith, ap (λ (k : ℕ). sum (take k [])) z)
sums-apart (suc a) (suc b) [] = let z : suc a + suc b ≡ suc (a + suc b) = omega arith in omega (arith, ap (λ (k : ℕ). sum (take k [])) z)
sums-apart (suc a) b (u ∷ us) =
    let z : suc a + b ≡ suc (a + b) = omega arith in
    omega (arith, ap (λ k. sum (take k (u ∷ us))) z, sum_by-cons (λ (x : ℕ). x) u (take (a + b) us), sum_by-cons (λ (x : ℕ). x) u (take a us), sums-apart a b us)

pub drop-twice : {X : Type 0} (a b : ℕ) (us : List X) → drop b (drop a us) ≡ drop (a + b) us
drop-twice zero b us = let z : b ≡ 0 + b = omega arith in ap (λ k. drop k us) z
drop-twice (suc a) zero [] = let z : suc a ≡ suc a + 0 = omega arith in ap (λ k. drop k []) z
drop-twice (suc a) (suc b) [] = let z : suc (a + suc b) ≡ suc a + suc b = omega arith in ap (λ k. drop k []) z
drop-twice (suc a) b (u ∷ us) = let z : suc (a + b) ≡ suc a + b = omega arith in drop-twice a b us ∙ ap (λ k. drop k (u ∷ us)) z

abbrev pub no_weights : List ℕ
no_weights = 0 ∷ 0 ∷ 0 ∷ 0 ∷ 0 ∷ 0 ∷ 0 ∷ 0 ∷ []

pub zeros : (j : ℕ) → get_or no_weights j 0 ≡ 0
zeros zero = refl
zeros (suc zero) = refl
zeros (suc (suc zero)) = refl
zeros (suc (suc (suc zero))) = refl
zeros (suc (suc (suc (suc zero)))) = refl
zeros (suc (suc (suc (suc (suc zero))))) = refl
zeros (suc (suc (suc (suc (suc (suc zero)))))) = refl
zeros (suc (suc (suc (suc (suc (suc (suc zero))))))) = refl
zeros (suc (suc (suc (suc (suc (suc (suc (suc j)))))))) = refl

abbrev pub chosen : ℕ → ℕ → ℕ → Bool → KidPlace
chosen kid left a t = if t then record { kid = kid + 1; left = 1 } else record { kid = kid; left = left + a - 1 }

-- k kids of a node weigh these, of which those before the kid of the walk are added up, and that kid but for so many terms
pub record Weighs (k : ℕ) (kids rest : List ℕ) (kid left : ℕ) (weights : List ℕ) : Type 0 where
  pub some : 0 < left
  pub most : kid ≤ k
  pub done : (j : ℕ) → j < kid → get_or weights j 0 ≡ get_or kids j 0
  pub now : kid < k → get_or weights kid 0 + sum (take left rest) ≡ get_or kids kid 0
  pub later : (i : ℕ) → kid + 1 + i < k → (get_or weights (kid + 1 + i) 0 ≡ 0) × (get_or (drop left rest) i 0 ≡ get_or kids (kid + 1 + i) 0)
  pub past : (j : ℕ) → k ≤ j → get_or weights j 0 ≡ 0
  pub width : length weights ≡ 8

pub weighs-start : (k : ℕ) (kids weights : List ℕ) → ((j : ℕ) → get_or weights j 0 ≡ 0) → length weights ≡ 8 → Weighs k kids kids 0 1 weights
weighs-start k kids weights z n = record {
  some = omega arith;
  most = omega arith;
  done = λ j h. absurd (omega arith);
  now = λ h. omega (arith, z 0, sum-one kids);
  later = λ i h. (z (0 + 1 + i), let e : 0 + 1 + i ≡ suc i = omega arith in get_or-behind kids i ∙ sym (ap (λ j. get_or kids j 0) e));
  past = λ j h. z j;
  width = n;
}

module _ (k : ℕ) (kids all : List ℕ) (o a kid left : ℕ) (weights : List ℕ) (s : Weighs k kids ((o + sum (take a all)) ∷ drop a all) kid left weights) (h : kid < k) (few : k ≤ 8) where
  abbrev next : List ℕ
  next = set weights kid (get_or weights kid 0 + o)

  within : kid < length weights
  within = omega (arith, s.width, few)

  same : get_or next kid 0 ≡ get_or weights kid 0 + o
  same = get_or-set_same weights kid (get_or weights kid 0 + o) 0 within

  other : (j : ℕ) → (j ≡ kid → ⊥) → get_or next j 0 ≡ get_or weights j 0
  other j n = get_or-set_other weights kid j (get_or weights kid 0 + o) 0 n

  -- what the kid's terms that are left weigh
  left-now : (b : ℕ) → left ≡ suc b → (get_or weights kid 0 + o + sum (take (a + b) all) ≡ get_or kids kid 0) × (drop left ((o + sum (take a all)) ∷ drop a all) ≡ drop (a + b) all)
  left-now b e =
      let n = s.now h in
      let t = ap (λ m. sum (take m ((o + sum (take a all)) ∷ drop a all))) e in
      (omega (arith, n, t, sum_by-cons (λ (x : ℕ). x) (o + sum (take a all)) (take b (drop a all)), sums-apart a b all), ap (λ m. drop m ((o + sum (take a all)) ∷ drop a all)) e ∙ drop-twice a b all)

  goes-on : (b : ℕ) → left ≡ suc b → 0 < a + b → Weighs k kids all kid (a + b) next
  goes-on b e p =
      let n = left-now b e in
      record {
        some = p;
        most = s.most;
        done = λ j l. other j (λ d. omega arith) ∙ s.done j l;
        now = λ l. omega (arith, same, n.0);
        later = λ i l. let t = s.later i l in (other (kid + 1 + i) (λ d. omega arith) ∙ t.0, ap (λ us. get_or us i 0) (sym n.1) ∙ t.1);
        past = λ j l. other j (λ d. omega arith) ∙ s.past j l;
        width = length-set weights kid (get_or weights kid 0 + o) ∙ s.width;
      }

  next-kid : (b : ℕ) → left ≡ suc b → a + b ≡ 0 → Weighs k kids all (kid + 1) 1 next
  next-kid b e p =
      let n = left-now b e in
      let z = ap (λ m. sum (take m all)) p in
      let y = ap (λ m. drop m all) p in
      record {
        some = omega arith;
        most = omega arith;
        done = λ j l. by_place j l (omega (arith, same, n.0, z)) (cases_lt j kid);
        now = λ l.
            let i : kid + 1 ≡ kid + 1 + 0 = omega arith in
            let t = s.later 0 (omega arith) in
            omega (arith, other (kid + 1) (λ d. omega arith), ap (λ j. get_or weights j 0) i, ap (λ j. get_or kids j 0) i, t.0, t.1, sum-one all, ap (λ us. get_or us 0 0) (n.1 ∙ y));
        later = λ i l.
            let j : kid + 1 + 1 + i ≡ kid + 1 + suc i = omega arith in
            let t = s.later (suc i) (omega arith) in (
              other (kid + 1 + 1 + i) (λ d. omega arith) ∙ ap (λ m. get_or weights m 0) j ∙ t.0,
              get_or-behind all i ∙ ap (λ us. get_or us (suc i) 0) (sym (n.1 ∙ y)) ∙ t.1 ∙ ap (λ m. get_or kids m 0) (sym j),
            );
        past = λ j l. other j (λ d. omega arith) ∙ s.past j l;
        width = length-set weights kid (get_or weights kid 0 + o) ∙ s.width;
      }
    where
      by_place : (j : ℕ) → j < kid + 1 → get_or next kid 0 ≡ get_or kids kid 0 → (j < kid) ⊎ (kid ≤ j) → get_or next j 0 ≡ get_or kids j 0
      by_place j l d (inl b) = other j (λ d. omega arith) ∙ s.done j b
      by_place j l d (inr b) = let z : j ≡ kid = omega arith in ap (λ m. get_or next m 0) z ∙ d ∙ ap (λ m. get_or kids m 0) (sym z)

  -- the walk goes past a node
  pub weighs-next : Weighs k kids all (passed (record { kid = kid; left = left }) a).kid (passed (record { kid = kid; left = left }) a).left next
  weighs-next = by_test (eqb (left + a) 1) refl
    where
      by_test : (t : Bool) → eqb (left + a) 1 ≡ t → Weighs k kids all (chosen kid left a t).kid (chosen kid left a t).left next
      by_test true q = let z = eqb-true (left + a) 1 q in next-kid (left - 1) (omega (arith, s.some)) (omega (arith, z, s.some))
      by_test false q =
          let z : left + a ≡ 1 → ⊥ = eqb-false (left + a) 1 q in
          let e : a + (left - 1) ≡ left + a - 1 = omega (arith, s.some) in
          subst (λ (n : ℕ). Weighs k kids all kid n next) e (goes-on (left - 1) (omega (arith, s.some)) (omega (arith, s.some, z)))

pub weighs-some : (k : ℕ) (kids rest : List ℕ) (kid left : ℕ) (weights : List ℕ) → Weighs k kids rest kid left weights → (j : ℕ) → (kid ≤ j → k ≤ j) → get_or weights j 0 ≡ get_or (take k kids) j 0
weighs-some k kids rest kid left weights s j h = by_place (cases_lt j kid)
  where
    by_place : (j < kid) ⊎ (kid ≤ j) → get_or weights j 0 ≡ get_or (take k kids) j 0
    by_place (inl l) = s.done j l ∙ sym (get_or-take k kids j 0 (omega (arith, l, s.most)))
    by_place (inr g) = s.past j (h g) ∙ sym (take-past k kids j (h g))
