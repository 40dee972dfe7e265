-- How great a key is.
use Rattle.std.proofs.Common.{◌≡◌, ◌∙◌, ◌<◌, ◌≤◌, ◌+◌, ◌-◌, ◌*◌, ◌/◌, ◌^◌, ◌⊎◌, inl, inr, ℕ, suc, max, refl, ap, subst, arith}
use Rattle.std.proofs.Math.Nat.{pow-suc, div-lt_iff_lt-mul, div-mul-le_self, le-div_iff_mul-le, lt-div-mul-add}
use Rattle.std.proofs.Math.Pow.{pow_mono}
use Rattle.std.proofs.lemmas.Bool.{cases_lt}
use Rattle.std.proofs.lemmas.Nat.{mul-le, pow_pos}
use Rattle.digram_index.specs.Ranking.{HasBuckets, IsLevel}

-- a small key is its own level
pub level-itself : (key : ℕ) → key < 32 → IsLevel key key
level-itself key l = record { doublings = 0; rest = key; here = omega arith; small = l; great = λ h. absurd (omega arith); low = omega arith; high = omega arith }

-- the place of the first binary digit of a key of 32 or more that is below 2^32
pub first-digit : (key place : ℕ) → 32 ≤ key → key < 2 ^ 32 → 2 ^ place ≤ key → key < 2 * 2 ^ place → (5 ≤ place) × (place < 32)
first-digit key place m s l h = (high (cases_lt place 5), low (cases_lt place 32))
  where
    high : (place < 5) ⊎ (5 ≤ place) → 5 ≤ place
    high (inl x) = let p : 2 ^ place ≤ 2 ^ 4 = pow_mono (let y : place ≤ 4 = omega arith in y) in absurd (omega arith)
    high (inr x) = x

    low : (place < 32) ⊎ (32 ≤ place) → place < 32
    low (inl x) = x
    low (inr x) = let p : 2 ^ 32 ≤ 2 ^ place = pow_mono x in absurd (omega arith)

sixteen-times : (d place : ℕ) → place ≡ suc (suc (suc (suc d))) → 2 ^ place ≡ 16 * 2 ^ d
sixteen-times d place e = ap (λ n. 2 ^ n) e ∙ omega (arith, pow-suc 2 d, pow-suc 2 (suc d), pow-suc 2 (suc (suc d)), pow-suc 2 (suc (suc (suc d))))

-- the first five digits of a key
pub five-digits : (key place : ℕ) → 5 ≤ place → key < 2 * 2 ^ place → key / 2 ^ (place - 4) < 32
five-digits key place f h =
    let w = sixteen-times (place - 4) place (omega arith) in
    (div-lt_iff_lt-mul (pow_pos (place - 4))).1 (omega (arith, w))

-- a greater key has the level of its first five digits
pub digits-level : (key place : ℕ) → 5 ≤ place → 2 ^ place ≤ key → key < 2 * 2 ^ place → IsLevel key (16 * (place - 4) + key / 2 ^ (place - 4))
digits-level key place f l h =
    let d : ℕ = place - 4 in
    let p = pow_pos d in
    let w = sixteen-times d place (omega arith) in
    record {
      doublings = d;
      rest = key / 2 ^ d;
      here = refl;
      small = five-digits key place f h;
      great = λ x. (le-div_iff_mul-le p).1 (omega (arith, w));
      low = div-mul-le_self key (2 ^ d);
      high = let n = lt-div-mul-add {a = key} p in omega (arith, n);
    }

-- fewer doublings are of a smaller key
fewer-doublings : (key level other lower : ℕ) (L : IsLevel key level) (M : IsLevel other lower) → M.doublings < L.doublings → other < key
fewer-doublings k v k' v' L M x =
    let a : (M.rest + 1) * 2 ^ M.doublings ≤ 32 * 2 ^ M.doublings = mul-le (M.rest + 1) (2 ^ M.doublings) 32 (2 ^ M.doublings) (let s = M.small in omega arith) (omega arith) in
    let b : 2 ^ (suc M.doublings) ≤ 2 ^ L.doublings = pow_mono (let y : suc M.doublings ≤ L.doublings = omega arith in y) in
    let c : 2 ^ (suc M.doublings) ≡ 2 ^ M.doublings * 2 = pow-suc 2 M.doublings in
    let d : 16 * 2 ^ L.doublings ≤ L.rest * 2 ^ L.doublings = mul-le 16 (2 ^ L.doublings) L.rest (2 ^ L.doublings) (L.great (omega arith)) (omega arith) in
    let l = L.low in
    let g = M.high in
    omega arith

-- a greater key has no lower level
pub level-rises : (key level other higher : ℕ) → IsLevel key level → IsLevel other higher → key ≤ other → level ≤ higher
level-rises k v k' v' L M h = at (cases_lt L.doublings M.doublings)
  where
    same : M.doublings ≡ L.doublings → (M.rest < L.rest) ⊎ (L.rest ≤ M.rest) → v ≤ v'
    same x (inr r) = let a = L.here in let b = M.here in omega arith
    same x (inl r) =
        let g : k' < (M.rest + 1) * 2 ^ L.doublings = subst (λ n. k' < (M.rest + 1) * 2 ^ n) x M.high in
        let a : (M.rest + 1) * 2 ^ L.doublings ≤ L.rest * 2 ^ L.doublings = mul-le (M.rest + 1) (2 ^ L.doublings) L.rest (2 ^ L.doublings) (omega arith) (omega arith) in
        let l = L.low in
        absurd (omega arith)

    at : (L.doublings < M.doublings) ⊎ (M.doublings ≤ L.doublings) → v ≤ v'
    at (inl x) = let a = L.here in let b = M.here in let s = L.small in let g = M.great (omega arith) in omega arith
    at (inr x) = within (cases_lt M.doublings L.doublings)
      where
        within : (M.doublings < L.doublings) ⊎ (L.doublings ≤ M.doublings) → v ≤ v'
        within (inl y) = absurd (let z = fewer-doublings k v k' v' L M y in omega arith)
        within (inr y) = same (omega arith) (cases_lt M.rest L.rest)

-- keys of one level, or of a lower one, are greater by less than a sixteenth
pub level-compares : (key level other lower : ℕ) → IsLevel key level → IsLevel other lower → lower ≤ level → 16 * other ≤ 17 * key
level-compares k v k' v' L M h = at (cases_lt M.doublings L.doublings)
  where
    e : ℕ
    e = L.doublings

    e' : ℕ
    e' = M.doublings

    -- at the same one
    same : e' ≡ e → M.rest ≤ L.rest → 16 * k' ≤ 17 * k
    same x r = by (cases_lt L.rest 16)
      where
        g : k' < (M.rest + 1) * 2 ^ e
        g = subst (λ n. k' < (M.rest + 1) * 2 ^ n) x M.high

        by : (L.rest < 16) ⊎ (16 ≤ L.rest) → 16 * k' ≤ 17 * k
        by (inl y) =
            let z : e ≡ 0 = none (cases_lt 0 e) in
            let a = subst (λ n. k' < (M.rest + 1) * 2 ^ n) z g in
            let l = subst (λ n. L.rest * 2 ^ n ≤ k) z L.low in
            omega arith
          where
            none : (0 < e) ⊎ (e ≤ 0) → e ≡ 0
            none (inl w) = absurd (let q = L.great w in omega arith)
            none (inr w) = omega arith
        by (inr y) =
            let a : (M.rest + 1) * 2 ^ e ≤ (L.rest + 1) * 2 ^ e = mul-le (M.rest + 1) (2 ^ e) (L.rest + 1) (2 ^ e) (omega arith) (omega arith) in
            let b : 16 * 2 ^ e ≤ L.rest * 2 ^ e = mul-le 16 (2 ^ e) L.rest (2 ^ e) y (omega arith) in
            let l = L.low in
            let c = g in
            omega arith

    at : (e' < e) ⊎ (e ≤ e') → 16 * k' ≤ 17 * k
    at (inl x) = let z = fewer-doublings k v k' v' L M x in omega arith
    at (inr x) = within (cases_lt e e')
      where
        within : (e < e') ⊎ (e' ≤ e) → 16 * k' ≤ 17 * k
        within (inl y) = absurd (let g = M.great (omega arith) in let a = L.here in let b = M.here in let s = L.small in omega arith)
        within (inr y) = let z : e' ≡ e = omega arith in same z (let a = L.here in let b = M.here in omega arith)

-- the buckets up to the level of the greatest key are enough
pub enough-buckets : (greatest most level groups : ℕ) → max 3 greatest ≤ most → IsLevel most level → (level + 1) * 10 ≤ groups → HasBuckets greatest groups
enough-buckets n m v g h L e = record {
  all = λ r k b x B.
      let l = level-rises k B.level m v B.right L (omega arith) in
      let y = B.here in
      omega arith;
}

-- and for fewer keys, or where there are more of them
pub still-enough : (n n' groups groups' : ℕ) → HasBuckets n groups → n' ≤ n → groups ≤ groups' → HasBuckets n' groups'
still-enough n n' g g' H l m = record { all = λ r k b h B. let x = H.all r k b (omega arith) B in omega arith }

-- and where each of two numbers of keys has enough, and there are no more keys than either
pub enough-for-both : (m n keys groups : ℕ) → HasBuckets m groups → HasBuckets n groups → ((most : ℕ) → m ≤ most → n ≤ most → keys ≤ most) → HasBuckets keys groups
enough-for-both m n k g G H most = at (cases_lt m n)
  where
    at : (m < n) ⊎ (n ≤ m) → HasBuckets k g
    at (inl l) = still-enough n k g g H (most n (omega arith) (omega arith)) (omega arith)
    at (inr l) = still-enough m k g g G (most m (omega arith) (omega arith)) (omega arith)
