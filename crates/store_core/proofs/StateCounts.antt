-- How few reads the runs of a selector take, whose states are few.
use Rattle.std.proofs.Common.{◌≡◌, ℕ, zero, suc, ◌+◌, ◌*◌, ◌^◌, ◌<◌, ◌≤◌, Bool, true, false, ◌&&◌, nat_lt, if◌then◌else◌, List, [], ◌∷◌, length, All, refl, sym, ap, ◌∙◌, arith}
use Rattle.std.proofs.lemmas.Bool.Decides.{nat_tests}
use Rattle.std.proofs.lemmas.List.Elements.{All-head, All-tail, All-weaker}
use Rattle.std.proofs.lemmas.Nat.{mul-pow, pow-add}
use Rattle.std.proofs.Math.Nat.{mul_assoc, mul-le-mul, mul-le-mul_right, pow-le-pow_right, pow-zero, one-le-pow, pow-succ'}
use Rattle.slt_grammar.specs.Algebras.{Algebra}
use Rattle.slt_grammar.specs.Automata.{Downward}
use Rattle.slt_grammar.specs.Grammars.{IsGrammar, body_at, rank_at, no_rule, whole}
use Rattle.slt_grammar.specs.declared.rules.Rule.{Rule}
use Rattle.rule_runs.specs.Reached.{RuleStates, Uses, Falls, ReadsOnce, FallsOnce}
use Rattle.selecting_automaton.specs.Bounds.{IsUpOf, AreMarksBelow, HasFewStates}
use Rattle.selecting_automaton.specs.declared.states.Up.{Up}
use Rattle.selecting_automaton.specs.declared.states.Down.{Down}
use Rattle.slt_grammar.specs.Ranks.{greatest_rank}
use Rattle.store_core.specs.Reads.{most_reads}
use Rattle.value_runs.specs.States.{HasUpStates}
use Rattle.value_runs.proofs.Distinct.{digit-one, digit-lt, sum-apart}
use Rattle.value_runs.proofs.StatesWithin.{KeepsUp, KeepsDown, used-kept, used-there, fallen-used, fallen-kept}
use Rattle.value_tests.proofs.Isolating.{rank-greatest}

power-power : (n a b : ℕ) → (n ^ a) ^ b ≡ n ^ (b * a)
power-power n a zero = pow-zero (n ^ a) ∙ (sym (pow-zero n) ∙ ap (λ i. n ^ i) (omega arith))
power-power n a (suc b) =
    pow-succ' (n ^ a) b ∙ (ap (λ m. n ^ a * m) (power-power n a b) ∙ (sym (pow-add n a (b * a)) ∙ ap (λ i. n ^ i) (omega arith)))

pub spread : (m n w : ℕ) → 2 * m * n * (1 + w) ≡ 2 * (n * m) + 2 * (w * (n * m))
spread m n w = grind arith

-- to read each node twice is within them
pub once-few : (G : List Rule) (parts steps : ℕ) → 2 * whole G ≤ most_reads G parts steps
once-few G parts steps =
    let n : ℕ = 4 ^ (greatest_rank G * parts) in
    let one : 1 ≤ n = one-le-pow (greatest_rank G * parts) 4 (omega arith) in
    let some : 1 * whole G ≤ n * whole G = mul-le-mul_right (whole G) one in
    omega (arith, some, spread (whole G) n (8 ^ (steps + 1)))

-- ---- states as numbers, by a base that their words are below
abbrev IsUpBelow : ℕ → Up → Type 0
IsUpBelow b u = (u.chain < b) × (u.code < b)

abbrev pub IsDownBelow : ℕ → Down → Type 0
IsDownBelow b d = (d.parent < b) × (d.above < b) × (d.before < b)

up_code : ℕ → Up → ℕ
up_code b u = u.chain + b * u.code

up-lt : (b : ℕ) (u : Up) → IsUpBelow b u → up_code b u < b * b
unfolding up_code
up-lt b u h = digit-lt b b u.chain u.code h.0 h.1

up-one : (b : ℕ) (u v : Up) → IsUpBelow b u → IsUpBelow b v → up_code b u ≡ up_code b v → u ≡ v
unfolding up_code
up-one b u v h k e =
    let same = digit-one b u.chain u.code v.chain v.code h.0 k.0 e in
    ap (λ (x : ℕ). record { chain = x; code = u.code }) same.0 ∙ ap (λ (y : ℕ). record { chain = v.chain; code = y }) same.1

ups_code : ℕ → List Up → ℕ
ups_code b [] = 0
ups_code b (u ∷ us) = up_code b u + b * b * ups_code b us

ups-lt : (b : ℕ) (us : List Up) → All (IsUpBelow b) us → ups_code b us < (b * b) ^ length us
unfolding ups_code
ups-lt b [] h = omega (arith, pow-zero (b * b))
ups-lt b (u ∷ us) h =
    let p : (b * b) ^ suc (length us) ≡ b * b * (b * b) ^ length us = pow-succ' (b * b) (length us) in
    let l = digit-lt (b * b) ((b * b) ^ length us) (up_code b u) (ups_code b us) (up-lt b u (All-head (IsUpBelow b) u us h)) (ups-lt b us (All-tail (IsUpBelow b) u us h)) in
    omega (arith, p, l)

ups-one : (b : ℕ) (us vs : List Up) → length us ≡ length vs → All (IsUpBelow b) us → All (IsUpBelow b) vs → ups_code b us ≡ ups_code b vs → us ≡ vs
unfolding ups_code
ups-one b [] [] n h k e = refl
ups-one b [] (v ∷ vs) n h k e = absurd (omega arith)
ups-one b (u ∷ us) [] n h k e = absurd (omega arith)
ups-one b (u ∷ us) (v ∷ vs) n h k e =
    let hu = All-head (IsUpBelow b) u us h in
    let kv = All-head (IsUpBelow b) v vs k in
    let same = digit-one (b * b) (up_code b u) (ups_code b us) (up_code b v) (ups_code b vs) (up-lt b u hu) (up-lt b v kv) e in
    let first = up-one b u v hu kv same.0 in
    let rest = ups-one b us vs (omega arith) (All-tail (IsUpBelow b) u us h) (All-tail (IsUpBelow b) v vs k) same.1 in
    ap (λ (x : Up). x ∷ us) first ∙ ap (λ (xs : List Up). v ∷ xs) rest

and-true : (a b : Bool) → (a && b) ≡ true → (a ≡ true) × (b ≡ true)
and-true true b e = (refl, e)
and-true false b e = absurd (cc)

bit : Bool → ℕ
bit b = if b then 1 else 0

bit-lt : (b : Bool) → bit b < 2
unfolding bit
bit-lt true = omega arith
bit-lt false = omega arith

bit-one : (b c : Bool) → bit b ≡ bit c → b ≡ c
unfolding bit
bit-one true true e = refl
bit-one true false e = absurd (omega arith)
bit-one false true e = absurd (omega arith)
bit-one false false e = refl

pub down_code : ℕ → Down → ℕ
down_code b d = bit d.start + 2 * (d.parent + b * (d.above + b * d.before))

pub down-lt : (b : ℕ) (d : Down) → IsDownBelow b d → down_code b d < 2 * (b * (b * b))
unfolding down_code
down-lt b d h = digit-lt 2 (b * (b * b)) (bit d.start) (d.parent + b * (d.above + b * d.before)) (bit-lt d.start) (digit-lt b (b * b) d.parent (d.above + b * d.before) h.0 (digit-lt b b d.above d.before h.1 h.2))

pub down-one : (b : ℕ) (d e : Down) → IsDownBelow b d → IsDownBelow b e → down_code b d ≡ down_code b e → d ≡ e
unfolding down_code
down-one b d e h k s =
    let p = digit-one 2 (bit d.start) (d.parent + b * (d.above + b * d.before)) (bit e.start) (e.parent + b * (e.above + b * e.before)) (bit-lt d.start) (bit-lt e.start) s in
    let q = digit-one b d.parent (d.above + b * d.before) e.parent (e.above + b * e.before) h.0 k.0 p.1 in
    let r = digit-one b d.above d.before e.above e.before h.1 k.1 q.1 in
    ap (λ (x : Bool). record { start = x; parent = d.parent; above = d.above; before = d.before }) (bit-one d.start e.start p.0)
    ∙ (ap (λ (x : ℕ). record { start = e.start; parent = x; above = d.above; before = d.before }) q.0
    ∙ (ap (λ (x : ℕ). record { start = e.start; parent = e.parent; above = x; before = d.before }) r.0
    ∙ ap (λ (x : ℕ). record { start = e.start; parent = e.parent; above = e.above; before = x }) r.1))

-- ---- what a selector's states are upward, as a run over rules of marked instances counts them
module _ (A : Algebra Up) (W : Downward Up Down) (f k : ℕ) (few : HasFewStates A W f k) where
  is_up : Up → Bool
  is_up u = nat_lt u.chain (2 ^ f) && nat_lt u.code (2 ^ f)

  up-is : (u : Up) → IsUpOf f u → is_up u ≡ true
  unfolding is_up
  up-is u h =
      let a : nat_lt u.chain (2 ^ f) ≡ true = let b = h.chain in grind (arith, nat_tests) in
      let c : nat_lt u.code (2 ^ f) ≡ true = let b = h.code in grind (arith, nat_tests) in
      rw (a, c) refl

  is-up : (u : Up) → is_up u ≡ true → IsUpBelow (2 ^ f) u
  unfolding is_up
  is-up u h =
      let parts = and-true (nat_lt u.chain (2 ^ f)) (nat_lt u.code (2 ^ f)) h in
      let a = parts.0 in
      let b = parts.1 in
      (grind (arith, nat_tests), grind (arith, nat_tests))

  -- two truths for each of so many parts
  pub up-states : HasUpStates A (4 ^ f)
  up-states = record {
    is_state = is_up;
    number = up_code (2 ^ f);
    bottom = up-is A.bottom few.bottom;
    node = λ symbol x y p q. up-is (A.node symbol x y) (few.node symbol x y);
    below = λ u h. (let l = up-lt (2 ^ f) u (is-up u h) in let m = mul-pow 2 2 f in omega (arith, l, m));
    apart = λ u v h i e. up-one (2 ^ f) u v (is-up u h) (is-up v i) e;
  }

-- so few nodes such a run reads, beside those of the marked instances
pub made-most : (G : List Rule) (f k nodes : ℕ) → 2 * whole G + 4 * ((4 ^ f) ^ greatest_rank G * whole G + nodes) ≤ most_reads G f k + 4 * nodes
made-most G f k nodes =
    let n : ℕ = 4 ^ (greatest_rank G * f) in
    let w : ℕ = 8 ^ (k + 1) in
    let power : (4 ^ f) ^ greatest_rank G * whole G ≡ n * whole G = ap (λ m. m * whole G) (power-power 4 f (greatest_rank G)) in
    let one : 1 ≤ n = one-le-pow (greatest_rank G * f) 4 (omega arith) in
    let some : 1 * whole G ≤ n * whole G = mul-le-mul_right (whole G) one in
    let more : 1 ≤ 8 ^ k = one-le-pow k 8 (omega arith) in
    let eight : 8 ^ (k + 1) ≡ 8 ^ k * 8 = pow-add 8 k 1 in
    let many : 8 * (n * whole G) ≤ w * (n * whole G) = mul-le-mul_right (n * whole G) (omega (arith, more, eight)) in
    omega (arith, power, some, many, spread (whole G) n w)

-- ---- the bodies that runs read
module _ (A : Algebra Up) (W : Downward Up Down) (G : List Rule) (g : IsGrammar G) (f k : ℕ) (few : HasFewStates A W f k) where
  abbrev pub base : ℕ
  base = 2 ^ f

  abbrev pub deep : ℕ
  deep = 2 ^ k

  -- so many lists of states of arguments
  abbrev pub lists : ℕ
  lists = (base * base) ^ greatest_rank G

  record IsRead (p : RuleStates Up) : Type 0 where
    pub there : p.0 < length G
    pub many : length p.1 ≡ rank_at G p.0
    pub below : All (IsUpBelow base) p.1

  used-read : (r : ℕ) (args : List Up) → Uses Up A G r args → IsRead (r, args)
  used-read r args u =
      let keeps : KeepsUp A (IsUpOf f) = record { bottom = few.bottom; node = λ symbol x y p q. few.node symbol x y } in
      let t = used-there A G g r args u in
      record { there = t.0; many = t.1; below = All-weaker (IsUpOf f) (IsUpBelow base) (λ u h. (h.chain, h.code)) args (used-kept A (IsUpOf f) keeps G r args u) }

  read-told : (p q : RuleStates Up) → IsRead p → IsRead q → p.0 ≡ q.0 → ups_code base p.1 ≡ ups_code base q.1 → p ≡ q
  read-told p q a b e s =
      let n : length p.1 ≡ length q.1 = a.many ∙ (ap (rank_at G) e ∙ sym b.many) in
      let args = ups-one base p.1 q.1 n a.below b.below s in
      ap (λ (r : ℕ). (r, p.1)) e ∙ ap (λ (us : List Up). (q.0, us)) args

  read-few : (p : RuleStates Up) → IsRead p → ups_code base p.1 < lists
  read-few p a =
      let l = ups-lt base p.1 a.below in
      let one : 1 ≤ base = one-le-pow f 2 (omega arith) in
      let square : 1 * 1 ≤ base * base = mul-le-mul one one in
      let more : (base * base) ^ length p.1 ≤ lists = pow-le-pow_right {n = base * base} (omega arith) {i = length p.1} {j = greatest_rank G} (omega (arith, a.many, rank-greatest G p.0)) in
      omega arith

  pub lists-power : lists ≡ 4 ^ (greatest_rank G * f)
  lists-power = ap (λ m. m ^ greatest_rank G) (sym (mul-pow 2 2 f)) ∙ power-power 4 f (greatest_rank G)

  pub rise-few : (pairs : List (RuleStates Up)) (steps : ℕ) → ReadsOnce A G pairs steps → steps ≤ 2 * (lists * whole G)
  rise-few pairs steps reads =
      let read : All IsRead pairs = All-weaker (λ (p : RuleStates Up). Uses Up A G p.0 p.1) IsRead (λ p u. used-read p.0 p.1 u) pairs reads.met in
      let sum = sum-apart (λ (p : RuleStates Up). ups_code base p.1) (λ q. length (body_at G q)) (λ p. p.0) IsRead (λ q. lists) read-told read-few (λ (R : Rule). length R.body) G no_rule lists (λ p. refl) (λ p. refl) pairs reads.distinct read (All-weaker IsRead (λ p. p.0 < length G) (λ p a. a.there) pairs read) in
      let bound = reads.bound in
      omega (arith, sum, bound)

  -- a run downward whose states numbers below a bound tell apart
  module _ {D : Type 0} (V : Downward Up D) (Q : D → Type 0) (falls : KeepsDown V (IsUpOf f) Q) (number : D → ℕ) (many : ℕ) (below : (d : D) → Q d → number d < many) (apart : (d e : D) → Q d → Q e → number d ≡ number e → d ≡ e) where
    record IsFallen (t : RuleStates Up × D) : Type 0 where
      pub read : IsRead t.0
      pub down : Q t.1

    fallen-read : (r : ℕ) (args : List Up) (d : D) → Falls Up D A V G r args d → IsFallen ((r, args), d)
    fallen-read r args d u =
        let keeps : KeepsUp A (IsUpOf f) = record { bottom = few.bottom; node = λ symbol x y p q. few.node symbol x y } in
        record { read = used-read r args (fallen-used A V G r args d u); down = fallen-kept A V (IsUpOf f) Q keeps falls G r args d u }

    triple_code : RuleStates Up × D → ℕ
    triple_code t = number t.1 + many * ups_code base t.0.1

    fallen-told : (t u : RuleStates Up × D) → IsFallen t → IsFallen u → t.0.0 ≡ u.0.0 → triple_code t ≡ triple_code u → t ≡ u
    unfolding triple_code
    fallen-told t u a b e s =
        let same = digit-one many (number t.1) (ups_code base t.0.1) (number u.1) (ups_code base u.0.1) (below t.1 a.down) (below u.1 b.down) s in
        ap (λ (p : RuleStates Up). (p, t.1)) (read-told t.0 u.0 a.read b.read e same.1) ∙ ap (λ (d : D). (u.0, d)) (apart t.1 u.1 a.down b.down same.0)

    fallen-few : (t : RuleStates Up × D) → IsFallen t → triple_code t < many * lists
    unfolding triple_code
    fallen-few t a = digit-lt many lists (number t.1) (ups_code base t.0.1) (below t.1 a.down) (read-few t.0 a.read)

    pub fall-few : (triples : List (RuleStates Up × D)) (steps : ℕ) → FallsOnce A V G triples steps → steps ≤ 2 * (many * lists * whole G)
    fall-few triples steps once =
        let fallen : All IsFallen triples = All-weaker (λ (t : RuleStates Up × D). Falls Up D A V G t.0.0 t.0.1 t.1) IsFallen (λ t u. fallen-read t.0.0 t.0.1 t.1 u) triples once.met in
        let sum = sum-apart triple_code (λ q. length (body_at G q)) (λ t. t.0.0) IsFallen (λ q. many * lists) fallen-told fallen-few (λ (R : Rule). length R.body) G no_rule (many * lists) (λ p. refl) (λ p. refl) triples once.distinct fallen (All-weaker IsFallen (λ t. t.0.0 < length G) (λ t a. a.read.there) triples fallen) in
        let bound = once.bound in
        omega (arith, sum, bound)

  -- so many down states a selector has
  abbrev pub ways : ℕ
  ways = 2 * (deep * (deep * deep))

  pub ways-power : 4 * ways ≡ 8 ^ (k + 1)
  ways-power =
      let four : 4 ^ k ≡ deep * deep = mul-pow 2 2 k in
      let eight : 8 ^ k ≡ 2 ^ k * 4 ^ k = mul-pow 2 4 k in
      let cube : 2 ^ k * 4 ^ k ≡ deep * (deep * deep) = ap (λ m. deep * m) four in
      let next : 8 ^ (k + 1) ≡ 8 ^ k * 8 = pow-add 8 k 1 in
      omega (arith, four, eight, cube, next)

  pub down-below : (d : Down) → AreMarksBelow k d → IsDownBelow deep d
  down-below d m = (m.parent, m.above, m.before)

  selector-falls : KeepsDown W (IsUpOf f) (AreMarksBelow k)
  selector-falls = record { start = few.start; left = λ symbol d x y m p q. few.left symbol d x y; right = λ symbol d x y m p q. few.right symbol d x y }

  -- a run upward and a run downward over it read so few nodes
  pub both-few : (pairs : List (RuleStates Up)) (triples : List (RuleStates Up × Down)) (rises steps : ℕ) → ReadsOnce A G pairs rises → FallsOnce A W G triples steps → rises + steps ≤ most_reads G f k
  both-few pairs triples rises steps up down =
      let r = rise-few pairs rises up in
      let d = fall-few W (AreMarksBelow k) selector-falls (down_code deep) ways (λ d m. down-lt deep d (down-below d m)) (λ d e m l same. down-one deep d e (down-below d m) (down-below e l) same) triples steps down in
      let n : ℕ = 4 ^ (greatest_rank G * f) in
      let w : ℕ = 8 ^ (k + 1) in
      let first : lists * whole G ≡ n * whole G = ap (λ m. m * whole G) lists-power in
      let some : ways * (n * whole G) ≤ w * (n * whole G) = mul-le-mul_right (n * whole G) (omega (arith, ways-power)) in
      let second : ways * lists * whole G ≡ ways * (n * whole G) = mul_assoc ways lists (whole G) ∙ ap (λ m. ways * m) first in
      omega (arith, r, d, first, some, second, spread (whole G) n w)
