-- What rules save.
use Rattle.std.proofs.Common.{◌≡◌, ℕ, zero, suc, ◌+◌, ◌-◌, ◌*◌, ◌<◌, ◌≤◌, ◌^◌, List, [], ◌∷◌, length, slice_get, Some, sym, ap, subst, arith}
use Rattle.std.proofs.lemmas.List.{length-map}
use Rattle.rule_arena.specs.Preorder.{AreTerms}
use Rattle.rule_arena.specs.Terms.{Node, kids_of}
use Rattle.rule_arena.specs.declared.label.Label.{Label}
use Rattle.rule_arena.specs.declared.label.Label.TheVariants.{Bottom, Symbol, Call, Param}
use Rattle.slt_grammar.specs.Bodies.{real_nodes}
use Rattle.slt_grammar.specs.Grammars.{body_at, rank_at}
use Rattle.slt_grammar.specs.Keyed.{Keyed, IsKeyed, nodes_at, rules_of}
use Rattle.slt_grammar.proofs.CallCounts.{nodes-room, real_nodes-are}
use Rattle.slt_grammar.proofs.KeyedLemmas.{body_at-rules_of, length-rules_of, nodes-are-term}
use Rattle.slt_grammar.proofs.Copies.{few-terms}
use Rattle.std.specs.Prelude.{ℤ, pos, ◌*ℤ◌, ◌-ℤ◌, FitsSigned, unsigned_abs, Bool, true, false, MatchBool}
use Rattle.std.proofs.lemmas.Int.{ints, fits_signed_mul}
use Rattle.std.specs.Int.{w128}

pub real-cons : (l : Label) (ls : List Label) → real_nodes (l ∷ ls) ≡ real_nodes (l ∷ []) + real_nodes ls
real-cons Bottom ls = omega arith
real-cons (Symbol f) ls = omega arith
real-cons (Call q) ls = omega arith
real-cons Param ls = omega arith

-- a body's nodes are few
pub body-few : (g : Keyed) → IsKeyed g → (r : ℕ) → r < length g.rules → real_nodes (body_at (rules_of g.rules) r) < 2 ^ 63
body-few g K r h =
    let G = rules_of g.rules in
    omega (arith, K.few, nodes-room G r (omega (arith, h, length-rules_of g.rules)), real_nodes-are (body_at G r))

-- with its parameters a body has as many nodes as stand in it
pub body-length : (g : Keyed) → IsKeyed g → (r : ℕ) → r < length g.rules → real_nodes (body_at (rules_of g.rules) r) + rank_at (rules_of g.rules) r ≡ length (nodes_at g.rules r)
body-length g K r h =
    let G = rules_of g.rules in
    omega (
      arith,
      real_nodes-are (body_at G r),
      (K.grammar.each r (omega (arith, h, length-rules_of g.rules))).linear,
      ap length (body_at-rules_of g.rules r),
      length-map (nodes_at g.rules r) (λ (n : Node). n.label),
    )

-- so it has no fewer than its root and a node below each child
pub root-tells : (g : Keyed) → IsKeyed g → (r : ℕ) → r < length g.rules → (n : Node) → slice_get (nodes_at g.rules r) 0 ≡ Some n → n.kids + 1 ≤ real_nodes (body_at (rules_of g.rules) r) + rank_at (rules_of g.rules) r
root-tells g K r h n there = omega (arith, body-length g K r h, below (nodes_at g.rules r) there (nodes-are-term g K r h))
  where
    below : (ns : List Node) → slice_get ns 0 ≡ Some n → AreTerms kids_of 1 ns → n.kids + 1 ≤ length ns
    below [] z t = absurd t
    below (m ∷ ns) z t =
        let e : m ≡ n = cc in
        omega (arith, few-terms (m.kids + 0) ns t, ap (λ (x : Node). x.kids) e)

one-less : (n : ℕ) → pos (suc n) -ℤ pos 1 ≡ pos n
one-less n = omega (arith, ints)

-- what r calls of a body of s nodes come to is within 128 bits
less-small : (s : ℕ) → s < 2 ^ 63 → unsigned_abs (pos s -ℤ pos 1) ≤ 2 ^ 63
less-small zero h = omega arith
less-small (suc n) h = subst (λ (z : ℤ). unsigned_abs z ≤ 2 ^ 63) (sym (one-less n)) (omega (arith, h))

pub less-fits : (s : ℕ) → s < 2 ^ 63 → FitsSigned w128 (pos s -ℤ pos 1)
less-fits s h = omega (arith, ints)

pub product-fits : (r s : ℕ) → r < 2 ^ 64 → s < 2 ^ 63 → FitsSigned w128 (pos r *ℤ (pos s -ℤ pos 1))
product-fits r s h k = fits_signed_mul w128 (pos r) (pos s -ℤ pos 1) (2 ^ 64 - 1) (2 ^ 63) (omega (arith, h)) (less-small s k) (omega arith)

pub saving-fits : (r s : ℕ) → r < 2 ^ 64 → s < 2 ^ 63 → FitsSigned w128 ((pos r *ℤ (pos s -ℤ pos 1)) -ℤ pos s)
saving-fits r zero h k = omega (arith, ints)
saving-fits r (suc n) h k =
    let f : FitsSigned w128 (pos (r * n)) = subst (λ (z : ℤ). FitsSigned w128 (pos r *ℤ z)) (one-less n) (product-fits r (suc n) h k) in
    subst (λ (z : ℤ). FitsSigned w128 ((pos r *ℤ z) -ℤ pos (suc n))) (sym (one-less n)) (fits (r * n) (suc n) f k)
  where
    fits : (m b : ℕ) → FitsSigned w128 (pos m) → b < 2 ^ 63 → FitsSigned w128 (pos m -ℤ pos b)
    fits m b f k = omega (arith, ints, f)

-- where more calls save more
pub saves-more : (c d s : ℕ) → c ≤ d → s < c * (s - 1) → s < d * (s - 1)
saves-more c d s h k = let m = rises c d (s - 1) h in omega (arith, m, k)
  where
    rises : (a b x : ℕ) → a ≤ b → a * x ≤ b * x
    rises a b x h = let e : b ≡ a + (b - a) = omega (arith, h) in subst (λ (y : ℕ). a * x ≤ y * x) (sym e) (omega arith)

-- a rule that is called once at most saves nothing
pub once-saves-none : (c s : ℕ) → c < 2 → s < c * (s - 1) → ⊥
once-saves-none zero s l h = omega (arith, h)
once-saves-none (suc zero) s l h = omega (arith, h)
once-saves-none (suc (suc c)) s l h = omega (arith, l)

single-saves-none : (c s : ℕ) → s < 2 → s < c * (s - 1) → ⊥
single-saves-none c zero h l = omega (arith, l)
single-saves-none c (suc zero) h l = omega (arith, l)
single-saves-none c (suc (suc s)) h l = omega (arith, h)

-- with two calls a body of three nodes saves some
pub twice-told : (b : Bool) (c s : ℕ) → c ≡ 2 → MatchBool b (3 ≤ s) (s < 3) → MatchBool b (s < c * (s - 1)) (s < c * (s - 1) → ⊥)
twice-told true c s e h = subst (λ (x : ℕ). s < x * (s - 1)) (sym e) (omega (arith, h))
twice-told false c s e h = λ l. let k : s < 2 * (s - 1) = subst (λ (x : ℕ). s < x * (s - 1)) e l in omega (arith, h, k)

-- with more calls one of two nodes does
pub often-told : (b : Bool) (c s : ℕ) → 3 ≤ c → MatchBool b (2 ≤ s) (s < 2) → MatchBool b (s < c * (s - 1)) (s < c * (s - 1) → ⊥)
often-told true c s k h = saves-more 3 c s k (omega (arith, h))
often-told false c s k h = single-saves-none c s h
