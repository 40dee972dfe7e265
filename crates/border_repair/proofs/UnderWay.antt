-- Edges that are counted from the start down, each rule's as often as it is used.
use Rattle.std.proofs.Common.{◌≡◌, ◌≢◌, ◌⊎◌, inl, inr, ℕ, zero, suc, ◌+◌, ◌*◌, ◌-◌, ◌<◌, ◌≤◌, ◌^◌, List, [], ◌∷◌, None, length, get_or, set, min, if◌then◌else◌, eqb, true, false, ap, ◌∙◌, arith, get_or-set_same, get_or-set_other, length-set}
use Rattle.std.proofs.Math.Nat.{mul-le-mul_left}
use Rattle.std.proofs.lemmas.Bool.{cases_lt}
use Rattle.std.proofs.lemmas.Bool.Decides.{eqb_tells}
use Rattle.slt_grammar.specs.Automata.{nodes_in}
use Rattle.slt_grammar.specs.Bodies.{calls_in}
use Rattle.slt_grammar.specs.Grammars.{IsGrammar, body_at, value}
use Rattle.slt_grammar.specs.declared.digram.Digram.{Digram}
use Rattle.slt_grammar.specs.declared.rules.Rule.{Rule}
use Rattle.border_repair.specs.Counted.{counted}
use Rattle.border_repair.specs.Digrams.{is, occurrences}
use Rattle.border_repair.specs.Rims.{rim_at, AreRimsOf}
use Rattle.border_repair.specs.Using.{start_used, used_with, arises_before}
use Rattle.border_repair.specs.Weighing.{Rim, arisen}
use Rattle.border_repair.specs.declared.edge.Edge.{Edge}
use Rattle.border_repair.proofs.WeightLemmas.{all-arises, occurrences-small}

-- the rules from one on are done: the uses of those before it are known up to the greatest word, and the edges weigh what they do
-- together with what arises before it
pub record IsUnderWay (G : List Rule) (rims : List Rim) (left : ℕ) (uses : List ℕ) (es : List (Edge × ℕ)) : Type 0 where
  pub used : ℕ → ℕ
  pub many : length uses ≡ length G
  pub within : left ≤ length G
  pub kept : (q : ℕ) → q < left → get_or uses q 0 ≡ min (used q) (2 ^ 64 - 1)
  pub weighs : (d : Digram) → counted es d + arises_before (is d) G (rim_at rims) left used ≡ occurrences d G

pub under-way : (G : List Rule) (rims : List Rim) (zeros : List ℕ) (es : List (Edge × ℕ)) → IsGrammar G → AreRimsOf G rims → length zeros ≡ length G → ((q : ℕ) → get_or zeros q 0 ≡ 0)
    → ((d : Digram) → counted es d ≡ 0) → IsUnderWay G rims (length G) (set zeros (length G - 1) 1) es
under-way G rims zeros es g are many none empty = record {
  used = start_used (length G - 1);
  many = length-set zeros (length G - 1) 1 ∙ many;
  within = omega arith;
  kept = λ q l. by_test q l (eqb_tells q (length G - 1));
  weighs = λ d. zero-plus (counted es d) (occurrences d G) (arises_before (is d) G (rim_at rims) (length G) (start_used (length G - 1))) (empty d) (all-arises (is d) G (rim_at rims) g are.each);
}
  where
    zero-plus : (c w a : ℕ) → c ≡ 0 → w ≡ a → c + a ≡ w
    zero-plus c w a x y = omega arith

    by_test : (q : ℕ) → q < length G → ((eqb q (length G - 1) ≡ true) × (q ≡ length G - 1)) ⊎ ((eqb q (length G - 1) ≡ false) × (q ≢ length G - 1))
        → get_or (set zeros (length G - 1) 1) q 0 ≡ min (if eqb q (length G - 1) then 1 else 0) (2 ^ 64 - 1)
    by_test q l (inl x) = rw x.0 (ap (λ k. get_or (set zeros (length G - 1) 1) k 0) x.1 ∙ get_or-set_same zeros (length G - 1) 1 0 (omega arith))
    by_test q l (inr x) = rw x.0 (get_or-set_other zeros (length G - 1) q 1 0 x.1 ∙ none q)

-- a count that stays at the greatest word is right where something is counted by it
exact : (most u t a c r w : ℕ) → t ≡ min u most → c + (u * a + r) ≡ w → w < most → t * a ≡ u * a
exact most u t zero c r w e s l = omega arith
exact most u t (suc a) c r w e s l =
    let m : u * 1 ≤ u * suc a = mul-le-mul_left u (omega arith) in
    let same : t ≡ u = omega arith in
    ap (λ n. n * suc a) same

-- sums of counts that stay at the greatest word
saturated : (most a b c : ℕ) → min (min a most + min b most * c) most ≡ min (a + b * c) most
saturated most a b zero = omega arith
saturated most a b (suc c) = by_place (cases_lt most b) where
  by_place : (most < b) ⊎ (b ≤ most) → min (min a most + min b most * suc c) most ≡ min (a + b * suc c) most
  by_place (inl x) =
      let s : min b most ≡ most = omega arith in
      let m : most * 1 ≤ most * suc c = mul-le-mul_left most (omega arith) in
      let n : b * 1 ≤ b * suc c = mul-le-mul_left b (omega arith) in
      rw s (omega arith)
  by_place (inr x) =
      let s : min b most ≡ b = omega arith in
      rw s (omega arith)

module _ (G : List Rule) (rims : List Rim) (k : ℕ) (uses : List ℕ) (es : List (Edge × ℕ)) (w : IsUnderWay G rims (suc k) uses es) (few : nodes_in (value G) < 2 ^ 63) where
  arises : Digram → ℕ
  arises d = arisen (rim_at rims) (is d) (None ∷ []) (body_at G k)

  small : (d : Digram) → occurrences d G < 2 ^ 64 - 1
  small d = omega (arith, occurrences-small d G)

  module _ (times : ℕ) (are : times ≡ get_or uses k 0) where
    abbrev adds : Digram → ℕ
    adds d = times * arisen (rim_at rims) (is d) (None ∷ []) (body_at G k)

    right : (d : Digram) → adds d ≡ w.used k * arisen (rim_at rims) (is d) (None ∷ []) (body_at G k)
    right d = exact (2 ^ 64 - 1) (w.used k) times (arisen (rim_at rims) (is d) (None ∷ []) (body_at G k)) (counted es d) (arises_before (is d) G (rim_at rims) k (used_with G k w.used)) (occurrences d G)
        (are ∙ w.kept k (omega arith)) (w.weighs d) (small d)

    -- what arises in the next rule can be added
    pub can-add : (d : Digram) → counted es d + adds d < 2 ^ 64
    can-add d = omega (arith, right d, w.weighs d, small d)

    pub next-way : (news : List ℕ) (fs : List (Edge × ℕ)) → length news ≡ length uses → ((q : ℕ) → q < length uses → get_or news q 0 ≡ min (get_or uses q 0 + times * calls_in q (body_at G k)) (2 ^ 64 - 1))
        → ((d : Digram) → counted fs d ≡ counted es d + adds d) → IsUnderWay G rims k news fs
    next-way news fs n more c = record {
      used = used_with G k w.used;
      many = n ∙ w.many;
      within = omega (arith, w.within);
      kept = λ q l. more q (omega (arith, w.many, w.within)) ∙ ap (λ (u : ℕ). min (u + times * calls_in q (body_at G k)) (2 ^ 64 - 1)) (w.kept q (omega arith))
          ∙ ap (λ (t : ℕ). min (min (w.used q) (2 ^ 64 - 1) + t * calls_in q (body_at G k)) (2 ^ 64 - 1)) (are ∙ w.kept k (omega arith)) ∙ saturated (2 ^ 64 - 1) (w.used q) (w.used k) (calls_in q (body_at G k));
      weighs = λ d. moved (counted es d) (counted fs d) (adds d) (w.used k * arisen (rim_at rims) (is d) (None ∷ []) (body_at G k)) (arises_before (is d) G (rim_at rims) k (used_with G k w.used)) (occurrences d G) (c d) (right d) (w.weighs d);
    }
      where
        moved : (x y a b r o : ℕ) → y ≡ x + a → a ≡ b → x + (b + r) ≡ o → y + r ≡ o
        moved x y a b r o e f g = omega arith

pub all-weighed : (G : List Rule) (rims : List Rim) (uses : List ℕ) (es : List (Edge × ℕ)) → IsUnderWay G rims 0 uses es → (d : Digram) → counted es d ≡ occurrences d G
all-weighed G rims uses es w d = let h = w.weighs d in plus-none (counted es d) (occurrences d G) h where
  plus-none : (a b : ℕ) → a + 0 ≡ b → a ≡ b
  plus-none a b e = omega arith
