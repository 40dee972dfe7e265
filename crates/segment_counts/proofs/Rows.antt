-- The rows of the rules that were counted.
use Rattle.std.proofs.Common.{◌≡◌, ℕ, zero, suc, ◌-◌, ◌^◌, ◌<◌, ◌≤◌, List, [], ◌∷◌, length, get_or, refl, ap, sym, ◌∙◌, arith, sum_by, ◌⊎◌, inl, inr, subst}
use Rattle.std.specs.Prelude.{set}
use Rattle.std.proofs.lemmas.Bool.{cases_lt}
use Rattle.plain_tree.specs.declared.kind.Kind.{Kind}
use Rattle.slt_grammar.specs.Grammars.{IsGrammar, IsSwept, value_at}
use Rattle.slt_grammar.specs.Segments.{listed, preorder, segment}
use Rattle.slt_grammar.specs.Terms.{Term}
use Rattle.slt_grammar.specs.declared.rules.Rule.{Rule}
use Rattle.segment_counts.specs.Changes.{IsRowOf}
use Rattle.segment_counts.specs.Counting.{AreCounts, AreCountsBelow, CountTable, no_row, no_weights, told, weight_by}
use Rattle.segment_counts.specs.Weights.{weigh, count, node_weight}
use Rattle.segment_counts.specs.declared.counts.Measure.{Measure}
use Rattle.segment_counts.specs.declared.counts.Measure.TheVariants.{Nodes, Texts, All}
use Rattle.segment_counts.specs.declared.counts.Weights.{Weights}
use Rattle.segment_counts.proofs.Numbers.{all-listed, texts-few}
use Rattle.segment_counts.proofs.Sizes.{none-larger}

row-set : (C : List (List Weights)) (k q : ℕ) (R : List Weights) → q < k → get_or (set C k R) q no_row ≡ get_or C q no_row
row-set [] k q R h = refl
row-set (S ∷ C) zero q R h = absurd (omega arith)
row-set (S ∷ C) (suc k) zero R h = refl
row-set (S ∷ C) (suc k) (suc q) R h = row-set C k q R (omega arith)

row-new : (C : List (List Weights)) (k : ℕ) (R : List Weights) → k < length C → get_or (set C k R) k no_row ≡ R
row-new [] k R h = absurd (omega arith)
row-new (S ∷ C) zero R h = refl
row-new (S ∷ C) (suc k) R h = row-new C k R (omega arith)

pub length-row : (C : List (List Weights)) (k : ℕ) (R : List Weights) → length (set C k R) ≡ length C
length-row [] k R = refl
length-row (S ∷ C) zero R = refl
length-row (S ∷ C) (suc k) R = ap suc (length-row C k R)

pub below-none : (names : List (Kind × List ℕ)) (G : List Rule) (C : List (List Weights)) → AreCountsBelow names 0 G C
below-none names G C = record { each = λ m q i h. absurd (omega arith); small = λ m q h. absurd (omega arith) }

-- a row by its segments, where the value has few nodes
pub few-row : (names : List (Kind × List ℕ)) (t : Term) (R : List Weights) → ((m : Measure) (i : ℕ) → weight_by m (get_or R i no_weights) ≡ sum_by (weigh names m) (segment i (listed t []))) → sum_by node_weight (listed t []) < 2 ^ 63 → IsRowOf names t R
few-row names t R f h = record { each = f; small = small }
  where
    small : (m : Measure) → sum_by (weigh names m) (listed t []) < 2 ^ 64
    small Nodes = omega (arith, h)
    small Texts = omega (arith, h, texts-few names (listed t []))
    small All = omega (arith, h, all-listed t [])

-- the rules before k are counted, and the row of rule k is put in
module _ (names : List (Kind × List ℕ)) (G : List Rule) (k : ℕ) (C : List (List Weights)) (c : AreCountsBelow names k G C) (h : k < length C) (R : List Weights) (r : IsRowOf names (value_at G k) R) where
  told-new : (m : Measure) (i : ℕ) → told m (set C k R) k i ≡ count (weigh names m) G k i
  told-new m i = ap (λ (S : List Weights). weight_by m (get_or S i no_weights)) (row-new C k R h) ∙ r.each m i

  each : (m : Measure) (q i : ℕ) → (q < k) ⊎ (k ≤ q) → q < suc k → told m (set C k R) q i ≡ count (weigh names m) G q i
  each m q i (inl l) d = ap (λ (S : List Weights). weight_by m (get_or S i no_weights)) (row-set C k q R l) ∙ c.each m q i l
  each m q i (inr e) d = let z : q ≡ k = omega arith in subst (λ (j : ℕ). told m (set C k R) j i ≡ count (weigh names m) G j i) (sym z) (told-new m i)

  small_at : (m : Measure) (q : ℕ) → (q < k) ⊎ (k ≤ q) → q < suc k → sum_by (weigh names m) (preorder G q) < 2 ^ 64
  small_at m q (inl l) d = c.small m q l
  small_at m q (inr e) d = let z : q ≡ k = omega arith in subst (λ (j : ℕ). sum_by (weigh names m) (preorder G j) < 2 ^ 64) (sym z) (r.small m)

  pub below-row : AreCountsBelow names (suc k) G (set C k R)
  below-row = record { each = λ m q i l. each m q i (cases_lt q k) l; small = λ m q l. small_at m q (cases_lt q k) l }

-- and it was counted
pub below-more : (names : List (Kind × List ℕ)) (G : List Rule) (k : ℕ) (C : List (List Weights)) → AreCountsBelow names k G C → k < length C → (R : List Weights)
    → ((m : Measure) (i : ℕ) → weight_by m (get_or R i no_weights) ≡ count (weigh names m) G k i) → sum_by node_weight (preorder G k) < 2 ^ 63 → AreCountsBelow names (suc k) G (set C k R)
below-more names G k C c h R row few = below-row names G k C c h R (few-row names (value_at G k) R row few)

-- all rules were counted
pub counted-all : (names : List (Kind × List ℕ)) (G : List Rule) (k : ℕ) (C : CountTable) → k ≡ length G → AreCountsBelow names k G C.rows → C.rules ≡ k → k ≤ length C.rows → AreCounts names G C
counted-all names G k C e a n f = record { rules = n ∙ e; room = omega (arith, e, f); numbers = subst (λ j. AreCountsBelow names j G C.rows) e a }

-- a rule with too many nodes makes the value have too many
pub too-many-whole : (G : List Rule) → IsGrammar G → IsSwept G → (q : ℕ) → q < length G → 2 ^ 63 ≤ sum_by node_weight (preorder G q) → 2 ^ 63 ≤ sum_by node_weight (preorder G (length G - 1))
too-many-whole G g s q h b = omega (arith, b, none-larger node_weight refl G g s (length G) q h (omega arith))
