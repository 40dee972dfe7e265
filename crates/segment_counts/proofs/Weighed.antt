-- Weights by one measure, and the row that a tally makes.
use Rattle.std.proofs.Common.{◌≡◌, ℕ, zero, suc, ◌+◌, ◌^◌, ◌<◌, ◌≤◌, List, [], ◌∷◌, get_or, refl, ap, sym, ◌∙◌, arith, sum_by, ◌⊎◌, inl, inr}
use Rattle.std.specs.Prelude.{map, set, take}
use Rattle.std.proofs.lemmas.Bool.{cases_lt}
use Rattle.rule_arena.specs.declared.label.Label.{Label}
use Rattle.rule_arena.specs.declared.label.Label.TheVariants.{Bottom, Symbol, Call, Param}
use Rattle.slt_grammar.specs.Bodies.{params}
use Rattle.slt_grammar.specs.Segments.{segment}
use Rattle.segment_counts.specs.Counting.{no_weights, weight_by}
use Rattle.segment_counts.specs.Tallies.{Adds, Tally, limit_by, row_of, tally_by}
use Rattle.segment_counts.specs.declared.counts.Measure.{Measure}
use Rattle.segment_counts.specs.declared.counts.Measure.TheVariants.{Nodes, Texts, All}
use Rattle.segment_counts.specs.declared.counts.Weights.{Weights}
use Rattle.segment_counts.specs.declared.tally.Tallies.{Tallies}
use Rattle.segment_counts.proofs.Sums.{IsTally, tally-end}

nothing : (m : Measure) → 0 ≡ weight_by m no_weights
nothing Nodes = refl
nothing Texts = refl
nothing All = refl

pub weight_at : (m : Measure) (ws : List Weights) (i : ℕ) → get_or (map (weight_by m) ws) i 0 ≡ weight_by m (get_or ws i no_weights)
weight_at m [] i = nothing m
weight_at m (w ∷ ws) zero = refl
weight_at m (w ∷ ws) (suc i) = weight_at m ws i

pub weight_set : (m : Measure) (ws : List Weights) (at n : ℕ) (w : Weights) → weight_by m w ≡ get_or (map (weight_by m) ws) at 0 + n → map (weight_by m) (set ws at w) ≡ set (map (weight_by m) ws) at (get_or (map (weight_by m) ws) at 0 + n)
weight_set m [] at n w e = refl
weight_set m (x ∷ ws) zero n w e = ap (λ k. k ∷ map (weight_by m) ws) e
weight_set m (x ∷ ws) (suc at) n w e = ap (λ ks. weight_by m x ∷ ks) (weight_set m ws at n w e)

limit-fits : (m : Measure) → limit_by m < 2 ^ 64
limit-fits Nodes = omega arith
limit-fits Texts = omega arith
limit-fits All = omega arith

-- what a segment weighs has room too where all has
pub fits-there : (m : Measure) (t : Tallies) (w : Weights) → ((i : ℕ) → get_or (tally_by m t).sums i 0 ≤ (tally_by m t).total) → weight_by m t.total + weight_by m w ≤ limit_by m → weight_by m (get_or t.sums t.at no_weights) + weight_by m w < 2 ^ 64
fits-there m t w under h = omega (arith, under t.at, h, weight_at m t.sums t.at, limit-fits m)

abbrev made : List ℕ → ℕ → ℕ → Tally
made sums at total = record { sums = sums; at = at; total = total }

-- weights were added to those of a segment
pub added : (m : Measure) (l : Label) → (l ≡ Param → ⊥) → (t : Tallies) (w p q : Weights) → weight_by m p ≡ weight_by m (get_or t.sums t.at no_weights) + weight_by m w → weight_by m q ≡ weight_by m t.total + weight_by m w
    → Adds l (weight_by m w) (tally_by m t) (tally_by m (record { sums = set t.sums t.at p; at = t.at; total = q }))
added m l n t w p q one all = by l n where
  sums-are : map (weight_by m) (set t.sums t.at p) ≡ set (map (weight_by m) t.sums) t.at (get_or (map (weight_by m) t.sums) t.at 0 + weight_by m w)
  sums-are = weight_set m t.sums t.at (weight_by m w) p (omega (arith, one, weight_at m t.sums t.at))

  both : tally_by m (record { sums = set t.sums t.at p; at = t.at; total = q }) ≡ made (set (map (weight_by m) t.sums) t.at (get_or (map (weight_by m) t.sums) t.at 0 + weight_by m w)) t.at (weight_by m t.total + weight_by m w)
  both = ap (λ ss. made ss t.at (weight_by m q)) sums-are ∙ ap (made (set (map (weight_by m) t.sums) t.at (get_or (map (weight_by m) t.sums) t.at 0 + weight_by m w)) t.at) all

  by : (l : Label) → (l ≡ Param → ⊥) → Adds l (weight_by m w) (tally_by m t) (tally_by m (record { sums = set t.sums t.at p; at = t.at; total = q }))
  by Param n = absurd (n refl)
  by Bottom n = both
  by (Symbol f) n = both
  by (Call q) n = both

front : (ws : List Weights) (n i : ℕ) → i < n → get_or (take n ws) i no_weights ≡ get_or ws i no_weights
front [] zero i h = absurd (omega arith)
front [] (suc n) i h = refl
front (w ∷ ws) zero i h = absurd (omega arith)
front (w ∷ ws) (suc n) zero h = refl
front (w ∷ ws) (suc n) (suc i) h = front ws n i (omega arith)

behind : (ws : List Weights) (n i : ℕ) → n ≤ i → get_or (take n ws) i no_weights ≡ no_weights
behind [] zero i h = refl
behind [] (suc n) i h = refl
behind (w ∷ ws) zero i h = refl
behind (w ∷ ws) (suc n) zero h = absurd (omega arith)
behind (w ∷ ws) (suc n) (suc i) h = behind ws n i (omega arith)

-- no segment is behind the last parameter's
segment-past : (i : ℕ) (ls : List Label) → params ls < i → segment i ls ≡ []
segment-past i [] h = refl
segment-past zero (l ∷ ls) h = absurd (omega arith)
segment-past (suc i) (Param ∷ ls) h = segment-past i ls (omega arith)
segment-past (suc i) (Bottom ∷ ls) h = segment-past (suc i) ls h
segment-past (suc i) (Symbol f ∷ ls) h = segment-past (suc i) ls h
segment-past (suc i) (Call q ∷ ls) h = segment-past (suc i) ls h

-- the row of a tally that took in all labels has what each of their segments weighs
pub row-weighs : (w : Label → ℕ) (all : List Label) (m : Measure) (t : Tallies) → IsTally w all [] (tally_by m t) → (i : ℕ) → weight_by m (get_or (row_of t) i no_weights) ≡ sum_by w (segment i all)
row-weighs w all m t k i = by (cases_lt i (t.at + 1)) where
  by : (i < t.at + 1) ⊎ (t.at + 1 ≤ i) → weight_by m (get_or (row_of t) i no_weights) ≡ sum_by w (segment i all)
  by (inl h) = ap (weight_by m) (front t.sums (t.at + 1) i h) ∙ sym (weight_at m t.sums i) ∙ tally-end w all (tally_by m t) k i
  by (inr h) = ap (weight_by m) (behind t.sums (t.at + 1) i h) ∙ sym (nothing m) ∙ sym (ap (sum_by w) (segment-past i all (omega (arith, k.place))))
