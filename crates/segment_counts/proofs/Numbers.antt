-- The weights of segments.
use Rattle.std.proofs.Common.{◌≡◌, ℕ, zero, suc, ◌+◌, ◌*◌, ◌≤◌, List, [], ◌∷◌, refl, ap, arith, sum_by, add-suc, suc-add, add-zero}
use Rattle.std.proofs.lemmas.List.Sums.{sum_by-cons}
use Rattle.rule_arena.specs.declared.label.Label.{Label}
use Rattle.rule_arena.specs.declared.label.Label.TheVariants.{Bottom, Symbol, Call, Param}
use Rattle.std.specs.Prelude.{slice_get, Option, Some, None, Bool, true, false, if◌then◌else◌}
use Rattle.plain_tree.specs.declared.kind.Kind.{Kind}
use Rattle.plain_tree.specs.Numbers.{has_value}
use Rattle.slt_grammar.specs.Grammars.{value_at}
use Rattle.slt_grammar.specs.Segments.{segment, listed, preorder}
use Rattle.slt_grammar.specs.declared.rules.Rule.{Rule}
use Rattle.slt_grammar.specs.Terms.{Term, Leaf, Node, Hole}
use Rattle.slt_grammar.proofs.Spreads.{IsPlain}
use Rattle.segment_counts.specs.Weights.{segments_sum, valued, node_weight, text_weight, all_weight}

module _ (w : Label → ℕ) where
  pub segments_sum-param : (T : List Label) (j n : ℕ) → segments_sum w (Param ∷ T) (suc j) n ≡ segments_sum w T j n
  segments_sum-param T j zero = refl
  segments_sum-param T j (suc n) = ap (λ x. sum_by w (segment j T) + x) (segments_sum-param T (suc j) n)

  pub segment-later : (l : Label) → IsPlain l → (T : List Label) (j : ℕ) → segment (suc j) (l ∷ T) ≡ segment (suc j) T
  segment-later Param h T j = absurd h
  segment-later Bottom h T j = refl
  segment-later (Symbol f) h T j = refl
  segment-later (Call q) h T j = refl

  pub segment-now : (l : Label) → IsPlain l → (T : List Label) → segment 0 (l ∷ T) ≡ l ∷ segment 0 T
  segment-now Param h T = absurd h
  segment-now Bottom h T = refl
  segment-now (Symbol f) h T = refl
  segment-now (Call q) h T = refl

  pub segments_sum-later : (l : Label) → IsPlain l → (T : List Label) (j n : ℕ) → segments_sum w (l ∷ T) (suc j) n ≡ segments_sum w T (suc j) n
  segments_sum-later l h T j zero = refl
  segments_sum-later l h T j (suc n) = rw (segment-later l h T j, segments_sum-later l h T (suc j) n)

  segments_sum-none : (j n : ℕ) → segments_sum w [] j n ≡ 0
  segments_sum-none j zero = refl
  segments_sum-none j (suc n) = omega (arith, segments_sum-none (suc j) n)

  within-plain : (l : Label) → IsPlain l → (T : List Label) (i : ℕ) → ((j : ℕ) → segments_sum w T 0 j + sum_by w (segment j T) ≤ sum_by w T) → segments_sum w (l ∷ T) 0 i + sum_by w (segment i (l ∷ T)) ≤ sum_by w (l ∷ T)
  within-plain l p T zero ih = omega (arith, sum_by-cons w l T, sum_by-cons w l (segment 0 T), ap (sum_by w) (segment-now l p T), ih 0)
  within-plain l p T (suc i) ih =
      omega (arith, sum_by-cons w l T, sum_by-cons w l (segment 0 T), ap (sum_by w) (segment-now l p T), ap (sum_by w) (segment-later l p T i), segments_sum-later l p T 0 i, ih (suc i))

  -- no more than the whole
  pub segment-within : (T : List Label) (i : ℕ) → segments_sum w T 0 i + sum_by w (segment i T) ≤ sum_by w T
  segment-within [] i = omega (arith, segments_sum-none 0 i)
  segment-within (Param ∷ T) zero = omega arith
  segment-within (Param ∷ T) (suc i) = omega (arith, sum_by-cons {X = Label}, segments_sum-param T 0 i, segment-within T i)
  segment-within (Bottom ∷ T) i = within-plain Bottom tt T i (segment-within T)
  segment-within (Symbol f ∷ T) i = within-plain (Symbol f) tt T i (segment-within T)
  segment-within (Call q ∷ T) i = within-plain (Call q) tt T i (segment-within T)

  pub segments_sum-suc : (T : List Label) (j n : ℕ) → segments_sum w T j (suc n) ≡ segments_sum w T j n + sum_by w (segment (j + n) T)
  segments_sum-suc T j zero = rw (add-zero j) (omega arith)
  segments_sum-suc T j (suc n) = rw (add-suc j n, ← suc-add j n) (omega (arith, segments_sum-suc T (suc j) n))

-- a value has at most one bottom more than it has nodes
pub all-listed : (t : Term) (k : List Label) → sum_by all_weight (listed t k) ≤ 2 * sum_by node_weight (listed t []) + 1 + sum_by all_weight k
all-listed Leaf k = omega (arith, sum_by-cons all_weight Bottom k)
all-listed (Hole i) k = omega (arith, sum_by-cons all_weight Param k)
all-listed (Node f a b) k =
    omega (arith, sum_by-cons all_weight (Symbol f) (listed a (listed b k)), sum_by-cons node_weight (Symbol f) (listed a (listed b [])), all-listed a (listed b k), all-listed b k, nodes-listed a (listed b []))
  where
    nodes-listed : (t : Term) (k : List Label) → sum_by node_weight (listed t k) ≡ sum_by node_weight (listed t []) + sum_by node_weight k
    nodes-listed Leaf k = omega (arith, sum_by-cons node_weight Bottom k)
    nodes-listed (Hole i) k = omega (arith, sum_by-cons node_weight Param k)
    nodes-listed (Node f a b) k = omega (arith, sum_by-cons node_weight (Symbol f) (listed a (listed b k)), sum_by-cons node_weight (Symbol f) (listed a (listed b [])), nodes-listed a (listed b k), nodes-listed b k, nodes-listed a (listed b []))

valued-small : (o : Option (Kind × List ℕ)) → valued o ≤ 1
valued-small None = omega arith
valued-small (Some (kind, name)) = by_test (has_value kind)
  where
    by_test : (b : Bool) → (if b then 1 else 0) ≤ 1
    by_test true = omega arith
    by_test false = omega arith

-- a value has no more texts than nodes
pub texts-few : (names : List (Kind × List ℕ)) (ls : List Label) → sum_by (text_weight names) ls ≤ sum_by node_weight ls
texts-few names [] = omega arith
texts-few names (Bottom ∷ ls) = omega (arith, sum_by-cons (text_weight names) Bottom ls, sum_by-cons node_weight Bottom ls, texts-few names ls)
texts-few names (Symbol f ∷ ls) = omega (arith, sum_by-cons (text_weight names) (Symbol f) ls, sum_by-cons node_weight (Symbol f) ls, texts-few names ls, valued-small (slice_get names f))
texts-few names (Call q ∷ ls) = omega (arith, sum_by-cons (text_weight names) (Call q) ls, sum_by-cons node_weight (Call q) ls, texts-few names ls)
texts-few names (Param ∷ ls) = omega (arith, sum_by-cons (text_weight names) Param ls, sum_by-cons node_weight Param ls, texts-few names ls)

-- and at most one bottom more than nodes
pub all-few : (G : List Rule) (q : ℕ) → sum_by all_weight (preorder G q) ≤ 2 * sum_by node_weight (preorder G q) + 1
all-few G q = omega (arith, all-listed (value_at G q) [])
