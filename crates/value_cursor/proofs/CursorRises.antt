-- No cursor opens more nodes at once than one over the whole value.
use Rattle.std.proofs.Common.{◌≡◌, ℕ, ◌+◌, ◌≤◌, List, [], ◌∷◌, ◌++◌, ap, ◌∙◌, arith, subst, ◌⊎◌, inl, inr}
use Rattle.std.proofs.lemmas.List.Sums.{sum_by-cons}
use Rattle.rule_arena.specs.declared.label.Label.{Label}
use Rattle.rule_arena.specs.declared.label.Label.TheVariants.{Bottom, Symbol, Param}
use Rattle.slt_grammar.specs.Grammars.{value}
use Rattle.slt_grammar.specs.Keyed.{KeyedRule, rules_of}
use Rattle.slt_grammar.specs.Segments.{listed}
use Rattle.slt_grammar.specs.Terms.{Term, Leaf, Node, Hole}
use Rattle.segment_counts.specs.Weights.{node_weight}
use Rattle.value_cursor.specs.Cursors.{BeginsAtNode, left_of}
use Rattle.value_cursor.specs.Rises.{RisesAtMost, close_weight, closes, opens}
use Rattle.value_cursor.specs.declared.cursor.Cursor.{Cursor}
use Rattle.value_cursor.proofs.RiseLemmas.{back}

-- within a term no more nodes are closed than opened, and at its end one more at most
CloseNoMore : List Label → List Label → List Label → Type 0
CloseNoMore k before left = (closes before ≤ opens before) ⊎ ((b : List Label) × (k ≡ b ++ left) × (closes before + opens b ≤ opens before + closes b + 1))

closes-few : (t : Term) (k before left : List Label) → listed t k ≡ before ++ left → CloseNoMore k before left
unfolding CloseNoMore
closes-few t k [] left e = inl (omega arith)
closes-few Leaf k (x ∷ b) left e =
    let h : Bottom ≡ x = cc in
    let r : k ≡ b ++ left = cc in
    inr (b, r, omega (arith, sum_by-cons close_weight x b, sum_by-cons node_weight x b, ap close_weight h, ap node_weight h))
closes-few (Hole i) k (x ∷ b) left e =
    let h : Param ≡ x = cc in
    let r : k ≡ b ++ left = cc in
    inr (b, r, omega (arith, sum_by-cons close_weight x b, sum_by-cons node_weight x b, ap close_weight h, ap node_weight h))
closes-few (Node f s t) k (x ∷ b) left e =
    let h : Symbol f ≡ x = cc in
    let r : listed s (listed t k) ≡ b ++ left = cc in
    by-first (closes-few s (listed t k) b left r) (λ c u. closes-few t k c left u)
    (omega (arith, sum_by-cons close_weight x b, ap close_weight h)) (omega (arith, sum_by-cons node_weight x b, ap node_weight h))
  where
    by-second : (c : List Label) → closes b + opens c ≤ opens b + closes c + 1 → closes (x ∷ b) ≡ closes b → opens (x ∷ b) ≡ opens b + 1 → CloseNoMore k c left → CloseNoMore k (x ∷ b) left
    by-second c m p q (inl n) = inl (omega (arith, m, n, p, q))
    by-second c m p q (inr n) = inr (n.0, n.1, omega (arith, m, n.2, p, q))

    by-first : CloseNoMore (listed t k) b left → ((c : List Label) → listed t k ≡ c ++ left → CloseNoMore k c left) → closes (x ∷ b) ≡ closes b → opens (x ∷ b) ≡ opens b + 1 → CloseNoMore k (x ∷ b) left
    by-first (inl n) ih p q = inl (omega (arith, n, p, q))
    by-first (inr n) ih p q = by-second n.0 n.2 p q (ih n.0 n.1)

nothing-last : (b : List Label) (l : Label) (ls : List Label) → [] ≡ b ++ l ∷ ls → ⊥
nothing-last [] l ls e = cc
nothing-last (x ∷ b) l ls e = cc

-- before some label of a value no more nodes are closed than opened
closes-before : (t : Term) (before : List Label) (l : Label) (ls : List Label) → listed t [] ≡ before ++ l ∷ ls → closes before ≤ opens before
unfolding CloseNoMore
closes-before t before l ls e = by-end (closes-few t [] before (l ∷ ls) e)
  where
    by-end : CloseNoMore [] before (l ∷ ls) → closes before ≤ opens before
    by-end (inl n) = n
    by-end (inr n) = absurd (nothing-last n.0 l ls n.1)

pub cursor-rise : (G : List KeyedRule) (most : ℕ) → RisesAtMost most (listed (value (rules_of G)) []) → (number : ℕ) (c : Cursor) → BeginsAtNode G number c → RisesAtMost most (left_of G c)
cursor-rise G most rises number c b n =
    let left = left_of G c in
    let all : RisesAtMost most (b.before ++ left) = subst (RisesAtMost most) b.split rises in
    let few : closes b.before ≤ opens b.before = closes-before (value (rules_of G)) b.before _ b.after (b.split ∙ ap (λ ls. b.before ++ ls) b.begins) in
    omega (arith, few, back b.before left 0 0 most (λ k. omega (arith, all k)) n)
