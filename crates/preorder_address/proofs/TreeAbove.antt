-- A node's parent is the last node that it is below.
use Rattle.std.proofs.Common.{◌≡◌, ℕ, zero, suc, ◌+◌, ◌-◌, ◌<◌, ◌≤◌, List, ◌∷◌, ◌++◌, length, refl, ap, sym, ◌∙◌, arith, Option, None, Some, ◌⊎◌, inl, inr, subst}
use Rattle.std.specs.Prelude.{slice_get, IfSome}
use Rattle.std.proofs.lemmas.Bool.{cases_lt}
use Rattle.std.proofs.lemmas.Option.{same_Some}
use Rattle.plain_tree.specs.Tree.{Tree, node, Trees, none, more, node_count, node_count_all}
use Rattle.plain_tree.specs.Numbers.{nodes, nodes_all}
use Rattle.plain_tree.proofs.NodeCounts.{length-nodes_all}
use Rattle.rule_arena.proofs.PreorderLemmas.{slice_get-left, slice_get-right}
use Rattle.preorder_address.specs.TreeNumbers.{IsBelow, IsLastAbove, parent_at, parents}
use Rattle.preorder_address.proofs.TreeParents.{length-parents}

in-left : (xs ys : List Tree) (i : ℕ) (s : Tree) → i < length xs → slice_get (xs ++ ys) i ≡ Some s → slice_get xs i ≡ Some s
in-left xs ys i s h e = sym (slice_get-left xs ys i h) ∙ e

in-right : (xs ys : List Tree) (i j : ℕ) (s : Tree) → i ≡ length xs + j → slice_get (xs ++ ys) i ≡ Some s → slice_get ys j ≡ Some s
in-right xs ys i j s d e = sym (slice_get-right xs ys j) ∙ ap (slice_get (xs ++ ys)) (sym d) ∙ e

-- what is below a node of trees is among the trees
tree-within : (ts : Trees) (i : ℕ) (s : Tree) → slice_get (nodes_all ts) i ≡ Some s → i + node_count s ≤ node_count_all ts
tree-within none i s e = cc
tree-within (more (node k n v ks) ts) zero s e =
    let z : node k n v ks ≡ s = same_Some (node k n v ks) s e in
    omega (arith, ap node_count z)
tree-within (more (node k n v ks) ts) (suc i) s e = by_place (cases_lt i (node_count_all ks)) (λ d. tree-within ks i s d) (λ j d. tree-within ts j s d)
  where
    by_place : (i < node_count_all ks) ⊎ (node_count_all ks ≤ i) → (slice_get (nodes_all ks) i ≡ Some s → i + node_count s ≤ node_count_all ks) → ((j : ℕ) → slice_get (nodes_all ts) j ≡ Some s → j + node_count s ≤ node_count_all ts)
        → suc i + node_count s ≤ node_count_all ks + 1 + node_count_all ts
    by_place (inl h) below behind = omega (arith, below (in-left (nodes_all ks) (nodes_all ts) i s (omega (arith, h, length-nodes_all ks)) e))
    by_place (inr h) below behind =
        let j : ℕ = i - node_count_all ks in
        omega (arith, h, behind j (in-right (nodes_all ks) (nodes_all ts) i j s (omega (arith, h, length-nodes_all ks)) e))

-- a list's node, or none of them, is the last one above node n, as the parents tell
record IsToldIn (first : ℕ) (ts : Trees) (n : ℕ) (told : Option ℕ) (m : ℕ) : Type 0 where
  number : told ≡ Some (first + m)
  above : IsBelow ts m n
  last : (k : ℕ) → m < k → IsBelow ts k n → ⊥

abbrev IsTold : Option ℕ → ℕ → Trees → ℕ → Option ℕ → Type 0
IsTold up first ts n told = ((told ≡ up) × ((m : ℕ) → IsBelow ts m n → ⊥)) ⊎ ((m : ℕ) × IsToldIn first ts n told m)

module _ (first : ℕ) (t : Tree) (ks ts : Trees) (is_tree : nodes t ≡ t ∷ nodes_all ks) (is_count : node_count t ≡ node_count_all ks + 1) where
  -- nodes below a node of the kids
  from-kids : (i j : ℕ) → j < node_count_all ks → IsBelow (more t ts) (suc i) (suc j) → IsBelow ks i j
  from-kids i j h b =
      let e : slice_get (nodes_all ks ++ nodes_all ts) i ≡ Some b.0 = sym (ap (λ xs. slice_get (xs ++ nodes_all ts) (suc i)) is_tree) ∙ b.1 in
      (b.0, in-left (nodes_all ks) (nodes_all ts) i b.0 (omega (arith, h, b.2, length-nodes_all ks)) e, omega (arith, b.2), omega (arith, b.3))

  to-kids : (i j : ℕ) → j < node_count_all ks → IsBelow ks i j → IsBelow (more t ts) (suc i) (suc j)
  to-kids i j h b = (
    b.0,
    ap (λ xs. slice_get (xs ++ nodes_all ts) (suc i)) is_tree ∙ slice_get-left (nodes_all ks) (nodes_all ts) i (omega (arith, h, b.2, length-nodes_all ks)) ∙ b.1,
    omega (arith, b.2),
    omega (arith, b.3),
  )

  -- and below one of the others
  from-others : (i j : ℕ) → IsBelow (more t ts) (suc (node_count_all ks + i)) (suc (node_count_all ks + j)) → IsBelow ts i j
  from-others i j b =
      let e : slice_get (nodes_all ks ++ nodes_all ts) (node_count_all ks + i) ≡ Some b.0 = sym (ap (λ xs. slice_get (xs ++ nodes_all ts) (suc (node_count_all ks + i))) is_tree) ∙ b.1 in
      (b.0, in-right (nodes_all ks) (nodes_all ts) (node_count_all ks + i) i b.0 (omega (arith, length-nodes_all ks)) e, omega (arith, b.2), omega (arith, b.3))

  to-others : (i j : ℕ) → IsBelow ts i j → IsBelow (more t ts) (suc (node_count_all ks + i)) (suc (node_count_all ks + j))
  to-others i j b =
      let z : node_count_all ks + i ≡ length (nodes_all ks) + i = omega (arith, length-nodes_all ks) in (
        b.0,
        ap (λ xs. slice_get (xs ++ nodes_all ts) (suc (node_count_all ks + i))) is_tree ∙ ap (slice_get (nodes_all ks ++ nodes_all ts)) z ∙ slice_get-right (nodes_all ks) (nodes_all ts) i ∙ b.1,
        omega (arith, b.2),
        omega (arith, b.3),
      )

  -- no node before the others has one of them below it
  others-apart : (m j : ℕ) → m ≤ node_count_all ks → IsBelow (more t ts) m (suc (node_count_all ks + j)) → ⊥
  others-apart zero j h b =
      let e : Some t ≡ Some b.0 = sym (ap (λ xs. slice_get (xs ++ nodes_all ts) 0) is_tree) ∙ b.1 in
      omega (arith, b.3, is_count, ap node_count (same_Some t b.0 e))
  others-apart (suc i) j h b =
      let e : slice_get (nodes_all ks ++ nodes_all ts) i ≡ Some b.0 = sym (ap (λ xs. slice_get (xs ++ nodes_all ts) (suc i)) is_tree) ∙ b.1 in
      omega (arith, b.3, tree-within ks i b.0 (in-left (nodes_all ks) (nodes_all ts) i b.0 (omega (arith, h, length-nodes_all ks)) e))

  told-of-kids : (up : Option ℕ) (j : ℕ) (told : Option ℕ) → j < node_count_all ks → IsTold (Some first) (first + 1) ks j told → IsTold up first (more t ts) (suc j) told
  told-of-kids up j told h (inl r) =
      let z : first ≡ first + 0 = omega arith in
      inr (
        0,
        record {
          number = r.0 ∙ ap Some z;
          above = (t, ap (λ xs. slice_get (xs ++ nodes_all ts) 0) is_tree, omega arith, omega (arith, h, is_count));
          last = λ k l b. by_number k l b;
        },
      )
    where
      by_number : (k : ℕ) → 0 < k → IsBelow (more t ts) k (suc j) → ⊥
      by_number zero l b = omega (arith, l)
      by_number (suc i) l b = r.1 i (from-kids i j h b)
  told-of-kids up j told h (inr r) =
      let z : first + 1 + r.0 ≡ first + suc r.0 = omega arith in
      inr (suc r.0, record { number = r.1.number ∙ ap Some z; above = to-kids r.0 j h r.1.above; last = λ k l b. by_number k l b })
    where
      by_number : (k : ℕ) → suc r.0 < k → IsBelow (more t ts) k (suc j) → ⊥
      by_number zero l b = omega (arith, l)
      by_number (suc i) l b = r.1.last i (omega (arith, l)) (from-kids i j h b)

  told-of-others : (up : Option ℕ) (j : ℕ) (told : Option ℕ) → IsTold up (first + 1 + node_count_all ks) ts j told → IsTold up first (more t ts) (suc (node_count_all ks + j)) told
  told-of-others up j told (inl r) = inl (r.0, λ m b. by_number m (cases_lt (node_count_all ks) m) b)
    where
      by_number : (m : ℕ) → (node_count_all ks < m) ⊎ (m ≤ node_count_all ks) → IsBelow (more t ts) m (suc (node_count_all ks + j)) → ⊥
      by_number m (inr h) b = others-apart m j h b
      by_number m (inl h) b =
          let i : ℕ = m - node_count_all ks - 1 in
          let z : m ≡ suc (node_count_all ks + i) = omega (arith, h) in
          r.1 i (from-others i j (subst (λ (k : ℕ). IsBelow (more t ts) k (suc (node_count_all ks + j))) z b))
  told-of-others up j told (inr r) =
      let z : first + 1 + node_count_all ks + r.0 ≡ first + suc (node_count_all ks + r.0) = omega arith in
      inr (suc (node_count_all ks + r.0), record { number = r.1.number ∙ ap Some z; above = to-others r.0 j r.1.above; last = λ k l b. by_number k l b })
    where
      by_number : (k : ℕ) → suc (node_count_all ks + r.0) < k → IsBelow (more t ts) k (suc (node_count_all ks + j)) → ⊥
      by_number k l b =
          let i : ℕ = k - node_count_all ks - 1 in
          let z : k ≡ suc (node_count_all ks + i) = omega (arith, l) in
          r.1.last i (omega (arith, l)) (from-others i j (subst (λ (k : ℕ). IsBelow (more t ts) k (suc (node_count_all ks + j))) z b))

parents-told : (ts : Trees) (up : Option ℕ) (first n : ℕ) (told : Option ℕ) → slice_get (parents up first ts) n ≡ Some told → IsTold up first ts n told
parents-told none up first n told e = cc
parents-told (more (node k m v ks) ts) up first zero told e = inl (sym (same_Some up told e), λ j b. omega (arith, b.2))
parents-told (more (node k m v ks) ts) up first (suc n) told e =
    by_place (cases_lt n (node_count_all ks)) (λ d. parents-told ks (Some first) (first + 1) n told d) (λ j d. parents-told ts up (first + 1 + node_count_all ks) j told d)
  where
    below : List (Option ℕ)
    below = parents (Some first) (first + 1) ks

    behind : List (Option ℕ)
    behind = parents up (first + 1 + node_count_all ks) ts

    by_place : (n < node_count_all ks) ⊎ (node_count_all ks ≤ n) → (slice_get (parents (Some first) (first + 1) ks) n ≡ Some told → IsTold (Some first) (first + 1) ks n told)
        → ((j : ℕ) → slice_get (parents up (first + 1 + node_count_all ks) ts) j ≡ Some told → IsTold up (first + 1 + node_count_all ks) ts j told) → IsTold up first (more (node k m v ks) ts) (suc n) told
    by_place (inl h) ih others =
        told-of-kids first (node k m v ks) ks ts refl refl up n told h
        (ih (sym (slice_get-left (parents (Some first) (first + 1) ks) (parents up (first + 1 + node_count_all ks) ts) n (omega (arith, h, length-parents (Some first) (first + 1) ks))) ∙ e))
    by_place (inr h) kids ih =
        let j : ℕ = n - node_count_all ks in
        let z : length (parents (Some first) (first + 1) ks) + j ≡ n = omega (arith, h, length-parents (Some first) (first + 1) ks) in
        let d : suc (node_count_all ks + j) ≡ suc n = omega (arith, h) in
        subst (λ (i : ℕ). IsTold up first (more (node k m v ks) ts) i told) d (told-of-others first (node k m v ks) ks ts refl refl up j told
        (ih j (sym (slice_get-right (parents (Some first) (first + 1) ks) (parents up (first + 1 + node_count_all ks) ts) j) ∙ ap (slice_get (parents (Some first) (first + 1) ks ++ parents up (first + 1 + node_count_all ks) ts)) z ∙ e)))

-- the parent of a node of trees is the last node above it
pub last-above : (ts : Trees) (n : ℕ) (up : Option ℕ) → parent_at ts n ≡ Some up → IsLastAbove ts n up
last-above ts n up e = by_told up (parents-told ts None 0 n up e)
  where
    by_told : (up : Option ℕ) → IsTold None 0 ts n up → IsLastAbove ts n up
    by_told up (inl r) = subst (IsLastAbove ts n) (sym r.0) r.1
    by_told up (inr r) =
        let z : 0 + r.0 ≡ r.0 = omega arith in
        subst (IsLastAbove ts n) (sym (r.1.number ∙ ap Some z)) (r.1.above, r.1.last)

pub if-told : (ts : Trees) (n : ℕ) (told : Option (Option ℕ)) → told ≡ parent_at ts n → IfSome told (IsLastAbove ts n)
if-told ts n None e = tt
if-told ts n (Some up) e = last-above ts n up (sym e)
