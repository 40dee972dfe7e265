-- Numbers of nodes that are hit.
use Rattle.std.proofs.Common.{◌≡◌, ◌≢◌, ℕ, suc, ◌+◌, ◌<◌, ◌≤◌, List, [], ◌∷◌, ◌++◌, Bool, true, false, nat_eq, ◌||◌, if◌then◌else◌, refl, sym, ap, ◌∙◌, arith}
use Rattle.std.proofs.lemmas.Bool.{ne_eqb, eq-eqb}
use Rattle.std.proofs.Math.Bool.{or-false}
use Rattle.slt_grammar.specs.Algebras.{Algebra}
use Rattle.slt_grammar.specs.Automata.{Downward, hits_from, nodes_in}
use Rattle.slt_grammar.specs.Terms.{Term, Leaf, Node, Hole, up}
use Rattle.slt_grammar.specs.declared.automata.Fell.{Fell}
use Rattle.bulk_rewrite.specs.Numbered.{has, AreHits}

or_assoc : (a b c : Bool) → (a || b) || c ≡ a || (b || c)
or_assoc true b c = refl
or_assoc false b c = refl

has-append : (xs ys : List ℕ) (k : ℕ) → has (xs ++ ys) k ≡ has xs k || has ys k
has-append [] ys k = refl
has-append (x ∷ xs) ys k = ap (λ b. nat_eq x k || b) (has-append xs ys k) ∙ sym (or_assoc (nat_eq x k) (has xs k) (has ys k))

one-other : (hit : Bool) (n k : ℕ) → n ≢ k → has (if hit then n ∷ [] else []) k ≡ false
one-other true n k h = rw (ne_eqb n k h) refl
one-other false n k h = refl

one-same : (hit : Bool) (n : ℕ) → has (if hit then n ∷ [] else []) n ≡ hit
one-same true n = rw (eq-eqb n n refl) refl
one-same false n = refl

module _ {S D : Type 0} (A : Algebra S) (W : Downward S D) (states : List S) where
  -- no number outside of a term's is hit
  hits-before : (t : Term) (n k : ℕ) (d : D) → k < n → has (hits_from A W n t states d) k ≡ false
  hits-before Leaf n k d h = refl
  hits-before (Hole i) n k d h = refl
  hits-before (Node f a b) n k d h =
      let s : Fell D = W.step f d (up A a states) (up A b states) in
      let xs : List ℕ = if s.hit then n ∷ [] else [] in
      let ys : List ℕ = hits_from A W (suc n) a states s.left in
      let zs : List ℕ = hits_from A W (suc n + nodes_in a) b states s.right in
      has-append xs (ys ++ zs) k ∙ rw (one-other s.hit n k (λ e. absurd (omega arith)), has-append ys zs k, hits-before a (suc n) k s.left (omega arith), hits-before b (suc n + nodes_in a) k s.right (omega arith)) refl

  hits-behind : (t : Term) (n k : ℕ) (d : D) → n + nodes_in t ≤ k → has (hits_from A W n t states d) k ≡ false
  hits-behind Leaf n k d h = refl
  hits-behind (Hole i) n k d h = refl
  hits-behind (Node f a b) n k d h =
      let s : Fell D = W.step f d (up A a states) (up A b states) in
      let xs : List ℕ = if s.hit then n ∷ [] else [] in
      let ys : List ℕ = hits_from A W (suc n) a states s.left in
      let zs : List ℕ = hits_from A W (suc n + nodes_in a) b states s.right in
      has-append xs (ys ++ zs) k ∙ rw (one-other s.hit n k (λ e. absurd (omega arith)), has-append ys zs k, hits-behind a (suc n) k s.left (omega arith), hits-behind b (suc n + nodes_in a) k s.right (omega arith)) refl

  -- what is hit of a node is the node, or hit below it or behind it
  pub hits-here : (taken : ℕ → Bool) (n f : ℕ) (a b : Term) (d : D) → AreHits A W taken n (Node f a b) states d → taken n ≡ (W.step f d (up A a states) (up A b states)).hit
  hits-here taken n f a b d h =
      let s : Fell D = W.step f d (up A a states) (up A b states) in
      let xs : List ℕ = if s.hit then n ∷ [] else [] in
      let ys : List ℕ = hits_from A W (suc n) a states s.left in
      let zs : List ℕ = hits_from A W (suc n + nodes_in a) b states s.right in
      h n (omega arith) (omega arith) ∙ has-append xs (ys ++ zs) n
      ∙ rw (one-same s.hit n, has-append ys zs n, hits-before a (suc n) n s.left (omega arith), hits-before b (suc n + nodes_in a) n s.right (omega arith)) (or-false s.hit)

  pub hits-below : (taken : ℕ → Bool) (n f : ℕ) (a b : Term) (d : D) → AreHits A W taken n (Node f a b) states d → AreHits A W taken (suc n) a states (W.step f d (up A a states) (up A b states)).left
  hits-below taken n f a b d h k low high =
      let s : Fell D = W.step f d (up A a states) (up A b states) in
      let xs : List ℕ = if s.hit then n ∷ [] else [] in
      let ys : List ℕ = hits_from A W (suc n) a states s.left in
      let zs : List ℕ = hits_from A W (suc n + nodes_in a) b states s.right in
      h k (omega arith) (omega arith) ∙ has-append xs (ys ++ zs) k
      ∙ rw (one-other s.hit n k (λ e. absurd (omega arith)), has-append ys zs k, hits-before b (suc n + nodes_in a) k s.right (omega arith)) (or-false (has ys k))

  pub hits-after : (taken : ℕ → Bool) (n f : ℕ) (a b : Term) (d : D) → AreHits A W taken n (Node f a b) states d → AreHits A W taken (suc n + nodes_in a) b states (W.step f d (up A a states) (up A b states)).right
  hits-after taken n f a b d h k low high =
      let s : Fell D = W.step f d (up A a states) (up A b states) in
      let xs : List ℕ = if s.hit then n ∷ [] else [] in
      let ys : List ℕ = hits_from A W (suc n) a states s.left in
      let zs : List ℕ = hits_from A W (suc n + nodes_in a) b states s.right in
      h k (omega arith) (omega arith) ∙ has-append xs (ys ++ zs) k
      ∙ rw (one-other s.hit n k (λ e. absurd (omega arith)), has-append ys zs k, hits-behind a (suc n) k s.left (omega arith)) refl
