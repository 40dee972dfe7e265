-- Trees that change from a node on.
use Rattle.std.proofs.Common.{◌≡◌, ℕ, zero, suc, ◌+◌, ◌-◌, ◌<◌, ◌≤◌, List, refl, ap, sym, ◌∙◌, subst, arith, inl, inr}
use Rattle.std.specs.Prelude.{nat_lt, if◌then◌else◌}
use Rattle.std.proofs.lemmas.Bool.{lt-ltb, le-ltb, cases_lt}
use Rattle.plain_tree.specs.declared.kind.Kind.{Kind}
use Rattle.plain_tree.specs.Tree.{Tree, node, Trees, none, more, node_count, node_count_all}
use Rattle.plain_tree.specs.Edits.{changed, before, chained}
pub use Rattle.plain_tree.specs.Siblings.{from_node}

pub if-below : {X : Type 0} (a b : ℕ) (x y : X) → a < b → (if nat_lt a b then x else y) ≡ x
if-below a b x y h = rw (lt-ltb a b h) refl

pub if-from : {X : Type 0} (a b : ℕ) (x y : X) → b ≤ a → (if nat_lt a b then x else y) ≡ y
if-from a b x y h = rw (le-ltb a b h) refl

-- what is so of each node of trees, by its number: of the first, of those below it, of those behind it
pub each-node : (P : ℕ → Trees → Type 0) → ((t : Tree) (ts : Trees) → P 0 (more t ts))
    → ((k : Kind) (m v : List ℕ) (ks ts : Trees) (n : ℕ) → n < node_count_all ks → P n ks → P (suc n) (more (node k m v ks) ts))
    → ((k : Kind) (m v : List ℕ) (ks ts : Trees) (d : ℕ) → d < node_count_all ts → P d ts → P (suc (node_count_all ks + d)) (more (node k m v ks) ts))
    → (n : ℕ) (ts : Trees) → n < node_count_all ts → P n ts
each-node P first inside later n none h = absurd (omega arith)
each-node P first inside later zero (more t ts) h = first t ts
each-node P first inside later (suc n) (more (node k m v ks) ts) h =
    elim (cases_lt n (node_count_all ks)) [
      | inl low ↦ inside k m v ks ts n low (each-node P first inside later n ks low)
      | inr high ↦
          let d : ℕ = n - node_count_all ks in
          let within : d < node_count_all ts = omega arith in
          let e : suc (node_count_all ks + d) ≡ suc n = omega arith in
          subst (λ (i : ℕ). P i (more (node k m v ks) ts)) e (later k m v ks ts d within (each-node P first inside later d ts within))
    ]

module _ (put : Tree → Trees → Trees) (change : Trees → Trees) (k : Kind) (m v : List ℕ) (ks ts : Trees) where
  pub changed-inside : (n : ℕ) → n < node_count_all ks → changed put change (suc n) (more (node k m v ks) ts) ≡ more (node k m v (changed put change n ks)) ts
  changed-inside n h = if-below n (node_count_all ks) (more (node k m v (changed put change n ks)) ts) (before put (n - node_count_all ks) (node k m v ks) (changed put change (n - node_count_all ks) ts)) h

  pub changed-later : (d : ℕ) → changed put change (suc (node_count_all ks + d)) (more (node k m v ks) ts) ≡ before put d (node k m v ks) (changed put change d ts)
  changed-later d =
      let n : ℕ = node_count_all ks + d in
      let e : n - node_count_all ks ≡ d = omega arith in
      if-from n (node_count_all ks) (more (node k m v (changed put change n ks)) ts) (before put (n - node_count_all ks) (node k m v ks) (changed put change (n - node_count_all ks) ts)) (omega arith)
      ∙ ap (λ (i : ℕ). before put i (node k m v ks) (changed put change i ts)) e

-- by `more` trees come before others whatever changes
pub before-more : (n : ℕ) (t : Tree) (ts : Trees) → before more n t ts ≡ more t ts
before-more zero t ts = refl
before-more (suc n) t ts = refl

pub more-later : (change : Trees → Trees) (k : Kind) (m v : List ℕ) (ks ts : Trees) (d : ℕ) → changed more change (suc (node_count_all ks + d)) (more (node k m v ks) ts) ≡ more (node k m v ks) (changed more change d ts)
more-later change k m v ks ts d = changed-later more change k m v ks ts d ∙ before-more d (node k m v ks) (changed more change d ts)

pub from-inside : (k : Kind) (m v : List ℕ) (ks ts : Trees) (n : ℕ) → n < node_count_all ks → from_node (suc n) (more (node k m v ks) ts) ≡ from_node n ks
from-inside k m v ks ts n h = if-below n (node_count_all ks) (from_node n ks) (from_node (n - node_count_all ks) ts) h

pub from-later : (k : Kind) (m v : List ℕ) (ks ts : Trees) (d : ℕ) → from_node (suc (node_count_all ks + d)) (more (node k m v ks) ts) ≡ from_node d ts
from-later k m v ks ts d =
    let n : ℕ = node_count_all ks + d in
    let e : n - node_count_all ks ≡ d = omega arith in
    if-from n (node_count_all ks) (from_node n ks) (from_node (n - node_count_all ks) ts) (omega arith) ∙ ap (λ (i : ℕ). from_node i ts) e

-- what a change makes is all that matters of it
pub changed-by : (change : Trees → Trees) (n : ℕ) (ts : Trees) → n < node_count_all ts → changed more change n ts ≡ changed more (λ _. change (from_node n ts)) n ts
changed-by change = each-node (λ n ts. changed more change n ts ≡ changed more (λ _. change (from_node n ts)) n ts)
    (λ t ts. refl)
    (λ k m v ks ts n h e.
    changed-inside more change k m v ks ts n h ∙ ap (λ us. more (node k m v us) ts) e
    ∙ sym (changed-inside more (λ _. change (from_node n ks)) k m v ks ts n h) ∙ ap (λ us. changed more (λ _. change us) (suc n) (more (node k m v ks) ts)) (sym (from-inside k m v ks ts n h)))
    (λ k m v ks ts d h e.
    more-later change k m v ks ts d ∙ ap (λ us. more (node k m v ks) us) e
    ∙ sym (more-later (λ _. change (from_node d ts)) k m v ks ts d) ∙ ap (λ us. changed more (λ _. change us) (suc (node_count_all ks + d)) (more (node k m v ks) ts)) (sym (from-later k m v ks ts d)))

-- how many nodes there are then
pub count-changed : (change : Trees → Trees) (n : ℕ) (ts : Trees) → n < node_count_all ts
    → node_count_all (changed more change n ts) + node_count_all (from_node n ts) ≡ node_count_all ts + node_count_all (change (from_node n ts))
count-changed change = each-node (λ n ts. node_count_all (changed more change n ts) + node_count_all (from_node n ts) ≡ node_count_all ts + node_count_all (change (from_node n ts)))
    (λ t ts. omega arith)
    (λ k m v ks ts n h e. rw (changed-inside more change k m v ks ts n h, from-inside k m v ks ts n h) (omega (arith, e)))
    (λ k m v ks ts d h e. rw (more-later change k m v ks ts d, from-later k m v ks ts d) (omega (arith, e)))

pub some-node : (t : Tree) → 0 < node_count t
some-node (node k m v ks) = omega arith

-- node n begins those siblings, and has its number
pub some-from : (n : ℕ) (ts : Trees) → n < node_count_all ts → (0 < node_count_all (from_node n ts)) × (n + node_count_all (from_node n ts) ≤ node_count_all ts)
some-from = each-node (λ n ts. (0 < node_count_all (from_node n ts)) × (n + node_count_all (from_node n ts) ≤ node_count_all ts))
    (λ t ts. (omega (arith, some-node t), omega arith))
    (λ k m v ks ts n h e. rw (from-inside k m v ks ts n h) (e.0, omega (arith, e.1)))
    (λ k m v ks ts d h e. rw (from-later k m v ks ts d) (e.0, omega (arith, e.1)))

-- so many nodes stand before it still
pub before-stays : (change : Trees → Trees) (n : ℕ) (ts : Trees) → n < node_count_all ts → n + node_count_all (change (from_node n ts)) ≤ node_count_all (changed more change n ts)
before-stays change n ts h = omega (arith, count-changed change n ts h, some-from n ts h)

-- changes that make the same of those siblings
pub changed-alike : (f g : Trees → Trees) (n : ℕ) (ts : Trees) → n < node_count_all ts → f (from_node n ts) ≡ g (from_node n ts) → changed more f n ts ≡ changed more g n ts
changed-alike f g n ts h e = changed-by f n ts h ∙ ap (λ us. changed more (λ _. us) n ts) e ∙ sym (changed-by g n ts h)

-- what changes in what has changed
pub changed-within : (f g : Trees → Trees) (n : ℕ) (ts : Trees) → n < node_count_all ts → (a : ℕ) → a < node_count_all (f (from_node n ts))
    → changed more g (n + a) (changed more f n ts) ≡ changed more (λ us. changed more g a (f us)) n ts
changed-within f g = each-node (λ n ts. (a : ℕ) → a < node_count_all (f (from_node n ts)) → changed more g (n + a) (changed more f n ts) ≡ changed more (λ us. changed more g a (f us)) n ts)
    (λ t ts a h. let z : 0 + a ≡ a = omega arith in ap (λ (i : ℕ). changed more g i (f (more t ts))) z)
    (λ k m v ks ts n h e a l.
    let l' : a < node_count_all (f (from_node n ks)) = subst (λ us. a < node_count_all (f us)) (from-inside k m v ks ts n h) l in
    let z : suc n + a ≡ suc (n + a) = omega arith in
    let low : n + a < node_count_all (changed more f n ks) = omega (arith, before-stays f n ks h, l') in
    ap (λ us. changed more g (suc n + a) us) (changed-inside more f k m v ks ts n h) ∙ ap (λ (i : ℕ). changed more g i (more (node k m v (changed more f n ks)) ts)) z
    ∙ changed-inside more g k m v (changed more f n ks) ts (n + a) low ∙ ap (λ us. more (node k m v us) ts) (e a l') ∙ sym (changed-inside more (λ us. changed more g a (f us)) k m v ks ts n h))
    (λ k m v ks ts d h e a l.
    let l' : a < node_count_all (f (from_node d ts)) = subst (λ us. a < node_count_all (f us)) (from-later k m v ks ts d) l in
    let z : suc (node_count_all ks + d) + a ≡ suc (node_count_all ks + (d + a)) = omega arith in
    ap (λ us. changed more g (suc (node_count_all ks + d) + a) us) (more-later f k m v ks ts d) ∙ ap (λ (i : ℕ). changed more g i (more (node k m v ks) (changed more f d ts))) z
    ∙ more-later g k m v ks (changed more f d ts) (d + a) ∙ ap (more (node k m v ks)) (e a l') ∙ sym (more-later (λ us. changed more g a (f us)) k m v ks ts d))

-- a change below or behind node n is one of the siblings from it on
pub changed-deeper : (put : Tree → Trees → Trees) (f : Trees → Trees) (n : ℕ) (ts : Trees) → n < node_count_all ts → (j : ℕ) → suc j < node_count_all (from_node n ts)
    → changed put f (n + suc j) ts ≡ changed more (changed put f (suc j)) n ts
changed-deeper put f = each-node (λ n ts. (j : ℕ) → suc j < node_count_all (from_node n ts) → changed put f (n + suc j) ts ≡ changed more (changed put f (suc j)) n ts)
    (λ t ts j h. let z : 0 + suc j ≡ suc j = omega arith in ap (λ (i : ℕ). changed put f i (more t ts)) z)
    (λ k m v ks ts n h e j l.
    let l' : suc j < node_count_all (from_node n ks) = subst (λ us. suc j < node_count_all us) (from-inside k m v ks ts n h) l in
    let z : suc n + suc j ≡ suc (n + suc j) = omega arith in
    ap (λ (i : ℕ). changed put f i (more (node k m v ks) ts)) z ∙ changed-inside put f k m v ks ts (n + suc j) (let s = some-from n ks h in omega (arith, s.1, l'))
    ∙ ap (λ us. more (node k m v us) ts) (e j l') ∙ sym (changed-inside more (changed put f (suc j)) k m v ks ts n h))
    (λ k m v ks ts d h e j l.
    let l' : suc j < node_count_all (from_node d ts) = subst (λ us. suc j < node_count_all us) (from-later k m v ks ts d) l in
    let z : suc (node_count_all ks + d) + suc j ≡ suc (node_count_all ks + (d + suc j)) = omega arith in
    let y : d + suc j ≡ suc (d + j) = omega arith in
    ap (λ (i : ℕ). changed put f i (more (node k m v ks) ts)) z ∙ changed-later put f k m v ks ts (d + suc j)
    ∙ ap (λ (i : ℕ). before put i (node k m v ks) (changed put f (d + suc j) ts)) y ∙ ap (more (node k m v ks)) (e j l') ∙ sym (more-later (changed put f (suc j)) k m v ks ts d))

-- a change that makes nothing else changes nothing
pub changed-same : (f : Trees → Trees) (n : ℕ) (ts : Trees) → n < node_count_all ts → f (from_node n ts) ≡ from_node n ts → changed more f n ts ≡ ts
changed-same f = each-node (λ n ts. f (from_node n ts) ≡ from_node n ts → changed more f n ts ≡ ts)
    (λ t ts e. e)
    (λ k m v ks ts n h e l. changed-inside more f k m v ks ts n h ∙ ap (λ us. more (node k m v us) ts) (e (subst (λ us. f us ≡ us) (from-inside k m v ks ts n h) l)))
    (λ k m v ks ts d h e l. more-later f k m v ks ts d ∙ ap (more (node k m v ks)) (e (subst (λ us. f us ≡ us) (from-later k m v ks ts d) l)))

pub from-deeper : (n : ℕ) (ts : Trees) → n < node_count_all ts → (j : ℕ) → suc j < node_count_all (from_node n ts) → from_node (n + suc j) ts ≡ from_node (suc j) (from_node n ts)
from-deeper = each-node (λ n ts. (j : ℕ) → suc j < node_count_all (from_node n ts) → from_node (n + suc j) ts ≡ from_node (suc j) (from_node n ts))
    (λ t ts j h. let z : 0 + suc j ≡ suc j = omega arith in ap (λ (i : ℕ). from_node i (more t ts)) z)
    (λ k m v ks ts n h e j l.
    let l' : suc j < node_count_all (from_node n ks) = subst (λ us. suc j < node_count_all us) (from-inside k m v ks ts n h) l in
    let z : suc n + suc j ≡ suc (n + suc j) = omega arith in
    ap (λ (i : ℕ). from_node i (more (node k m v ks) ts)) z ∙ from-inside k m v ks ts (n + suc j) (let s = some-from n ks h in omega (arith, s.1, l')) ∙ e j l'
    ∙ ap (from_node (suc j)) (sym (from-inside k m v ks ts n h)))
    (λ k m v ks ts d h e j l.
    let l' : suc j < node_count_all (from_node d ts) = subst (λ us. suc j < node_count_all us) (from-later k m v ks ts d) l in
    let z : suc (node_count_all ks + d) + suc j ≡ suc (node_count_all ks + (d + suc j)) = omega arith in
    ap (λ (i : ℕ). from_node i (more (node k m v ks) ts)) z ∙ from-later k m v ks ts (d + suc j) ∙ e j l' ∙ ap (from_node (suc j)) (sym (from-later k m v ks ts d)))

-- what stands there after a change is what it made
pub from-changed : (f : Trees → Trees) (n : ℕ) (ts : Trees) → n < node_count_all ts → 0 < node_count_all (f (from_node n ts)) → from_node n (changed more f n ts) ≡ f (from_node n ts)
from-changed f = each-node (λ n ts. 0 < node_count_all (f (from_node n ts)) → from_node n (changed more f n ts) ≡ f (from_node n ts))
    (λ t ts h. refl)
    (λ k m v ks ts n h e l.
    let l' : 0 < node_count_all (f (from_node n ks)) = subst (λ us. 0 < node_count_all (f us)) (from-inside k m v ks ts n h) l in
    ap (from_node (suc n)) (changed-inside more f k m v ks ts n h) ∙ from-inside k m v (changed more f n ks) ts n (let b = before-stays f n ks h in omega (arith, b, l')) ∙ e l'
    ∙ ap f (sym (from-inside k m v ks ts n h)))
    (λ k m v ks ts d h e l.
    let l' : 0 < node_count_all (f (from_node d ts)) = subst (λ us. 0 < node_count_all (f us)) (from-later k m v ks ts d) l in
    ap (from_node (suc (node_count_all ks + d))) (more-later f k m v ks ts d) ∙ from-later k m v ks (changed more f d ts) d ∙ e l' ∙ ap f (sym (from-later k m v ks ts d)))

pub chained-more : (t : Tree) (ts us : Trees) → chained more (more t ts) us ≡ more t (chained more ts us)
chained-more t none us = refl
chained-more t (more s ts) us = refl

pub chained-none : (ts : Trees) → chained more ts none ≡ ts
chained-none none = refl
chained-none (more t ts) = chained-more t ts none ∙ ap (more t) (chained-none ts)

pub chained-chained : (ss ts us : Trees) → chained more (chained more ss ts) us ≡ chained more ss (chained more ts us)
chained-chained none ts us = refl
chained-chained (more t ss) ts us =
    ap (λ xs. chained more xs us) (chained-more t ss ts) ∙ chained-more t (chained more ss ts) us ∙ ap (more t) (chained-chained ss ts us) ∙ sym (chained-more t ss (chained more ts us))

pub count-chained : (ss us : Trees) → node_count_all (chained more ss us) ≡ node_count_all ss + node_count_all us
count-chained none us = omega arith
count-chained (more t ss) us = ap node_count_all (chained-more t ss us) ∙ omega (arith, count-chained ss us)
