-- A measure that falls from a node to its parent.
use Rattle.std.proofs.Common.{◌≡◌, ◌≢◌, ◌⊎◌, inl, inr, ℕ, zero, suc, ◌+◌, ◌<◌, List, [], ◌∷◌, length, if◌then◌else◌, eqb, true, false, Some, None, refl, sym, ap, ◌∙◌, arith}
use Rattle.std.proofs.lemmas.Bool.{eq-eqb}
use Rattle.std.proofs.lemmas.Bool.Decides.{eqb_tells}
use Rattle.rule_arena.specs.Terms.{Node, key_in}
use Rattle.rule_arena.specs.declared.key.Key.{Key}
use Rattle.slt_grammar.specs.Keyed.{Keyed, KeyedRule, IsKeyed, nodes_at, key_at}
use Rattle.digram_index.proofs.Apartness.{one-key}

-- how many nodes stand before the one of this number
abbrev pub before : List Node → ℕ → ℕ
before [] k = 0
before (n ∷ ns) k = if eqb n.key.number k then 0 else suc (before ns k)

-- and in all rules, those without it counted whole
abbrev pub all_before : List KeyedRule → ℕ → ℕ
all_before [] k = 0
all_before (R ∷ G) k = before R.nodes k + all_before G k

before-here : (n : Node) (ns : List Node) (k : ℕ) → n.key.number ≡ k → before (n ∷ ns) k ≡ 0
before-here n ns k e = let z = eq-eqb n.key.number k e in rw z refl

before-there : (n : Node) (ns : List Node) (k : ℕ) → (n.key.number ≡ k → ⊥) → before (n ∷ ns) k ≡ suc (before ns k)
before-there n ns k d = by (eqb_tells n.key.number k)
  where
    by : ((eqb n.key.number k ≡ true) × (n.key.number ≡ k)) ⊎ ((eqb n.key.number k ≡ false) × (n.key.number ≢ k)) → before (n ∷ ns) k ≡ suc (before ns k)
    by (inl w) = absurd (d w.1)
    by (inr w) = let z = w.0 in rw z refl

one : (a b : Key) → Some a ≡ Some b → a ≡ b
one a b z = cc

before-at : (ns : List Node) (p : ℕ) (key : Key) → key_in ns p ≡ Some key → ((i : ℕ) → key_in ns i ≡ Some key → i ≡ p) → before ns key.number ≡ p
before-at [] p key e u = absurd (let z : None ≡ Some key = e in cc)
before-at (n ∷ ns) zero key e u = before-here n ns key.number (ap (λ (x : Key). x.number) (one n.key key e))
before-at (n ∷ ns) (suc p) key e u =
    before-there n ns key.number (λ z. absurd (let y = u 0 (ap Some (one-key n.key key z)) in omega arith))
    ∙ ap suc (before-at ns p key e (λ i f. let y = u (suc i) f in omega arith))

before-absent : (ns : List Node) (key : Key) → ((i : ℕ) → key_in ns i ≡ Some key → ⊥) → before ns key.number ≡ length ns
before-absent [] key d = refl
before-absent (n ∷ ns) key d = before-there n ns key.number (λ z. d 0 (ap Some (one-key n.key key z))) ∙ ap suc (before-absent ns key (λ i e. d (suc i) e))

all-same : (G : List KeyedRule) (a b : ℕ) → ((s : ℕ) → before (nodes_at G s) a ≡ before (nodes_at G s) b) → all_before G a ≡ all_before G b
all-same [] a b f = refl
all-same (R ∷ G) a b f = let x = f 0 in let y = all-same G a b (λ s. f (suc s)) in omega (arith, x, y)

all-falls : (G : List KeyedRule) (r a b : ℕ) → ((s : ℕ) → (s ≡ r → ⊥) → before (nodes_at G s) a ≡ before (nodes_at G s) b) → before (nodes_at G r) b < before (nodes_at G r) a → all_before G b < all_before G a
all-falls [] r a b f h = absurd (omega (arith, h))
all-falls (R ∷ G) zero a b f h = let y = all-same G a b (λ s. f (suc s) (λ z. absurd (omega (arith, z)))) in omega (arith, h, y)
all-falls (R ∷ G) (suc r) a b f h =
    let x = f 0 (λ z. absurd (omega (arith, z))) in
    let y = all-falls G r a b (λ s d. f (suc s) (λ z. d (omega (arith, z)))) h in
    omega (arith, x, y)

-- the measure falls from a key to one that stands before it
pub climbs : (g : Keyed) → IsKeyed g → (r p q : ℕ) (a b : Key) → key_at g.rules r p ≡ Some a → key_at g.rules r q ≡ Some b → q < p → all_before g.rules b.number < all_before g.rules a.number
climbs g K r p q a b e f h = all-falls g.rules r a.number b.number (λ s d. elsewhere s a p e d ∙ sym (elsewhere s b q f d)) here
  where
    elsewhere : (s : ℕ) (k : Key) (j : ℕ) → key_at g.rules r j ≡ Some k → (s ≡ r → ⊥) → before (nodes_at g.rules s) k.number ≡ length (nodes_at g.rules s)
    elsewhere s k j t d = before-absent (nodes_at g.rules s) k (λ i z. d (K.once k s i r j z t).0)

    here : before (nodes_at g.rules r) b.number < before (nodes_at g.rules r) a.number
    here =
        let x = before-at (nodes_at g.rules r) p a e (λ i z. (K.once a r i r p z e).1) in
        let y = before-at (nodes_at g.rules r) q b f (λ i z. (K.once b r i r q z f).1) in
        omega (arith, x, y, h)
