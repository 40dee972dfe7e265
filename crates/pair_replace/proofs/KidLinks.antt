-- Occurrences of the near nodes that are linked one after another.
use Rattle.std.proofs.Common.{◌≡◌, ◌≢◌, ◌⊎◌, inl, inr, ℕ, zero, suc, ◌+◌, ◌<◌, ◌≤◌, List, [], ◌∷◌, length, Some, None, slice_get, refl, sym, ap, ◌∙◌, subst, arith}
use Rattle.std.proofs.lemmas.Bool.{cases_eq}
use Rattle.rule_arena.specs.Terms.{Apart}
use Rattle.rule_arena.specs.declared.key.Key.{Key}
use Rattle.slt_grammar.specs.Keyed.{Keyed}
use Rattle.digram_index.specs.Linked.{Linked, cell}
use Rattle.digram_index.specs.Marking.{MarksFewer}
use Rattle.digram_index.proofs.Apartness.{one-key}
use Rattle.digram_index.specs.Partly.{IsRight, IsAmong, IsPartOf}
use Rattle.digram_index.proofs.LevelLemmas.{same_some}
use Rattle.digram_index.proofs.NodeLinks.{kept-right, not-among}
use Rattle.digram_index.proofs.Numbered.{fewer-both}
use Rattle.pair_replace.specs.Near.{IsAround}

-- the first so many of these nodes are linked but for one, and nothing else changed
pub record AreLinked (g : Keyed) (keys : List Key) (gone : Key) (old new : Linked) (count : ℕ) : Type 0 where
  pub part : IsPartOf g new
  pub linked : (j : ℕ) (k : Key) → j < count → slice_get keys j ≡ Some k → k ≢ gone → IsRight g.rules new k
  pub kept : (k : Key) → IsRight g.rules old k → IsRight g.rules new k
  pub others : (n : ℕ) → Apart keys n → cell new n ≡ cell old n
  pub stays : cell new gone.number ≡ cell old gone.number
  pub cells : length old.cells ≤ length new.cells
  pub spare : old.spare_links ≤ new.spare_links + count
  pub spare_rules : new.spare_rules ≡ old.spare_rules
  pub marks : MarksFewer old new

pub linked-next : (g : Keyed) (keys : List Key) (gone : Key) (old now new : Linked) (i : ℕ) (key : Key) → AreLinked g keys gone old now i → slice_get keys i ≡ Some key → key ≢ gone → IsPartOf g new → IsRight g.rules new key
    → ((k : ℕ) → k ≢ key.number → cell new k ≡ cell now k) → length now.cells ≤ length new.cells → now.spare_links ≤ new.spare_links + 1 → new.spare_rules ≡ now.spare_rules → MarksFewer now new → AreLinked g keys gone old new (i + 1)
linked-next g keys gone old now new i key A there d part right others cells spare rules fewer = record {
  part = part;
  linked = λ j k l e x. by j k l e x (cases_eq j i);
  kept = λ k R. kept-right g key now new right others k (A.kept k R);
  others = λ n a. others n (λ z. a i key there (sym z)) ∙ A.others n a;
  stays = others gone.number (λ z. d (one-key key gone (sym z))) ∙ A.stays;
  cells = let c = A.cells in omega (arith, c, cells);
  spare = let s = A.spare in omega (arith, s, spare);
  spare_rules = rules ∙ A.spare_rules;
  marks = fewer-both old now new A.marks fewer;
}
  where
    by : (j : ℕ) (k : Key) → j < i + 1 → slice_get keys j ≡ Some k → k ≢ gone → (j ≡ i) ⊎ (j ≡ i → ⊥) → IsRight g.rules new k
    by j k l e x (inl z) = subst (λ (m : Key). IsRight g.rules new m) (sym (same_some k key (sym e ∙ ap (λ (m : ℕ). slice_get keys m) z ∙ there))) right
    by j k l e x (inr y) = kept-right g key now new right others k (A.linked j k (omega (arith, l, y)) e x)

pub linked-skip : (g : Keyed) (keys : List Key) (gone : Key) (old now : Linked) (i : ℕ) (key : Key) → AreLinked g keys gone old now i → slice_get keys i ≡ Some key → key ≡ gone → AreLinked g keys gone old now (i + 1)
linked-skip g keys gone old now i key A there same = record {
  part = A.part;
  linked = λ j k l e x. by j k l e x (cases_eq j i);
  kept = A.kept;
  others = A.others;
  stays = A.stays;
  cells = A.cells;
  spare = let s = A.spare in omega (arith, s);
  spare_rules = A.spare_rules;
  marks = A.marks;
}
  where
    by : (j : ℕ) (k : Key) → j < i + 1 → slice_get keys j ≡ Some k → k ≢ gone → (j ≡ i) ⊎ (j ≡ i → ⊥) → IsRight g.rules now k
    by j k l e x (inl z) = absurd (x (same_some k key (sym e ∙ ap (λ (m : ℕ). slice_get keys m) z ∙ there) ∙ same))
    by j k l e x (inr y) = A.linked j k (omega (arith, l, y)) e x

-- whether a number is that of one of these keys
pub among-test : (keys : List Key) (n : ℕ) → IsAmong keys n ⊎ (IsAmong keys n → ⊥)
among-test [] n = inr (λ w. let z : None ≡ Some w.1.0 = w.1.1.0 in cc)
among-test (k ∷ keys) n = by (cases_eq k.number n) (among-test keys n)
  where
    no : (k.number ≡ n → ⊥) → (IsAmong keys n → ⊥) → IsAmong (k ∷ keys) n → ⊥
    no d f (zero, (m, (e, z))) = d (ap (λ (x : Key). x.number) (same_some k m e) ∙ z)
    no d f (suc i, (m, (e, z))) = f (i, (m, (e, z)))

    by : (k.number ≡ n) ⊎ (k.number ≡ n → ⊥) → IsAmong keys n ⊎ (IsAmong keys n → ⊥) → IsAmong (k ∷ keys) n ⊎ (IsAmong (k ∷ keys) n → ⊥)
    by (inl z) t = inl (0, (k, (refl, z)))
    by (inr d) (inl w) = inl (suc w.0, (w.1.0, (w.1.1.0, w.1.1.1)))
    by (inr d) (inr f) = inr (no d f)

-- the near nodes were linked one after another: a node, and the nodes of two lists but for one
pub around-linked : (g : Keyed) (up gone : Key) (s c : List Key) (a b d : Linked) → IsRight g.rules a up
    → ((i : ℕ) (k : Key) → slice_get s i ≡ Some k → k ≢ gone → IsRight g.rules b k) → ((k : Key) → IsRight g.rules a k → IsRight g.rules b k)
    → ((i : ℕ) (k : Key) → slice_get c i ≡ Some k → k ≢ gone → IsRight g.rules d k) → ((k : Key) → IsRight g.rules b k → IsRight g.rules d k)
    → (k : Key) → IsAround up s c k.number → k ≢ gone → IsRight g.rules d k
around-linked g up gone s c a b d u ls kb lc kd k (inl z) x = kd k (kb k (subst (λ (m : Key). IsRight g.rules a m) (sym (one-key k up z)) u))
around-linked g up gone s c a b d u ls kb lc kd k (inr (inl (i, (m, (e, z))))) x =
    let y : m ≡ k = one-key m k z in
    kd k (ls i k (e ∙ ap Some y) x)
around-linked g up gone s c a b d u ls kb lc kd k (inr (inr (i, (m, (e, z))))) x =
    let y : m ≡ k = one-key m k z in
    lc i k (e ∙ ap Some y) x

pub around-others : (up : Key) (s c : List Key) (I a b d : Linked) → ((n : ℕ) → n ≢ up.number → cell a n ≡ cell I n) → ((n : ℕ) → Apart s n → cell b n ≡ cell a n) → ((n : ℕ) → Apart c n → cell d n ≡ cell b n)
    → (n : ℕ) → (IsAround up s c n → ⊥) → cell d n ≡ cell I n
around-others up s c I a b d fa fb fd n f = fd n (not-among c n (λ z. f (inr (inr z)))) ∙ fb n (not-among s n (λ z. f (inr (inl z)))) ∙ fa n (λ z. f (inl z))

pub key-within : (keys : List Key) (i : ℕ) (k : Key) → slice_get keys i ≡ Some k → i < length keys
key-within [] i k e = absurd (let z : None ≡ Some k = e in cc)
key-within (x ∷ keys) zero k e = omega arith
key-within (x ∷ keys) (suc i) k e = let h = key-within keys i k e in omega (arith, h)
