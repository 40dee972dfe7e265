-- Occurrences of nodes that are taken away and linked one after another.
use Rattle.std.proofs.Common.{◌≡◌, ◌≢◌, ◌⊎◌, inl, inr, ℕ, ◌+◌, ◌<◌, List, length, Some, None, slice_get, sym, ap, ◌∙◌, subst, arith}
use Rattle.std.proofs.lemmas.Bool.{cases_eq}
use Rattle.rule_arena.specs.Terms.{Apart}
use Rattle.rule_arena.specs.declared.key.Key.{Key}
use Rattle.slt_grammar.specs.Keyed.{Keyed, IsKeyed, key_at}
use Rattle.slt_grammar.specs.KeyedEdits.{Stands}
use Rattle.digram_index.specs.Digrams.{Cell, OccursAt, occurrence_at}
use Rattle.digram_index.specs.Linked.{Linked, cell}
use Rattle.digram_index.specs.Marking.{MarksFewer}
use Rattle.digram_index.specs.Partly.{IsRight, IsAmong, IsPartOf}
use Rattle.digram_index.proofs.Apartness.{one-key}
use Rattle.digram_index.proofs.BuildLemmas.{linked-told}
use Rattle.digram_index.proofs.LevelLemmas.{same_some}
use Rattle.digram_index.proofs.Numbered.{fewer-both}

-- the first so many of these nodes are not linked, and nothing else changed
pub record AreUnlinked (keys : List Key) (old new : Linked) (count : ℕ) : Type 0 where
  pub free : (j : ℕ) (k : Key) → j < count → slice_get keys j ≡ Some k → cell new k.number ≡ None
  pub others : (n : ℕ) → Apart keys n → cell new n ≡ cell old n
  pub stays : (n : ℕ) → cell old n ≡ None → cell new n ≡ None
  pub rules : new.rules ≡ old.rules
  pub room : length new.cells ≡ length old.cells
  pub spares : (new.spare_links ≡ old.spare_links) × (new.spare_rules ≡ old.spare_rules)
  pub marks : MarksFewer old new

pub stays-free : (now new : Linked) (key : Key) → cell new key.number ≡ None → ((k : ℕ) → k ≢ key.number → cell new k ≡ cell now k) → (n : ℕ) → cell now n ≡ None → cell new n ≡ None
stays-free now new key free others n e = by (cases_eq n key.number)
  where
    by : (n ≡ key.number) ⊎ (n ≡ key.number → ⊥) → cell new n ≡ None
    by (inl z) = ap (λ (k : ℕ). cell new k) z ∙ free
    by (inr d) = others n d ∙ e

pub unlinked-next : (keys : List Key) (old now new : Linked) (i : ℕ) (key : Key) → AreUnlinked keys old now i → slice_get keys i ≡ Some key → cell new key.number ≡ None
    → ((k : ℕ) → k ≢ key.number → cell new k ≡ cell now k) → new.rules ≡ now.rules → length new.cells ≡ length now.cells → (new.spare_links ≡ now.spare_links) × (new.spare_rules ≡ now.spare_rules)
    → MarksFewer now new → AreUnlinked keys old new (i + 1)
unlinked-next keys old now new i key A there free others rules room spares fewer = record {
  free = λ j k l e. by j k l e (cases_eq j i);
  others = λ n a. others n (λ z. a i key there (sym z)) ∙ A.others n a;
  stays = λ n e. stays-free now new key free others n (A.stays n e);
  rules = rules ∙ A.rules;
  room = room ∙ A.room;
  spares = (spares.0 ∙ A.spares.0, spares.1 ∙ A.spares.1);
  marks = fewer-both old now new A.marks fewer;
}
  where
    by : (j : ℕ) (k : Key) → j < i + 1 → slice_get keys j ≡ Some k → (j ≡ i) ⊎ (j ≡ i → ⊥) → cell new k.number ≡ None
    by j k l e (inl z) =
        let y : k ≡ key = same_some k key (sym e ∙ ap (λ (m : ℕ). slice_get keys m) z ∙ there) in
        ap (λ (x : Key). cell new x.number) y ∙ free
    by j k l e (inr d) = stays-free now new key free others k.number (A.free j k (omega (arith, l, d)) e)

-- what the index has of the grammar once another node was linked
pub part-linked : (g : Keyed) → IsKeyed g → (key : Key) (I J : Linked) → IsPartOf g I → Stands g.rules key → IsRight g.rules J key → ((k : ℕ) → k ≢ key.number → cell J k ≡ cell I k) → J.rules ≡ I.rules → IsPartOf g J
part-linked g K key I J P S right others rules = record {
  rules = rules ∙ P.rules;
  part = λ r p k e. by r p k e (cases_eq k.number key.number);
  only = λ k x. only k x (cases_eq k key.number);
}
  where
    by : (r p : ℕ) (k : Key) → key_at g.rules r p ≡ Some k → (k.number ≡ key.number) ⊎ (k.number ≡ key.number → ⊥) → (cell J k.number ≡ None) ⊎ (cell J k.number ≡ occurrence_at g.rules r p)
    by r p k e (inl z) = inr (ap (λ (n : ℕ). cell J n) z ∙ right r p (e ∙ ap Some (one-key k key z)))
    by r p k e (inr d) = let o = others k.number d in rw o (P.part r p k e)

    only : (k : ℕ) → cell J k ≢ None → (k ≡ key.number) ⊎ (k ≡ key.number → ⊥) → (m : Key) × (Stands g.rules m × (m.number ≡ k))
    only k x (inl z) = (key, (S, sym z))
    only k x (inr d) = P.only k (λ e. x (others k d ∙ e))

pub kept-right : (g : Keyed) (key : Key) (now new : Linked) → IsRight g.rules new key → ((k : ℕ) → k ≢ key.number → cell new k ≡ cell now k) → (k : Key) → IsRight g.rules now k → IsRight g.rules new k
kept-right g key now new right others k R = by (cases_eq k.number key.number)
  where
    by : (k.number ≡ key.number) ⊎ (k.number ≡ key.number → ⊥) → IsRight g.rules new k
    by (inl z) = subst (λ (x : Key). IsRight g.rules new x) (sym (one-key k key z)) right
    by (inr d) = λ r p e. others k.number d ∙ R r p e

pub not-among : (keys : List Key) (n : ℕ) → (IsAmong keys n → ⊥) → Apart keys n
not-among keys n f = λ i k e z. f (i, (k, (e, z)))

-- a node was linked that is the lower node of an occurrence
pub node-linked : (g : Keyed) → IsKeyed g → (key : Key) (I J : Linked) → IsPartOf g I → Stands g.rules key → (o : Cell) → OccursAt g.rules key o → cell J key.number ≡ Some o → ((k : ℕ) → k ≢ key.number → cell J k ≡ cell I k) → J.rules ≡ I.rules → IsPartOf g J × IsRight g.rules J key
node-linked g K key I J P S o O e others rules =
    let R : IsRight g.rules J key = linked-told g K key J o O e in
    (part-linked g K key I J P S R others rules, R)
