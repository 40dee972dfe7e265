-- Nodes that are linked one after another.
use Rattle.std.proofs.Common.{◌≡◌, ◌≢◌, ◌⊎◌, inl, inr, ℕ, zero, suc, ◌+◌, ◌<◌, ◌≤◌, List, [], ◌∷◌, length, Some, None, slice_get, sym, ap, ◌∙◌, subst, arith}
use Rattle.std.proofs.lemmas.Bool.{cases_eq}
use Rattle.rule_arena.specs.declared.key.Key.{Key}
use Rattle.slt_grammar.specs.Keyed.{Keyed}
use Rattle.digram_index.specs.Linked.{Linked, cell}
use Rattle.digram_index.specs.Marking.{MarksFewer}
use Rattle.digram_index.specs.Partly.{IsPartOf, IsRight}
use Rattle.digram_index.proofs.LevelLemmas.{same_some}
use Rattle.digram_index.proofs.NodeLinks.{kept-right}
use Rattle.digram_index.proofs.Numbered.{fewer-both}

-- the first so many of these nodes are linked, and what was right still is
pub record AreLinked (g : Keyed) (keys : List Key) (old new : Linked) (count : ℕ) : Type 0 where
  pub part : IsPartOf g new
  pub linked : (j : ℕ) (k : Key) → j < count → slice_get keys j ≡ Some k → IsRight g.rules new k
  pub kept : (k : Key) → IsRight g.rules old k → IsRight g.rules new k
  pub cells : length old.cells ≤ length new.cells
  pub spare : old.spare_links ≤ new.spare_links + count
  pub spare_rules : new.spare_rules ≡ old.spare_rules
  pub marks : MarksFewer old new

pub linked-next : (g : Keyed) (keys : List Key) (old now new : Linked) (i : ℕ) (key : Key) → AreLinked g keys old now i → slice_get keys i ≡ Some key → IsPartOf g new → IsRight g.rules new key
    → ((k : ℕ) → k ≢ key.number → cell new k ≡ cell now k) → length now.cells ≤ length new.cells → now.spare_links ≤ new.spare_links + 1 → new.spare_rules ≡ now.spare_rules → MarksFewer now new → AreLinked g keys old new (i + 1)
linked-next g keys old now new i key A there part right others cells spare rules fewer = record {
  part = part;
  linked = λ j k l e. by j k l e (cases_eq j i);
  kept = λ k R. kept-right g key now new right others k (A.kept k R);
  cells = let c = A.cells in omega (arith, c, cells);
  spare = let s = A.spare in omega (arith, s, spare);
  spare_rules = rules ∙ A.spare_rules;
  marks = fewer-both old now new A.marks fewer;
}
  where
    by : (j : ℕ) (k : Key) → j < i + 1 → slice_get keys j ≡ Some k → (j ≡ i) ⊎ (j ≡ i → ⊥) → IsRight g.rules new k
    by j k l e (inl z) = subst (λ (m : Key). IsRight g.rules new m) (sym (same_some k key (sym e ∙ ap (λ (m : ℕ). slice_get keys m) z ∙ there))) right
    by j k l e (inr y) = kept-right g key now new right others k (A.linked j k (omega (arith, l, y)) e)

pub key-within : (keys : List Key) (i : ℕ) (k : Key) → slice_get keys i ≡ Some k → i < length keys
key-within [] i k e = absurd (let z : None ≡ Some k = e in cc)
key-within (x ∷ keys) zero k e = omega arith
key-within (x ∷ keys) (suc i) k e = let h = key-within keys i k e in omega (arith, h)
