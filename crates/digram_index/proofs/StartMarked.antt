-- Marks of which each is of a node of the start.
use Rattle.std.proofs.Common.{◌≡◌, ◌≢◌, ◌⊎◌, inl, inr, ℕ, ◌-◌, List, true, false, length, Some, sym, ap, ◌∙◌}
use Rattle.std.proofs.lemmas.Bool.{cases_eq}
use Rattle.rule_arena.specs.declared.key.Key.{Key}
use Rattle.slt_grammar.specs.Keyed.{KeyedRule, key_at}
use Rattle.digram_index.specs.Linked.{Linked, is_marked}
use Rattle.digram_index.specs.Marking.{IsInStart, KeepsMarked, MarksStart}

-- where nothing is marked
pub starts-none : (G : List KeyedRule) (I : Linked) → ((k : ℕ) → is_marked I k ≡ false) → MarksStart G I
starts-none G I none k m = absurd (let z : true ≡ false = sym m ∙ none k in cc)

-- one mark more, of a node of the start
pub starts-more : (G : List KeyedRule) (I J : Linked) (key : Key) (place : ℕ) → key_at G (length G - 1) place ≡ Some key → ((k : ℕ) → k ≢ key.number → is_marked J k ≡ is_marked I k) → MarksStart G I → MarksStart G J
starts-more G I J key place there others M k m = by (cases_eq k key.number)
  where
    by : (k ≡ key.number) ⊎ (k ≡ key.number → ⊥) → IsInStart G k
    by (inl x) = record { key = key; place = place; there = there; number = sym x }
    by (inr x) = M k (sym (others k x) ∙ m)

-- after a change that keeps what is marked
pub starts-kept : (G H : List KeyedRule) (I J : Linked) → KeepsMarked G I H J → MarksStart G I → MarksStart H J
starts-kept G H I J keeps M k m =
    let w = M k (keeps.fewer k m) in
    let s = keeps.stays w.key w.place w.there (ap (is_marked J) w.number ∙ m) in
    record { key = w.key; place = s.now; there = s.there; number = w.number }
