-- An index after a step of which the near nodes are linked anew, or one alone.
use Rattle.std.proofs.Common.{◌≡◌, ◌≢◌, ◌⊎◌, inl, inr, ℕ, Some, None, ap, ◌∙◌}
use Rattle.std.proofs.lemmas.Bool.{cases_eq}
use Rattle.rule_arena.specs.declared.key.Key.{Key}
use Rattle.slt_grammar.specs.Keyed.{Keyed, key_at}
use Rattle.digram_index.specs.Digrams.{occurrence_at}
use Rattle.digram_index.specs.Keeping.{IsIndexBut}
use Rattle.digram_index.specs.Linked.{IsIndexOf, Linked, cell}
use Rattle.digram_index.specs.Partly.{IsPartOf, IsRight}
use Rattle.digram_index.proofs.Apartness.{one-key}

-- where some nodes were unlinked, the index has all others
pub but-near : (g : Keyed) (near : ℕ → Type 0) (I J : Linked) → IsIndexOf g I → J.rules ≡ I.rules → ((k : ℕ) → near k → cell J k ≡ None) → ((k : ℕ) → (near k → ⊥) → cell J k ≡ cell I k)
    → ((k : ℕ) → near k ⊎ (near k → ⊥)) → IsIndexBut g J near
but-near g near I J A rules free others test = record {
  rules = rules ∙ A.rules;
  all = λ s p key k far. others key.number far ∙ A.all s p key k;
  free = free;
  only = λ k x. A.only k (known k x (test k));
}
  where
    known : (k : ℕ) → cell J k ≢ None → near k ⊎ (near k → ⊥) → cell I k ≢ None
    known k x (inl n) = absurd (x (free k n))
    known k x (inr d) = λ e. x (others k d ∙ e)

module _ (h : Keyed) (near : ℕ → Type 0) (mid : Linked) (B : IsIndexBut h mid near) (test : (k : ℕ) → near k ⊎ (near k → ⊥)) where
  pub part-of : IsPartOf h mid
  part-of = record {
    rules = B.rules;
    part = λ r p key k. by r p key k (test key.number);
    only = λ k x. let w = B.only k x in (w.0, (record { rule = w.1.0; place = w.1.1.0; there = w.1.1.1.0 }, w.1.1.1.1));
  }
    where
      by : (r p : ℕ) (key : Key) → key_at h.rules r p ≡ Some key → near key.number ⊎ (near key.number → ⊥) → (cell mid key.number ≡ None) ⊎ (cell mid key.number ≡ occurrence_at h.rules r p)
      by r p key k (inl o) = inl (B.free key.number o)
      by r p key k (inr d) = inr (B.all r p key k d)

  -- of the near nodes one alone stands, and it was linked
  pub one-linked : (J : Linked) (last : Key) → IsPartOf h J → IsRight h.rules J last → ((r p : ℕ) (key : Key) → key_at h.rules r p ≡ Some key → near key.number → key.number ≡ last.number)
      → ((n : ℕ) → n ≢ last.number → cell J n ≡ cell mid n) → IsIndexOf h J
  one-linked J last P right one others = record {
    rules = P.rules;
    all = λ r p key k. by r p key k (cases_eq key.number last.number);
    only = λ k v. let w = P.only k v in (w.0, (w.1.0.rule, (w.1.0.place, (w.1.0.there, w.1.1))));
  }
    where
      far : (r p : ℕ) (key : Key) → key_at h.rules r p ≡ Some key → (key.number ≡ last.number → ⊥) → near key.number ⊎ (near key.number → ⊥) → cell mid key.number ≡ occurrence_at h.rules r p
      far r p key k d (inl n) = absurd (d (one r p key k n))
      far r p key k d (inr n) = B.all r p key k n

      by : (r p : ℕ) (key : Key) → key_at h.rules r p ≡ Some key → (key.number ≡ last.number) ⊎ (key.number ≡ last.number → ⊥) → cell J key.number ≡ occurrence_at h.rules r p
      by r p key k (inl e) = ap (cell J) e ∙ right r p (k ∙ ap (λ (t : Key). Some t) (one-key key last e))
      by r p key k (inr d) = others key.number d ∙ far r p key k d (test key.number)

  -- all near nodes that stand were linked
  pub all-linked : (J : Linked) → IsPartOf h J → ((key : Key) → near key.number → IsRight h.rules J key) → ((n : ℕ) → (near n → ⊥) → cell J n ≡ cell mid n) → IsIndexOf h J
  all-linked J P right others = record {
    rules = P.rules;
    all = λ r p key k. by r p key k (test key.number);
    only = λ k v. let w = P.only k v in (w.0, (w.1.0.rule, (w.1.0.place, (w.1.0.there, w.1.1))));
  }
    where
      by : (r p : ℕ) (key : Key) → key_at h.rules r p ≡ Some key → near key.number ⊎ (near key.number → ⊥) → cell J key.number ≡ occurrence_at h.rules r p
      by r p key k (inl n) = right key n r p k
      by r p key k (inr d) = others key.number d ∙ B.all r p key k d
