-- The next item of a group, and the next occurrence of a pattern.
use Rattle.std.proofs.Common.{◌≡◌, ℕ, List, length, get_or, Option, Some, None, IsSome, IfSome, refl, sym, ◌∙◌, subst}
use Rattle.digram_index.specs.Entries.{AreEntries, spots_of}
use Rattle.digram_index.specs.Grouped.{Grouped, group_at}
use Rattle.digram_index.specs.Places.{next_of, thread_at}
use Rattle.digram_index.specs.Spots.{Spot}
use Rattle.digram_index.specs.Threading.{IsThreaded, held_of}
use Rattle.digram_index.specs.declared.patterns.Pattern.{Pattern}
use Rattle.digram_index.specs.declared.thread.Place.TheVariants.{Item}
use Rattle.digram_index.specs.declared.thread.Thread.{Thread}
use Rattle.digram_index.proofs.SpotLemmas.{held-spot}
use Rattle.digram_index.proofs.ThreadLemmas.{at-now}
use Rattle.digram_index.proofs.Walking.{next-held}

pub seen-next : (items groups : List Thread) (now : Grouped) → IsThreaded (length groups) (thread_at items groups) → held_of items ≡ now.held
    → (item : ℕ) → IsSome (group_at now item) → (o : Option ℕ) → o ≡ next_of (thread_at items groups) (Some item) → IfSome o (λ k. group_at now k ≡ group_at now item)
seen-next items groups now T eh item s None e = tt
seen-next items groups now T eh item s (Some k) e = by (group_at now item) refl s
  where
    by : (o : Option ℕ) → group_at now item ≡ o → IsSome o → group_at now k ≡ group_at now item
    by None z x = absurd (cc)
    by (Some g) z x =
        let h = sym (at-now items now eh item) ∙ z in
        at-now items now eh k ∙ next-held (length groups) (thread_at items groups) T g (T.few (Item item) g h) item k h (sym e) ∙ sym z

pub next-spot : (ps : List Pattern) (counts : List ℕ) (occ : Grouped) (us : List ℕ) (ranking : Grouped) → AreEntries ps counts occ us ranking
    → (j : ℕ) → IsSome (group_at occ j) → (o : Option ℕ) → IfSome o (λ k. group_at occ k ≡ group_at occ j) → IfSome o (λ k. IsSome (get_or (spots_of ps occ.held us) k None))
next-spot ps counts occ us ranking A j s None e = tt
next-spot ps counts occ us ranking A j s (Some k) e = by (group_at occ j) refl s
  where
    by : (o : Option ℕ) → group_at occ j ≡ o → IsSome o → IsSome (get_or (spots_of ps occ.held us) k None)
    by None z x = absurd (cc)
    by (Some g) z x = subst (λ (p : Option Spot). IsSome p) (sym (held-spot ps counts occ us ranking A g k (e ∙ z))) refl
