-- Occurrences that call a rule, found along its chain.
use Rattle.std.proofs.Common.{◌≡◌, ℕ, List, get_or, Some, refl}
use Rattle.digram_index.specs.CallChains.{CallsNumber}
use Rattle.digram_index.specs.Entries.{AreEntries, spots_of}
use Rattle.digram_index.specs.Grouped.{Grouped, group_at}
use Rattle.digram_index.specs.Spots.{IsSpotCalling}
use Rattle.digram_index.specs.declared.patterns.Pattern.{Pattern}
use Rattle.digram_index.proofs.SpotLemmas.{added-spot, entry-of}

module _ (ps : List Pattern) (counts : List ℕ) (occ : Grouped) (us : List ℕ) (ranking : Grouped) (A : AreEntries ps counts occ us ranking) where
  -- an occurrence of an entry that calls the rule is one of a call
  pub calling-held : (n k e : ℕ) → group_at occ k ≡ Some e → CallsNumber ps n e → IsSpotCalling (spots_of ps occ.held us) n k
  calling-held n k e g C = (record { pattern = C.pattern; upper = get_or us k 0 }, (added-spot ps occ.held us k e (get_or us k 0) C.pattern g C.there refl, C.lower))

  -- and the other way round
  pub calling-entry : (n k : ℕ) → IsSpotCalling (spots_of ps occ.held us) n k → (e : ℕ) × ((group_at occ k ≡ Some e) × CallsNumber ps n e)
  calling-entry n k S =
      let E = entry-of ps counts occ us ranking A k S.0.upper S.0.pattern S.1.0 in
      (E.0, (E.1.0, record { pattern = S.0.pattern; there = E.1.1; lower = S.1.1 }))
