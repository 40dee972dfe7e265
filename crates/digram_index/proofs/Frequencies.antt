-- How frequent the best entry's pattern is.
use Rattle.std.proofs.Common.{◌≡◌, ◌≢◌, ◌<◌, ◌≤◌, ◌+◌, ◌*◌, ◌⊎◌, inl, inr, ℕ, List, get_or, Some, slice_get, ap, ◌∙◌, arith}
use Rattle.std.proofs.lemmas.Bool.{cases_lt}
use Rattle.digram_index.specs.declared.patterns.Pattern.{Pattern}
use Rattle.digram_index.specs.Entries.{AreEntries}
use Rattle.digram_index.specs.Frequency.{IsRate, IsBest}
use Rattle.digram_index.specs.Grouped.{Grouped, group_at}
use Rattle.digram_index.specs.Ranking.{IsHighest}
use Rattle.digram_index.specs.Spots.{spot_count, IsOften}
use Rattle.digram_index.proofs.Levels.{level-compares}
use Rattle.digram_index.proofs.SpotCounts.{mark_cases}
use Rattle.digram_index.proofs.SpotLemmas.{S, Ranked, ranked, often-ranked, often-key, count-of}

module _ (ps : List Pattern) (counts : List ℕ) (occ : Grouped) (us : List ℕ) (ranking : Grouped) (A : AreEntries ps counts occ us ranking) where
  -- the rate of a pattern that is often is its entry's key
  rate-key : (p : Pattern) (R : Ranked ps counts occ us ranking A p) → IsOften 3 p (S ps counts occ us ranking A) → (f : ℕ) → IsRate p (spot_count p (S ps counts occ us ranking A)) f → f ≡ R.placed.key
  rate-key p R O f F = at (mark_cases p.upper p.lower)
    where
      three : 3 ≤ R.placed.key
      three = often-key ps counts occ us ranking A 3 p R.entry R.bucket (omega arith) R.there O R.placed

      counted : get_or counts R.entry 0 ≡ spot_count p (S ps counts occ us ranking A)
      counted = count-of ps counts occ us ranking A R.entry p R.there

      by-count : (get_or counts R.entry 0 < 5) ⊎ (5 ≤ get_or counts R.entry 0) → p.upper ≡ p.lower → f ≡ R.placed.key
      by-count (inl x) e = let k = R.placed.right.few e x in let r = F.same e in let c = counted in let t = three in omega arith
      by-count (inr x) e = let k = R.placed.right.half e x in let r = F.same e in let c = counted in omega arith

      at : (p.upper ≡ p.lower) ⊎ (p.upper ≢ p.lower) → f ≡ R.placed.key
      at (inl e) = by-count (cases_lt (get_or counts R.entry 0) 5) e
      at (inr e) = let k = R.placed.right.differ e in let r = F.differ e in let c = counted in omega arith

  -- a pattern in the highest bucket is as frequent as any, but for a sixteenth
  pub best-most : (bound : ℕ) → bound ≤ 8 → (e : ℕ) (p : Pattern) → slice_get ps e ≡ Some p → IsOften 3 p (S ps counts occ us ranking A) → IsHighest (group_at ranking) bound e → IsBest (S ps counts occ us ranking A) bound p
  best-most bound hb e p s O H = λ q m n r Q M N.
      let R = ranked ps counts occ us ranking A e (H.level * 10 + H.rank) p s H.here in
      let T = often-ranked ps counts occ us ranking A 3 q (omega arith) Q in
      let x = rate-key p R O m M in
      let y = rate-key q T Q n N in
      let h = T.placed.bucket.here in
      let b : group_at ranking T.entry ≡ Some (T.placed.bucket.level * 10 + q.rank) = T.here ∙ ap Some (omega arith) in
      let o = H.others T.entry q.rank T.placed.bucket.level r b in
      let g = R.placed.bucket.here in
      let l : H.level ≡ R.placed.bucket.level = let w = H.within in omega arith in
      let c = level-compares R.placed.key R.placed.bucket.level T.placed.key T.placed.bucket.level R.placed.bucket.right T.placed.bucket.right (omega arith) in
      omega arith
