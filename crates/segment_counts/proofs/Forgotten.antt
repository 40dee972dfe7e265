-- Rows that are put behind the others once more, and first rows that are taken out.
use Rattle.std.proofs.Common.{◌≡◌, ℕ, zero, suc, ◌+◌, ◌-◌, ◌^◌, ◌<◌, ◌≤◌, List, [], ◌∷◌, ◌++◌, length, get_or, drop, map, refl, ap, sym, ◌∙◌, arith, subst, append_assoc, length-drop, length-take}
use Rattle.std.specs.Prelude.{replicate, set, slice_range}
use Rattle.std.proofs.lemmas.List.{drop-append-le, drop-drop, length-map, replicate-append-replicate}
use Rattle.segment_counts.specs.Counting.{CountTable, no_row}
use Rattle.segment_counts.specs.Cuts.{AreCut, HaveRoom, cut_rows, moved, table_of}
use Rattle.segment_counts.specs.declared.counts.Weights.{Weights}
use Rattle.segment_counts.proofs.Cuts.{cut-narrow, padded, pushed-room, pushed-rows, row_at, row_within, rows-length}
use Rattle.segment_counts.proofs.RowMoves.{cut-moved, rows-moved, start-within}

row-narrow : (start : ℕ) (ws : List Weights) (ends : List ℕ) (i : ℕ) → AreCut start ws ends → i < length ends → get_or ends i 0 ≤ get_or (start ∷ ends) i 0 + 9
row-narrow start ws [] i c h = absurd (omega (arith, h))
row-narrow start ws (e ∷ es) zero c h = c.1
row-narrow start ws (e ∷ es) (suc i) c h = row-narrow e ws es i c.3 (omega (arith, h))

-- a row was put behind the others once more
module _ (ws : List Weights) (ends : List ℕ) (rule from to capacity end_capacity room : ℕ) (kept : HaveRoom ws ends capacity end_capacity room) (free : length ends < room) (h : rule < length ends)
    (from_is : from ≡ get_or (0 ∷ ends) rule 0) (to_is : to ≡ get_or ends rule 0) where
  pub copied-range : (from ≤ to) × (to ≤ length ws)
  copied-range = let w = row_within 0 ws ends rule kept.cut h in (omega (arith, w.0, from_is, to_is), omega (arith, w.1, to_is))

  copied-narrow : to ≤ from + 9
  copied-narrow = omega (arith, row-narrow 0 ws ends rule kept.cut h, from_is, to_is)

  copied-length : length (slice_range ws from to) ≡ to - from
  copied-length = let w = copied-range in omega (arith, w.0, w.1, length-take (to - from) (drop from ws), length-drop from ws)

  pub copied-room : length ws + (to - from) ≤ capacity
  copied-room = omega (arith, copied-narrow, cut-narrow 0 ws ends kept.cut, kept.places, free)

  pub copied-small : length ws + (to - from) < 2 ^ 32
  copied-small = omega (arith, copied-narrow, cut-narrow 0 ws ends kept.cut, kept.small, free)

  copied-is : (C : CountTable) → table_of ws ends room ≡ C → slice_range ws from to ≡ get_or C.rows rule no_row
  copied-is C e =
      rw (from_is, to_is) (sym (row_at 0 ws ends rule h)) ∙ sym (padded (cut_rows 0 ws ends) (room - length ends) rule) ∙ ap (λ (K : CountTable). get_or K.rows rule no_row) e

  module _ (ws' : List Weights) (ends' : List ℕ) (end capacity' end_capacity' : ℕ) (longer : ws' ≡ ws ++ slice_range ws from to) (is_end : end ≡ length ws + (to - from)) (ended : ends' ≡ ends ++ end ∷ [])
      (more : capacity ≤ capacity') (end_more : end_capacity ≤ end_capacity') where
    narrow : length (slice_range ws from to) ≤ 9
    narrow = omega (arith, copied-length, copied-narrow)

    last : end ≡ length ws + length (slice_range ws from to)
    last = omega (arith, is_end, copied-length)

    pub copied-kept : HaveRoom ws' ends' capacity' end_capacity' room
    copied-kept = pushed-room ws ws' (slice_range ws from to) ends ends' end capacity capacity' end_capacity end_capacity' room kept free narrow longer last ended more end_more

    pub copied-rows : (C : CountTable) → table_of ws ends room ≡ C → (table_of ws' ends' room).rows ≡ set C.rows C.rules (get_or C.rows rule no_row)
    copied-rows C e =
        pushed-rows ws ws' (slice_range ws from to) ends ends' end capacity capacity' end_capacity end_capacity' room kept free narrow longer last ended more end_more C e
        ∙ ap (λ (R : List Weights). set C.rows C.rules R) (copied-is C e)

rows-dropped : (ws : List Weights) (start : ℕ) (ends : List ℕ) (n : ℕ) → n ≤ length ends → drop n (cut_rows start ws ends) ≡ cut_rows (get_or (start ∷ ends) n 0) ws (drop n ends)
rows-dropped ws start ends zero h = refl
rows-dropped ws start [] (suc n) h = absurd (omega (arith, h))
rows-dropped ws start (e ∷ es) (suc n) h = rows-dropped ws e es n (omega (arith, h))

cut-dropped : (ws : List Weights) (start : ℕ) (ends : List ℕ) (n : ℕ) → AreCut start ws ends → n ≤ length ends → AreCut (get_or (start ∷ ends) n 0) ws (drop n ends)
cut-dropped ws start ends zero c h = c
cut-dropped ws start [] (suc n) c h = absurd (omega (arith, h))
cut-dropped ws start (e ∷ es) (suc n) c h = cut-dropped ws e es n c.3 (omega (arith, h))

ends-within : (ws : List Weights) (start : ℕ) (ends : List ℕ) (i : ℕ) → AreCut start ws ends → i < length ends → (start ≤ get_or ends i 0) × (get_or ends i 0 ≤ length ws)
ends-within ws start [] i c h = absurd (omega (arith, h))
ends-within ws start (e ∷ es) zero c h = (c.0, c.2)
ends-within ws start (e ∷ es) (suc i) c h = let w = ends-within ws e es i c.3 (omega (arith, h)) in (omega (arith, c.0, w.0), w.1)

-- the first rows were taken out
module _ (ws : List Weights) (ends : List ℕ) (n end capacity end_capacity room : ℕ) (kept : HaveRoom ws ends capacity end_capacity room) (h : n ≤ length ends) (end_is : end ≡ get_or (0 ∷ ends) n 0) where
  pub end-within : end ≤ length ws
  end-within = omega (arith, end_is, start-within ws 0 ends n kept.cut (omega arith) h)

  cut-rest : AreCut end ws (drop n ends)
  cut-rest = rw end_is (cut-dropped ws 0 ends n kept.cut h)

  pub rest-fit : (i : ℕ) → i < length (drop n ends) → (end ≤ get_or (drop n ends) i 0) × (moved end 0 (get_or (drop n ends) i 0) < 2 ^ 32)
  rest-fit i l =
      let w = ends-within ws end (drop n ends) i cut-rest l in
      (w.0, omega (arith, w.0, w.1, cut-narrow 0 ws ends kept.cut, kept.within, kept.small))

  abbrev ends_left : List ℕ
  ends_left = map (moved end 0) (drop n ends)

  pub left-length : length ends_left ≡ length ends - n
  left-length = omega (arith, length-map (drop n ends) (moved end 0), length-drop n ends)

  same : (k : ℕ) → end ≤ k → k ≤ length ws → drop (moved end 0 k) (drop end ws) ≡ drop k ws
  same k d l = let z : end + moved end 0 k ≡ k = omega (arith, d) in drop-drop (moved end 0 k) end ws ∙ ap (λ j. drop j ws) z

  begins : moved end 0 end ≡ 0
  begins = omega arith

  rows-left : cut_rows 0 (drop end ws) ends_left ≡ drop n (cut_rows 0 ws ends)
  rows-left =
      ap (λ s. cut_rows s (drop end ws) ends_left) (sym begins) ∙ rows-moved ws (drop end ws) end 0 same end (drop n ends) (omega arith) cut-rest
      ∙ ap (λ s. cut_rows s ws (drop n ends)) end_is ∙ sym (rows-dropped ws 0 ends n h)

  cut-left : AreCut 0 (drop end ws) ends_left
  cut-left =
      subst (λ (s : ℕ). AreCut s (drop end ws) ends_left) begins (cut-moved ws (drop end ws) end 0 same (omega (arith, length-drop end ws)) end (drop n ends) (omega arith) cut-rest)

  pub left-kept : (capacity' end_capacity' : ℕ) → capacity ≤ capacity' → end_capacity ≤ end_capacity' → HaveRoom (drop end ws) ends_left capacity' end_capacity' room
  left-kept capacity' end_capacity' more end_more = record {
    cut = cut-left;
    within = omega (arith, left-length, kept.within);
    places = omega (arith, kept.places, more);
    end_places = omega (arith, kept.end_places, end_more);
    small = kept.small;
  }

  pub left-rows : (C : CountTable) → table_of ws ends room ≡ C → (table_of (drop end ws) ends_left room).rows ≡ drop n C.rows ++ replicate n no_row
  left-rows C e =
      let xs : List (List Weights) = cut_rows 0 ws ends in
      let blank : List (List Weights) = replicate (room - length ends) no_row in
      let m : room - length ends_left ≡ (room - length ends) + n = omega (arith, left-length, kept.within, h) in
      ap (λ (ys : List (List Weights)). ys ++ replicate (room - length ends_left) no_row) rows-left
      ∙ ap (λ k. drop n xs ++ replicate k no_row) m
      ∙ ap (λ (ys : List (List Weights)). drop n xs ++ ys) (sym (replicate-append-replicate (room - length ends) n no_row))
      ∙ sym (append_assoc (drop n xs) blank (replicate n no_row))
      ∙ ap (λ (ys : List (List Weights)). ys ++ replicate n no_row) (sym (drop-append-le n xs blank (omega (arith, h, rows-length 0 ws ends))))
      ∙ ap (λ (K : CountTable). drop n K.rows ++ replicate n no_row) e
