-- Rows of which one is replaced, put in, or taken out.
use Rattle.std.proofs.Common.{◌≡◌, ℕ, zero, suc, ◌+◌, ◌-◌, ◌<◌, ◌≤◌, List, [], ◌∷◌, ◌++◌, length, get_or, take, drop, map, refl, ap, sym, ◌∙◌, arith, subst, append_assoc, length-append, length-drop, length-take, get_or-drop, ◌^◌}
use Rattle.std.specs.Prelude.{replicate, set}
use Rattle.std.specs.List.{insert, remove, splice}
use Rattle.std.proofs.lemmas.List.{append-nil, drop_all, take-append-le, drop-append-le, take-take, drop-take, drop-drop, set-append_left, length-map}
use Rattle.std.proofs.lemmas.List.Edits.{insert-append_left, length-insert, length-remove, remove-append_left}
use Rattle.std.proofs.Math.Seq.{drop-append_seam, take-length}
use borrow.Rule.Slice.PartMut.{put_mid}
use Rattle.segment_counts.specs.Counting.{CountTable, no_row}
use Rattle.segment_counts.specs.Cuts.{AreCut, HaveRoom, cut_rows, moved, table_of}
use Rattle.segment_counts.specs.declared.counts.Weights.{Weights}
use Rattle.segment_counts.proofs.Cuts.{cut-narrow, padded, row_at, row_within, rows-length}

-- rows behind a moved place stay
module _ (ws ws' : List Weights) (from to : ℕ) (same : (k : ℕ) → from ≤ k → k ≤ length ws → drop (moved from to k) ws' ≡ drop k ws) where
  pub rows-moved : (start : ℕ) (ends : List ℕ) → from ≤ start → AreCut start ws ends → cut_rows (moved from to start) ws' (map (moved from to) ends) ≡ cut_rows start ws ends
  rows-moved start [] h c = refl
  rows-moved start (e ∷ es) h c =
      let wide : moved from to e - moved from to start ≡ e - start = omega (arith, h, c.0) in
      ap (λ (x : List Weights). x ∷ cut_rows (moved from to e) ws' (map (moved from to) es)) (ap (λ n. take n (drop (moved from to start) ws')) wide ∙ ap (take (e - start)) (same start h (omega (arith, c.0, c.2))))
      ∙ ap (λ (xs : List (List Weights)). take (e - start) (drop start ws) ∷ xs) (rows-moved e es (omega (arith, h, c.0)) c.3)

  pub cut-moved : length ws' ≡ moved from to (length ws) → (start : ℕ) (ends : List ℕ) → from ≤ start → AreCut start ws ends → AreCut (moved from to start) ws' (map (moved from to) ends)
  cut-moved n start [] h c = omega (arith, n, c)
  cut-moved n start (e ∷ es) h c = (omega (arith, h, c.0), omega (arith, h, c.0, c.1), omega (arith, n, h, c.0, c.2), cut-moved n e es (omega (arith, h, c.0)) c.3)

from-start : (ws : List Weights) (start : ℕ) (ends : List ℕ) (i : ℕ) → AreCut start ws ends → i < length ends → start ≤ get_or (start ∷ ends) i 0
from-start ws start ends zero c h = omega arith
from-start ws start [] (suc i) c h = absurd (omega (arith, h))
from-start ws start (e ∷ es) (suc i) c h = omega (arith, c.0, from-start ws e es i c.3 (omega (arith, h)))

-- what is taken before a place of `take n ws` is taken from ws
early : (ws rest : List Weights) (start e n : ℕ) → start ≤ e → e ≤ n → n ≤ length ws → take (e - start) (drop start (take n ws ++ rest)) ≡ take (e - start) (drop start ws)
early ws rest start e n h k l =
    let m : ℕ = n - start in
    let nm : n ≡ start + m = omega (arith, h, k) in
    let inside : start ≤ length (take n ws) = omega (arith, h, k, l, length-take n ws) in
    let room : e - start ≤ length (drop start (take n ws)) = omega (arith, h, k, l, length-take n ws, length-drop start (take n ws)) in
    ap (take (e - start)) (drop-append-le start (take n ws) rest inside)
    ∙ take-append-le (e - start) (drop start (take n ws)) rest room
    ∙ ap (λ j. take (e - start) (drop start (take j ws))) nm
    ∙ ap (take (e - start)) (drop-take start m ws)
    ∙ take-take (e - start) m (drop start ws) (omega (arith, h, k))

module _ (ws row : List Weights) (narrow : length row ≤ 9) where
  -- the weights once a row stands in place of those from one place to another
  length-spliced : (from to : ℕ) → from ≤ to → to ≤ length ws → length (splice ws from to row) ≡ moved to (from + length row) (length ws)
  length-spliced from to h k = omega (arith, h, k, length-append (take from ws) (row ++ drop to ws), length-append row (drop to ws), length-take from ws, length-drop to ws)

  seam : (xs ys : List Weights) (n k : ℕ) → length xs ≡ n → drop (n + k) (xs ++ ys) ≡ drop k ys
  seam xs ys n k e = sym (drop-drop k n (xs ++ ys)) ∙ ap (drop k) (ap (λ j. drop j (xs ++ ys)) (sym e) ∙ drop-append_seam xs ys)

  -- behind the row all is as before
  behind : (from to k : ℕ) → from ≤ to → to ≤ k → k ≤ length ws → drop (moved to (from + length row) k) (splice ws from to row) ≡ drop k ws
  behind from to k h d l =
      let n : length (take from ws) ≡ from = omega (arith, h, d, l, length-take from ws) in
      let e : moved to (from + length row) k ≡ from + (length row + (k - to)) = omega (arith, d) in
      let z : to + (k - to) ≡ k = omega (arith, d) in
      ap (λ j. drop j (splice ws from to row)) e
      ∙ seam (take from ws) (row ++ drop to ws) from (length row + (k - to)) n
      ∙ seam row (drop to ws) (length row) (k - to) refl
      ∙ drop-drop (k - to) to ws
      ∙ ap (λ j. drop j ws) z

  row-there : (from to : ℕ) → from ≤ to → to ≤ length ws → take (moved to (from + length row) to - from) (drop from (splice ws from to row)) ≡ row
  row-there from to h k =
      let n : length (take from ws) ≡ from = omega (arith, h, k, length-take from ws) in
      let w : moved to (from + length row) to - from ≡ length row = omega arith in
      ap (λ j. take j (drop from (splice ws from to row))) w
      ∙ ap (take (length row)) (ap (λ j. drop j (splice ws from to row)) (sym n) ∙ drop-append_seam (take from ws) (row ++ drop to ws))
      ∙ take-append-le (length row) row (drop to ws) (omega arith) ∙ take-length row

  -- the ends once a row was replaced
  abbrev ends_set : ℕ → List ℕ → ℕ → List ℕ
  ends_set start ends rule = take rule ends ++ map (moved (get_or ends rule 0) (get_or (start ∷ ends) rule 0 + length row)) (drop rule ends)

  abbrev put : ℕ → List ℕ → ℕ → List Weights
  put start ends rule = splice ws (get_or (start ∷ ends) rule 0) (get_or ends rule 0) row

  pub rows-set : (start : ℕ) (ends : List ℕ) (rule : ℕ) → AreCut start ws ends → rule < length ends → cut_rows start (put start ends rule) (ends_set start ends rule) ≡ set (cut_rows start ws ends) rule row
  rows-set start [] rule c h = absurd (omega arith)
  rows-set start (e ∷ es) zero c h =
      ap (λ (x : List Weights). x ∷ cut_rows (moved e (start + length row) e) (splice ws start e row) (map (moved e (start + length row)) es)) (row-there start e c.0 c.2)
      ∙ ap (λ (xs : List (List Weights)). row ∷ xs) (rows-moved ws (splice ws start e row) e (start + length row) (λ k d l. behind start e k c.0 d l) e es (omega arith) c.3)
  rows-set start (e ∷ es) (suc rule) c h =
      let w = row_within e ws es rule c.3 (omega (arith, h)) in
      let s : ℕ = get_or (e ∷ es) rule 0 in
      let first = early ws (row ++ drop (get_or es rule 0) ws) start e s c.0 (from-start ws e es rule c.3 (omega (arith, h))) (omega (arith, w.0, w.1)) in
      ap (λ (x : List Weights). x ∷ cut_rows e (put e es rule) (ends_set e es rule)) first
      ∙ ap (λ (xs : List (List Weights)). take (e - start) (drop start ws) ∷ xs) (rows-set e es rule c.3 (omega (arith, h)))

  pub cut-set : (start : ℕ) (ends : List ℕ) (rule : ℕ) → AreCut start ws ends → rule < length ends → AreCut start (put start ends rule) (ends_set start ends rule)
  cut-set start [] rule c h = absurd (omega arith)
  cut-set start (e ∷ es) zero c h =
      let n = length-spliced start e c.0 c.2 in
      (omega arith, omega (arith, narrow), omega (arith, n, c.2), cut-moved ws (splice ws start e row) e (start + length row) (λ k d l. behind start e k c.0 d l) n e es (omega arith) c.3)
  cut-set start (e ∷ es) (suc rule) c h =
      let w = row_within e ws es rule c.3 (omega (arith, h)) in
      let n = length-spliced (get_or (e ∷ es) rule 0) (get_or es rule 0) w.0 w.1 in
      (c.0, c.1, omega (arith, n, w.0, w.1, from-start ws e es rule c.3 (omega (arith, h))), cut-set e es rule c.3 (omega (arith, h)))

-- an empty row put in
pub rows-opened : (ws : List Weights) (start : ℕ) (ends : List ℕ) (place : ℕ) → place ≤ length ends → cut_rows start ws (insert ends place (get_or (start ∷ ends) place 0)) ≡ insert (cut_rows start ws ends) place no_row
rows-opened ws start ends zero h = let z : start - start ≡ 0 = omega arith in ap (λ n. take n (drop start ws) ∷ cut_rows start ws ends) z
rows-opened ws start [] (suc place) h = absurd (omega (arith, h))
rows-opened ws start (e ∷ es) (suc place) h = ap (λ (xs : List (List Weights)). take (e - start) (drop start ws) ∷ xs) (rows-opened ws e es place (omega (arith, h)))

pub cut-opened : (ws : List Weights) (start : ℕ) (ends : List ℕ) (place : ℕ) → start ≤ length ws → place ≤ length ends → AreCut start ws ends → AreCut start ws (insert ends place (get_or (start ∷ ends) place 0))
cut-opened ws start ends zero b h c = (omega arith, omega arith, b, c)
cut-opened ws start [] (suc place) b h c = absurd (omega (arith, h))
cut-opened ws start (e ∷ es) (suc place) b h c = (c.0, c.1, c.2, cut-opened ws e es place c.2 (omega (arith, h)) c.3)

-- an empty row taken out
pub rows-closed : (ws : List Weights) (start : ℕ) (ends : List ℕ) (rule : ℕ) → rule < length ends → get_or ends rule 0 ≡ get_or (start ∷ ends) rule 0 → cut_rows start ws (remove ends rule) ≡ remove (cut_rows start ws ends) rule
rows-closed ws start [] rule h e = absurd (omega (arith, h))
rows-closed ws start (x ∷ es) zero h e = ap (λ n. cut_rows n ws es) (sym e)
rows-closed ws start (x ∷ es) (suc rule) h e = ap (λ (xs : List (List Weights)). take (x - start) (drop start ws) ∷ xs) (rows-closed ws x es rule (omega (arith, h)) e)

pub cut-closed : (ws : List Weights) (start : ℕ) (ends : List ℕ) (rule : ℕ) → rule < length ends → get_or ends rule 0 ≡ get_or (start ∷ ends) rule 0 → AreCut start ws ends → AreCut start ws (remove ends rule)
cut-closed ws start [] rule h e c = absurd (omega (arith, h))
cut-closed ws start (x ∷ es) zero h e c = subst (λ (n : ℕ). AreCut n ws es) e c.3
cut-closed ws start (x ∷ es) (suc rule) h e c = (c.0, c.1, c.2, cut-closed ws x es rule (omega (arith, h)) e c.3)

-- a later end is no less, and lies within the list
later-end : (ws : List Weights) (start : ℕ) (ends : List ℕ) (i j : ℕ) → AreCut start ws ends → i + j < length ends → (get_or ends i 0 ≤ get_or ends (i + j) 0) × (get_or ends (i + j) 0 ≤ length ws)
later-end ws start [] i j c h = absurd (omega (arith, h))
later-end ws start (e ∷ es) zero zero c h = (omega arith, c.2)
later-end ws start (e ∷ []) zero (suc j) c h = absurd (omega (arith, h))
later-end ws start (e ∷ x ∷ es) zero (suc j) c h =
    let l = later-end ws e (x ∷ es) 0 j c.3 (omega (arith, h)) in
    let z : 0 + suc j ≡ suc (0 + j) = omega arith in
    subst (λ (k : ℕ). (e ≤ get_or (e ∷ x ∷ es) k 0) × (get_or (e ∷ x ∷ es) k 0 ≤ length ws)) (sym z) (omega (arith, l.0, c.3.0), l.1)
later-end ws start (e ∷ es) (suc i) j c h =
    let z : suc i + j ≡ suc (i + j) = omega arith in
    subst (λ (k : ℕ). (get_or es i 0 ≤ get_or (e ∷ es) k 0) × (get_or (e ∷ es) k 0 ≤ length ws)) (sym z) (later-end ws e es i j c.3 (omega (arith, h)))

-- a write to the end of a list
pub put-behind : (xs ys : List ℕ) (b : ℕ) → b ≤ length xs → put_mid b (length xs - b) xs ys ≡ take b xs ++ ys
put-behind xs ys b h = ap (λ (zs : List ℕ). take b xs ++ (ys ++ zs)) (drop_all (length xs - b) (drop b xs) (omega (arith, length-drop b xs))) ∙ ap (λ (zs : List ℕ). take b xs ++ zs) (append-nil ys)

-- a row stands in place of another
module _ (ws row : List Weights) (ends : List ℕ) (rule from to capacity end_capacity room : ℕ) (kept : HaveRoom ws ends capacity end_capacity room) (h : rule < length ends) (narrow : length row ≤ 9)
    (from_is : from ≡ get_or (0 ∷ ends) rule 0) (to_is : to ≡ get_or ends rule 0) where
  abbrev spliced : List Weights
  spliced = splice ws from to row

  abbrev ends_moved : List ℕ
  ends_moved = take rule ends ++ map (moved to (from + length row)) (drop rule ends)

  ends-length : length ends_moved ≡ length ends
  ends-length = omega (arith, h, length-append (take rule ends) (map (moved to (from + length row)) (drop rule ends)), length-take rule ends, length-map (drop rule ends) (moved to (from + length row)), length-drop rule ends)

  pub row-range : (from ≤ to) × (to ≤ length ws)
  row-range = let w = row_within 0 ws ends rule kept.cut h in (omega (arith, w.0, from_is, to_is), omega (arith, w.1, to_is))

  spliced-cut : AreCut 0 spliced ends_moved
  spliced-cut = rw (from_is, to_is) (cut-set ws row narrow 0 ends rule kept.cut h)

  spliced-length : length spliced ≡ moved to (from + length row) (length ws)
  spliced-length = let w = row-range in length-spliced ws row narrow from to w.0 w.1

  pub row-room : length ws + length row ≤ capacity + (to - from)
  row-room = let w = row-range in omega (arith, w.0, w.1, spliced-length, cut-narrow 0 spliced ends_moved spliced-cut, ends-length, kept.within, kept.places)

  pub ends-fit : (i : ℕ) → i < length (drop rule ends) → (to ≤ get_or (drop rule ends) i 0) × (moved to (from + length row) (get_or (drop rule ends) i 0) < 2 ^ 32)
  ends-fit i l =
      let w = row-range in
      let b = later-end ws 0 ends rule i kept.cut (omega (arith, l, length-drop rule ends)) in
      let e = get_or-drop rule ends i 0 in
      (omega (arith, b.0, e, to_is), omega (arith, b.1, b.0, e, to_is, w.0, w.1, spliced-length, cut-narrow 0 spliced ends_moved spliced-cut, ends-length, kept.within, kept.small))

  module _ (capacity' end_capacity' : ℕ) (more : capacity ≤ capacity') (end_more : end_capacity ≤ end_capacity') where
    pub set-room : HaveRoom spliced ends_moved capacity' end_capacity' room
    set-room = record {
      cut = spliced-cut;
      within = omega (arith, ends-length, kept.within);
      places = omega (arith, kept.places, more);
      end_places = omega (arith, kept.end_places, end_more);
      small = kept.small;
    }

  pub set-rows : (C : CountTable) → table_of ws ends room ≡ C → (table_of spliced ends_moved room).rows ≡ set C.rows rule row
  set-rows C e =
      ap (λ n. cut_rows 0 spliced ends_moved ++ replicate (room - n) no_row) ends-length
      ∙ ap (λ (xs : List (List Weights)). xs ++ replicate (room - length ends) no_row) (rw (from_is, to_is) (rows-set ws row narrow 0 ends rule kept.cut h))
      ∙ sym (set-append_left (cut_rows 0 ws ends) (replicate (room - length ends) no_row) rule row (omega (arith, h, rows-length 0 ws ends)))
      ∙ ap (λ (K : CountTable). set K.rows rule row) e

  pub set-rules : (C : CountTable) → table_of ws ends room ≡ C → length ends_moved ≡ C.rules
  set-rules C e = ends-length ∙ ap (λ (K : CountTable). K.rules) e

blank-end : (n : ℕ) → replicate n no_row ++ no_row ∷ [] ≡ replicate (suc n) no_row
blank-end zero = refl
blank-end (suc n) = ap (λ (xs : List (List Weights)). no_row ∷ xs) (blank-end n)

-- room for a row was made
module _ (ws : List Weights) (ends : List ℕ) (place start capacity end_capacity room : ℕ) (kept : HaveRoom ws ends capacity end_capacity room) (free : length ends < room) (h : place ≤ length ends)
    (start_is : start ≡ get_or (0 ∷ ends) place 0) where
  pub opened-length : length (insert ends place start) ≡ length ends + 1
  opened-length = length-insert ends place start h

  pub opened-room : (end_capacity' : ℕ) → end_capacity ≤ end_capacity' → HaveRoom ws (insert ends place start) capacity end_capacity' room
  opened-room end_capacity' more = record {
    cut = rw start_is (cut-opened ws 0 ends place (omega arith) h kept.cut);
    within = omega (arith, opened-length, free);
    places = kept.places;
    end_places = omega (arith, kept.end_places, more);
    small = kept.small;
  }

  pub opened-rows : (C : CountTable) → table_of ws ends room ≡ C → (table_of ws (insert ends place start) room).rows ++ no_row ∷ [] ≡ insert C.rows place no_row
  opened-rows C e =
      let xs : List (List Weights) = cut_rows 0 ws ends in
      let n : ℕ = room - length (insert ends place start) in
      let m : suc n ≡ room - length ends = omega (arith, opened-length, free) in
      ap (λ (ys : List (List Weights)). (ys ++ replicate n no_row) ++ no_row ∷ []) (rw start_is (rows-opened ws 0 ends place h))
      ∙ append_assoc (insert xs place no_row) (replicate n no_row) (no_row ∷ [])
      ∙ ap (λ (ys : List (List Weights)). insert xs place no_row ++ ys) (blank-end n ∙ ap (λ k. replicate k no_row) m)
      ∙ sym (insert-append_left xs (replicate (room - length ends) no_row) place no_row (omega (arith, h, rows-length 0 ws ends)))
      ∙ ap (λ (K : CountTable). insert K.rows place no_row) e

-- an empty row was taken out
module _ (ws : List Weights) (ends : List ℕ) (rule capacity end_capacity room : ℕ) (kept : HaveRoom ws ends capacity end_capacity room) (h : rule < length ends) (C : CountTable) (e : table_of ws ends room ≡ C)
    (empty : get_or C.rows rule no_row ≡ no_row) where
  ends-meet : get_or ends rule 0 ≡ get_or (0 ∷ ends) rule 0
  ends-meet =
      let w = row_within 0 ws ends rule kept.cut h in
      let s : ℕ = get_or (0 ∷ ends) rule 0 in
      let t : ℕ = get_or ends rule 0 in
      let r : take (t - s) (drop s ws) ≡ no_row = sym (row_at 0 ws ends rule h) ∙ sym (padded (cut_rows 0 ws ends) (room - length ends) rule) ∙ ap (λ (K : CountTable). get_or K.rows rule no_row) e ∙ empty in
      omega (arith, w.0, w.1, ap length r, length-take (t - s) (drop s ws), length-drop s ws)

  closed-length : length (remove ends rule) + 1 ≡ length ends
  closed-length = length-remove ends rule h

  pub closed-room : (end_capacity' : ℕ) → end_capacity ≤ end_capacity' → HaveRoom ws (remove ends rule) capacity end_capacity' room
  closed-room end_capacity' more = record {
    cut = cut-closed ws 0 ends rule h ends-meet kept.cut;
    within = omega (arith, closed-length, kept.within);
    places = kept.places;
    end_places = omega (arith, kept.end_places, more);
    small = kept.small;
  }

  pub closed-rows : (table_of ws (remove ends rule) room).rows ≡ remove C.rows rule ++ no_row ∷ []
  closed-rows =
      let xs : List (List Weights) = cut_rows 0 ws ends in
      let n : ℕ = room - length ends in
      let m : room - length (remove ends rule) ≡ suc n = omega (arith, closed-length, kept.within) in
      ap (λ (ys : List (List Weights)). ys ++ replicate (room - length (remove ends rule)) no_row) (rows-closed ws 0 ends rule h ends-meet)
      ∙ ap (λ k. remove xs rule ++ replicate k no_row) m
      ∙ ap (λ (ys : List (List Weights)). remove xs rule ++ ys) (sym (blank-end n))
      ∙ sym (append_assoc (remove xs rule) (replicate n no_row) (no_row ∷ []))
      ∙ ap (λ (ys : List (List Weights)). ys ++ no_row ∷ []) (sym (remove-append_left xs (replicate n no_row) rule (omega (arith, h, rows-length 0 ws ends))))
      ∙ ap (λ (K : CountTable). remove K.rows rule ++ no_row ∷ []) e

pub remove-set : (xs : List (List Weights)) (i : ℕ) (R : List Weights) → remove (set xs i R) i ≡ remove xs i
remove-set [] i R = refl
remove-set (x ∷ xs) zero R = refl
remove-set (x ∷ xs) (suc i) R = ap (λ (ys : List (List Weights)). x ∷ ys) (remove-set xs i R)

pub set-insert : (xs : List (List Weights)) (i : ℕ) (R S : List Weights) → i ≤ length xs → set (insert xs i R) i S ≡ insert xs i S
set-insert xs zero R S h = refl
set-insert [] (suc i) R S h = absurd (omega (arith, h))
set-insert (x ∷ xs) (suc i) R S h = ap (λ (ys : List (List Weights)). x ∷ ys) (set-insert xs i R S (omega (arith, h)))

-- a row is put where an empty one was put in
pub leaf-rows : (xs ys zs : List (List Weights)) (i : ℕ) (R : List Weights) → ys ++ no_row ∷ [] ≡ insert xs i no_row → zs ≡ set ys i R → i < length ys → i ≤ length xs → zs ++ no_row ∷ [] ≡ insert xs i R
leaf-rows xs ys zs i R e f h k =
    ap (λ (us : List (List Weights)). us ++ no_row ∷ []) f ∙ sym (set-append_left ys (no_row ∷ []) i R h) ∙ ap (λ (us : List (List Weights)). set us i R) e ∙ set-insert xs i no_row R k

pub blank-set : (xs : List (List Weights)) (i : ℕ) → get_or (set xs i no_row) i no_row ≡ no_row
blank-set [] i = refl
blank-set (x ∷ xs) zero = refl
blank-set (x ∷ xs) (suc i) = blank-set xs i

pub start-within : (ws : List Weights) (start : ℕ) (ends : List ℕ) (i : ℕ) → AreCut start ws ends → start ≤ length ws → i ≤ length ends → get_or (start ∷ ends) i 0 ≤ length ws
start-within ws start ends zero c b h = b
start-within ws start [] (suc i) c b h = absurd (omega (arith, h))
start-within ws start (e ∷ es) (suc i) c b h = start-within ws e es i c.3 c.2 (omega (arith, h))
