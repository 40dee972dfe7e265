-- Rows that lie one behind another in one list, and a table of them.
use Rattle.std.proofs.Common.{◌≡◌, ℕ, zero, suc, ◌+◌, ◌-◌, ◌*◌, ◌<◌, ◌≤◌, List, [], ◌∷◌, ◌++◌, length, get_or, take, drop, refl, ap, sym, ◌∙◌, subst, arith, length-append, length-drop, length-take, get_or-drop}
use Rattle.std.specs.Prelude.{replicate, set}
use Rattle.std.proofs.lemmas.List.{get_or-take, take-append-le, drop-append-le}
use Rattle.std.proofs.Math.Seq.{drop-append_seam, take-length}
use Rattle.segment_counts.specs.Counting.{CountTable, no_row, no_weights}
use Rattle.segment_counts.specs.Cuts.{AreCut, HaveRoom, cut_rows, table_of}
use Rattle.segment_counts.specs.declared.counts.Weights.{Weights}

take_more : (ws : List Weights) (n : ℕ) → n ≡ length ws → take n ws ≡ ws
take_more ws n e = ap (λ k. take k ws) e ∙ take-length ws

rows-push : (start : ℕ) (ws : List Weights) (ends : List ℕ) (more : List Weights) → AreCut start ws ends → cut_rows start (ws ++ more) (ends ++ length (ws ++ more) ∷ []) ≡ cut_rows start ws ends ++ more ∷ []
rows-push start ws [] more c =
    let rest : drop start (ws ++ more) ≡ more = ap (λ k. drop k (ws ++ more)) c ∙ drop-append_seam ws more in
    let n : length (ws ++ more) - start ≡ length more = omega (arith, c, length-append ws more) in
    ap (λ (x : List Weights). x ∷ []) (ap (take (length (ws ++ more) - start)) rest ∙ take_more more (length (ws ++ more) - start) n)
rows-push start ws (e ∷ es) more c =
    let inside : start ≤ length ws = omega (arith, c.0, c.2) in
    let rest : drop start (ws ++ more) ≡ drop start ws ++ more = drop-append-le start ws more inside in
    let room : e - start ≤ length (drop start ws) = omega (arith, c.0, c.2, length-drop start ws) in
    let first : take (e - start) (drop start (ws ++ more)) ≡ take (e - start) (drop start ws) =
    ap (take (e - start)) rest ∙ take-append-le (e - start) (drop start ws) more room in
    ap (λ (x : List Weights). x ∷ cut_rows e (ws ++ more) (es ++ length (ws ++ more) ∷ [])) first
    ∙ ap (λ (xs : List (List Weights)). take (e - start) (drop start ws) ∷ xs) (rows-push e ws es more c.3)

cut-push : (start : ℕ) (ws : List Weights) (ends : List ℕ) (more : List Weights) → AreCut start ws ends → length more ≤ 9 → AreCut start (ws ++ more) (ends ++ length (ws ++ more) ∷ [])
cut-push start ws [] more c n = (omega (arith, c, length-append ws more), omega (arith, c, n, length-append ws more), omega arith, refl)
cut-push start ws (e ∷ es) more c n = (c.0, c.1, omega (arith, c.2, length-append ws more), cut-push e ws es more c.3 n)

-- nine weights a row at most
pub cut-narrow : (start : ℕ) (ws : List Weights) (ends : List ℕ) → AreCut start ws ends → length ws ≤ start + 9 * length ends
cut-narrow start ws [] c = omega (arith, c)
cut-narrow start ws (e ∷ es) c = omega (arith, c.1, cut-narrow e ws es c.3)

pub rows-length : (start : ℕ) (ws : List Weights) (ends : List ℕ) → length (cut_rows start ws ends) ≡ length ends
rows-length start ws [] = refl
rows-length start ws (e ∷ es) = omega (arith, rows-length e ws es)

-- the row at a place, by its start and its end
pub row_at : (start : ℕ) (ws : List Weights) (ends : List ℕ) (i : ℕ) → i < length ends
    → get_or (cut_rows start ws ends) i no_row ≡ take (get_or ends i 0 - get_or (start ∷ ends) i 0) (drop (get_or (start ∷ ends) i 0) ws)
row_at start ws [] i h = absurd (omega (arith, h))
row_at start ws (e ∷ es) zero h = refl
row_at start ws (e ∷ es) (suc i) h = row_at e ws es i (omega (arith, h))

-- a row lies within the list
pub row_within : (start : ℕ) (ws : List Weights) (ends : List ℕ) (i : ℕ) → AreCut start ws ends → i < length ends → (get_or (start ∷ ends) i 0 ≤ get_or ends i 0) × (get_or ends i 0 ≤ length ws)
row_within start ws [] i c h = absurd (omega (arith, h))
row_within start ws (e ∷ es) zero c h = (c.0, c.2)
row_within start ws (e ∷ es) (suc i) c h = row_within e ws es i c.3 (omega (arith, h))

pub nothing_at : {X : Type 0} (xs : List X) (i : ℕ) (d : X) → length xs ≤ i → get_or xs i d ≡ d
nothing_at [] i d h = refl
nothing_at (x ∷ xs) zero d h = absurd (omega (arith, h))
nothing_at (x ∷ xs) (suc i) d h = nothing_at xs i d (omega (arith, h))

blank : (n i : ℕ) → get_or (replicate n no_row) i no_row ≡ no_row
blank zero i = refl
blank (suc n) zero = refl
blank (suc n) (suc i) = blank n i

-- empty rows behind others say nothing
pub padded : (xs : List (List Weights)) (n i : ℕ) → get_or (xs ++ replicate n no_row) i no_row ≡ get_or xs i no_row
padded [] n i = blank n i
padded (x ∷ xs) n zero = refl
padded (x ∷ xs) n (suc i) = padded xs n i

length-blank : (n : ℕ) → length (replicate n no_row) ≡ n
length-blank zero = refl
length-blank (suc n) = ap suc (length-blank n)

pub table-length : (ws : List Weights) (ends : List ℕ) (room : ℕ) → length ends ≤ room → length (table_of ws ends room).rows ≡ room
table-length ws ends room h = omega (arith, length-append (cut_rows 0 ws ends) (replicate (room - length ends) no_row), rows-length 0 ws ends, length-blank (room - length ends))

-- the rows that are seen are as many as there is room for
pub room-is : (ws : List Weights) (ends : List ℕ) (capacity end_capacity room : ℕ) → HaveRoom ws ends capacity end_capacity room → (C : CountTable) → table_of ws ends room ≡ C → room ≡ length C.rows
room-is ws ends capacity end_capacity room h C e = sym (table-length ws ends room h.within) ∙ ap (λ (K : CountTable). length K.rows) e

-- where there is room for a rule that is seen, there is room for its end
pub free-is : (ws : List Weights) (ends : List ℕ) (capacity end_capacity room : ℕ) → HaveRoom ws ends capacity end_capacity room → (C : CountTable) → table_of ws ends room ≡ C → C.rules < length C.rows → length ends < room
free-is ws ends capacity end_capacity room h C e f = omega (arith, f, room-is ws ends capacity end_capacity room h C e, ap (λ (K : CountTable). K.rules) e)

set-padded : (xs : List (List Weights)) (n : ℕ) (R : List Weights) → set (xs ++ replicate (suc n) no_row) (length xs) R ≡ (xs ++ R ∷ []) ++ replicate n no_row
set-padded [] n R = refl
set-padded (x ∷ xs) n R = ap (λ ys. x ∷ ys) (set-padded xs n R)

-- a row was put behind the others
module _ (ws ws' row : List Weights) (ends ends' : List ℕ) (end capacity capacity' end_capacity end_capacity' room : ℕ) (kept : HaveRoom ws ends capacity end_capacity room)
    (free : length ends < room) (narrow : length row ≤ 9) (longer : ws' ≡ ws ++ row) (is_end : end ≡ length ws + length row) (ended : ends' ≡ ends ++ end ∷ [])
    (more : capacity ≤ capacity') (end_more : end_capacity ≤ end_capacity') where
  end-is : end ≡ length (ws ++ row)
  end-is = omega (arith, is_end, length-append ws row)

  ends-are : ends' ≡ ends ++ length (ws ++ row) ∷ []
  ends-are = ended ∙ ap (λ k. ends ++ k ∷ []) end-is

  pub pushed-room : HaveRoom ws' ends' capacity' end_capacity' room
  pushed-room = record {
    cut = subst (λ us. AreCut 0 us ends') (sym longer) (subst (AreCut 0 (ws ++ row)) (sym ends-are) (cut-push 0 ws ends row kept.cut narrow));
    within = omega (arith, free, ap length ended, length-append ends (end ∷ []));
    places = omega (arith, kept.places, more);
    end_places = omega (arith, kept.end_places, end_more);
    small = kept.small;
  }

  rows-are : (table_of ws' ends' room).rows ≡ set (table_of ws ends room).rows (length ends) row
  rows-are =
      let rest : ℕ = room - length ends' in
      let one : room - length ends ≡ suc rest = omega (arith, free, ap length ended, length-append ends (end ∷ [])) in
      let xs : List (List Weights) = cut_rows 0 ws ends in
      ap (λ us. cut_rows 0 us ends' ++ replicate rest no_row) longer
      ∙ ap (λ es. cut_rows 0 (ws ++ row) es ++ replicate rest no_row) ends-are
      ∙ ap (λ ys. ys ++ replicate rest no_row) (rows-push 0 ws ends row kept.cut)
      ∙ sym (set-padded xs rest row)
      ∙ ap (λ k. set (xs ++ replicate (suc rest) no_row) k row) (rows-length 0 ws ends)
      ∙ ap (λ k. set (xs ++ replicate k no_row) (length ends) row) (sym one)

  pub pushed-rules : length ends' ≡ length ends + 1
  pushed-rules = omega (arith, ap length ended, length-append ends (end ∷ []))

  pub pushed-rows : (C : CountTable) → table_of ws ends room ≡ C → (table_of ws' ends' room).rows ≡ set C.rows C.rules row
  pushed-rows C e = rows-are ∙ ap (λ (K : CountTable). set K.rows K.rules row) e

pub no-rule : (ws : List Weights) (ends : List ℕ) (rule segment : ℕ) → length ends ≤ rule → no_weights ≡ get_or (get_or (cut_rows 0 ws ends) rule no_row) segment no_weights
no-rule ws ends rule segment h = sym (ap (λ (R : List Weights). get_or R segment no_weights) (nothing_at (cut_rows 0 ws ends) rule no_row (omega (arith, h, rows-length 0 ws ends))))

-- the segment of a rule, by where the rule's segments begin and end
module _ (ws : List Weights) (ends : List ℕ) (rule segment start : ℕ) (begins : start ≡ get_or (0 ∷ ends) rule 0) where
  row-is : rule < length ends → get_or (cut_rows 0 ws ends) rule no_row ≡ take (get_or ends rule 0 - start) (drop start ws)
  row-is h = row_at 0 ws ends rule h ∙ ap (λ s. take (get_or ends rule 0 - s) (drop s ws)) (sym begins)

  pub segment-is : rule < length ends → segment < get_or ends rule 0 - start → get_or ws (start + segment) no_weights ≡ get_or (get_or (cut_rows 0 ws ends) rule no_row) segment no_weights
  segment-is h k =
      sym (get_or-drop start ws segment no_weights)
      ∙ sym (get_or-take (get_or ends rule 0 - start) (drop start ws) segment no_weights k)
      ∙ ap (λ (R : List Weights). get_or R segment no_weights) (sym (row-is h))

  pub no-segment : rule < length ends → get_or ends rule 0 - start ≤ segment → no_weights ≡ get_or (get_or (cut_rows 0 ws ends) rule no_row) segment no_weights
  no-segment h k =
      sym (nothing_at (take (get_or ends rule 0 - start) (drop start ws)) segment no_weights (omega (arith, k, length-take (get_or ends rule 0 - start) (drop start ws))))
      ∙ ap (λ (R : List Weights). get_or R segment no_weights) (sym (row-is h))
