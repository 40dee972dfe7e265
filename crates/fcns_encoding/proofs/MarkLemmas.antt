-- Counted uses, and the marks of numbers.
use Rattle.std.proofs.Common.{◌≡◌, ℕ, zero, suc, ◌+◌, ◌<◌, ◌≤◌, eqb, Bool, true, false, List, [], ◌∷◌, ◌++◌, length, map, take, get_or, Some, slice_get, slice_set, if◌then◌else◌, refl, ap, sym, ◌∙◌, inl, inr, arith, append_assoc}
use Rattle.std.proofs.lemmas.List.{map-append}
use Rattle.std.proofs.lemmas.Bool.{eq-eqb}
use Rattle.std.proofs.lemmas.Bool.Decides.{eqb_tells}
use Rattle.fcns_encoding.specs.Cells.{AreEarlier}
use Rattle.fcns_encoding.specs.Marks.{used_by, one_if, times, capped, AreCounted, is_shared, SharesTwice, Mark, bottom_mark, mark_with, labels_over, mark_of, all_marks, capped_labels, marks_of}
use Rattle.fcns_encoding.specs.declared.sharing.Sharing.{Sharing}
use Rattle.fcns_encoding.specs.declared.subterms.Cell.{Cell}
use Rattle.fcns_encoding.proofs.CellLemmas.{take-more, get_set, set_length, length_take, numbered_is, numbered_long, numbered_push}

pub times-append : (k : ℕ) (xs ys : List ℕ) → times k (xs ++ ys) ≡ times k xs + times k ys
times-append k [] ys = omega arith
times-append k (x ∷ xs) ys = omega (arith, times-append k xs ys)

used_by-append : (xs ys : List Cell) → used_by (xs ++ ys) ≡ used_by xs ++ used_by ys
used_by-append [] ys = refl
used_by-append (c ∷ cs) ys = ap (λ ks. c.first ∷ c.second ∷ ks) (used_by-append cs ys)

-- one cell more
pub used_by-more : (cells : List Cell) (i : ℕ) (c : Cell) → slice_get cells i ≡ Some c → used_by (take (i + 1) cells) ≡ (used_by (take i cells) ++ c.first ∷ []) ++ c.second ∷ []
used_by-more cells i c e =
    ap used_by (take-more cells i c e) ∙ used_by-append (take i cells) (c ∷ []) ∙ sym (append_assoc (used_by (take i cells)) (c.first ∷ []) (c.second ∷ []))

hit : (i k : ℕ) → i ≡ k → one_if (eqb i k) ≡ 1
hit i k e = ap one_if (eq-eqb i k e)

missed : (i k : ℕ) → (i ≡ k → ⊥) → one_if (eqb i k) ≡ 0
missed i k n = elim (eqb_tells i k) [ inl w ↦ absurd (n w.1) | inr w ↦ ap one_if w.0 ]

-- a count goes on by one
capped-next : (n : ℕ) → capped (capped n + 1) ≡ capped (n + 1)
capped-next n = omega arith

-- a number is used once more
pub counted-more : (uses uses' : List ℕ) (numbers : List ℕ) (number now next : ℕ) → AreCounted numbers uses → number < length uses → slice_get uses number ≡ Some now → next ≡ capped (now + 1) → uses' ≡ slice_set uses number next
    → AreCounted (numbers ++ number ∷ []) uses'
counted-more uses uses' numbers number now next counted there is step e k h =
    let longer = set_length uses number next in
    let low : k < length uses = omega (arith, h, longer, ap length e) in
    let more : times k (numbers ++ number ∷ []) ≡ times k numbers + (one_if (eqb number k) + 0) = times-append k numbers (number ∷ []) in
    ap (λ us. slice_get us k) e
    ∙ elim (get_set uses number k next low) [
      | inl w ↦
          let same : now ≡ capped (times number numbers) = one (sym is ∙ counted number there) in
          let n : times number numbers + 1 ≡ times k (numbers ++ number ∷ []) = omega (arith, more, hit number k w.0, ap (λ j. times j numbers) w.0) in
          w.1 ∙ ap Some (step ∙ ap (λ j. capped (j + 1)) same ∙ capped-next (times number numbers) ∙ ap capped n)
      | inr w ↦
          let n : times k numbers ≡ times k (numbers ++ number ∷ []) = omega (arith, more, missed number k w.0) in
          w.1 ∙ counted k low ∙ ap (λ j. Some (capped j)) n
    ]
  where
    one : {a b : ℕ} → Some a ≡ Some b → a ≡ b
    one e = cc

pub map-length : {X Y : Type 0} (f : X → Y) (xs : List X) → length (map f xs) ≡ length xs
map-length f [] = refl
map-length f (x ∷ xs) = ap suc (map-length f xs)

module _ (sharing : Sharing) (used : List ℕ) (cells : List Cell) where
  pub seen-length : (i : ℕ) (c : Cell) → slice_get cells i ≡ Some c → length (all_marks sharing used (take i cells)) ≡ i + 1
  seen-length i c e = omega (arith, numbered_long bottom_mark (mark_of sharing used) (take i cells), length_take cells i c e)

  -- the mark of one cell more
  marks-more : (i : ℕ) (c : Cell) → slice_get cells i ≡ Some c
      → let seen = all_marks sharing used (take i cells) in
      all_marks sharing used (take (i + 1) cells) ≡ seen ++ mark_of sharing used (i + 1) c (get_or seen c.first bottom_mark) (get_or seen c.second bottom_mark) ∷ []
  marks-more i c e =
      let seen = all_marks sharing used (take i cells) in
      ap (all_marks sharing used) (take-more cells i c e) ∙ numbered_push bottom_mark (mark_of sharing used) (take i cells) c
      ∙ ap (λ k. seen ++ mark_of sharing used k c (get_or seen c.first bottom_mark) (get_or seen c.second bottom_mark) ∷ []) (seen-length i c e)

  -- The marks of the first cells, as they are kept.
  pub record AreMarked (at : ℕ) (marks : List Bool) (written : List ℕ) : Type 0 where
    pub marks_are : marks ≡ map (λ (m : Mark). m.ruled) (all_marks sharing used (take at cells))
    pub written_are : written ≡ capped_labels (all_marks sharing used (take at cells))

  pub written-length : (i : ℕ) (c : Cell) (marks : List Bool) (written : List ℕ) → slice_get cells i ≡ Some c → AreMarked i marks written → length written ≡ i + 1
  written-length i c marks written e are = ap length are.written_are ∙ map-length (λ (m : Mark). capped m.labels) (all_marks sharing used (take i cells)) ∙ seen-length i c e

  -- a cell's number is marked
  pub marked-more : (i : ℕ) (c : Cell) (marks marks' : List Bool) (written written' : List ℕ) (shared : Bool) (labels stand : ℕ) → slice_get cells i ≡ Some c → AreMarked i marks written
      → (let seen = all_marks sharing used (take i cells) in let over = labels_over (get_or seen c.first bottom_mark) (get_or seen c.second bottom_mark) in
      (labels ≡ capped over) × (shared ≡ is_shared sharing (times (i + 1) used) over))
      → stand ≡ (if shared then 1 else labels) → marks' ≡ marks ++ shared ∷ [] → written' ≡ written ++ stand ∷ [] → AreMarked (i + 1) marks' written'
  marked-more i c marks marks' written written' shared labels stand e are w s m v =
      let seen = all_marks sharing used (take i cells) in
      let over = labels_over (get_or seen c.first bottom_mark) (get_or seen c.second bottom_mark) in
      let here : Mark = mark_with (is_shared sharing (times (i + 1) used) over) over in
      let ruled : shared ≡ here.ruled = w.1 in
      let stands : stand ≡ capped here.labels = s ∙ by_test shared ∙ ap (λ b. capped (if b then 1 else over)) w.1 in record {
        marks_are = m ∙ ap (λ bs. bs ++ shared ∷ []) are.marks_are ∙ ap (λ b. map (λ (x : Mark). x.ruled) seen ++ b ∷ []) ruled
            ∙ sym (ap (map (λ (x : Mark). x.ruled)) (marks-more i c e) ∙ map-append (λ (x : Mark). x.ruled) seen (here ∷ []));
        written_are = v ∙ ap (λ ks. ks ++ stand ∷ []) are.written_are ∙ ap (λ k. capped_labels seen ++ k ∷ []) stands
            ∙ sym (ap capped_labels (marks-more i c e) ∙ map-append (λ (x : Mark). capped x.labels) seen (here ∷ []));
      }
    where
      by_test : (b : Bool) → (if b then 1 else labels) ≡ capped (if b then 1 else labels_over (get_or (all_marks sharing used (take i cells)) c.first bottom_mark) (get_or (all_marks sharing used (take i cells)) c.second bottom_mark))
      by_test true = refl
      by_test false = w.0

pub marks-length : (sharing : Sharing) (cells : List Cell) → length (marks_of sharing cells) ≡ length cells + 1
marks-length sharing cells = map-length (λ (m : Mark). m.ruled) (all_marks sharing (used_by cells) cells) ∙ numbered_long bottom_mark (mark_of sharing (used_by cells)) cells

-- a number that is used twice is marked, where two uses make a rule
pub twice-marked : (sharing : Sharing) (cells : List Cell) (i : ℕ) (c : Cell) → AreEarlier cells → slice_get cells i ≡ Some c → SharesTwice sharing → 2 ≤ times (suc i) (used_by cells) → get_or (marks_of sharing cells) (suc i) false ≡ true
twice-marked sharing cells i c low e shares twice =
    let used = used_by cells in
    let all = all_marks sharing used cells in
    get_mapped all (suc i) _ (numbered_is bottom_mark (mark_of sharing used) cells i c low e)
    ∙ shares (times (suc i) used) (labels_over (get_or all c.first bottom_mark) (get_or all c.second bottom_mark)) twice
  where
    get_mapped : (ms : List Mark) (k : ℕ) (m : Mark) → slice_get ms k ≡ Some m → get_or (map (λ (x : Mark). x.ruled) ms) k false ≡ m.ruled
    get_mapped [] k m e = cc
    get_mapped (x ∷ ms) zero m e = let same : x ≡ m = cc in ap (λ (y : Mark). y.ruled) same
    get_mapped (x ∷ ms) (suc k) m e = get_mapped ms k m e
