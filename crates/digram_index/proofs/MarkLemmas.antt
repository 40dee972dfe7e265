-- Only what is linked is marked.
use Rattle.std.proofs.Common.{◌≡◌, ◌≢◌, ◌⊎◌, inl, inr, ℕ, List, Bool, true, false, map, get_or, Option, Some, None, IsTrue, refl, sym, ap, ◌∙◌, arith}
use Rattle.std.proofs.lemmas.Bool.{cases_eq}
use Rattle.digram_index.specs.Digrams.{Cell}
use Rattle.digram_index.specs.Linked.{AreMarksLinked, IsKept, cell_of, digram_of}
use Rattle.digram_index.specs.Numbers.{Numbering}
use Rattle.digram_index.specs.Spots.{Entered, Spot, spot_at}
use Rattle.digram_index.proofs.CellLemmas.{cell-at, cell-spot}

pub marks-spots : (e e' : Entered) (ms : List Bool) → AreMarksLinked e ms → ((k : ℕ) → spot_at e' k ≡ spot_at e k) → AreMarksLinked e' ms
marks-spots e e' ms M q k m z = M k m (sym (q k) ∙ z)

-- one occurrence more
pub marks-added : (e e' : Entered) (j : ℕ) (s : Spot) (ms : List Bool) → AreMarksLinked e ms → spot_at e' j ≡ Some s → ((k : ℕ) → k ≢ j → spot_at e' k ≡ spot_at e k) → AreMarksLinked e' ms
marks-added e e' j s ms M here others k m z = by (cases_eq k j)
  where
    by : (k ≡ j) ⊎ (k ≡ j → ⊥) → ⊥
    by (inl x) = let y : Some s ≡ None = sym here ∙ ap (spot_at e') (sym x) ∙ z in cc
    by (inr x) = M k m (sym (others k x) ∙ z)

-- one occurrence and its mark fewer
pub kept-taken : (n : Numbering) (e e' : Entered) (j : ℕ) (ms ms' : List Bool) → IsKept n e ms → spot_at e' j ≡ None → ((k : ℕ) → k ≢ j → spot_at e' k ≡ spot_at e k) → e'.callees ≡ e.callees
    → get_or ms' j false ≡ false → ((k : ℕ) → k ≢ j → get_or ms' k false ≡ get_or ms k false) → IsKept n e' ms'
kept-taken n e e' j ms ms' K here others callees gone kept = record {
  known = record {
    callees = let c = K.known.callees in omega (arith, c, callees);
    upper = λ k s h. K.known.upper k s (was k s h);
    lower = λ k s h. K.known.lower k s (was k s h);
    small = λ k s h. K.known.small k s (was k s h);
  };
  marks = λ k m z. K.marks k (sym (kept k (marked k m)) ∙ m) (sym (others k (marked k m)) ∙ z);
}
  where
    other : (k : ℕ) (s : Spot) → spot_at e' k ≡ Some s → k ≢ j
    other k s h x = let y : Some s ≡ None = sym h ∙ ap (spot_at e') x ∙ here in cc

    was : (k : ℕ) (s : Spot) → spot_at e' k ≡ Some s → spot_at e k ≡ Some s
    was k s h = sym (others k (other k s h)) ∙ h

    marked : (k : ℕ) → IsTrue (get_or ms' k false) → k ≢ j
    marked k m x = let y : true ≡ false = sym m ∙ ap (λ (i : ℕ). get_or ms' i false) x ∙ gone in cc

-- one mark more, of what is linked
pub marks-set : (n : Numbering) (e : Entered) (j : ℕ) (ms ms' : List Bool) → AreMarksLinked e ms → get_or (map (cell_of n.numbers) e.spots) j None ≢ None
    → ((k : ℕ) → k ≢ j → get_or ms' k false ≡ get_or ms k false) → AreMarksLinked e ms'
marks-set n e j ms ms' M there others k m z = by (cases_eq k j)
  where
    by : (k ≡ j) ⊎ (k ≡ j → ⊥) → ⊥
    by (inl x) = there (cell-at n.numbers e.spots j ∙ ap (cell_of n.numbers) (ap (spot_at e) (sym x) ∙ z))
    by (inr x) = M k (sym (others k x) ∙ m) z

-- what is marked has a cell
pub marks-cells : (n : Numbering) (e : Entered) (ms : List Bool) → AreMarksLinked e ms → (k : ℕ) → IsTrue (get_or ms k false) → get_or (map (cell_of n.numbers) e.spots) k None ≢ None
marks-cells n e ms M k m z = at (spot_at e k) refl
  where
    at : (o : Option Spot) → spot_at e k ≡ o → ⊥
    at None x = M k m x
    at (Some s) x =
        let c : Cell = record { digram = digram_of n.numbers s.pattern; rank = s.pattern.rank; upper = s.upper } in
        let y : Some c ≡ None = sym (cell-spot n e k s x) ∙ z in
        cc
