-- The places that are read.
use Rattle.std.proofs.Common.{◌≡◌, ℕ, ◌+◌, ◌<◌, List, [], ◌∷◌, ◌++◌, length, refl, subst, arith, length-append}
use Rattle.std.specs.List.{All, flat_map}
use Rattle.std.proofs.lemmas.List.{get_or_at}
use Rattle.std.proofs.lemmas.List.Elements.{All-push}
use Rattle.grammar_file.specs.Numbers.{number_bytes}
use Rattle.grammar_file.specs.Reading.{BeginsNone}
use Rattle.grammar_file.proofs.Reading.{IsReading, Counted, reading_begins, reading_goes, reading_fails}
use Rattle.grammar_file.proofs.Unique.{number-unique}

abbrev pub AreBelow : ℕ → List ℕ → Type 0
AreBelow texts places = All (λ place. place < texts) places

pub record IsReadingPlaces (texts count : ℕ) (start places : List ℕ) (counter : ℕ) (left : List ℕ) : Type 0 where
  pub reading : IsReading (Counted (AreBelow texts) count) number_bytes start places left
  pub counted : length places ≡ counter
  pub below : AreBelow texts places

module _ (texts count : ℕ) (start : List ℕ) where
  pub places_begin : IsReadingPlaces texts count start [] 0 start
  places_begin = record { reading = reading_begins (Counted (AreBelow texts) count) number_bytes start; counted = refl; below = λ k d h. absurd (omega (arith, h)) }

  module _ (places : List ℕ) (counter : ℕ) (left : List ℕ) (h : IsReadingPlaces texts count start places counter left) (more_to_come : counter < count) where
    ends-not : Counted (AreBelow texts) count places → ⊥
    ends-not s = omega (arith, s.1, h.counted)

    pub places_go : (new : List ℕ) (place : ℕ) → place < texts → left ≡ number_bytes place ++ new → IsReadingPlaces texts count start (places ++ place ∷ []) (counter + 1) new
    places_go new place less e = record {
      reading = reading_goes (Counted (AreBelow texts) count) number_bytes start places left new place h.reading e ends-not (λ y rest more s is. number-unique place y new more is);
      counted = omega (arith, length-append places (place ∷ []), h.counted);
      below = All-push (λ place. place < texts) places place h.below less;
    }

    -- no place comes next
    pub places_break : BeginsNone (λ n. n < texts) number_bytes left → BeginsNone (Counted (AreBelow texts) count) (flat_map number_bytes) start
    places_break = reading_fails (Counted (AreBelow texts) count) number_bytes start places left (λ n. n < texts) h.reading ends-not next_below
      where
        next_below : (y : ℕ) (rest : List ℕ) → Counted (AreBelow texts) count (places ++ y ∷ rest) → y < texts
        next_below y rest s = subst (λ z. z < texts) (get_or_at places y rest 0 (length places) refl) (s.0 (length places) 0 (omega (arith, length-append places (y ∷ rest))))
