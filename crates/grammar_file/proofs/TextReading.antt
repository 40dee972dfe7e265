-- The texts that are read.
use Rattle.std.proofs.Common.{◌≡◌, ℕ, ◌+◌, ◌<◌, List, [], ◌∷◌, ◌++◌, length, refl, sym, arith, append_assoc, length-append, ◌∙◌, ap}
use Rattle.std.specs.List.{flat_map}
use Rattle.grammar_file.specs.FileBytes.{text_bytes}
use Rattle.grammar_file.specs.Numbers.{number_bytes}
use Rattle.grammar_file.specs.Reading.{BeginsNone}
use Rattle.grammar_file.proofs.Numbers.{number_some}
use Rattle.grammar_file.proofs.Reading.{IsReading, Counted, reading_begins, reading_goes, reading_fails}
use Rattle.grammar_file.proofs.Unique.{number-unique, text-unique}

-- fewer bytes are left than the length says
pub text_is_cut : (old : List ℕ) (n : ℕ) (left : List ℕ) → old ≡ number_bytes n ++ left → length left < n → BeginsNone (λ _. Unit {0}) text_bytes old
text_is_cut old n left is few text more _ e =
    let told = number-unique n (length text) left (text ++ more) (sym is ∙ e ∙ append_assoc (number_bytes (length text)) text more) in
    omega (arith, told.0, ap length told.1, length-append text more)

-- a text has a byte at least
pub text_some : (text : List ℕ) → 0 < length (text_bytes text)
text_some text = omega (arith, number_some (length text), length-append (number_bytes (length text)) text)

-- ---- texts behind their count
pub record IsReadingTexts (count : ℕ) (start : List ℕ) (texts : List (List ℕ)) (counter : ℕ) (left : List ℕ) : Type 0 where
  pub reading : IsReading (Counted (λ _. Unit {0}) count) text_bytes start texts left
  pub counted : length texts ≡ counter

module _ (count : ℕ) (start : List ℕ) where
  pub texts_begin : IsReadingTexts count start [] 0 start
  texts_begin = record { reading = reading_begins (Counted (λ _. Unit {0}) count) text_bytes start; counted = refl }

  module _ (texts : List (List ℕ)) (counter : ℕ) (left : List ℕ) (h : IsReadingTexts count start texts counter left) (more_to_come : counter < count) where
    ends-not : Counted (λ _. Unit {0}) count texts → ⊥
    ends-not s = omega (arith, s.1, h.counted)

    pub texts_go : (new text : List ℕ) → left ≡ text_bytes text ++ new → IsReadingTexts count start (texts ++ text ∷ []) (counter + 1) new
    texts_go new text e = record {
      reading = reading_goes (Counted (λ _. Unit {0}) count) text_bytes start texts left new text h.reading e ends-not (λ y rest more s is. text-unique text y new more is);
      counted = omega (arith, length-append texts (text ∷ []), h.counted);
    }

    -- no text comes next
    pub texts_break : BeginsNone (λ _. Unit {0}) text_bytes left → BeginsNone (Counted (λ _. Unit {0}) count) (flat_map text_bytes) start
    texts_break = reading_fails (Counted (λ _. Unit {0}) count) text_bytes start texts left (λ _. Unit {0}) h.reading ends-not (λ y rest s. tt)
