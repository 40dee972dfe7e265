-- Every token is scanned to its end, and not before.
use Rattle.std.proofs.Common.{◌≡◌, ℕ, ◌+◌, ◌/◌, ◌%◌, ◌<◌, ◌≤◌, Bool, true, false, cond, List, [], ◌∷◌, refl, ap, sym, ◌∙◌, subst, ◌⊎◌, inl, inr, arith}
use Rattle.std.specs.Prelude.{◌==◌}
use lib.Utf8.{encode}
use lib.Dec.{ltb}
use borrow.Author.Tests.{ltb-true, ltb-false}
use Rattle.std.proofs.lemmas.Bool.Decides.{nat_tests}
use Rattle.plain_tree.specs.XmlNames.{is_within, is_char}
use Rattle.xml_tokenizer.specs.Scanning.{scan_step, scanned, next_step}
use Rattle.xml_tokens.specs.Tokens.{Token, Character, Reference, Section, Start, Empty, End, Comment, Instruction, Declaration, Doctype, IsToken}
use Rattle.xml_tokens.specs.Markup.{IsCharacter}
use Rattle.xml_tokenizer.specs.declared.scan.Scan.TheVariants as at
use Rattle.xml_tokenizer.specs.declared.scan.Step.{Step}
use Rattle.xml_tokenizer.specs.declared.scan.Step.TheVariants.{On, Whole}
use Rattle.xml_tokens.proofs.Numbers.{char_small}
use Rattle.xml_tokenizer.proofs.ScanMarks.{scans_reference, scans_section, scans_comment, scans_instruction}
use Rattle.xml_tokenizer.proofs.ScanTags.{scans_start, scans_end}
use Rattle.xml_tokenizer.proofs.ScanDeclarations.{scans_declaration, scans_doctype}

-- a character: its first byte says how many follow
later_step : (c : ℕ) (next : Step) → next_step (128 + c % 64) next ≡ next
later_step c next = rw within refl where
  within : is_within 128 191 (128 + c % 64) ≡ true
  within = grind (arith, nat_tests)

scan_two : (c : ℕ) → 128 ≤ c → c < 2048 → scanned (On at.Idle) ((192 + c / 64) ∷ (128 + c % 64) ∷ []) ≡ Whole
scan_two c h k = ap (λ z. scanned z ((128 + c % 64) ∷ [])) first ∙ later_step c Whole where
  first : scan_step at.Idle (192 + c / 64) ≡ On at.One
  first = grind (arith, nat_tests)

scan_three : (c : ℕ) → 2048 ≤ c → c < 65536 → scanned (On at.Idle) ((224 + c / 4096) ∷ (128 + c / 64 % 64) ∷ (128 + c % 64) ∷ []) ≡ Whole
scan_three c h k =
    ap (λ z. scanned z ((128 + c / 64 % 64) ∷ (128 + c % 64) ∷ [])) first ∙ ap (λ z. scanned z ((128 + c % 64) ∷ [])) (later_step (c / 64) (On at.One)) ∙ later_step c Whole where
      first : scan_step at.Idle (224 + c / 4096) ≡ On at.Two
      first = grind (arith, nat_tests)

scan_four : (c : ℕ) → 65536 ≤ c → c < 0x110000
    → scanned (On at.Idle) ((240 + c / 262144) ∷ (128 + c / 4096 % 64) ∷ (128 + c / 64 % 64) ∷ (128 + c % 64) ∷ []) ≡ Whole
scan_four c h k =
    ap (λ z. scanned z ((128 + c / 4096 % 64) ∷ (128 + c / 64 % 64) ∷ (128 + c % 64) ∷ [])) first
    ∙ ap (λ z. scanned z ((128 + c / 64 % 64) ∷ (128 + c % 64) ∷ [])) (later_step (c / 4096) (On at.Two))
    ∙ ap (λ z. scanned z ((128 + c % 64) ∷ [])) (later_step (c / 64) (On at.One)) ∙ later_step c Whole where
      first : scan_step at.Idle (240 + c / 262144) ≡ On at.Three
      first = grind (arith, nat_tests)

scan_one : (c : ℕ) → (c == 60) ≡ false → (c == 38) ≡ false → c < 128 → scan_step at.Idle c ≡ Whole
scan_one c e f h = grind (arith, nat_tests)

scan_case : (b : Bool) (x y : List ℕ) → (b ≡ true → scanned (On at.Idle) x ≡ Whole) → (b ≡ false → scanned (On at.Idle) y ≡ Whole) → scanned (On at.Idle) (cond b x y) ≡ Whole
scan_case true x y f g = f refl
scan_case false x y f g = g refl

xml_fits : (c : ℕ) → is_char c ≡ true → c < 0x110000
xml_fits c e = fits c (char_small c e) where
  fits : (c : ℕ) → (c < 0xD800) ⊎ ((0xE000 ≤ c) × (c < 0x110000)) → c < 0x110000
  fits c (inl h) = omega arith
  fits c (inr h) = omega arith

encode_scans : (c : ℕ) → is_char c ≡ true → (c == 60) ≡ false → (c == 38) ≡ false → scanned (On at.Idle) (encode c) ≡ Whole
unfolding encode
encode_scans c l e f =
    scan_case (ltb c 128) _ _ (λ h. scan_one c e f (ltb-true c 128 h))
    (λ h. scan_case (ltb c 2048) _ _ (λ k. scan_two c (ltb-false c 128 h) (ltb-true c 2048 k))
    (λ k. scan_case (ltb c 65536) _ _ (λ m. scan_three c (ltb-false c 2048 k) (ltb-true c 65536 m)) (λ m. scan_four c (ltb-false c 65536 m) (xml_fits c l))))

scans_character : (c : ℕ) (x : List ℕ) → IsCharacter c x → scanned (On at.Idle) x ≡ Whole
scans_character c x s = subst (λ z. scanned (On at.Idle) z ≡ Whole) (sym s.whole) (encode_scans c s.lawful s.no_less s.no_and)

-- every token's text is scanned to its end, and not before
pub scans : (t : Token) (x : List ℕ) → IsToken t x → scanned (On at.Idle) x ≡ Whole
scans (Character c) x is = scans_character c x is
scans (Reference c) x is = scans_reference c x is
scans (Section v) x is = scans_section v x is
scans (Start n attributes) x is = scans_start n attributes (62 ∷ []) x refl is
scans (Empty n attributes) x is = scans_start n attributes (47 ∷ 62 ∷ []) x refl is
scans (End n) x is = scans_end n x is
scans (Comment v) x is = scans_comment v x is
scans (Instruction n v) x is = scans_instruction n v x is
scans Declaration x is = scans_declaration x is
scans Doctype x is = scans_doctype x is
