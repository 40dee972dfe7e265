-- A scan over bytes, a run and a byte at a time.
use Rattle.std.proofs.Common.{◌≡◌, ℕ, ◌<◌, ◌≤◌, Bool, true, List, [], ◌∷◌, ◌++◌, length, get_or, refl, ap, sym, ◌∙◌, append_assoc, append-nil, arith}
use Rattle.std.proofs.lemmas.Bool.Decides.{nat_tests}
use Rattle.xml_tokens.specs.Cutting.{front, back, is_other, Begins}
use Rattle.xml_tokenizer.specs.Scanning.{scan_step, scanned, is_tag_byte, is_between}
use Rattle.xml_tokenizer.specs.Ends.{Came, Dies}
use Rattle.xml_tokenizer.specs.declared.scan.Scan.{Scan}
use Rattle.xml_tokenizer.specs.declared.scan.Scan.TheVariants as at
use Rattle.xml_tokenizer.specs.declared.scan.Step.{Step}
use Rattle.xml_tokenizer.specs.declared.scan.Step.TheVariants.{On, Whole, Dead}
use Rattle.xml_tokens.proofs.Lists.{front-back, list_all-front, cons_of, none_of, tail_of}
use Rattle.xml_tokenizer.proofs.ScanLaws.{then_scanned, stays}

pub came_none : (s : Scan) (bytes : List ℕ) → Came s bytes s bytes
came_none s bytes = record { text = []; spelled = refl; whole = refl }

came_run : (s : Scan) (p : ℕ → Bool) (bytes left : List ℕ) → ((c : ℕ) → p c ≡ true → scan_step s c ≡ On s) → left ≡ back p bytes → Came s bytes s left
came_run s p bytes left h e = record {
  text = front p bytes;
  spelled = stays s p h (front p bytes) (list_all-front p bytes);
  whole = sym (front-back p bytes) ∙ ap (λ z. front p bytes ++ z) (sym e);
}

pub came_tag : (bytes left : List ℕ) → left ≡ back is_tag_byte bytes → Came at.Tag bytes at.Tag left
came_tag bytes left e = came_run at.Tag is_tag_byte bytes left stay e where
  stay : (c : ℕ) → is_tag_byte c ≡ true → scan_step at.Tag c ≡ On at.Tag
  stay c h = grind (arith, nat_tests)

pub came_double : (bytes left : List ℕ) → left ≡ back (is_between 34) bytes → Came at.Double bytes at.Double left
came_double bytes left e = came_run at.Double (is_between 34) bytes left stay e where
  stay : (c : ℕ) → is_between 34 c ≡ true → scan_step at.Double c ≡ On at.Double
  stay c h = grind (arith, nat_tests)

pub came_single : (bytes left : List ℕ) → left ≡ back (is_between 39) bytes → Came at.Single bytes at.Single left
came_single bytes left e = came_run at.Single (is_between 39) bytes left stay e where
  stay : (c : ℕ) → is_between 39 c ≡ true → scan_step at.Single c ≡ On at.Single
  stay c h = grind (arith, nat_tests)

pub came_comment : (bytes left : List ℕ) → left ≡ back (is_other 45) bytes → Came at.Comment bytes at.Comment left
came_comment bytes left e = came_run at.Comment (is_other 45) bytes left stay e where
  stay : (c : ℕ) → is_other 45 c ≡ true → scan_step at.Comment c ≡ On at.Comment
  stay c h = grind (arith, nat_tests)

pub came_section : (bytes left : List ℕ) → left ≡ back (is_other 93) bytes → Came at.Section bytes at.Section left
came_section bytes left e = came_run at.Section (is_other 93) bytes left stay e where
  stay : (c : ℕ) → is_other 93 c ≡ true → scan_step at.Section c ≡ On at.Section
  stay c h = grind (arith, nat_tests)

pub came_instruction : (bytes left : List ℕ) → left ≡ back (is_other 63) bytes → Came at.Instruction bytes at.Instruction left
came_instruction bytes left e = came_run at.Instruction (is_other 63) bytes left stay e where
  stay : (c : ℕ) → is_other 63 c ≡ true → scan_step at.Instruction c ≡ On at.Instruction
  stay c h = grind (arith, nat_tests)

module _ (s : Scan) (bytes rest left : List ℕ) (t : Scan) (far : Came s bytes t rest) (same : Came t rest t left) where
  -- over the run
  pub came_on : Came s bytes t left
  came_on = record {
    text = far.text ++ same.text;
    spelled = then_scanned (On s) (On t) far.text same.text far.spelled ∙ same.spelled;
    whole = far.whole ∙ ap (λ z. far.text ++ z) same.whole ∙ sym (append_assoc far.text same.text left);
  }

  -- over one byte more
  over_one : (n : 1 ≤ length left) → bytes ≡ (came_on.text ++ get_or left 0 0 ∷ []) ++ tail_of left
  over_one n = came_on.whole ∙ ap (λ z. came_on.text ++ z) (cons_of left n) ∙ sym (append_assoc came_on.text (get_or left 0 0 ∷ []) (tail_of left))

  step_one : (r : Step) → r ≡ scan_step t (get_or left 0 0) → scanned (On s) (came_on.text ++ get_or left 0 0 ∷ []) ≡ r
  step_one r e = then_scanned (On s) (On t) came_on.text (get_or left 0 0 ∷ []) came_on.spelled ∙ one r (scan_step t (get_or left 0 0)) e where
    one : (r k : Step) → r ≡ k → scanned k [] ≡ r
    one r k e = sym e

  pub came_step : (next : Scan) → 1 ≤ length left → On next ≡ scan_step t (get_or left 0 0) → Came s bytes next (tail_of left)
  came_step next n e = record { text = came_on.text ++ get_or left 0 0 ∷ []; spelled = step_one (On next) e; whole = over_one n }

  pub came_whole : 1 ≤ length left → Whole ≡ scan_step t (get_or left 0 0) → Begins (λ x. scanned (On s) x ≡ Whole) bytes (tail_of left)
  came_whole n e = record { text = came_on.text ++ get_or left 0 0 ∷ []; spelled = step_one Whole e; whole = over_one n }

  pub came_dead : 1 ≤ length left → Dead ≡ scan_step t (get_or left 0 0) → Dies s bytes left
  came_dead n e = record { at = t; c = get_or left 0 0; cs = tail_of left; came = came_on; first = cons_of left n; dead = sym e }

  pub came_end : length left < 1 → scanned (On s) bytes ≡ On t
  came_end n = ap (scanned (On s)) (came_on.whole ∙ ap (λ z. came_on.text ++ z) (none_of left n) ∙ append-nil came_on.text) ∙ came_on.spelled
