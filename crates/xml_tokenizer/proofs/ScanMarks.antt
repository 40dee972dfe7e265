-- References, sections, comments and instructions are scanned to their ends.
use Rattle.std.proofs.Common.{◌≡◌, ℕ, Bool, true, false, List, [], ◌∷◌, ◌++◌, refl, sym, ◌∙◌, subst, arith}
use Rattle.std.specs.Prelude.{◌==◌, ◌||◌, not}
use Rattle.std.specs.List.{list_all}
use Rattle.std.proofs.lemmas.Bool.Decides.{nat_tests}
use Rattle.plain_tree.specs.XmlNames.{is_space, are_spaces, is_white, is_name, is_xml}
use Rattle.plain_tree.specs.Parts.{has_part, begins_with}
use Rattle.xml_tokenizer.specs.Scanning.{scan_step, scanned}
use Rattle.xml_tokens.specs.Markup.{IsSection, IsComment, IsInstruction, is_apart}
use Rattle.xml_tokens.specs.References.{IsReference}
use Rattle.xml_tokenizer.specs.declared.scan.Scan.TheVariants as at
use Rattle.xml_tokenizer.specs.declared.scan.Step.TheVariants.{On, Whole}
use Rattle.xml_tokens.proofs.Lists.{and_true, same_number}
use Rattle.xml_tokens.proofs.Parts.{white_spaces}
use Rattle.xml_tokens.proofs.Pieces.{is_inner, referred_inner, all_of}
use Rattle.xml_tokenizer.proofs.ScanLaws.{then_scanned, stays}
use Rattle.xml_tokenizer.proofs.ScanPlain.{is_plain, name_is_plain, spaces_plain}

reference_stays : (c : ℕ) → is_inner c ≡ true → scan_step at.Reference c ≡ On at.Reference
reference_stays c e = grind (arith, nat_tests)

pub scans_reference : (c : ℕ) (x : List ℕ) → IsReference c x → scanned (On at.Idle) x ≡ Whole
scans_reference c x r =
    subst (λ z. scanned (On at.Idle) z ≡ Whole) (sym r.whole)
    (then_scanned (On at.Reference) (On at.Reference) r.inner (59 ∷ []) (stays at.Reference is_inner reference_stays r.inner (referred_inner r.inner c r.names)))

-- a CDATA section: its first ]]> is at its end
abbrev pub section_end : List ℕ
section_end = 93 ∷ 93 ∷ 62 ∷ []

or_false : (a b : Bool) → (a || b) ≡ false → (a ≡ false) × (b ≡ false)
or_false true b e = cc
or_false false b e = (refl, e)

part_tail : (part : List ℕ) (c : ℕ) (v : List ℕ) → has_part part (c ∷ v) ≡ false → has_part part v ≡ false
part_tail part c v e = (or_false (begins_with part (c ∷ v)) (has_part part v) e).1

part_false : (c : ℕ) (v : List ℕ) → has_part section_end (c ∷ v) ≡ false → has_part section_end v ≡ false
part_false c v e = part_tail section_end c v e

-- from each of the three states
record SectionScan (v : List ℕ) : Type 0 where
  from_section : has_part section_end v ≡ false → scanned (On at.Section) (v ++ section_end) ≡ Whole
  from_bracket : has_part section_end (93 ∷ v) ≡ false → scanned (On at.Bracket) (v ++ section_end) ≡ Whole
  from_brackets : has_part section_end (93 ∷ 93 ∷ v) ≡ false → scanned (On at.Brackets) (v ++ section_end) ≡ Whole

module _ (c : ℕ) (v : List ℕ) (ih : SectionScan v) where
  more_section : (b : Bool) → (c == 93) ≡ b → has_part section_end (c ∷ v) ≡ false → scanned (scan_step at.Section c) (v ++ section_end) ≡ Whole
  more_section true t e =
      let is = same_number c 93 t in
      subst (λ z. scanned (scan_step at.Section z) (v ++ section_end) ≡ Whole) (sym is) (ih.from_bracket (subst (λ z. has_part section_end (z ∷ v) ≡ false) is e))
  more_section false t e = rw t (ih.from_section (part_false c v e))

  more_bracket : (b : Bool) → (c == 93) ≡ b → has_part section_end (93 ∷ c ∷ v) ≡ false → scanned (scan_step at.Bracket c) (v ++ section_end) ≡ Whole
  more_bracket true t e =
      let is = same_number c 93 t in
      subst (λ z. scanned (scan_step at.Bracket z) (v ++ section_end) ≡ Whole) (sym is) (ih.from_brackets (subst (λ z. has_part section_end (93 ∷ z ∷ v) ≡ false) is e))
  more_bracket false t e = rw t (ih.from_section (part_false c v (part_false 93 (c ∷ v) e)))

  more_brackets : (a b : Bool) → (c == 62) ≡ a → (c == 93) ≡ b → has_part section_end (93 ∷ 93 ∷ c ∷ v) ≡ false
      → scanned (scan_step at.Brackets c) (v ++ section_end) ≡ Whole
  more_brackets true b u t e =
      let is = same_number c 62 u in
      let bad = subst (λ z. has_part section_end (93 ∷ 93 ∷ z ∷ v) ≡ false) is e in
      cc
  more_brackets false true u t e =
      let is = same_number c 93 t in
      subst (λ z. scanned (scan_step at.Brackets z) (v ++ section_end) ≡ Whole) (sym is)
      (ih.from_brackets (part_false 93 (93 ∷ 93 ∷ v) (subst (λ z. has_part section_end (93 ∷ 93 ∷ z ∷ v) ≡ false) is e)))
  more_brackets false false u t e = rw (u, t) (ih.from_section (part_false c v (part_false 93 (c ∷ v) (part_false 93 (93 ∷ c ∷ v) e))))

over_section : (v : List ℕ) → SectionScan v
over_section [] = record { from_section = λ e. refl; from_bracket = λ e. refl; from_brackets = λ e. refl }
over_section (c ∷ v) =
    let ih = over_section v in
    record {
      from_section = λ e. more_section c v ih (c == 93) refl e;
      from_bracket = λ e. more_bracket c v ih (c == 93) refl e;
      from_brackets = λ e. more_brackets c v ih (c == 62) (c == 93) refl refl e;
    }

pub scans_section : (v x : List ℕ) → IsSection v x → scanned (On at.Idle) x ≡ Whole
scans_section v x s = subst (λ z. scanned (On at.Idle) z ≡ Whole) (sym s.whole) ((over_section v).from_section s.no_end)

-- a comment: its first -- is at its end
abbrev pub dashes : List ℕ
dashes = 45 ∷ 45 ∷ []

record CommentScan (v : List ℕ) : Type 0 where
  from_comment : has_part dashes (v ++ 45 ∷ []) ≡ false → scanned (On at.Comment) (v ++ 45 ∷ 45 ∷ 62 ∷ []) ≡ Whole
  from_dash : has_part dashes (45 ∷ (v ++ 45 ∷ [])) ≡ false → scanned (On at.CommentDash) (v ++ 45 ∷ 45 ∷ 62 ∷ []) ≡ Whole

module _ (c : ℕ) (v : List ℕ) (ih : CommentScan v) where
  more_comment : (b : Bool) → (c == 45) ≡ b → has_part dashes (c ∷ (v ++ 45 ∷ [])) ≡ false → scanned (scan_step at.Comment c) (v ++ 45 ∷ 45 ∷ 62 ∷ []) ≡ Whole
  more_comment true t e =
      let is = same_number c 45 t in
      subst (λ z. scanned (scan_step at.Comment z) (v ++ 45 ∷ 45 ∷ 62 ∷ []) ≡ Whole) (sym is) (ih.from_dash (subst (λ z. has_part dashes (z ∷ (v ++ 45 ∷ [])) ≡ false) is e))
  more_comment false t e = rw t (ih.from_comment (part_tail dashes c (v ++ 45 ∷ []) e))

  more_dash : (b : Bool) → (c == 45) ≡ b → has_part dashes (45 ∷ c ∷ (v ++ 45 ∷ [])) ≡ false → scanned (scan_step at.CommentDash c) (v ++ 45 ∷ 45 ∷ 62 ∷ []) ≡ Whole
  more_dash true t e =
      let is = same_number c 45 t in
      let bad = subst (λ z. has_part dashes (45 ∷ z ∷ (v ++ 45 ∷ [])) ≡ false) is e in
      cc
  more_dash false t e = rw t (ih.from_comment (part_tail dashes c (v ++ 45 ∷ []) (part_tail dashes 45 (c ∷ (v ++ 45 ∷ [])) e)))

over_comment : (v : List ℕ) → CommentScan v
over_comment [] = record { from_comment = λ e. refl; from_dash = λ e. absurd (let bad = e in cc) }
over_comment (c ∷ v) =
    let ih = over_comment v in
    record { from_comment = λ e. more_comment c v ih (c == 45) refl e; from_dash = λ e. more_dash c v ih (c == 45) refl e }

pub scans_comment : (v x : List ℕ) → IsComment v x → scanned (On at.Idle) x ≡ Whole
scans_comment v x s = subst (λ z. scanned (On at.Idle) z ≡ Whole) (sym s.whole) ((over_comment v).from_comment s.no_dashes)

-- an instruction: its first ?> is at its end
abbrev pub question_end : List ℕ
question_end = 63 ∷ 62 ∷ []

record InstructionScan (v : List ℕ) : Type 0 where
  from_inside : has_part question_end v ≡ false → scanned (On at.Instruction) (v ++ question_end) ≡ Whole
  from_sign : has_part question_end (63 ∷ v) ≡ false → scanned (On at.InstructionEnd) (v ++ question_end) ≡ Whole

module _ (c : ℕ) (v : List ℕ) (ih : InstructionScan v) where
  more_inside : (b : Bool) → (c == 63) ≡ b → has_part question_end (c ∷ v) ≡ false → scanned (scan_step at.Instruction c) (v ++ question_end) ≡ Whole
  more_inside true t e =
      let is = same_number c 63 t in
      subst (λ z. scanned (scan_step at.Instruction z) (v ++ question_end) ≡ Whole) (sym is) (ih.from_sign (subst (λ z. has_part question_end (z ∷ v) ≡ false) is e))
  more_inside false t e = rw t (ih.from_inside (part_tail question_end c v e))

  more_sign : (a b : Bool) → (c == 62) ≡ a → (c == 63) ≡ b → has_part question_end (63 ∷ c ∷ v) ≡ false → scanned (scan_step at.InstructionEnd c) (v ++ question_end) ≡ Whole
  more_sign true b u t e =
      let is = same_number c 62 u in
      let bad = subst (λ z. has_part question_end (63 ∷ z ∷ v) ≡ false) is e in
      cc
  more_sign false true u t e =
      let is = same_number c 63 t in
      subst (λ z. scanned (scan_step at.InstructionEnd z) (v ++ question_end) ≡ Whole) (sym is)
      (ih.from_sign (part_tail question_end 63 (63 ∷ v) (subst (λ z. has_part question_end (63 ∷ z ∷ v) ≡ false) is e)))
  more_sign false false u t e = rw (u, t) (ih.from_inside (part_tail question_end c v (part_tail question_end 63 (c ∷ v) e)))

over_instruction : (v : List ℕ) → InstructionScan v
over_instruction [] = record { from_inside = λ e. refl; from_sign = λ e. refl }
over_instruction (c ∷ v) =
    let ih = over_instruction v in
    record { from_inside = λ e. more_inside c v ih (c == 63) refl e; from_sign = λ e. more_sign c v ih (c == 62) (c == 63) refl refl e }

-- bytes at which an instruction goes on
abbrev pub no_question : ℕ → Bool
no_question c = not (c == 63)

instruction_stays : (c : ℕ) → no_question c ≡ true → scan_step at.Instruction c ≡ On at.Instruction
instruction_stays c e = grind (arith, nat_tests)

pub over_inside : (x : List ℕ) → list_all no_question x ≡ true → scanned (On at.Instruction) x ≡ On at.Instruction
over_inside x e = stays at.Instruction no_question instruction_stays x e

plain_question : (c : ℕ) → is_plain c ≡ true → no_question c ≡ true
plain_question c e = grind (arith, nat_tests)

pub plain_no_question : (x : List ℕ) → list_all is_plain x ≡ true → list_all no_question x ≡ true
plain_no_question x e = all_of is_plain no_question plain_question x e

apart_spaces : (space value : List ℕ) → is_apart space value ≡ true → are_spaces space ≡ true
apart_spaces space [] e = e
apart_spaces space (c ∷ cs) e = white_spaces space (and_true (is_white space) (not (is_space c)) e).0

pub scans_instruction : (n v x : List ℕ) → IsInstruction n v x → scanned (On at.Idle) x ≡ Whole
scans_instruction n v x s =
    let name = (and_true (is_name n) (not (is_xml n)) s.named).0 in
    subst (λ z. scanned (On at.Idle) z ≡ Whole) (sym s.whole)
    (then_scanned (On at.Instruction) (On at.Instruction) n (s.space ++ (v ++ question_end)) (over_inside n (plain_no_question n (name_is_plain n name)))
    ∙ then_scanned (On at.Instruction) (On at.Instruction) s.space (v ++ question_end)
    (over_inside s.space (plain_no_question s.space (spaces_plain s.space (apart_spaces s.space v s.apart))))
    ∙ (over_instruction v).from_inside s.no_end)
