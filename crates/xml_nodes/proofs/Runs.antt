-- A run of pieces, as the machine takes it: the count of brackets keeps ]]> out.
use Rattle.std.proofs.Common.{◌≡◌, ℕ, Bool, true, false, List, [], ◌∷◌, ◌++◌, refl, ap, sym, ◌∙◌, subst, append_assoc, append-nil, arith}
use Rattle.std.specs.Prelude.{Some, ◌==◌, ◌&&◌, nat_le}
use Rattle.std.specs.List.{list_all, flat_map}
use Rattle.std.specs.Char.{encode_utf8}
use Rattle.std.proofs.lemmas.Bool.Decides.{nat_tests}
use Rattle.xml_nodes.specs.declared.stage.Stage.TheVariants.{Inside}
use Rattle.xml_nodes.proofs.Steps.{no_calls}
use Rattle.xml_tokens.specs.Tokens.{Token, Character, Reference, Section, Start, Empty, End, Comment, Instruction, Declaration, Doctype}
use Rattle.xml_nodes.specs.Content.{is_text_piece, given, HasNoSectionEnd}
use Rattle.xml_nodes.specs.Machine.{State, step, steps, then_on, brackets_after}

abbrev pub inside : List (List ℕ) → List ℕ → ℕ → State
inside names text brackets = record { stage = Inside; names = names; text = text; brackets = brackets }

tested : (c k : ℕ) → (c == k) ≡ true → c ≡ k
tested c k e = grind (arith, nat_tests)

and_false : (a : Bool) → (a && false) ≡ false
and_false true = refl
and_false false = refl

module _ (names : List (List ℕ)) (rest : List Token) where
  -- the run is taken whole, from this count of brackets
  Ran : List ℕ → ℕ → List Token → Type 0
  Ran text b ps = (last : ℕ) × (steps (inside names text b) (ps ++ rest) ≡ steps (inside names (text ++ flat_map given ps) last) rest)

  record Runs (ps : List Token) : Type 0 where
    from_none : HasNoSectionEnd ps → (text : List ℕ) → Ran text 0 ps
    from_one : HasNoSectionEnd (Character 93 ∷ ps) → (text : List ℕ) → Ran text 1 ps
    from_two : HasNoSectionEnd (Character 93 ∷ Character 93 ∷ ps) → (text : List ℕ) → Ran text 2 ps

  -- a piece that gives v, and leads to this count
  taken : (p : Token) (ps : List Token) (text : List ℕ) (b c : ℕ) → step (inside names text b) p ≡ Some (inside names (text ++ given p) c, []) → Ran (text ++ given p) c ps
      → Ran text b (p ∷ ps)
  unfolding Ran
  taken p ps text b c e r = (
    r.0,
    ap (λ z. then_on z (λ s. steps s (ps ++ rest))) e ∙ no_calls (steps (inside names (text ++ given p) c) (ps ++ rest)) ∙ r.1
        ∙ ap (λ z. steps (inside names z r.0) rest) (append_assoc text (given p) (flat_map given ps)),
  )

  sign_step : (text : List ℕ) (b c : ℕ) → ((c == 62) && nat_le 2 b) ≡ false
      → step (inside names text b) (Character c) ≡ Some (inside names (text ++ encode_utf8 c) (brackets_after b c), [])
  sign_step text b c e = rw e refl

  module _ (c : ℕ) (ps : List Token) (ih : Runs ps) (text : List ℕ) where
    of_none : (t : Bool) → (c == 93) ≡ t → HasNoSectionEnd (Character c ∷ ps) → Ran text 0 (Character c ∷ ps)
    of_none true t n =
        let is = tested c 93 t in
        taken (Character c) ps text 0 1 (sign_step text 0 c (and_false (c == 62)) ∙ rw t refl) (ih.from_one (subst (λ z. HasNoSectionEnd (Character z ∷ ps)) is n) (text ++ encode_utf8 c))
    of_none false t n = taken (Character c) ps text 0 0 (sign_step text 0 c (and_false (c == 62)) ∙ rw t refl) (ih.from_none n.1 (text ++ encode_utf8 c))

    of_one : (t : Bool) → (c == 93) ≡ t → HasNoSectionEnd (Character 93 ∷ Character c ∷ ps) → Ran text 1 (Character c ∷ ps)
    of_one true t n =
        let is = tested c 93 t in
        taken (Character c) ps text 1 2 (sign_step text 1 c (and_false (c == 62)) ∙ rw t refl)
        (ih.from_two (subst (λ z. HasNoSectionEnd (Character 93 ∷ Character z ∷ ps)) is n) (text ++ encode_utf8 c))
    of_one false t n = taken (Character c) ps text 1 0 (sign_step text 1 c (and_false (c == 62)) ∙ rw t refl) (ih.from_none n.1.1 (text ++ encode_utf8 c))

    of_two : (u t : Bool) → (c == 62) ≡ u → (c == 93) ≡ t → HasNoSectionEnd (Character 93 ∷ Character 93 ∷ Character c ∷ ps) → Ran text 2 (Character c ∷ ps)
    of_two true t e f n = absurd (n.0 ps (ap (λ z. Character 93 ∷ Character 93 ∷ Character z ∷ ps) (tested c 62 e)))
    of_two false true e f n =
        let is = tested c 93 f in
        taken (Character c) ps text 2 2 (sign_step text 2 c (rw e refl) ∙ rw f refl)
        (ih.from_two (subst (λ z. HasNoSectionEnd (Character 93 ∷ Character z ∷ ps)) is n.1) (text ++ encode_utf8 c))
    of_two false false e f n = taken (Character c) ps text 2 0 (sign_step text 2 c (rw e refl) ∙ rw f refl) (ih.from_none n.1.1.1 (text ++ encode_utf8 c))

  runs : (ps : List Token) → list_all is_text_piece ps ≡ true → Runs ps
  unfolding Ran
  runs [] e = record {
    from_none = λ n text. (0, ap (λ z. steps (inside names z 0) rest) (sym (append-nil text)));
    from_one = λ n text. (1, ap (λ z. steps (inside names z 1) rest) (sym (append-nil text)));
    from_two = λ n text. (2, ap (λ z. steps (inside names z 2) rest) (sym (append-nil text)));
  }
  runs (Character c ∷ ps) e =
      let ih = runs ps e in
      record {
        from_none = λ n text. of_none c ps ih text (c == 93) refl n;
        from_one = λ n text. of_one c ps ih text (c == 93) refl n;
        from_two = λ n text. of_two c ps ih text (c == 62) (c == 93) refl refl n;
      }
  runs (Reference c ∷ ps) e =
      let ih = runs ps e in
      record {
        from_none = λ n text. taken (Reference c) ps text 0 0 refl (ih.from_none n.1 (text ++ encode_utf8 c));
        from_one = λ n text. taken (Reference c) ps text 1 0 refl (ih.from_none n.1.1 (text ++ encode_utf8 c));
        from_two = λ n text. taken (Reference c) ps text 2 0 refl (ih.from_none n.1.1.1 (text ++ encode_utf8 c));
      }
  runs (Section v ∷ ps) e =
      let ih = runs ps e in
      record {
        from_none = λ n text. taken (Section v) ps text 0 0 refl (ih.from_none n.1 (text ++ v));
        from_one = λ n text. taken (Section v) ps text 1 0 refl (ih.from_none n.1.1 (text ++ v));
        from_two = λ n text. taken (Section v) ps text 2 0 refl (ih.from_none n.1.1.1 (text ++ v));
      }
  runs (Start n attrs ∷ ps) e = cc
  runs (Empty n attrs ∷ ps) e = cc
  runs (End n ∷ ps) e = cc
  runs (Comment v ∷ ps) e = cc
  runs (Instruction n v ∷ ps) e = cc
  runs (Declaration ∷ ps) e = cc
  runs (Doctype ∷ ps) e = cc

  -- from an element's start, or behind a mark
  pub run_taken : (ps : List Token) → list_all is_text_piece ps ≡ true → HasNoSectionEnd ps
      → (last : ℕ) × (steps (inside names [] 0) (ps ++ rest) ≡ steps (inside names (flat_map given ps) last) rest)
  unfolding Ran
  run_taken ps e n = (runs ps e).from_none n []
