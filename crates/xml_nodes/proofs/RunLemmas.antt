-- A run of characters does at once what they do one after the other.
use Rattle.std.proofs.Common.{◌≡◌, ℕ, ◌≤◌, ◌<◌, Bool, true, false, List, [], ◌∷◌, ◌++◌, refl, ap, sym, ◌∙◌, subst, ◌⊎◌, inl, inr, append_assoc, append-nil, arith}
use Rattle.std.specs.Prelude.{Some, None, ◌==◌, ◌&&◌, not, nat_le, map, if◌then◌else◌}
use Rattle.std.specs.List.{list_all}
use Rattle.std.specs.Str.{chars}
use Rattle.std.proofs.lemmas.Bool.Decides.{nat_tests}
use Rattle.std.proofs.lemmas.Str.{encodes-chars, encode_ascii}
use Rattle.std.proofs.lemmas.List.Folds.{list_all-append}
use lib.Utf8.{encodes, encode}
use lib.Dec.{ltb}
use borrow.Author.Tests.{ltb-true, ltb-false}
use Rattle.xml_nodes.specs.declared.stage.Stage.TheVariants as at
use Rattle.xml_nodes.proofs.CharacterLemmas.{and_true, chars_text, chars_lawful}
use Rattle.xml_nodes.proofs.ValueLemmas.{Encoded, encoded}
use Rattle.xml_nodes.proofs.Steps.{no_calls}
use Rattle.plain_tree.specs.XmlNames.{is_char}
use Rattle.xml_tokens.specs.Tokens.{Character}
use Rattle.xml_nodes.specs.Machine.{State, Stepped, step, steps, then_on, brackets_after, run_step}
use Rattle.xml_nodes.specs.Taking.{RefusesRun}
use Rattle.xml_tokenizer.specs.Runs.{is_run, IsRun}

abbrev state : List (List ℕ) → List ℕ → ℕ → State
state names text b = record { stage = at.Inside; names = names; text = text; brackets = b }

-- no ]
abbrev is_other : ℕ → Bool
is_other c = not (c == 93)

after_other : (b c : ℕ) → is_other c ≡ true → brackets_after b c ≡ 0
after_other b c e = grind (arith, nat_tests)

from_none : (names : List (List ℕ)) (text : List ℕ) (cs : List ℕ) → list_all is_other cs ≡ true → steps (state names text 0) (map Character cs) ≡ Some (state names (text ++ encodes cs) 0, [])
from_none names text [] e = ap (λ z. Some (state names z 0, [])) (sym (append-nil text))
from_none names text (c ∷ cs) e =
    let both = and_true (is_other c) (list_all is_other cs) e in
    let one : step (state names text 0) (Character c) ≡ Some (state names (text ++ encode c) 0, []) =
    rw (never (c == 62)) (ap (λ z. Some (state names (text ++ encode c) z, [])) (after_other 0 c both.0)) in
    ap (λ z. then_on z (λ s. steps s (map Character cs))) one ∙ no_calls (steps (state names (text ++ encode c) 0) (map Character cs))
    ∙ from_none names (text ++ encode c) cs both.1 ∙ ap (λ z. Some (state names z 0, [])) (append_assoc text (encode c) (encodes cs)) where
      never : (b : Bool) → (b && false) ≡ false
      never true = refl
      never false = refl

-- with the first character, which may be refused
from_any : (names : List (List ℕ)) (text : List ℕ) (b c : ℕ) (cs : List ℕ) → list_all is_other (c ∷ cs) ≡ true
    → steps (state names text b) (map Character (c ∷ cs)) ≡ (if (c == 62) && nat_le 2 b then None else Some (state names (text ++ encodes (c ∷ cs)) 0, []))
from_any names text b c cs e = by_test ((c == 62) && nat_le 2 b) refl where
  both : (is_other c ≡ true) × (list_all is_other cs ≡ true)
  both = and_true (is_other c) (list_all is_other cs) e

  by_test : (t : Bool) → ((c == 62) && nat_le 2 b) ≡ t
      → steps (state names text b) (map Character (c ∷ cs)) ≡ (if t then None else Some (state names (text ++ encodes (c ∷ cs)) 0, []))
  by_test true f = rw f refl
  by_test false f =
      let one : step (state names text b) (Character c) ≡ Some (state names (text ++ encode c) 0, []) =
      rw f (ap (λ z. Some (state names (text ++ encode c) z, [])) (after_other b c both.0)) in
      ap (λ z. then_on z (λ s. steps s (map Character cs))) one ∙ no_calls (steps (state names (text ++ encode c) 0) (map Character cs))
      ∙ from_none names (text ++ encode c) cs both.1 ∙ ap (λ z. Some (state names z 0, [])) (append_assoc text (encode c) (encodes cs))

-- the characters of bytes without ]
no_bracket : (cs : List ℕ) → list_all is_run (encodes cs) ≡ true → list_all is_other cs ≡ true
no_bracket [] e = refl
no_bracket (c ∷ cs) e =
    let both = and_true (list_all is_run (encode c)) (list_all is_run (encodes cs)) (sym (list_all-append is_run (encode c) (encodes cs)) ∙ e) in
    rw (by_size (ltb c 128) refl both.0, no_bracket cs both.1) refl where
      by_size : (b : Bool) → ltb c 128 ≡ b → list_all is_run (encode c) ≡ true → is_other c ≡ true
      by_size true s f =
          let one : list_all is_run (c ∷ []) ≡ true = subst (λ z. list_all is_run z ≡ true) (encode_ascii c (ltb-true c 128 s)) f in
          let own = (and_true (is_run c) true one).0 in
          grind (arith, nat_tests)
      by_size false s f = let h : 128 ≤ c = ltb-false c 128 s in grind (arith, nat_tests)

-- the first byte is > exactly where the first character is
first_greater : (c : ℕ) (n : Encoded c) → (c == 62) ≡ (n.first == 62)
first_greater c n = by_case n.same where
  by_case : ((n.first ≡ c) × (n.others ≡ []) × (c < 128)) ⊎ (nat_le 128 n.first ≡ true) → (c == 62) ≡ (n.first == 62)
  by_case (inl same) = ap (λ z. z == 62) (sym same.0)
  by_case (inr high) = by_test (c == 62) refl where
    low : (c == 62) ≡ true → n.first ≡ 62
    low e =
        let is : c ≡ 62 = grind (arith, nat_tests) in
        let one : n.first ∷ n.others ≡ 62 ∷ [] = sym n.are ∙ ap encode is ∙ encode_ascii 62 (omega arith) in
        cc

    by_test : (b : Bool) → (c == 62) ≡ b → (c == 62) ≡ (n.first == 62)
    by_test true e = let is = low e in let bad : nat_le 128 62 ≡ true = subst (λ z. nat_le 128 z ≡ true) is high in cc
    by_test false e = let h : (n.first == 62) ≡ false = grind (arith, nat_tests) in e ∙ sym h

run_of : (names : List (List ℕ)) (text : List ℕ) (b : ℕ) (cs x : List ℕ) → list_all is_char cs ≡ true → list_all is_run x ≡ true → encodes cs ≡ x
    → steps (state names text b) (map Character cs) ≡ run_step (state names text b) x
run_of names text b [] x l p e = subst (λ z. Some (state names text b, []) ≡ run_step (state names text b) z) e refl
run_of names text b (c ∷ cs) x l p e =
    let both = and_true (is_char c) (list_all is_char cs) l in
    let n = encoded c both.0 in
    let whole : encodes (c ∷ cs) ≡ n.first ∷ (n.others ++ encodes cs) = ap (λ z. z ++ encodes cs) n.are in
    subst (λ z. steps (state names text b) (map Character (c ∷ cs)) ≡ run_step (state names text b) z) (sym whole ∙ e)
    (from_any names text b c cs (no_bracket (c ∷ cs) (subst (λ z. list_all is_run z ≡ true) (sym e) p))
    ∙ ap (λ z. if z && nat_le 2 b then None else Some (state names (text ++ encodes (c ∷ cs)) 0, [])) (first_greater c n)
    ∙ ap (λ z. if (n.first == 62) && nat_le 2 b then None else Some (state names (text ++ z) 0, [])) whole)

-- a run inside the root
pub run_is : (s : State) (x : List ℕ) → s.stage ≡ at.Inside → IsRun x → steps s (map Character (chars x)) ≡ run_step s x
run_is s x e r =
    subst (λ z. steps (record s { stage = z }) (map Character (chars x)) ≡ run_step (record s { stage = z }) x) (sym e)
    (run_of s.names s.text s.brackets (chars x) x (chars_lawful x r.text) r.plain (encodes-chars x (chars_text x r.text)))

-- where a run inside the root is refused, its first character is
pub run_refused : (s : State) (x : List ℕ) → s.stage ≡ at.Inside → IsRun x → run_step s x ≡ None → RefusesRun s x 0
run_refused s x e r none = by_chars (chars x) refl where
  own : State
  own = state s.names s.text s.brackets

  is_own : s ≡ own
  is_own = ap (λ z. record s { stage = z }) e

  by_chars : (cs : List ℕ) → chars x ≡ cs → RefusesRun s x 0
  by_chars [] f =
      let all : steps s (map Character (chars x)) ≡ None = run_is s x e r ∙ none in
      let bad : ◌≡◌ {A = Stepped} (Some (s, [])) None = ap (λ z. steps s (map Character z)) (sym f) ∙ all in
      cc
  by_chars (c ∷ cs) f = record {
    before = [];
    character = c;
    after = cs;
    whole = f;
    begins = refl;
    last = s;
    took = refl;
    refused = subst (λ z. step z (Character c) ≡ None) (sym is_own) (by_test ((c == 62) && nat_le 2 s.brackets) refl);
  } where
    all : steps own (map Character (c ∷ cs)) ≡ None
    all = subst (λ z. steps z (map Character (c ∷ cs)) ≡ None) is_own (ap (λ z. steps s (map Character z)) (sym f) ∙ run_is s x e r ∙ none)

    plain : list_all is_other (c ∷ cs) ≡ true
    plain = no_bracket (c ∷ cs) (subst (λ z. list_all is_run z ≡ true) (sym (ap encodes (sym f) ∙ encodes-chars x (chars_text x r.text))) r.plain)

    by_test : (t : Bool) → ((c == 62) && nat_le 2 s.brackets) ≡ t → step own (Character c) ≡ None
    by_test true g = rw g refl
    by_test false g =
        let some : ◌≡◌ {A = Stepped} None (Some (state s.names (s.text ++ encodes (c ∷ cs)) 0, [])) = sym all ∙ from_any s.names s.text s.brackets c cs plain ∙ rw g refl in
        cc
