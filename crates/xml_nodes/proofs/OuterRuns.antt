-- A run outside the root, character by character.
use Rattle.std.proofs.Common.{◌≡◌, ◌≢◌, ℕ, ◌+◌, ◌<◌, ◌≤◌, Bool, true, false, List, [], ◌∷◌, ◌++◌, length, drop, refl, ap, sym, ◌∙◌, append_assoc, append-nil, length-append, arith}
use Rattle.std.specs.Prelude.{Some, None, ◌==◌, ◌&&◌}
use Rattle.std.specs.List.{list_all}
use Rattle.std.specs.Str.{chars}
use Rattle.std.proofs.Math.Utf8.{encodes, encode}
use Rattle.std.proofs.Math.Seq.{drop-append_seam}
use Rattle.std.proofs.lemmas.Str.{encodes-chars, encodes-append}
use Rattle.std.proofs.lemmas.List.{map-append, drop-drop, length-drop}
use Rattle.bstr.specs.Utf8.{decoded}
use Rattle.bstr.proofs.lemmas.EncodeLemmas.{decoded-encode}
use Rattle.plain_tree.specs.XmlNames.{is_char, is_space}
use Rattle.xml_tokens.specs.Tokens.{Token, Character}
use Rattle.xml_tokens.proofs.TokenLaws.{char_scalar}
use Rattle.xml_tokenizer.specs.Runs.{IsRun, characters}
use Rattle.xml_nodes.specs.declared.stage.Stage.{Stage}
use Rattle.xml_nodes.specs.declared.stage.Stage.TheVariants as at
use Rattle.xml_nodes.specs.Machine.{State, Stepped, step, steps, outer_step, outer_character, at_stage, passed, is_front}
use Rattle.xml_nodes.specs.Taking.{RefusesRun}
use Rattle.xml_nodes.proofs.CharacterLemmas.{and_true, chars_text, chars_lawful}
use Rattle.xml_nodes.proofs.LongestNames.{some_bytes}
use Rattle.xml_nodes.proofs.Steps.{one_step}
use Rattle.xml_nodes.proofs.Grammar.{some_is}

-- The characters of the first bytes, n of them, were taken, which led to this state; these are left.
pub record IsOuterRun (now : State) (text : List ℕ) (n : ℕ) (s : State) : Type 0 where
  pub before : List ℕ
  pub left : List ℕ
  pub whole : chars text ≡ before ++ left
  pub long : n ≡ length (encodes before)
  pub rest : drop n text ≡ encodes left
  pub are : list_all is_char left ≡ true
  pub took : steps now (characters before) ≡ Some (s, [])
  pub outside : s.stage ≢ at.Inside

pub none_taken : (now : State) (text : List ℕ) → IsRun text → now.stage ≢ at.Inside → IsOuterRun now text 0 now
none_taken now text r out = record {
  before = [];
  left = chars text;
  whole = refl;
  long = refl;
  rest = sym (encodes-chars text (chars_text text r.text));
  are = chars_lawful text r.text;
  took = refl;
  outside = out;
}

-- outside the root
outer_is : (s : State) (t : Token) → s.stage ≢ at.Inside → step s t ≡ outer_step s t
outer_is s t out = by_stage s.stage refl where
  by_stage : (z : Stage) → s.stage ≡ z → step s t ≡ outer_step s t
  by_stage at.Inside e = absurd (out e)
  by_stage at.Front e = rw e refl
  by_stage at.Marked e = rw e refl
  by_stage at.Prolog e = rw e refl
  by_stage at.Typed e = rw e refl
  by_stage at.Epilog e = rw e refl

passed_outside : (z : Stage) → z ≢ at.Inside → passed z ≢ at.Inside
passed_outside at.Front out = λ e. cc
passed_outside at.Marked out = λ e. cc
passed_outside at.Prolog out = λ e. cc
passed_outside at.Typed out = λ e. cc
passed_outside at.Inside out = λ e. out e
passed_outside at.Epilog out = λ e. cc

stepped_inj : (s t : State) → ◌≡◌ {A = Stepped} (Some (s, [])) (Some (t, [])) → s ≡ t
stepped_inj s t e = ap (λ z. z.0) (some_is (s, []) (t, []) e)

stays_outside : (s t : State) (c : ℕ) → s.stage ≢ at.Inside → outer_character s c ≡ Some (t, []) → t.stage ≢ at.Inside
stays_outside s t c out e = by_space (is_space c) refl where
  by_front : (b : Bool) → (is_front s.stage && (c == 0xFEFF)) ≡ b → is_space c ≡ false → t.stage ≢ at.Inside
  by_front true f g =
      let is : ◌≡◌ {A = Stepped} (Some (at_stage s at.Marked, [])) (Some (t, [])) = rw (g, f) at e in
      λ h. let bad : at.Marked ≡ at.Inside = ap (λ z. z.stage) (stepped_inj (at_stage s at.Marked) t is) ∙ h in cc
  by_front false f g = let none : ◌≡◌ {A = Stepped} None (Some (t, [])) = rw (g, f) at e in cc

  by_space : (b : Bool) → is_space c ≡ b → t.stage ≢ at.Inside
  by_space true f =
      let is : ◌≡◌ {A = Stepped} (Some (at_stage s (passed s.stage), [])) (Some (t, [])) = rw f at e in
      λ h. passed_outside s.stage out (ap (λ z. z.stage) (stepped_inj (at_stage s (passed s.stage)) t is) ∙ h)
  by_space false f = by_front (is_front s.stage && (c == 0xFEFF)) refl f

module _ (now : State) (text : List ℕ) (n : ℕ) (s : State) (o : IsOuterRun now text n s) where
  -- the next character
  pub record Next : Type 0 where
    pub c : ℕ
    pub cs : List ℕ
    pub left : o.left ≡ c ∷ cs
    pub char : (decoded (drop n text)).char ≡ Some c
    pub size : (decoded (drop n text)).size ≡ length (encode c)
    pub some : 0 < length (encode c)
    pub fits : n + length (encode c) ≤ length text
    pub are : list_all is_char cs ≡ true

  pub next_of : n < length text → Next
  next_of within = by_left o.left refl where
    by_left : (z : List ℕ) → o.left ≡ z → Next
    by_left [] e =
        let none : length (drop n text) ≡ 0 = ap length (o.rest ∙ ap encodes e) in
        absurd (omega (arith, none, length-drop n text))
    by_left (c ∷ cs) e =
        let lawful = and_true (is_char c) (list_all is_char cs) (ap (λ z. list_all is_char z) (sym e) ∙ o.are) in
        let scalar = char_scalar c lawful.0 in
        let bytes : drop n text ≡ encode c ++ encodes cs = o.rest ∙ ap encodes e in
        let read = ap decoded bytes ∙ decoded-encode c (encodes cs) scalar in
        let long : length (drop n text) ≡ length (encode c) + length (encodes cs) = ap length bytes ∙ length-append (encode c) (encodes cs) in
        record {
          c = c;
          cs = cs;
          left = e;
          char = ap (λ z. z.char) read;
          size = ap (λ z. z.size) read;
          some = some_bytes c scalar;
          fits = omega (arith, within, long, length-drop n text);
          are = lawful.1;
        }

  pub never_none : n < length text → (decoded (drop n text)).char ≡ None → ⊥
  never_none within e = let x = next_of within in let bad : ◌≡◌ {A = _} None (Some x.c) = sym e ∙ x.char in cc

  module _ (within : n < length text) (c size : ℕ) (char : (decoded (drop n text)).char ≡ Some c) (wide : (decoded (drop n text)).size ≡ size) where
    x : Next
    x = next_of within

    same : c ≡ x.c
    same = let e : Some c ≡ Some x.c = sym char ∙ x.char in cc

    width : size ≡ length (encode x.c)
    width = sym wide ∙ x.size

    pub outer_fits : n + size ≤ length text
    outer_fits = omega (arith, width, x.fits)

    pub outer_some : 0 < size
    outer_some = omega (arith, width, x.some)

    pub outer_more : (t : State) → outer_character s c ≡ Some (t, []) → IsOuterRun now text (n + size) t
    outer_more t e =
        let wide_sum : n + size ≡ n + length (encode x.c) = ap (λ z. n + z) width in
        record {
          before = o.before ++ x.c ∷ [];
          left = x.cs;
          whole = o.whole ∙ ap (λ z. o.before ++ z) x.left ∙ sym (append_assoc o.before (x.c ∷ []) x.cs);
          long =
              let ends : length (encodes (o.before ++ x.c ∷ [])) ≡ length (encodes o.before) + length (encodes (x.c ∷ [])) =
              ap length (encodes-append o.before (x.c ∷ [])) ∙ length-append (encodes o.before) (encodes (x.c ∷ [])) in
              let one : length (encodes (x.c ∷ [])) ≡ length (encode x.c) = ap length (append-nil (encode x.c)) in
              omega (arith, ends, one, o.long, width);
          rest = ap (λ z. drop z text) wide_sum ∙ sym (drop-drop (length (encode x.c)) n text) ∙ ap (λ z. drop (length (encode x.c)) z) (o.rest ∙ ap encodes x.left)
              ∙ drop-append_seam (encode x.c) (encodes x.cs);
          are = x.are;
          took =
              ap (λ z. steps now z) (map-append (λ z. Character z) o.before (x.c ∷ []))
              ∙ one_step now s t (characters o.before) (Character x.c) [] [] o.took (outer_is s (Character x.c) o.outside ∙ ap (λ z. outer_character s z) (sym same) ∙ e);
          outside = stays_outside s t c o.outside e;
        }

    pub outer_refused : outer_character s c ≡ None → RefusesRun now text n
    outer_refused e = record {
      before = o.before;
      character = x.c;
      after = x.cs;
      whole = o.whole ∙ ap (λ z. o.before ++ z) x.left;
      begins = o.long;
      last = s;
      took = o.took;
      refused = outer_is s (Character x.c) o.outside ∙ ap (λ z. outer_character s z) (sym same) ∙ e;
    }

  pub outer_all : length text ≤ n → steps now (characters (chars text)) ≡ Some (s, [])
  outer_all past = by_left o.left refl where
    by_left : (z : List ℕ) → o.left ≡ z → steps now (characters (chars text)) ≡ Some (s, [])
    by_left [] e = ap (λ z. steps now (characters z)) (o.whole ∙ ap (λ z. o.before ++ z) e ∙ append-nil o.before) ∙ o.took
    by_left (c ∷ cs) e =
        let lawful = and_true (is_char c) (list_all is_char cs) (ap (λ z. list_all is_char z) (sym e) ∙ o.are) in
        let some = some_bytes c (char_scalar c lawful.0) in
        let bytes : length (drop n text) ≡ length (encode c) + length (encodes cs) = ap length (o.rest ∙ ap encodes e) ∙ length-append (encode c) (encodes cs) in
        absurd (omega (arith, bytes, some, past, length-drop n text))
