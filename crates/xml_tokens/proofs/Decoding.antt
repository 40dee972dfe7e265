-- The value of an attribute, a run and a reference at a time.
use Rattle.std.proofs.Common.{◌≡◌, ℕ, ◌-◌, ◌<◌, ◌≤◌, Bool, true, false, List, [], ◌∷◌, ◌++◌, length, take, get_or, refl, arith, ap, sym, ◌∙◌, append_assoc, append-nil}
use Rattle.std.specs.Prelude.{Option, Some, None, option_and_then, ◌==◌}
use Rattle.std.specs.Char.{encode_utf8}
use Rattle.std.proofs.lemmas.Bool.Decides.{nat_tests}
use Rattle.plain_tree.specs.XmlNames.{are_chars}
use Rattle.xml_tokens.specs.Cutting.{front, back, is_other}
use Rattle.xml_tokens.specs.References.{referred}
use Rattle.xml_tokens.specs.TokenAt.{put, put_char, value_in, value_of, gives_itself, leading_reference, closed_at}
use Rattle.xml_tokens.proofs.Lists.{cons_of, none_of, tail_of, take-front, front-back}

pub put_put : (xs ys : List ℕ) (o : Option (List ℕ)) → put xs (put ys o) ≡ put (xs ++ ys) o
put_put xs ys None = refl
put_put xs ys (Some zs) = ap Some (sym (append_assoc xs ys zs))

pub put_nil : (o : Option (List ℕ)) → put [] o ≡ o
put_nil None = refl
put_nil (Some zs) = refl

-- a byte that gives itself is neither & nor <
no_sign : (c : ℕ) → gives_itself c ≡ true → ((c == 38) ≡ false) × ((c == 60) ≡ false)
no_sign c e = (grind (arith, nat_tests), grind (arith, nat_tests))

-- where each byte that gives itself is given so
module _ (give : ℕ → ℕ) (same : (c : ℕ) → gives_itself c ≡ true → give c ≡ c) where
  value_run : (s : List ℕ) → value_in give None s ≡ put (front gives_itself s) (value_in give None (back gives_itself s))
  value_run [] = refl
  value_run (c ∷ cs) = by (gives_itself c) refl (value_run cs) where
    by : (b : Bool) → gives_itself c ≡ b → value_in give None cs ≡ put (front gives_itself cs) (value_in give None (back gives_itself cs))
        → value_in give None (c ∷ cs) ≡ put (front gives_itself (c ∷ cs)) (value_in give None (back gives_itself (c ∷ cs)))
    by true e h =
        let plain = no_sign c e in
        rw (e, plain.0, plain.1, same c e) (ap (put (c ∷ [])) h ∙ put_put (c ∷ []) (front gives_itself cs) (value_in give None (back gives_itself cs)))
    by false e h = rw e (sym (put_nil (value_in give None (c ∷ cs))))

  pub run : (whole : Option (List ℕ)) (value rest left items : List ℕ) → items ≡ value ++ take (length rest - length left) rest → left ≡ back gives_itself rest → put value (value_in give None rest) ≡ whole
      → put items (value_in give None left) ≡ whole
  run whole value rest left items made e is =
      ap (λ z. put z (value_in give None left)) made
      ∙ ap (λ z. put (value ++ take (length rest - length z) rest) (value_in give None z)) e
      ∙ ap (λ z. put (value ++ z) (value_in give None (back gives_itself rest))) (take-front gives_itself rest)
      ∙ sym (put_put value (front gives_itself rest) (value_in give None (back gives_itself rest))) ∙ sym (ap (put value) (value_run rest)) ∙ is

  pub value_same : (inner left : List ℕ) → left ≡ back gives_itself inner → length left ≡ 0 → Some inner ≡ value_in give None inner
  value_same inner left e n =
      let none : back gives_itself inner ≡ [] = sym e ∙ none_of left (omega arith) in
      sym (value_run inner ∙ ap (λ z. put (front gives_itself inner) (value_in give None z)) none ∙ ap (λ z. Some (front gives_itself inner ++ z)) (sym none) ∙ ap Some (front-back gives_itself inner))

module _ (give : ℕ → ℕ) where
  -- behind the name of a reference, by what stands from its ; on
  abbrev pub after_name : List ℕ → List ℕ → Option (List ℕ)
  after_name name [] = None
  after_name name (c ∷ rest) = put_char (referred name) (value_in give None rest)

  pub value_name : (name s : List ℕ) → value_in give (Some name) s ≡ after_name (name ++ front (is_other 59) s) (back (is_other 59) s)
  value_name name [] = refl
  value_name name (c ∷ cs) = by (c == 59) refl (value_name (name ++ c ∷ []) cs) where
    by : (b : Bool) → (c == 59) ≡ b → value_in give (Some (name ++ c ∷ [])) cs ≡ after_name ((name ++ c ∷ []) ++ front (is_other 59) cs) (back (is_other 59) cs)
        → value_in give (Some name) (c ∷ cs) ≡ after_name (name ++ front (is_other 59) (c ∷ cs)) (back (is_other 59) (c ∷ cs))
    by true e h = rw (e, append-nil name) refl
    by false e h = rw e (h ∙ ap (λ z. after_name z (back (is_other 59) cs)) (append_assoc name (c ∷ []) (front (is_other 59) cs)))

  -- what a reference at the front gives
  abbrev pub given_by : Option (ℕ × List ℕ) → Option (List ℕ)
  given_by None = None
  given_by (Some (c, after)) = put (encode_utf8 c) (value_in give None after)

  abbrev reference_of : List ℕ → List ℕ → Option (ℕ × List ℕ)
  reference_of name after = option_and_then (λ c. Some (c, after)) (referred name)

  abbrev closed_reference : List ℕ → List ℕ → Option (ℕ × List ℕ)
  closed_reference name rest = option_and_then (λ p. reference_of p.0 p.1) (closed_at name rest)

  pub value_reference : (s : List ℕ) → value_in give None (38 ∷ s) ≡ given_by (leading_reference s)
  value_reference s = value_name [] s ∙ closed (front (is_other 59) s) (back (is_other 59) s) where
    found : (o : Option ℕ) (name after : List ℕ) → referred name ≡ o → put_char (referred name) (value_in give None after) ≡ given_by (reference_of name after)
    found None name after e = rw e refl
    found (Some c) name after e = rw e refl

    closed : (name rest : List ℕ) → after_name name rest ≡ given_by (closed_reference name rest)
    closed name [] = refl
    closed name (c ∷ after) = found (referred name) name after refl

  module _ (whole : Option (List ℕ)) where
    pub ended : (v left : List ℕ) → length left < 1 → put v (value_in give None left) ≡ whole → Some v ≡ whole
    ended v left n is = ap Some (sym (append-nil v)) ∙ sym (ap (λ z. put v (value_in give None z)) (none_of left n)) ∙ is

    -- the byte at the front
    at_front : (v left : List ℕ) → 1 ≤ length left → put v (value_in give None left) ≡ whole → put v (value_in give None (get_or left 0 0 ∷ tail_of left)) ≡ whole
    at_front v left n is = sym (ap (λ z. put v (value_in give None z)) (cons_of left n)) ∙ is

    reference_front : (v left : List ℕ) → 1 ≤ length left → get_or left 0 0 ≡ 38 → put v (value_in give None left) ≡ whole → put v (given_by (leading_reference (tail_of left))) ≡ whole
    reference_front v left n e is =
        ap (put v) (sym (value_reference (tail_of left))) ∙ sym (ap (λ z. put v (value_in give None (z ∷ tail_of left))) e) ∙ at_front v left n is

    pub reference_on : (v left after : List ℕ) (c : ℕ) → 1 ≤ length left → get_or left 0 0 ≡ 38 → put v (value_in give None left) ≡ whole → Some (c, after) ≡ leading_reference (tail_of left)
        → put (v ++ encode_utf8 c) (value_in give None after) ≡ whole
    reference_on v left after c n e is found =
        sym (put_put v (encode_utf8 c) (value_in give None after)) ∙ ap (λ z. put v (given_by z)) found ∙ reference_front v left n e is

    pub reference_none : (v left : List ℕ) → 1 ≤ length left → get_or left 0 0 ≡ 38 → put v (value_in give None left) ≡ whole → None ≡ leading_reference (tail_of left) → None ≡ whole
    reference_none v left n e is found = ap (λ z. put v (given_by z)) found ∙ reference_front v left n e is

    pub less_none : (v left : List ℕ) → 1 ≤ length left → get_or left 0 0 ≡ 60 → put v (value_in give None left) ≡ whole → None ≡ whole
    less_none v left n e is = sym (ap (λ z. put v (value_in give None (z ∷ tail_of left))) e) ∙ at_front v left n is

    pub byte_on : (v left : List ℕ) → 1 ≤ length left → (get_or left 0 0 == 38) ≡ false → (get_or left 0 0 == 60) ≡ false → put v (value_in give None left) ≡ whole
        → put (v ++ give (get_or left 0 0) ∷ []) (value_in give None (tail_of left)) ≡ whole
    byte_on v left n a b is = sym (put_put v (give (get_or left 0 0) ∷ []) (value_in give None (tail_of left))) ∙ sym (rw (a, b) refl) ∙ at_front v left n is

  pub value_chars : (inner : List ℕ) (o : Option (List ℕ)) → are_chars inner ≡ true → o ≡ value_in give None inner → o ≡ value_of give inner
  unfolding value_of
  value_chars inner o e is = is ∙ sym (rw e refl)

  pub value_missing : (inner : List ℕ) → are_chars inner ≡ false → None ≡ value_of give inner
  unfolding value_of
  value_missing inner e = rw e refl
