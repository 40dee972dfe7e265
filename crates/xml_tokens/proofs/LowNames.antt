-- Names of ASCII.
use Rattle.std.proofs.Common.{◌≡◌, ℕ, ◌-◌, ◌<◌, Bool, true, false, cond, List, [], ◌∷◌, ◌++◌, length, take, refl, arith, ap, sym, ◌∙◌, subst}
use Rattle.std.specs.Prelude.{Some, None, ◌&&◌, ◌||◌, nat_lt, nat_le}
use Rattle.std.specs.List.{list_all}
use Rattle.std.proofs.lemmas.Bool.Decides.{nat_tests}
use Rattle.xml_tokens.specs.NameBytes.{is_name_byte, goes_name, is_low_name, begins_low, begins_start}
use Rattle.plain_tree.specs.XmlNames.{is_name_char, is_name_start, is_name}
use Rattle.xml_tokens.specs.Cutting.{front, back}
use Rattle.xml_tokens.specs.TokenAt.{name_at}
use Rattle.xml_tokens.proofs.Lists.{Stops, and_true, front-back, front-append, back-append, back-stops, list_all-front, take-front}
use Rattle.xml_tokens.proofs.Texts.{name_byte, name_start_byte, name_none, not_named}
use Rattle.xml_tokens.proofs.Pieces.{all_of}

low_byte : (c : ℕ) → is_low_name c ≡ true → is_name_byte c ≡ true
low_byte c e =
    let both = and_true (nat_lt c 128) (is_name_char c) e in
    or_second (nat_le 128 c) (is_name_char c) both.1 where
      or_second : (a b : Bool) → b ≡ true → (a || b) ≡ true
      or_second true b e = refl
      or_second false b e = e

below : (c : ℕ) → nat_lt c 128 ≡ true → c < 128
below c e = grind (arith, nat_tests)

low_goes : (cs : List ℕ) → list_all is_low_name cs ≡ true → goes_name cs ≡ true
low_goes [] e = name_none
low_goes (c ∷ cs) e =
    let both = and_true (is_low_name c) (list_all is_low_name cs) e in
    let one = and_true (nat_lt c 128) (is_name_char c) both.0 in
    name_byte c cs (below c one.0) ∙ rw (one.1, low_goes cs both.1) refl

-- a text of such bytes is a name where its first may begin one
low_named : (s : List ℕ) → list_all is_low_name s ≡ true → is_name s ≡ begins_start s
low_named [] e = by (is_name []) refl where
  by : (b : Bool) → is_name [] ≡ b → is_name [] ≡ false
  by true e = absurd (not_named e)
  by false e = e
low_named (c ∷ cs) e =
    let both = and_true (is_low_name c) (list_all is_low_name cs) e in
    let one = and_true (nat_lt c 128) (is_name_char c) both.0 in
    name_start_byte c cs (below c one.0) ∙ rw (low_goes cs both.1, one.0) (and_right (is_name_start c)) where
      and_right : (b : Bool) → (b && true) ≡ b
      and_right true = refl
      and_right false = refl

low_stops : (s : List ℕ) → Stops is_low_name s → begins_low s ≡ true → Stops is_name_byte s
low_stops [] s e = tt
low_stops (c ∷ cs) s e = by (nat_lt c 128) (is_name_char c) s e (high c e) where
  high : (c : ℕ) → nat_lt c 128 ≡ true → nat_le 128 c ≡ false
  high c e = grind (arith, nat_tests)

  by : (a b : Bool) → (a && b) ≡ false → a ≡ true → nat_le 128 c ≡ false → (nat_le 128 c || b) ≡ false
  by true b s e h = rw h s
  by false b s e h = cc

module _ (bytes name rest : List ℕ) (r : Bool) (left : rest ≡ back is_low_name bytes) (ended : begins_low rest ≡ true) (cut : name ≡ take (length bytes - length rest) bytes)
    (tested : r ≡ begins_start name) where
  low_is : name ≡ front is_low_name bytes
  low_is = cut ∙ ap (λ x. take (length bytes - length x) bytes) left ∙ take-front is_low_name bytes

  low_all : list_all is_low_name name ≡ true
  low_all = ap (list_all is_low_name) low_is ∙ list_all-front is_low_name bytes

  low_whole : bytes ≡ name ++ rest
  low_whole = sym (front-back is_low_name bytes) ∙ ap (λ x. x ++ back is_low_name bytes) (sym low_is) ∙ ap (λ x. name ++ x) (sym left)

  low_at : name_at (name ++ rest) ≡ cond (is_name name) (Some (name, rest)) None
  unfolding name_at
  low_at =
      let stops = low_stops rest (subst (Stops is_low_name) (sym left) (back-stops is_low_name bytes)) ended in
      let all = all_of is_low_name is_name_byte low_byte name low_all in
      rw (front-append is_name_byte name rest all stops, back-append is_name_byte name rest all stops) refl

  low_answer : name_at bytes ≡ cond r (Some (name, rest)) None
  low_answer = ap name_at low_whole ∙ low_at ∙ ap (λ b. cond b (Some (name, rest)) None) (low_named name low_all ∙ sym tested)

  pub low_found : r ≡ true → Some (name, rest) ≡ name_at bytes
  low_found e = sym (low_answer ∙ ap (λ b. cond b (Some (name, rest)) None) e)

  pub low_missing : r ≡ false → None ≡ name_at bytes
  low_missing e = sym (low_answer ∙ ap (λ b. cond b (Some (name, rest)) None) e)
