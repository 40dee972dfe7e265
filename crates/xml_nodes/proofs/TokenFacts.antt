-- What the tokens that bytes spell fulfil.
use Rattle.std.proofs.Common.{◌≡◌, ◌≢◌, ℕ, ◌+◌, ◌≤◌, Bool, true, false, List, [], ◌∷◌, ◌++◌, length, refl, ap, sym, ◌∙◌, subst, length-append, arith}
use Rattle.std.specs.Prelude.{◌||◌, not}
use Rattle.std.specs.Str.{bytes_eq}
use Rattle.std.specs.Char.{encode_utf8}
use Rattle.std.specs.List.{AllByRecursion}
use Rattle.std.proofs.lemmas.Slice.Eq.{bytes_eq-Decides}
use Rattle.std.proofs.lemmas.Str.{encode_ascii, is_utf8-from_IsUtf8, IsUtf8-encode}
use Rattle.xml_nodes.proofs.CharacterLemmas.{and_true, char_scalar, chars-encode}
use Rattle.xml_nodes.proofs.ReferenceLemmas.{referred_is}
use Rattle.xml_nodes.proofs.ValueLemmas.{value_chars, no_bytes}
use Rattle.xml_nodes.proofs.LineEnds.{both_no_return}
use Rattle.plain_tree.specs.XmlNames.{is_char, is_space, is_white, begins_space, is_name, is_name_start}
use Rattle.plain_tree.specs.Lawful.{AreChars, IsName, has_no_return}
use Rattle.xml_tokens.specs.Tokens.{Token, Character, Reference, Section, Start, Empty, End, Comment, Instruction, Declaration, Doctype, IsToken}
use Rattle.xml_nodes.specs.LawfulTokens.{HaveDistinctNames, AreLawfulAttributes, IsLawfulToken, least}
use Rattle.xml_tokens.specs.Markup.{IsStart, is_apart}
use Rattle.xml_tokens.specs.Attributes.{AreAttributes, has_name, are_distinct}
use Rattle.xml_nodes.specs.Place.{ending_tag}

attributes_each : (attrs : List (List ℕ × List ℕ)) (x : List ℕ) → AreAttributes attrs x → AllByRecursion (λ a. IsName a.0 × AreChars a.1) attrs
attributes_each [] x a = tt
attributes_each ((n, v) ∷ attrs) x a = ((a.2.named, value_chars v a.2.inner a.2.is_value), attributes_each attrs a.1 a.3)

not_true : (b : Bool) → not b ≡ true → b ≡ false
not_true true e = cc
not_true false e = refl

or_false : (a b : Bool) → (a || b) ≡ false → (a ≡ false) × (b ≡ false)
or_false true b e = cc
or_false false b e = (refl, e)

no_other : (n : List ℕ) (attrs : List (List ℕ × List ℕ)) → has_name n attrs ≡ false → AllByRecursion (λ b. n ≢ b.0) attrs
no_other n [] e = tt
no_other n ((m, v) ∷ attrs) e =
    let both = or_false (bytes_eq m n) (has_name n attrs) e in
    (λ is. let yes_it : bytes_eq m n ≡ true = (bytes_eq-Decides m n).1 (sym is) in let bad = sym both.0 ∙ yes_it in cc, no_other n attrs both.1)

distinct_is : (attrs : List (List ℕ × List ℕ)) → are_distinct attrs ≡ true → HaveDistinctNames attrs
distinct_is [] e = tt
distinct_is ((n, v) ∷ attrs) e =
    let both = and_true (not (has_name n attrs)) (are_distinct attrs) e in
    (no_other n attrs (not_true (has_name n attrs) both.0), distinct_is attrs both.1)

tag_lawful : (n : List ℕ) (attrs : List (List ℕ × List ℕ)) (close x : List ℕ) → IsStart n attrs close x → IsName n × AreLawfulAttributes attrs
tag_lawful n attrs close x s = (s.named, record { each = attributes_each attrs s.inner s.given; distinct = distinct_is attrs s.distinct })

apart_space : (space value : List ℕ) → is_apart space value ≡ true → begins_space value ≡ false
apart_space space [] e = refl
apart_space space (c ∷ cs) e = not_true (is_space c) (and_true (is_white space) (not (is_space c)) e).1

front_clean : (x y : List ℕ) → has_no_return (x ++ y) ≡ true → has_no_return x ≡ true
front_clean x y e = (both_no_return x y e).0

back_clean : (x y : List ℕ) → has_no_return (x ++ y) ≡ true → has_no_return y ≡ true
back_clean x y e = (both_no_return x y e).1

pub token_lawful : (t : Token) (x : List ℕ) → IsToken t x → has_no_return x ≡ true → IsLawfulToken t
token_lawful (Character c) x is e = is.lawful
token_lawful (Reference c) x is e = (referred_is is.inner c is.names).is
token_lawful (Section v) x is e = is.text
token_lawful (Start n attrs) x is e = tag_lawful n attrs (62 ∷ []) x is
token_lawful (Empty n attrs) x is e = tag_lawful n attrs (47 ∷ 62 ∷ []) x is
token_lawful (End n) x is e = is.named
token_lawful (Comment v) x is e = record {
  text = is.text;
  no_dashes = is.no_dashes;
  no_return = front_clean v (45 ∷ 45 ∷ 62 ∷ []) (subst (λ z. has_no_return z ≡ true) is.whole e);
}
token_lawful (Instruction n v) x is e =
    let behind_name : has_no_return (n ++ (is.space ++ (v ++ 63 ∷ 62 ∷ []))) ≡ true = subst (λ z. has_no_return z ≡ true) is.whole e in (
      is.named,
      record {
        text = is.text;
        no_end = is.no_end;
        no_return = front_clean v (63 ∷ 62 ∷ []) (back_clean is.space (v ++ 63 ∷ 62 ∷ []) (back_clean n (is.space ++ (v ++ 63 ∷ 62 ∷ [])) behind_name));
        no_space = apart_space is.space v is.apart;
      },
    )
token_lawful Declaration x is e = tt
token_lawful Doctype x is e = tt

-- how many bytes tokens have at least
white_long : (x : List ℕ) → is_white x ≡ true → 1 ≤ length x
white_long [] e = cc
white_long (c ∷ x) e = omega arith

attributes_long : (attrs : List (List ℕ × List ℕ)) (x : List ℕ) → AreAttributes attrs x → length attrs ≤ length x
attributes_long [] x a = omega arith
attributes_long ((n, v) ∷ attrs) x a =
    let whole : length x ≡ length a.0 + length a.1 = ap length a.4 ∙ length-append a.0 a.1 in
    let own : length a.0 ≡ length a.2.space + length (n ++ (a.2.eq ++ a.2.quotes)) = ap length a.2.whole ∙ length-append a.2.space (n ++ (a.2.eq ++ a.2.quotes)) in
    omega (arith, whole, own, white_long a.2.space a.2.spaced, attributes_long attrs a.1 a.3)

tag_long : (n : List ℕ) (attrs : List (List ℕ × List ℕ)) (close x : List ℕ) → 1 ≤ length close → IsStart n attrs close x → 2 + length attrs ≤ length x
tag_long n attrs close x h s =
    let whole : length x ≡ length (60 ∷ (n ++ (s.inner ++ (s.space ++ close)))) = ap length s.whole in
    omega (arith, whole, length-append n (s.inner ++ (s.space ++ close)), length-append s.inner (s.space ++ close), length-append s.space close, attributes_long attrs s.inner s.given)

some_long : (x : List ℕ) → x ≢ [] → 1 ≤ length x
some_long [] h = absurd (h refl)
some_long (c ∷ x) h = omega arith

pub token_long : (t : Token) (x : List ℕ) → IsToken t x → least t ≤ length x
token_long (Character c) x is = let whole = ap length is.whole in omega (arith, whole, some_long (encode_utf8 c) (no_bytes c is.lawful))
token_long (Reference c) x is = let whole = ap length is.whole in omega (arith, whole)
token_long (Section v) x is = let whole = ap length is.whole in omega (arith, whole)
token_long (Start n attrs) x is = tag_long n attrs (62 ∷ []) x (omega arith) is
token_long (Empty n attrs) x is = tag_long n attrs (47 ∷ 62 ∷ []) x (omega arith) is
token_long (End n) x is = let whole = ap length is.whole in omega (arith, whole)
token_long (Comment v) x is = let whole = ap length is.whole in omega (arith, whole)
token_long (Instruction n v) x is = let whole = ap length is.whole in omega (arith, whole)
token_long Declaration x is = omega arith
token_long Doctype x is = omega arith

a_is_char : is_char 97 ≡ true
unfolding is_char
a_is_char = refl

a_is_name : IsName (97 ∷ [])
unfolding is_name is_name_start
a_is_name =
    let text = is_utf8-from_IsUtf8 (encode_utf8 97) (IsUtf8-encode 97 (char_scalar 97 a_is_char)) in
    let spelled : is_name (encode_utf8 97) ≡ true = rw (text, chars-encode 97 a_is_char) refl in
    subst (λ z. is_name z ≡ true) (encode_ascii 97 (omega arith)) spelled

-- the tokens of an end
pub empty_a_spelled : IsToken (Empty (97 ∷ []) []) (60 ∷ 97 ∷ 47 ∷ 62 ∷ [])
empty_a_spelled = record { named = a_is_name; inner = []; given = refl; distinct = refl; space = []; spaced = refl; whole = refl }

pub end_spelled : (name : List ℕ) → IsName name → IsToken (End name) (ending_tag name)
end_spelled n name = record { named = name; space = 32 ∷ []; spaced = refl; whole = refl }
