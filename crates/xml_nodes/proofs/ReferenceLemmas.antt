-- What references name, and the bytes that they are made of.
use Rattle.std.proofs.Common.{◌≡◌, ℕ, ◌≤◌, Bool, true, false, List, [], ◌∷◌, refl, sym, subst, arith}
use Rattle.std.specs.Prelude.{Some, None, ◌==◌, nat_lt, if◌then◌else◌}
use Rattle.std.specs.Str.{bytes_eq}
use Rattle.std.specs.List.{list_all}
use Rattle.std.proofs.lemmas.Bool.Decides.{nat_tests}
use Rattle.std.proofs.lemmas.Slice.Eq.{bytes_eq-Decides}
use Rattle.xml_nodes.proofs.CharacterLemmas.{and_true}
use Rattle.plain_tree.specs.XmlNames.{is_char}
use Rattle.xml_tokens.specs.References.{is_digit, number_after, char_of, numbered, char_ref, entity, referred}

abbrev pub is_low : ℕ → Bool
is_low c = nat_lt c 128

-- a named character, and bytes that name it
pub record Named (inner : List ℕ) (c : ℕ) : Type 0 where
  pub is : is_char c ≡ true
  pub low : list_all is_low inner ≡ true

char_of_is : (n c : ℕ) → char_of n ≡ Some c → is_char c ≡ true
char_of_is n c e = by_test (is_char n) refl e where
  by_test : (b : Bool) → is_char n ≡ b → (if b then Some n else None) ≡ Some c → is_char c ≡ true
  by_test true t f = let same : n ≡ c = cc in subst (λ z. is_char z ≡ true) same t
  by_test false t f = cc

digit_low : (base c : ℕ) → base ≤ 16 → is_digit base c ≡ true → is_low c ≡ true
digit_low base c h e = grind (arith, nat_tests)

digits_low : (base : ℕ) (cs : List ℕ) → base ≤ 16 → list_all (is_digit base) cs ≡ true → list_all is_low cs ≡ true
digits_low base [] h e = refl
digits_low base (c ∷ cs) h e =
    let both = and_true (is_digit base c) (list_all (is_digit base) cs) e in
    rw (digit_low base c h both.0, digits_low base cs h both.1) refl

numbered_is : (base : ℕ) (digits : List ℕ) (c : ℕ) → base ≤ 16 → numbered base digits ≡ Some c → Named digits c
numbered_is base [] c h e = cc
numbered_is base (d ∷ ds) c h e = by_test (list_all (is_digit base) (d ∷ ds)) refl e where
  by_test : (b : Bool) → list_all (is_digit base) (d ∷ ds) ≡ b → (if b then char_of (number_after base 0 (d ∷ ds)) else None) ≡ Some c → Named (d ∷ ds) c
  by_test true t f = record { is = char_of_is (number_after base 0 (d ∷ ds)) c f; low = digits_low base (d ∷ ds) h t }
  by_test false t f = cc

char_ref_is : (cs : List ℕ) (c : ℕ) → char_ref cs ≡ Some c → Named cs c
char_ref_is [] c e = cc
char_ref_is (d ∷ ds) c e = by_test (d == 120) refl e where
  by_test : (b : Bool) → (d == 120) ≡ b → (if b then numbered 16 ds else numbered 10 (d ∷ ds)) ≡ Some c → Named (d ∷ ds) c
  by_test true t f =
      let n = numbered_is 16 ds c (omega arith) f in
      let low : is_low d ≡ true = grind (arith, nat_tests) in
      record { is = n.is; low = rw (low, n.low) refl }
  by_test false t f = numbered_is 10 (d ∷ ds) c (omega arith) f

one_name : (name word : List ℕ) (k c : ℕ) → bytes_eq name word ≡ true → Some k ≡ Some c → is_char k ≡ true → list_all is_low word ≡ true → Named name c
one_name name word k c t e is low =
    let same = (bytes_eq-Decides name word).0 t in
    let kc : k ≡ c = cc in
    record { is = subst (λ z. is_char z ≡ true) kc is; low = subst (λ z. list_all is_low z ≡ true) (sym same) low }

entity_is : (name : List ℕ) (c : ℕ) → entity name ≡ Some c → Named name c
unfolding is_char
entity_is name c e =
    by_tests (bytes_eq name (108 ∷ 116 ∷ [])) (bytes_eq name (103 ∷ 116 ∷ [])) (bytes_eq name (97 ∷ 109 ∷ 112 ∷ [])) (bytes_eq name (97 ∷ 112 ∷ 111 ∷ 115 ∷ []))
    (bytes_eq name (113 ∷ 117 ∷ 111 ∷ 116 ∷ [])) refl refl refl refl refl e where
      by_tests : (v w x y z : Bool) → bytes_eq name (108 ∷ 116 ∷ []) ≡ v → bytes_eq name (103 ∷ 116 ∷ []) ≡ w → bytes_eq name (97 ∷ 109 ∷ 112 ∷ []) ≡ x
          → bytes_eq name (97 ∷ 112 ∷ 111 ∷ 115 ∷ []) ≡ y → bytes_eq name (113 ∷ 117 ∷ 111 ∷ 116 ∷ []) ≡ z
          → (if v then Some 60 else (if w then Some 62 else (if x then Some 38 else (if y then Some 39 else (if z then Some 34 else None))))) ≡ Some c → Named name c
      by_tests true w x y z a b d g h f = one_name name (108 ∷ 116 ∷ []) 60 c a f refl refl
      by_tests false true x y z a b d g h f = one_name name (103 ∷ 116 ∷ []) 62 c b f refl refl
      by_tests false false true y z a b d g h f = one_name name (97 ∷ 109 ∷ 112 ∷ []) 38 c d f refl refl
      by_tests false false false true z a b d g h f = one_name name (97 ∷ 112 ∷ 111 ∷ 115 ∷ []) 39 c g f refl refl
      by_tests false false false false true a b d g h f = one_name name (113 ∷ 117 ∷ 111 ∷ 116 ∷ []) 34 c h f refl refl
      by_tests false false false false false a b d g h f = cc

pub referred_is : (inner : List ℕ) (c : ℕ) → referred inner ≡ Some c → Named inner c
unfolding referred
referred_is [] c e = cc
referred_is (d ∷ ds) c e = by_test (d == 35) refl e where
  by_test : (b : Bool) → (d == 35) ≡ b → (if b then char_ref ds else entity (d ∷ ds)) ≡ Some c → Named (d ∷ ds) c
  by_test true t f =
      let n = char_ref_is ds c f in
      let low : is_low d ≡ true = grind (arith, nat_tests) in
      record { is = n.is; low = rw (low, n.low) refl }
  by_test false t f = entity_is (d ∷ ds) c f
