-- The value of an attribute, by its pieces.
use Rattle.std.proofs.Common.{◌≡◌, inl, inr, ℕ, ◌≤◌, Bool, true, false, List, [], ◌∷◌, ◌++◌, refl, arith, ap, sym, ◌∙◌, subst, append_assoc, append-nil}
use Rattle.std.specs.Prelude.{Option, Some, None, not, ◌==◌, ◌||◌}
use Rattle.std.specs.List.{list_all, flat_map, AllByRecursion}
use Rattle.std.specs.Char.{encode_utf8}
use Rattle.std.specs.Str.{bytes_eq}
use Rattle.std.proofs.lemmas.Bool.Decides.{nat_tests}
use Rattle.plain_tree.specs.XmlNames.{are_chars}
use Rattle.xml_tokens.specs.Cutting.{is_other}
use Rattle.xml_tokens.specs.References.{referred, char_ref, entity, numbered, are_digits, is_digit}
use Rattle.xml_tokens.specs.Attributes.{Piece, Plain, Referred, piece_text, piece_value, IsPiece, IsValue}
use Rattle.xml_tokens.specs.TokenAt.{put, put_char, value_in, value_of, leading_reference}
use Rattle.xml_tokens.proofs.Lists.{and_true, chosen_some, chosen_other, chosen, map_some, same_bytes, same_number, front-append, back-append}
use Rattle.xml_tokens.proofs.Decoding.{value_reference, given_by}
use Rattle.xml_tokens.proofs.Parts.{some_same}

-- a byte that may stand between & and ;
abbrev pub is_inner : ℕ → Bool
is_inner c = not (c == 59 || c == 60 || c == 38)

digit_inner : (base c : ℕ) → base ≤ 36 → is_digit base c ≡ true → is_inner c ≡ true
digit_inner base c b e = grind (arith, nat_tests)

pub all_of : (p q : ℕ → Bool) → ((c : ℕ) → p c ≡ true → q c ≡ true) → (xs : List ℕ) → list_all p xs ≡ true → list_all q xs ≡ true
all_of p q h [] e = refl
all_of p q h (x ∷ xs) e =
    let both = and_true (p x) (list_all p xs) e in
    rw (h x both.0, all_of p q h xs both.1) refl

digits_inner : (base : ℕ) (digits : List ℕ) (c : ℕ) → base ≤ 36 → numbered base digits ≡ Some c → list_all is_inner digits ≡ true
digits_inner base [] c b e = refl
digits_inner base (d ∷ ds) c b e =
    let found = chosen_some (are_digits base (d ∷ ds)) _ c e in
    all_of (is_digit base) is_inner (λ x h. digit_inner base x b h) (d ∷ ds) found.0

char_ref_inner : (s : List ℕ) (c : ℕ) → char_ref s ≡ Some c → list_all is_inner s ≡ true
char_ref_inner [] c e = cc
char_ref_inner (x ∷ s) c e = elim (chosen (x == 120) _ _ (Some c) e) [
  | inl w ↦
      let is = same_number x 120 w.0 in
      subst (λ z. list_all is_inner (z ∷ s) ≡ true) (sym is) (digits_inner 16 s c (omega arith) w.1)
  | inr w ↦ digits_inner 10 (x ∷ s) c (omega arith) w.1
]

entity_inner : (s : List ℕ) (c : ℕ) → entity s ≡ Some c → list_all is_inner s ≡ true
entity_inner s c e = elim (chosen (bytes_eq s (108 ∷ 116 ∷ [])) _ _ (Some c) e) [
  | inl w ↦ ap (list_all is_inner) (same_bytes s _ w.0)
  | inr w ↦ elim (chosen (bytes_eq s (103 ∷ 116 ∷ [])) _ _ (Some c) w.1) [
    | inl v ↦ ap (list_all is_inner) (same_bytes s _ v.0)
    | inr v ↦ elim (chosen (bytes_eq s (97 ∷ 109 ∷ 112 ∷ [])) _ _ (Some c) v.1) [
      | inl u ↦ ap (list_all is_inner) (same_bytes s _ u.0)
      | inr u ↦ elim (chosen (bytes_eq s (97 ∷ 112 ∷ 111 ∷ 115 ∷ [])) _ _ (Some c) u.1) [
        | inl t ↦ ap (list_all is_inner) (same_bytes s _ t.0)
        | inr t ↦ ap (list_all is_inner) (same_bytes s _ (chosen_some (bytes_eq s (113 ∷ 117 ∷ 111 ∷ 116 ∷ [])) (Some 34) c t.1).0)
      ]
    ]
  ]
]

pub referred_inner : (s : List ℕ) (c : ℕ) → referred s ≡ Some c → list_all is_inner s ≡ true
unfolding referred
referred_inner [] c e = cc
referred_inner (x ∷ s) c e = elim (chosen (x == 35) _ _ (Some c) e) [
  | inl w ↦
      let is = same_number x 35 w.0 in
      subst (λ z. list_all is_inner (z ∷ s) ≡ true) (sym is) (char_ref_inner s c w.1)
  | inr w ↦ entity_inner (x ∷ s) c w.1
]

inner_other : (c : ℕ) → is_inner c ≡ true → is_other 59 c ≡ true
inner_other c e = grind (arith, nat_tests)

pub no_semicolon : (s : List ℕ) (c : ℕ) → referred s ≡ Some c → list_all (is_other 59) s ≡ true
no_semicolon s c e = all_of is_inner (is_other 59) inner_other s (referred_inner s c e)

pub reference_is : (inner rest : List ℕ) (c : ℕ) → referred inner ≡ Some c → leading_reference (inner ++ 59 ∷ rest) ≡ Some (c, rest)
reference_is inner rest c e =
    rw (front-append (is_other 59) inner (59 ∷ rest) (no_semicolon inner c e) refl, back-append (is_other 59) inner (59 ∷ rest) (no_semicolon inner c e) refl, e) refl

module _ (give : ℕ → ℕ) where
  pieces_give : (ps : List Piece) → AllByRecursion IsPiece ps → value_in give None (flat_map piece_text ps) ≡ Some (flat_map (piece_value give) ps)
  pieces_give [] e = refl
  pieces_give (Plain c ∷ ps) e = rw (e.0.1, e.0.0, pieces_give ps e.1) refl
  pieces_give (Referred c x ∷ ps) e =
      let r = e.0 in
      let cut : x ++ flat_map piece_text ps ≡ 38 ∷ (r.inner ++ 59 ∷ flat_map piece_text ps) =
      ap (λ z. z ++ flat_map piece_text ps) r.whole ∙ ap (λ z. 38 ∷ z) (append_assoc r.inner (59 ∷ []) (flat_map piece_text ps)) in
      ap (value_in give None) cut ∙ value_reference give (r.inner ++ 59 ∷ flat_map piece_text ps) ∙ ap (given_by give) (reference_is r.inner (flat_map piece_text ps) c r.names)
      ∙ ap (put (encode_utf8 c)) (pieces_give ps e.1)

  pub value_is : (v inner : List ℕ) → IsValue give v inner → value_of give inner ≡ Some v
  unfolding value_of
  value_is v inner i = rw i.text (ap (value_in give None) i.whole ∙ pieces_give i.pieces i.each ∙ ap Some (sym i.gives))

  record Pieces (s v : List ℕ) : Type 0 where
    pieces : List Piece
    each : AllByRecursion IsPiece pieces
    whole : s ≡ flat_map piece_text pieces
    gives : v ≡ flat_map (piece_value give) pieces

  -- behind & and name
  record Named (name s v : List ℕ) : Type 0 where
    inner : List ℕ
    after : List ℕ
    c : ℕ
    value : List ℕ
    whole : s ≡ inner ++ 59 ∷ after
    names : referred (name ++ inner) ≡ Some c
    gives : v ≡ encode_utf8 c ++ value
    others : Pieces after value

  record Read (s : List ℕ) : Type 0 where
    plain : (v : List ℕ) → value_in give None s ≡ Some v → Pieces s v
    named : (name v : List ℕ) → value_in give (Some name) s ≡ Some v → Named name s v

  put_some : (xs : List ℕ) (o : Option (List ℕ)) (v : List ℕ) → put xs o ≡ Some v → (w : List ℕ) × (o ≡ Some w) × (v ≡ xs ++ w)
  put_some xs o v e =
      let m = map_some (λ zs. xs ++ zs) o v e in
      (m.0, m.1, sym m.2)

  put_char_some : (o : Option ℕ) (p : Option (List ℕ)) (v : List ℕ) → put_char o p ≡ Some v → (c : ℕ) × (w : List ℕ) × (o ≡ Some c) × (p ≡ Some w) × (v ≡ encode_utf8 c ++ w)
  put_char_some None p v e = cc
  put_char_some (Some c) p v e =
      let m = put_some (encode_utf8 c) p v e in
      (c, m.0, refl, m.1, m.2)

  module _ (c : ℕ) (s : List ℕ) (ih : Read s) where
    plain_one : (v : List ℕ) → (c == 38) ≡ false → (c == 60) ≡ false → put (give c ∷ []) (value_in give None s) ≡ Some v → Pieces (c ∷ s) v
    plain_one v a l e =
        let m = put_some (give c ∷ []) (value_in give None s) v e in
        let p = ih.plain m.0 m.1 in
        record { pieces = Plain c ∷ p.pieces; each = ((l, a), p.each); whole = ap (λ z. c ∷ z) p.whole; gives = m.2 ∙ ap (λ z. give c ∷ z) p.gives }

    referred_one : (v : List ℕ) → c ≡ 38 → value_in give (Some []) s ≡ Some v → Pieces (c ∷ s) v
    referred_one v is e =
        let n = ih.named [] v e in
        record {
          pieces = Referred n.c (38 ∷ (n.inner ++ 59 ∷ [])) ∷ n.others.pieces;
          each = (record { inner = n.inner; names = n.names; whole = refl }, n.others.each);
          whole =
              ap (λ z. z ∷ s) is
              ∙ ap (λ z. 38 ∷ z) (n.whole ∙ ap (λ z. n.inner ++ 59 ∷ z) n.others.whole ∙ sym (append_assoc n.inner (59 ∷ []) (flat_map piece_text n.others.pieces)));
          gives = n.gives ∙ ap (λ z. encode_utf8 n.c ++ z) n.others.gives;
        }

    plain_cons : (v : List ℕ) → value_in give None (c ∷ s) ≡ Some v → Pieces (c ∷ s) v
    plain_cons v e = elim (chosen (c == 38) _ _ (Some v) e) [
      | inl w ↦ referred_one v (same_number c 38 w.0) w.1
      | inr w ↦
          let o = chosen_other (c == 60) _ v w.1 in
          plain_one v w.0 o.0 o.1
    ]

    named_end : (name v : List ℕ) → c ≡ 59 → put_char (referred name) (value_in give None s) ≡ Some v → Named name (c ∷ s) v
    named_end name v is e =
        let m = put_char_some (referred name) (value_in give None s) v e in
        record { inner = []; after = s; c = m.0; value = m.1; whole = ap (λ z. z ∷ s) is; names = ap referred (append-nil name) ∙ m.2; gives = m.4; others = ih.plain m.1 m.3 }

    named_on : (name v : List ℕ) → value_in give (Some (name ++ c ∷ [])) s ≡ Some v → Named name (c ∷ s) v
    named_on name v e =
        let n = ih.named (name ++ c ∷ []) v e in
        record {
          inner = c ∷ n.inner;
          after = n.after;
          c = n.c;
          value = n.value;
          whole = ap (λ z. c ∷ z) n.whole;
          names = ap referred (sym (append_assoc name (c ∷ []) n.inner)) ∙ n.names;
          gives = n.gives;
          others = n.others;
        }

    named_cons : (name v : List ℕ) → value_in give (Some name) (c ∷ s) ≡ Some v → Named name (c ∷ s) v
    named_cons name v e = elim (chosen (c == 59) _ _ (Some v) e) [
      | inl w ↦ named_end name v (same_number c 59 w.0) w.1
      | inr w ↦ named_on name v w.1
    ]

  read : (s : List ℕ) → Read s
  read [] = record { plain = λ v e. record { pieces = []; each = tt; whole = refl; gives = sym (some_same [] v e) }; named = λ name v e. absurd (none name v e) } where
    none : (name v : List ℕ) → value_in give (Some name) [] ≡ Some v → ⊥
    none name v e = cc
  read (c ∷ s) =
      let ih = read s in
      record { plain = plain_cons c s ih; named = named_cons c s ih }

  pub value_was : (inner v : List ℕ) → value_of give inner ≡ Some v → IsValue give v inner
  unfolding value_of
  value_was inner v e =
      let found = chosen_some (are_chars inner) (value_in give None inner) v e in
      let p = (read inner).plain v found.1 in
      record { text = found.0; pieces = p.pieces; each = p.each; whole = p.whole; gives = p.gives }
