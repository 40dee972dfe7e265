-- White space, names, equals signs and quotes: a part is spelled exactly where its reader finds it.
use Rattle.std.proofs.Common.{◌≡◌, ℕ, Bool, true, false, List, [], ◌∷◌, ◌++◌, refl, arith, ap, sym, ◌∙◌, subst, append_assoc}
use Rattle.std.specs.Prelude.{Some, not, ◌==◌}
use Rattle.std.specs.List.{list_all}
use Rattle.std.proofs.lemmas.Bool.Decides.{nat_tests}
use Rattle.plain_tree.specs.XmlNames.{is_space, are_spaces, begins_space, is_white, is_name, is_name_char, is_name_start}
use Rattle.xml_tokens.specs.NameBytes.{is_name_byte}
use Rattle.xml_tokens.specs.Cutting.{front, back, is_other, behind, Begins}
use Rattle.xml_tokens.specs.Attributes.{is_quote, IsQuoted, IsEq}
use Rattle.xml_tokens.specs.TokenAt.{name_at, eq_at, quoted_at, closed_at, space_at}
use Rattle.xml_tokens.proofs.Lists.{Stops, and_true, front-append, back-append, front-back, back-stops, list_all-front, chosen_some, map_some, behind_whole, eqb_same, same_number}
use Rattle.xml_tokens.proofs.Texts.{space_ends_name, name_bytes, named_first}

pub some_same : {A : Type 0} (a b : A) → Some a ≡ Some b → a ≡ b
some_same a b e = cc

pub two_same : (a b : List ℕ × List ℕ) → Some a ≡ Some b → (a.0 ≡ b.0) × (a.1 ≡ b.1)
two_same a b e =
    let same : a ≡ b = cc in
    (ap (λ z. z.0) same, ap (λ z. z.1) same)

-- signs that may not stand in a name
pub no_name_byte : (is_name_byte 33 ≡ false) × (is_name_byte 34 ≡ false) × (is_name_byte 39 ≡ false) × (is_name_byte 47 ≡ false) × (is_name_byte 60 ≡ false) × (is_name_byte 61 ≡ false)
    × (is_name_byte 62 ≡ false) × (is_name_byte 63 ≡ false)
unfolding is_name_char is_name_start
no_name_byte = (refl, refl, refl, refl, refl, refl, refl, refl)

-- a byte of a name is none of these
pub name_is_not : (c k : ℕ) → is_name_byte c ≡ true → is_name_byte k ≡ false → (c == k) ≡ false
name_is_not c k e n = by (c == k) refl where
  by : (b : Bool) → (c == k) ≡ b → (c == k) ≡ false
  by true is = absurd (let same = ap is_name_byte (same_number c k is) in cc)
  by false is = is

-- nor white space
pub name_is_no_space : (c : ℕ) → is_name_byte c ≡ true → is_space c ≡ false
name_is_no_space c e = by (is_space c) refl where
  by : (b : Bool) → is_space c ≡ b → is_space c ≡ false
  by true is = absurd (let same = space_ends_name c is in cc)
  by false is = is

pub stops_spaces : (space rest : List ℕ) → are_spaces space ≡ true → Stops is_name_byte rest → Stops is_name_byte (space ++ rest)
stops_spaces [] rest e s = s
stops_spaces (c ∷ cs) rest e s = space_ends_name c (and_true (is_space c) (list_all is_space cs) e).0

pub stops_name : (name rest : List ℕ) → is_name name ≡ true → Stops is_space (name ++ rest)
stops_name name rest e =
    let n = named_first name e in
    subst (λ z. Stops is_space (z ++ rest)) (sym n.2) (name_is_no_space n.0 n.3)

pub name_is : (name rest : List ℕ) → is_name name ≡ true → Stops is_name_byte rest → name_at (name ++ rest) ≡ Some (name, rest)
unfolding name_at
name_is name rest e s = rw (front-append is_name_byte name rest (name_bytes name e) s, back-append is_name_byte name rest (name_bytes name e) s, e) refl

pub name_was : (s name rest : List ℕ) → name_at s ≡ Some (name, rest) → (is_name name ≡ true) × (s ≡ name ++ rest)
unfolding name_at
name_was s name rest e =
    let found = chosen_some (is_name (front is_name_byte s)) _ (name, rest) e in
    let same = two_same (front is_name_byte s, back is_name_byte s) (name, rest) found.1 in
    (sym (ap is_name same.0) ∙ found.0, sym (front-back is_name_byte s) ∙ ap (λ z. z ++ back is_name_byte s) same.0 ∙ ap (λ z. name ++ z) same.1)

pub white_begins : (space rest : List ℕ) → is_white space ≡ true → begins_space (space ++ rest) ≡ true
white_begins [] rest e = cc
white_begins (c ∷ cs) rest e = (and_true (is_space c) (are_spaces (c ∷ cs)) e).0

pub white_spaces : (space : List ℕ) → is_white space ≡ true → are_spaces space ≡ true
white_spaces space e = (and_true (begins_space space) (are_spaces space) e).1

pub space_is : (space rest : List ℕ) → is_white space ≡ true → Stops is_space rest → space_at (space ++ rest) ≡ Some rest
space_is space rest e s = rw (white_begins space rest e, back-append is_space space rest (white_spaces space e) s) refl

begins_front : (s : List ℕ) → begins_space s ≡ true → begins_space (front is_space s) ≡ true
begins_front [] e = cc
begins_front (c ∷ cs) e = rw e e

pub front_white : (s : List ℕ) → begins_space s ≡ true → is_white (front is_space s) ≡ true
front_white s e = rw (begins_front s e, list_all-front is_space s) refl

pub space_was : (s rest : List ℕ) → space_at s ≡ Some rest → (space : List ℕ) × (is_white space ≡ true) × (s ≡ space ++ rest)
space_was s rest e =
    let found = chosen_some (begins_space s) (Some (back is_space s)) rest e in
    let same = some_same (back is_space s) rest found.1 in
    (front is_space s, front_white s found.0, sym (front-back is_space s) ∙ ap (λ z. front is_space s ++ z) same)

pub eq_is : (x rest : List ℕ) → IsEq x → Stops is_space rest → eq_at (x ++ rest) ≡ Some rest
eq_is x rest q s =
    let cut : x ++ rest ≡ q.space ++ 61 ∷ (q.after ++ rest) = ap (λ z. z ++ rest) q.whole ∙ append_assoc q.space (61 ∷ q.after) rest in
    rw (cut, back-append is_space q.space (61 ∷ (q.after ++ rest)) q.spaced refl, back-append is_space q.after rest q.spaced_after s) refl

pub eq_stops : (x rest : List ℕ) → IsEq x → Stops is_name_byte (x ++ rest)
eq_stops x rest q =
    let cut : x ++ rest ≡ q.space ++ 61 ∷ (q.after ++ rest) = ap (λ z. z ++ rest) q.whole ∙ append_assoc q.space (61 ∷ q.after) rest in
    subst (Stops is_name_byte) (sym cut) (stops_spaces q.space (61 ∷ (q.after ++ rest)) q.spaced no_name_byte.5)

pub eq_was : (s rest : List ℕ) → eq_at s ≡ Some rest → Begins IsEq s rest
eq_was s rest e =
    let m = map_some (back is_space) (behind (61 ∷ []) (back is_space s)) rest e in
    let sign = behind_whole (61 ∷ []) (back is_space s) m.0 m.1 in
    record {
      text = front is_space s ++ 61 ∷ front is_space m.0;
      spelled = record { space = front is_space s; after = front is_space m.0; spaced = list_all-front is_space s; spaced_after = list_all-front is_space m.0; whole = refl };
      whole =
          sym (front-back is_space s) ∙ ap (λ z. front is_space s ++ z) (sign ∙ ap (λ z. 61 ∷ z) (sym (front-back is_space m.0) ∙ ap (λ z. front is_space m.0 ++ z) m.2))
          ∙ sym (append_assoc (front is_space s) (61 ∷ front is_space m.0) rest);
    }

other_self : (q : ℕ) → is_other q q ≡ false
other_self q = rw (eqb_same q) refl

pub quoted_is : (inner x rest : List ℕ) → IsQuoted inner x → quoted_at (x ++ rest) ≡ Some (inner, rest)
unfolding quoted_at
quoted_is inner x rest q =
    let cut : x ++ rest ≡ q.quote ∷ (inner ++ q.quote ∷ rest) = ap (λ z. z ++ rest) q.whole ∙ ap (λ z. q.quote ∷ z) (append_assoc inner (q.quote ∷ []) rest) in
    rw (
      cut,
      q.quoted,
      front-append (is_other q.quote) inner (q.quote ∷ rest) q.closed (other_self q.quote),
      back-append (is_other q.quote) inner (q.quote ∷ rest) q.closed (other_self q.quote),
    ) refl

quote_no_space : (q : ℕ) → is_quote q ≡ true → is_space q ≡ false
quote_no_space q e = grind (arith, nat_tests)

pub quoted_stops : (inner x rest : List ℕ) → IsQuoted inner x → Stops is_space (x ++ rest)
quoted_stops inner x rest q = subst (λ z. Stops is_space (z ++ rest)) (sym q.whole) (quote_no_space q.quote q.quoted)

closed_was : (q : ℕ) (inner s i after : List ℕ) → Stops (is_other q) s → closed_at inner s ≡ Some (i, after) → (inner ≡ i) × (s ≡ q ∷ after)
closed_was q inner [] i after stops e = cc
closed_was q inner (c ∷ s) i after stops e =
    let same = two_same (inner, s) (i, after) e in
    let is : c ≡ q = same_number c q (other (c == q) stops) in
    (same.0, ap (λ z. z ∷ s) is ∙ ap (λ z. q ∷ z) same.1) where
      other : (b : Bool) → not b ≡ false → b ≡ true
      other true e = refl
      other false e = cc

pub quoted_was : (s inner after : List ℕ) → quoted_at s ≡ Some (inner, after) → Begins (IsQuoted inner) s after
unfolding quoted_at
quoted_was [] inner after e = cc
quoted_was (q ∷ s) inner after e =
    let found = chosen_some (is_quote q) _ (inner, after) e in
    let closed = closed_was q (front (is_other q) s) (back (is_other q) s) inner after (back-stops (is_other q) s) found.1 in
    record {
      text = q ∷ (inner ++ q ∷ []);
      spelled = record { quote = q; quoted = found.0; closed = subst (λ z. list_all (is_other q) z ≡ true) closed.0 (list_all-front (is_other q) s); whole = refl };
      whole =
          ap (λ z. q ∷ z) (sym (front-back (is_other q) s) ∙ ap (λ z. z ++ back (is_other q) s) closed.0 ∙ ap (λ z. inner ++ z) closed.1 ∙ sym (append_assoc inner (q ∷ []) after));
    }
