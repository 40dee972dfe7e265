-- Tags: an attribute, all of them, and the tag are spelled exactly where their readers find them.
use Rattle.std.proofs.Common.{◌≡◌, inl, inr, ℕ, zero, suc, Bool, true, false, List, [], ◌∷◌, ◌++◌, length, refl, ap, sym, ◌∙◌, subst, append_assoc}
use Rattle.std.specs.Prelude.{Some, not}
use Rattle.std.specs.Str.{bytes_eq}
use Rattle.plain_tree.specs.XmlNames.{is_space, are_spaces, begins_space, is_white, is_name}
use Rattle.xml_tokens.specs.NameBytes.{is_name_byte}
use Rattle.xml_tokens.specs.Cutting.{front, back}
use Rattle.xml_tokens.specs.Attributes.{space_if_white, IsAttribute, AreAttributes, IsQuoted, are_distinct}
use Rattle.xml_tokens.specs.Markup.{IsStart, IsEnd}
use Rattle.xml_tokens.specs.Tokens.{IsToken, Token, Start, Empty, End}
use Rattle.xml_tokens.specs.TokenAt.{name_at, eq_at, quoted_at, value_of, raw_attribute_at, attribute_at, attributes_at, all_attributes_at, more_attributes, ends_tag, ended_attributes, close_at, start_at, end_at}
use Rattle.xml_tokens.proofs.Lists.{Stops, and_true, back-append, front-back, list_all-front, chosen, chosen_some, chosen_other, same_bytes, map_some}
use Rattle.xml_tokens.proofs.Texts.{named_first, space_ends_name}
use Rattle.xml_tokens.proofs.Parts.{some_same, name_is, name_was, eq_is, eq_was, eq_stops, quoted_is, quoted_was, quoted_stops, stops_name, white_begins, white_spaces, front_white, name_is_not, no_name_byte, stops_spaces}
use Rattle.xml_tokens.proofs.Pieces.{value_is, value_was}
use Rattle.xml_tokens.proofs.Attributing.{Attributes, then_some, goes_on, all_law}

-- an attribute and what follows it
module _ (name value y rest : List ℕ) (a : IsAttribute name value y) where
  inside : List ℕ
  inside = name ++ (a.eq ++ (a.quotes ++ rest))

  attribute_cut : y ++ rest ≡ a.space ++ (name ++ (a.eq ++ (a.quotes ++ rest)))
  attribute_cut = ap (λ z. z ++ rest) a.whole ∙ simp append_assoc

  raw_is : raw_attribute_at (name ++ (a.eq ++ (a.quotes ++ rest))) ≡ Some (name, a.inner, rest)
  unfolding raw_attribute_at
  raw_is =
      rw (
        name_is name (a.eq ++ (a.quotes ++ rest)) a.named (eq_stops a.eq (a.quotes ++ rest) a.is_eq),
        eq_is a.eq (a.quotes ++ rest) a.is_eq (quoted_stops a.inner a.quotes rest a.quoted),
        quoted_is a.inner a.quotes rest a.quoted,
      ) refl

  attribute_is : attribute_at (name ++ (a.eq ++ (a.quotes ++ rest))) ≡ Some ((name, value), rest)
  unfolding attribute_at
  attribute_is = rw (raw_is, value_is space_if_white value a.inner a.is_value) refl

-- what closes a tag
pub record Closes (close : List ℕ) : Type 0 where
  pub name_stops : Stops is_name_byte close
  pub stops : Stops is_space close
  pub ended : ended_attributes close ≡ true
  pub some : (c : ℕ) × (w : List ℕ) × (close ≡ c ∷ w)

name_goes_on : (c : ℕ) → is_name_byte c ≡ true → ends_tag c ≡ false
name_goes_on c e = rw (name_is_not c 62 e no_name_byte.6, name_is_not c 47 e no_name_byte.3) refl

ended_by : (s close w : List ℕ) (c : ℕ) → back is_space s ≡ close → close ≡ c ∷ w → ended_attributes close ≡ true → all_attributes_at s ≡ Some ([], close)
ended_by s close w c e is h =
    let ends : ends_tag c ≡ true = subst (λ z. ended_attributes z ≡ true) is h in
    all_law s w c (e ∙ is) ∙ rw ends (ap (λ z. Some ([], z)) (sym is))

module _ (space close : List ℕ) (spaced : are_spaces space ≡ true) (closes : Closes close) where
  pub attributes_are : (attributes : Attributes) (inner : List ℕ) → AreAttributes attributes inner → all_attributes_at (inner ++ (space ++ close)) ≡ Some (attributes, close)
  attributes_are [] inner e =
      ap (λ z. all_attributes_at (z ++ (space ++ close))) e
      ∙ ended_by (space ++ close) close closes.some.1 closes.some.0 (back-append is_space space close spaced closes.stops) closes.some.2 closes.ended
  attributes_are ((n, v) ∷ attributes) inner (y, rest, a, others, whole) =
      let t = rest ++ (space ++ close) in
      let z = name_and a t in
      let first = named_first n a.named in
      let cut : inner ++ (space ++ close) ≡ a.space ++ z = ap (λ x. x ++ (space ++ close)) whole ∙ append_assoc y rest (space ++ close) ∙ attribute_cut n v y t a in
      let begun : back is_space (a.space ++ z) ≡ first.0 ∷ (first.1 ++ (a.eq ++ (a.quotes ++ t))) =
      back-append is_space a.space z (white_spaces a.space a.spaced) (stops_name n (a.eq ++ (a.quotes ++ t)) a.named) ∙ ap (λ x. x ++ (a.eq ++ (a.quotes ++ t))) first.2 in
      let same : first.0 ∷ (first.1 ++ (a.eq ++ (a.quotes ++ t))) ≡ z = ap (λ x. x ++ (a.eq ++ (a.quotes ++ t))) (sym first.2) in
      ap all_attributes_at cut ∙ all_law (a.space ++ z) (first.1 ++ (a.eq ++ (a.quotes ++ t))) first.0 begun
      ∙ rw (name_goes_on first.0 first.3, white_begins a.space z a.spaced, same) (ap (goes_on all_attributes_at) (attribute_is n v y t a) ∙ ap (more_attributes (n, v)) (attributes_are attributes rest others)) where
        name_and : (a : IsAttribute n v y) → List ℕ → List ℕ
        name_and a t = n ++ (a.eq ++ (a.quotes ++ t))

pub white_stops : (space rest : List ℕ) → is_white space ≡ true → Stops is_name_byte (space ++ rest)
white_stops [] rest e = cc
white_stops (c ∷ cs) rest e = space_ends_name c (and_true (is_space c) (are_spaces (c ∷ cs)) e).0

attributes_stop : (attributes : Attributes) (inner rest : List ℕ) → AreAttributes attributes inner → Stops is_name_byte rest → Stops is_name_byte (inner ++ rest)
attributes_stop [] inner rest e s = subst (λ z. Stops is_name_byte (z ++ rest)) (sym e) s
attributes_stop ((n, v) ∷ attributes) inner rest (y, others, a, are, whole) s =
    let cut : inner ++ rest ≡ a.space ++ (n ++ (a.eq ++ (a.quotes ++ (others ++ rest)))) =
    ap (λ z. z ++ rest) whole ∙ append_assoc y others rest ∙ attribute_cut n v y (others ++ rest) a in
    subst (Stops is_name_byte) (sym cut) (white_stops a.space (n ++ (a.eq ++ (a.quotes ++ (others ++ rest)))) a.spaced)

-- behind its <, a tag is read by its close
pub start_is : (name : List ℕ) (attributes : Attributes) (close x : List ℕ) (i : IsStart name attributes close x) → Closes close
    → start_at (name ++ (i.inner ++ (i.space ++ close))) ≡ close_at name attributes close
unfolding start_at
start_is name attributes close x i closes =
    rw (
      name_is name (i.inner ++ (i.space ++ close)) i.named (attributes_stop attributes i.inner (i.space ++ close) i.given (stops_spaces i.space close i.spaced closes.name_stops)),
      attributes_are i.space close i.spaced closes attributes i.inner i.given,
    ) refl

pub end_is : (name x : List ℕ) (i : IsEnd name x) → end_at (name ++ (i.space ++ 62 ∷ [])) ≡ Some (End name)
unfolding end_at
end_is name x i =
    rw (name_is name (i.space ++ 62 ∷ []) i.named (stops_spaces i.space (62 ∷ []) i.spaced no_name_byte.6), back-append is_space i.space (62 ∷ []) i.spaced refl) refl

pub end_was : (s : List ℕ) (t : Token) → end_at s ≡ Some t → IsToken t (60 ∷ 47 ∷ s)
unfolding end_at
end_was s t e =
    let n = then_some (name_at s) _ t e in
    let name = n.0.0 in
    let was = name_was s n.0.0 n.0.1 n.1 in
    let last = chosen_some (bytes_eq (back is_space n.0.1) (62 ∷ [])) (Some (End n.0.0)) t n.2 in
    let close = same_bytes (back is_space n.0.1) (62 ∷ []) last.0 in
    let is : IsEnd n.0.0 (60 ∷ 47 ∷ s) = record {
      named = was.0;
      space = front is_space n.0.1;
      spaced = list_all-front is_space n.0.1;
      whole = ap (λ z. 60 ∷ 47 ∷ z) (was.1 ∙ ap (λ z. n.0.0 ++ z) (sym (front-back is_space n.0.1) ∙ ap (λ z. front is_space n.0.1 ++ z) close));
    } in
    subst (λ z. IsToken z (60 ∷ 47 ∷ s)) (some_same (End n.0.0) t last.1) is

-- attributes and white space in front of a close
record Given (s : List ℕ) (attributes : Attributes) (close : List ℕ) : Type 0 where
  inner : List ℕ
  given : AreAttributes attributes inner
  space : List ℕ
  spaced : are_spaces space ≡ true
  whole : s ≡ inner ++ (space ++ close)

given_none : (s : List ℕ) (attributes : Attributes) (z close : List ℕ) → z ≡ back is_space s → (let p : Attributes × List ℕ = ([], z) in let q : Attributes × List ℕ = (attributes, close) in p ≡ q)
    → Given s attributes close
given_none s attributes z close at e =
    let none : attributes ≡ [] = sym (ap (λ x. x.0) e) in
    let same : z ≡ close = ap (λ x. x.1) e in
    record {
      inner = [];
      given = subst (λ x. AreAttributes x []) (sym none) refl;
      space = front is_space s;
      spaced = list_all-front is_space s;
      whole = sym (front-back is_space s) ∙ ap (λ x. front is_space s ++ x) (sym at ∙ same);
    }

three_same : (a b : List ℕ × List ℕ × List ℕ) → Some a ≡ Some b → (a.0 ≡ b.0) × (a.1 ≡ b.1) × (a.2 ≡ b.2)
three_same a b e =
    let same : a ≡ b = cc in
    (ap (λ z. z.0) same, ap (λ z. z.1) same, ap (λ z. z.2) same)

-- an attribute whose white space was skipped
record Was (s : List ℕ) (a : (List ℕ × List ℕ) × List ℕ) : Type 0 where
  text : List ℕ
  is : IsAttribute a.0.0 a.0.1 text
  whole : s ≡ text ++ a.1

attribute_was : (s z : List ℕ) (a : (List ℕ × List ℕ) × List ℕ) → z ≡ back is_space s → begins_space s ≡ true → attribute_at z ≡ Some a → Was s a
unfolding attribute_at raw_attribute_at
attribute_was s z a at begun e =
    let raw = then_some (raw_attribute_at z) _ a e in
    let value = then_some (value_of space_if_white raw.0.1) _ a raw.2 in
    let named = then_some (name_at z) _ raw.0 raw.1 in
    let eq = then_some (eq_at named.0.1) _ raw.0 named.2 in
    let quoted = then_some (quoted_at eq.0) _ raw.0 eq.2 in
    let parts = three_same (named.0.0, quoted.0.0, quoted.0.1) raw.0 quoted.2 in
    let result : ((raw.0.0, value.0), raw.0.2) ≡ a = some_same ((raw.0.0, value.0), raw.0.2) a value.2 in
    let n = name_was z named.0.0 named.0.1 named.1 in
    let q = eq_was named.0.1 eq.0 eq.1 in
    let k = quoted_was eq.0 quoted.0.0 quoted.0.1 quoted.1 in
    let v = value_was space_if_white raw.0.1 value.0 value.1 in
    let is : IsAttribute raw.0.0 value.0 (front is_space s ++ (named.0.0 ++ (q.text ++ k.text))) = record {
      space = front is_space s;
      spaced = front_white s begun;
      named = subst (λ x. is_name x ≡ true) parts.0 n.0;
      eq = q.text;
      is_eq = q.spelled;
      inner = raw.0.1;
      is_value = v;
      quotes = k.text;
      quoted = subst (λ x. IsQuoted x k.text) parts.1 k.spelled;
      whole = ap (λ x. front is_space s ++ (x ++ (q.text ++ k.text))) parts.0;
    } in
    let behind : z ≡ (named.0.0 ++ (q.text ++ k.text)) ++ quoted.0.1 = n.1 ∙ ap (λ x. named.0.0 ++ x) (q.whole ∙ ap (λ x. q.text ++ x) k.whole) ∙ sym (simp append_assoc) in
    let here : Was s ((raw.0.0, value.0), raw.0.2) = record {
      text = front is_space s ++ (named.0.0 ++ (q.text ++ k.text));
      is = is;
      whole =
          sym (front-back is_space s) ∙ ap (λ x. front is_space s ++ x) (sym at ∙ behind ∙ ap (λ x. (named.0.0 ++ (q.text ++ k.text)) ++ x) parts.2)
          ∙ sym (append_assoc (front is_space s) (named.0.0 ++ (q.text ++ k.text)) raw.0.2);
    } in
    subst (Was s) result here

given_more : (s : List ℕ) (a : (List ℕ × List ℕ) × List ℕ) (attributes : Attributes) (close : List ℕ) → Was s a → Given a.1 attributes close → Given s (a.0 ∷ attributes) close
given_more s ((n, v), after) attributes close w g = record {
  inner = w.text ++ g.inner;
  given = (w.text, g.inner, w.is, g.given, refl);
  space = g.space;
  spaced = g.spaced;
  whole = w.whole ∙ ap (λ x. w.text ++ x) g.whole ∙ sym (append_assoc w.text g.inner (g.space ++ close));
}

attributes_were : (most : ℕ) (s z : List ℕ) (p : Attributes × List ℕ) → z ≡ back is_space s → attributes_at most s z ≡ Some p → Given s p.0 p.1
attributes_were zero s [] p at e = given_none s p.0 [] p.1 at (some_same ([], []) p e)
attributes_were (suc most) s [] p at e = given_none s p.0 [] p.1 at (some_same ([], []) p e)
attributes_were zero s (c ∷ z) p at e = given_none s p.0 (c ∷ z) p.1 at (some_same ([], c ∷ z) p (chosen_some (ends_tag c) (Some ([], c ∷ z)) p e).1)
attributes_were (suc most) s (c ∷ z) p at e = elim (chosen (ends_tag c) _ _ (Some p) e) [
  | inl w ↦ given_none s p.0 (c ∷ z) p.1 at (some_same ([], c ∷ z) p w.1)
  | inr w ↦
      let b = chosen_some (begins_space s) _ p w.1 in
      let a = then_some (attribute_at (c ∷ z)) _ p b.1 in
      let m = map_some (λ q. (a.0.0 ∷ q.0, q.1)) (attributes_at most a.0.1 (back is_space a.0.1)) p a.2 in
      let others = attributes_were most a.0.1 (back is_space a.0.1) m.0 refl m.1 in
      let whole : Given s (a.0.0 ∷ m.0.0) m.0.1 = given_more s a.0 m.0.0 m.0.1 (attribute_was s (c ∷ z) a.0 at b.0 a.1) others in
      subst (λ q. Given s q.0 q.1) m.2 whole
]

pub start_was : (s : List ℕ) (t : Token) → start_at s ≡ Some t → IsToken t (60 ∷ s)
unfolding start_at all_attributes_at
start_was s t e =
    let n = then_some (name_at s) _ t e in
    let g = then_some (all_attributes_at n.0.1) _ t n.2 in
    let was = name_was s n.0.0 n.0.1 n.1 in
    let given = attributes_were (length n.0.1) n.0.1 (back is_space n.0.1) g.0 refl g.1 in
    let d = chosen_other (not (are_distinct g.0.0)) _ t g.2 in
    let distinct = not_false (are_distinct g.0.0) d.0 in
    let whole : 60 ∷ s ≡ 60 ∷ (n.0.0 ++ (given.inner ++ (given.space ++ g.0.1))) = ap (λ z. 60 ∷ z) (was.1 ∙ ap (λ z. n.0.0 ++ z) given.whole) in
    let is : IsStart n.0.0 g.0.0 g.0.1 (60 ∷ s) =
    record { named = was.0; inner = given.inner; given = given.given; distinct = distinct; space = given.space; spaced = given.spaced; whole = whole } in
    elim (chosen (bytes_eq g.0.1 (62 ∷ [])) _ _ (Some t) d.1) [
      | inl w ↦ subst (λ z. IsToken z (60 ∷ s)) (some_same (Start n.0.0 g.0.0) t w.1) (subst (λ z. IsStart n.0.0 g.0.0 z (60 ∷ s)) (same_bytes g.0.1 (62 ∷ []) w.0) is)
      | inr w ↦
          let o = chosen_some (bytes_eq g.0.1 (47 ∷ 62 ∷ [])) (Some (Empty n.0.0 g.0.0)) t w.1 in
          subst (λ z. IsToken z (60 ∷ s)) (some_same (Empty n.0.0 g.0.0) t o.1) (subst (λ z. IsStart n.0.0 g.0.0 z (60 ∷ s)) (same_bytes g.0.1 (47 ∷ 62 ∷ []) o.0) is)
    ] where
      not_false : (b : Bool) → not b ≡ false → b ≡ true
      not_false true e = refl
      not_false false e = cc
