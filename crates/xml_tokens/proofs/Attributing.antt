-- The attributes of a tag, one at a time.
use Rattle.std.proofs.Common.{◌≡◌, ℕ, zero, suc, ◌<◌, ◌≤◌, Bool, true, false, cond, List, [], ◌∷◌, ◌++◌, length, refl, arith, ap, sym, ◌∙◌, subst, append_assoc, append-nil}
use Rattle.std.specs.Prelude.{Option, Some, None, option_and_then}
use Rattle.plain_tree.specs.XmlNames.{is_space, is_name, begins_space}
use Rattle.xml_tokens.specs.NameBytes.{is_name_byte}
use Rattle.xml_tokens.specs.Cutting.{front, back, is_other, behind}
use Rattle.xml_tokens.specs.Attributes.{is_quote, space_if_white}
use Rattle.xml_tokens.specs.TokenAt.{name_at, eq_at, quoted_at, closed_at, value_of, raw_attribute_at, attribute_at, attributes_at, all_attributes_at, more_attributes, with_attributes, ends_tag, ended_attributes}
use Rattle.xml_tokens.proofs.Lists.{length-back, map_some, behind_whole, chosen_some}

abbrev pub Attributes : Type 0
Attributes = List (List ℕ × List ℕ)

-- what a chain of readers read
pub then_some : {A B : Type 0} (o : Option A) (f : A → Option B) (b : B) → option_and_then f o ≡ Some b → (a : A) × (o ≡ Some a) × (f a ≡ Some b)
then_some None f b e = cc
then_some (Some a) f b e = (a, refl, e)

back_shorter : (p : ℕ → Bool) (s : List ℕ) → length (back p s) ≤ length s
back_shorter p s = omega (arith, length-back p s)

name_shorter : (s : List ℕ) (name rest : List ℕ) → name_at s ≡ Some (name, rest) → length rest ≤ length s
unfolding name_at
name_shorter s name rest e =
    let found = chosen_some (is_name (front is_name_byte s)) _ (name, rest) e in
    let p : List ℕ × List ℕ = (front is_name_byte s, back is_name_byte s) in
    let same : p ≡ (name, rest) = some_same p (name, rest) found.1 in
    subst (λ z. length z.1 ≤ length s) same (back_shorter is_name_byte s) where
      some_same : (p q : List ℕ × List ℕ) → Some p ≡ Some q → p ≡ q
      some_same p q e = cc

eq_shorter : (s rest : List ℕ) → eq_at s ≡ Some rest → length rest ≤ length s
eq_shorter s rest e =
    let m = map_some (back is_space) (behind (61 ∷ []) (back is_space s)) rest e in
    let whole = behind_whole (61 ∷ []) (back is_space s) m.0 m.1 in
    omega (arith, back_shorter is_space s, back_shorter is_space m.0, ap length whole, ap length m.2)

closed_shorter : (inner s i after : List ℕ) → closed_at inner s ≡ Some (i, after) → length after < length s
closed_shorter inner [] i after e = cc
closed_shorter inner (c ∷ s) i after e =
    let p : List ℕ × List ℕ = (inner, s) in
    let q : List ℕ × List ℕ = (i, after) in
    let same : p ≡ q = some_same p q e in
    subst (λ z. length z.1 < length (c ∷ s)) same (omega arith) where
      some_same : (p q : List ℕ × List ℕ) → Some p ≡ Some q → p ≡ q
      some_same p q e = cc

quoted_shorter : (s inner after : List ℕ) → quoted_at s ≡ Some (inner, after) → length after < length s
unfolding quoted_at
quoted_shorter [] inner after e = cc
quoted_shorter (q ∷ s) inner after e =
    let found = chosen_some (is_quote q) _ (inner, after) e in
    omega (arith, closed_shorter (front (is_other q) s) (back (is_other q) s) inner after found.1, back_shorter (is_other q) s)

raw_shorter : (s : List ℕ) (r : List ℕ × List ℕ × List ℕ) → raw_attribute_at s ≡ Some r → length r.2 < length s
unfolding raw_attribute_at
raw_shorter s r e =
    let a = then_some (name_at s) _ r e in
    let b = then_some (eq_at a.0.1) _ r a.2 in
    let d = then_some (quoted_at b.0) _ r b.2 in
    let last : d.0.1 ≡ r.2 = three (a.0.0, d.0.0, d.0.1) r d.2 in
    omega (arith, name_shorter s a.0.0 a.0.1 a.1, eq_shorter a.0.1 b.0 b.1, quoted_shorter b.0 d.0.0 d.0.1 d.1, ap length last) where
      three : (p q : List ℕ × List ℕ × List ℕ) → Some p ≡ Some q → p.2 ≡ q.2
      three p q e = let same : p ≡ q = cc in ap (λ z. z.2) same

pub attribute_shorter : (s : List ℕ) (a : (List ℕ × List ℕ) × List ℕ) → attribute_at s ≡ Some a → length a.1 < length s
unfolding attribute_at
attribute_shorter s r e =
    let a = then_some (raw_attribute_at s) _ r e in
    let b = then_some (value_of space_if_white a.0.1) _ r a.2 in
    let last : a.0.2 ≡ r.1 = pair ((a.0.0, b.0), a.0.2) r b.2 in
    omega (arith, raw_shorter s a.0 a.1, ap length last) where
      pair : (p q : (List ℕ × List ℕ) × List ℕ) → Some p ≡ Some q → p.1 ≡ q.1
      pair p q e = let same : p ≡ q = cc in ap (λ z. z.1) same

-- behind one attribute, with this way to read the others
abbrev pub goes_on : (List ℕ → Option (Attributes × List ℕ)) → Option ((List ℕ × List ℕ) × List ℕ) → Option (Attributes × List ℕ)
goes_on f o = option_and_then (λ a. more_attributes a.0 (f a.1)) o

goes_same : (f g : List ℕ → Option (Attributes × List ℕ)) (o : Option ((List ℕ × List ℕ) × List ℕ)) → ((a : (List ℕ × List ℕ) × List ℕ) → o ≡ Some a → f a.1 ≡ g a.1)
    → goes_on f o ≡ goes_on g o
goes_same f g None h = refl
goes_same f g (Some a) h = ap (more_attributes a.0) (h a refl)

nil_law : (n : ℕ) (s : List ℕ) → attributes_at n s [] ≡ Some ([], [])
nil_law zero s = refl
nil_law (suc n) s = refl

-- how many attributes may follow plays no part, where there are enough
enough : (n m : ℕ) (s z : List ℕ) → length z ≤ n → length z ≤ m → attributes_at n s z ≡ attributes_at m s z
enough n m s [] a b = nil_law n s ∙ sym (nil_law m s)
enough zero m s (c ∷ z) a b = absurd (omega arith)
enough (suc n) zero s (c ∷ z) a b = absurd (omega arith)
enough (suc n) (suc m) s (c ∷ z) a b =
    ap (λ x. cond (ends_tag c) (Some ([], c ∷ z)) (cond (begins_space s) x None))
    (goes_same (λ y. attributes_at n y (back is_space y)) (λ y. attributes_at m y (back is_space y)) (attribute_at (c ∷ z))
    (λ r e.
    let short = attribute_shorter (c ∷ z) r e in
    let less = back_shorter is_space r.1 in
    enough n m r.1 (back is_space r.1) (omega arith) (omega arith)))

-- the reader of all attributes, by its first
pub all_law : (s z : List ℕ) (c : ℕ) → back is_space s ≡ c ∷ z
    → all_attributes_at s ≡ cond (ends_tag c) (Some ([], c ∷ z)) (cond (begins_space s) (goes_on all_attributes_at (attribute_at (c ∷ z))) None)
unfolding all_attributes_at
all_law s z c e =
    ap (λ x. attributes_at (length s) s x) e
    ∙ enough (length s) (suc (length s)) s (c ∷ z) (omega (arith, back_shorter is_space s, ap length e)) (omega (arith, back_shorter is_space s, ap length e))
    ∙ ap (λ x. cond (ends_tag c) (Some ([], c ∷ z)) (cond (begins_space s) x None))
    (goes_same (λ y. attributes_at (length s) y (back is_space y)) (λ y. attributes_at (length y) y (back is_space y)) (attribute_at (c ∷ z))
    (λ r f.
    let short = attribute_shorter (c ∷ z) r f in
    let less = back_shorter is_space r.1 in
    let all = back_shorter is_space s in
    let same = ap length e in
    enough (length s) (length r.1) r.1 (back is_space r.1) (omega arith) (omega arith)))

pub all_none : (s : List ℕ) → back is_space s ≡ [] → all_attributes_at s ≡ Some ([], [])
unfolding all_attributes_at
all_none s e = ap (λ x. attributes_at (length s) s x) e ∙ nil_law (length s) s

with_more : (given : Attributes) (a : List ℕ × List ℕ) (o : Option (Attributes × List ℕ)) → with_attributes given (more_attributes a o) ≡ with_attributes (given ++ a ∷ []) o
with_more given a None = refl
with_more given a (Some p) = ap (λ z. Some (z, p.1)) (sym (append_assoc given (a ∷ []) p.0))

-- the loop over the attributes of s, which begin at z
module _ (given : Attributes) (s z : List ℕ) (whole : Option (Attributes × List ℕ)) (at : z ≡ back is_space s) (is : with_attributes given (all_attributes_at s) ≡ whole) where
  ended_by : (w : List ℕ) → back is_space s ≡ w → ended_attributes w ≡ true → all_attributes_at s ≡ Some ([], w)
  ended_by [] e h = all_none s e
  ended_by (c ∷ w) e h = all_law s w c e ∙ rw h refl

  pub at_end : ended_attributes z ≡ true → Some (given, z) ≡ whole
  at_end h = ap (λ x. Some (x, z)) (sym (append-nil given)) ∙ sym (ap (with_attributes given) (ended_by z (sym at) h)) ∙ is

  goes_by : (w : List ℕ) → back is_space s ≡ w → ended_attributes w ≡ false → all_attributes_at s ≡ cond (begins_space s) (goes_on all_attributes_at (attribute_at w)) None
  goes_by [] e h = cc
  goes_by (c ∷ w) e h = all_law s w c e ∙ rw h refl

  pub no_space : ended_attributes z ≡ false → begins_space s ≡ false → None ≡ whole
  no_space h b =
      let none : all_attributes_at s ≡ None = goes_by z (sym at) h ∙ ap (λ x. cond x (goes_on all_attributes_at (attribute_at z)) None) b in
      sym (ap (with_attributes given) none) ∙ is

  goes : ended_attributes z ≡ false → begins_space s ≡ true → (o : Option ((List ℕ × List ℕ) × List ℕ)) → o ≡ attribute_at z → with_attributes given (goes_on all_attributes_at o) ≡ whole
  goes h b o e =
      let on : all_attributes_at s ≡ goes_on all_attributes_at (attribute_at z) = goes_by z (sym at) h ∙ ap (λ x. cond x (goes_on all_attributes_at (attribute_at z)) None) b in
      ap (λ x. with_attributes given (goes_on all_attributes_at x)) e ∙ sym (ap (with_attributes given) on) ∙ is

  pub no_attribute : ended_attributes z ≡ false → begins_space s ≡ true → None ≡ attribute_at z → None ≡ whole
  no_attribute h b e = goes h b None e

  pub one_more : ended_attributes z ≡ false → begins_space s ≡ true → (a : List ℕ × List ℕ) (after : List ℕ) → (let p : (List ℕ × List ℕ) × List ℕ = (a, after) in Some p ≡ attribute_at z)
      → with_attributes (given ++ a ∷ []) (all_attributes_at after) ≡ whole
  one_more h b a after e = sym (with_more given a (all_attributes_at after)) ∙ goes h b (Some (a, after)) e

  pub shorter_after : (a : List ℕ × List ℕ) (after : List ℕ) → (let p : (List ℕ × List ℕ) × List ℕ = (a, after) in Some p ≡ attribute_at z) → length after < length s
  shorter_after a after e = omega (arith, attribute_shorter z (a, after) (sym e), back_shorter is_space s, ap length at)
