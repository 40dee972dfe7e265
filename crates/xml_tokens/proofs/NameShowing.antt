-- Look-ups in what a map of names shows, and the names of attributes.
use Rattle.std.proofs.Common.{◌≡◌, ℕ, Bool, true, false, List, [], ◌∷◌, ◌++◌, refl, ap, sym, ◌∙◌, cond, append_assoc, append-nil}
use Rattle.std.specs.Prelude.{Some, None, nat_eq, not, ◌&&◌, ◌||◌}
use Rattle.std.specs.Str.{bytes_eq}
use Rattle.std.specs.Map.{lookup}
use lib.Pointwise.{pointwise}
use Rattle.std.specs.declared.vec.Vec.{Vec}
use Rattle.xml_tokens.specs.Attributes.{has_name, are_distinct}
use Rattle.xml_tokens.specs.NameSets.{shown, place_of, is_found, AreSeen}
use Rattle.xml_tokens.proofs.Lists.{and_true, same_bytes, bytes_same}

module _ {A : Type 0} where
  pub place_of-shown : (name : List ℕ) (es : List (Vec ℕ A × ℕ)) → place_of name (shown es) ≡ lookup (λ k. pointwise nat_eq name k.items) es
  place_of-shown name [] = refl
  place_of-shown name (e ∷ es) = ap (λ o. cond (pointwise nat_eq name e.0.items) (Some e.1) o) (place_of-shown name es)

  pub shown-append : (es fs : List (Vec ℕ A × ℕ)) → shown (es ++ fs) ≡ shown es ++ shown fs
  shown-append [] fs = refl
  shown-append (e ∷ es) fs = ap (λ xs. (e.0.items, e.1) ∷ xs) (shown-append es fs)

bytes_swap : (x y : List ℕ) → bytes_eq x y ≡ bytes_eq y x
bytes_swap x y = by (bytes_eq x y) refl (bytes_eq y x) refl where
  by : (a : Bool) → bytes_eq x y ≡ a → (b : Bool) → bytes_eq y x ≡ b → bytes_eq x y ≡ bytes_eq y x
  by true e true f = e ∙ sym f
  by false e false f = e ∙ sym f
  by true e false f = absurd (let s = ap (λ z. bytes_eq z x) (sym (same_bytes x y e)) in let r = bytes_same x in cc)
  by false e true f = absurd (let s = ap (λ z. bytes_eq z y) (sym (same_bytes y x f)) in let r = bytes_same y in cc)

name_more : (x n v : List ℕ) (p : List (List ℕ × List ℕ)) → has_name x (p ++ (n, v) ∷ []) ≡ (has_name x p || bytes_eq n x)
name_more x n v [] = or_false (bytes_eq n x) where
  or_false : (b : Bool) → (b || false) ≡ b
  or_false true = refl
  or_false false = refl
name_more x n v ((m, u) ∷ p) = ap (λ z. bytes_eq m x || z) (name_more x n v p) ∙ or_assoc (bytes_eq m x) (has_name x p) (bytes_eq n x) where
  or_assoc : (a b c : Bool) → (a || (b || c)) ≡ ((a || b) || c)
  or_assoc true b c = refl
  or_assoc false b c = refl

name_in : (x n v : List ℕ) (p rest : List (List ℕ × List ℕ)) → bytes_eq n x ≡ true → has_name x (p ++ (n, v) ∷ rest) ≡ true
name_in x n v [] rest e = rw e refl
name_in x n v ((m, u) ∷ p) rest e = or_true (bytes_eq m x) (has_name x (p ++ (n, v) ∷ rest)) (name_in x n v p rest e) where
  or_true : (a b : Bool) → b ≡ true → (a || b) ≡ true
  or_true true b e = refl
  or_true false b e = e

-- a name that stands in front already stands twice
twice : (n v : List ℕ) (p rest : List (List ℕ × List ℕ)) → has_name n p ≡ true → are_distinct (p ++ (n, v) ∷ rest) ≡ false
twice n v [] rest e = cc
twice n v ((m, u) ∷ p) rest e = by (bytes_eq m n) refl (twice n v p rest) where
  by : (b : Bool) → bytes_eq m n ≡ b → (has_name n p ≡ true → are_distinct (p ++ (n, v) ∷ rest) ≡ false) → are_distinct ((m, u) ∷ (p ++ (n, v) ∷ rest)) ≡ false
  by true s h = rw (name_in m n v p rest (bytes_swap n m ∙ s)) refl
  by false s h = and_false (not (has_name m (p ++ (n, v) ∷ rest))) (are_distinct (p ++ (n, v) ∷ rest)) (h (other s e)) where
    other : bytes_eq m n ≡ false → (bytes_eq m n || has_name n p) ≡ true → has_name n p ≡ true
    other s e = ap (λ z. z || has_name n p) (sym s) ∙ e

    and_false : (a b : Bool) → b ≡ false → (a && b) ≡ false
    and_false true b e = e
    and_false false b e = refl

-- and one that doesn't keeps them apart
apart : (n v : List ℕ) (p : List (List ℕ × List ℕ)) → are_distinct p ≡ true → has_name n p ≡ false → are_distinct (p ++ (n, v) ∷ []) ≡ true
apart n v [] d e = refl
apart n v ((m, u) ∷ p) d e =
    let both = and_true (not (has_name m p)) (are_distinct p) d in
    let other = or_no (bytes_eq m n) (has_name n p) e in
    rw (name_more m n v p, no_or (has_name m p) (bytes_eq n m) both.0 (bytes_swap n m ∙ other.0), apart n v p both.1 other.1) refl where
      or_no : (a b : Bool) → (a || b) ≡ false → (a ≡ false) × (b ≡ false)
      or_no true b e = cc
      or_no false b e = (refl, e)

      no_or : (a b : Bool) → not a ≡ true → b ≡ false → (a || b) ≡ false
      no_or true b e f = cc
      no_or false b e f = f

place_more : (name n : List ℕ) (k : ℕ) (places : List (List ℕ × ℕ)) → is_found (place_of name (places ++ (n, k) ∷ [])) ≡ (is_found (place_of name places) || bytes_eq name n)
place_more name n k [] = by (pointwise nat_eq name n) refl where
  by : (b : Bool) → pointwise nat_eq name n ≡ b → is_found (cond (pointwise nat_eq name n) (Some k) None) ≡ pointwise nat_eq name n
  by true e = rw e refl
  by false e = rw e refl
place_more name n k ((m, j) ∷ places) = by (pointwise nat_eq name m) (place_more name n k places) where
  by : (b : Bool) → is_found (place_of name (places ++ (n, k) ∷ [])) ≡ (is_found (place_of name places) || bytes_eq name n)
      → is_found (cond b (Some j) (place_of name (places ++ (n, k) ∷ []))) ≡ (is_found (cond b (Some j) (place_of name places)) || bytes_eq name n)
  by true h = refl
  by false h = h

pub seen_none : (all : List (List ℕ × List ℕ)) → AreSeen all all []
seen_none all = record { prefix = []; whole = refl; distinct = refl; names = λ name. refl }

module _ (all left : List (List ℕ × List ℕ)) (places : List (List ℕ × ℕ)) (s : AreSeen all left places) where
  pub seen_all : left ≡ [] → are_distinct all ≡ true
  seen_all e = ap are_distinct (s.whole ∙ ap (λ z. s.prefix ++ z) e ∙ append-nil s.prefix) ∙ s.distinct

  pub seen_twice : (n v : List ℕ) (rest : List (List ℕ × List ℕ)) → left ≡ (n, v) ∷ rest → is_found (place_of n places) ≡ true → are_distinct all ≡ false
  seen_twice n v rest e f = ap are_distinct (s.whole ∙ ap (λ z. s.prefix ++ z) e) ∙ twice n v s.prefix rest (s.names n ∙ f)

  pub seen_more : (n v : List ℕ) (rest : List (List ℕ × List ℕ)) (k : ℕ) (places2 : List (List ℕ × ℕ)) → left ≡ (n, v) ∷ rest → place_of n places ≡ None → places2 ≡ places ++ (n, k) ∷ []
      → AreSeen all rest places2
  seen_more n v rest k places2 e f g =
      let none : has_name n s.prefix ≡ false = s.names n ∙ ap is_found f in
      record {
        prefix = s.prefix ++ (n, v) ∷ [];
        whole = s.whole ∙ ap (λ z. s.prefix ++ z) e ∙ sym (append_assoc s.prefix ((n, v) ∷ []) rest);
        distinct = apart n v s.prefix s.distinct none;
        names = λ x.
            name_more x n v s.prefix ∙ ap (λ z. z || bytes_eq n x) (s.names x) ∙ ap (λ z. is_found (place_of x places) || z) (bytes_swap n x)
            ∙ sym (place_more x n k places) ∙ ap (λ z. is_found (place_of x z)) (sym g);
      }
