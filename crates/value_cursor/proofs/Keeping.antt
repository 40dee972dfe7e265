-- Kept segments.
use Rattle.std.proofs.Common.{◌≡◌, ℕ, zero, suc, ◌+◌, ◌-◌, ◌<◌, ◌≤◌, List, [], ◌∷◌, ◌++◌, length, get_or, take, drop, refl, ap, sym, ◌∙◌, arith, subst, append_assoc, length-append}
use Rattle.std.specs.Prelude.{All, vec_capacity}
use Rattle.rule_arena.specs.declared.label.Label.{Label}
use Rattle.slt_grammar.specs.Keyed.{KeyedRule}
use Rattle.value_cursor.specs.Kept.{AreKept, IsKept, Told, between, label_of, labels_of}
use Rattle.value_cursor.specs.declared.cursor.Token.{Token}
use Rattle.value_cursor.specs.declared.kept.Entry.{Entry}
use Rattle.value_cursor.specs.declared.kept.Entry.TheVariants.{Free, Long, Kept}
use Rattle.value_cursor.specs.declared.kept.KeptSegments.{KeptSegments}

pub take-front : (n : ℕ) (xs ys : List Token) → n ≤ length xs → take n (xs ++ ys) ≡ take n xs
take-front zero [] [] h = refl
take-front zero [] (y ∷ ys) h = refl
take-front zero (x ∷ xs) ys h = refl
take-front (suc n) [] ys h = absurd (omega (arith, h))
take-front (suc n) (x ∷ xs) ys h = let l : n ≤ length xs = omega (arith, h) in ap (λ zs. x ∷ zs) (take-front n xs ys l)

take-none : (n : ℕ) (xs : List Token) → n ≡ 0 → take n xs ≡ []
take-none zero [] h = refl
take-none zero (x ∷ xs) h = refl
take-none (suc n) xs h = absurd (omega (arith, h))

pub between-empty : (start end : ℕ) (xs : List Token) → end ≤ start → between start end xs ≡ []
between-empty start end xs h = let e : end - start ≡ 0 = omega (arith, h) in take-none (end - start) (drop start xs) e

-- tokens stay at their places where others are added
pub between-kept : (start end : ℕ) (xs ys : List Token) → end ≤ length xs → between start end (xs ++ ys) ≡ between start end xs
between-kept zero end xs ys h = let l : end - 0 ≤ length xs = omega (arith, h) in take-front (end - 0) xs ys l
between-kept (suc start) zero xs ys h =
    let none : zero ≤ suc start = omega arith in
    between-empty (suc start) zero (xs ++ ys) none ∙ sym (between-empty (suc start) zero xs none)
between-kept (suc start) (suc end) [] ys h = absurd (omega (arith, h))
between-kept (suc start) (suc end) (x ∷ xs) ys h =
    let l : end ≤ length xs = omega (arith, h) in
    let e : suc end - suc start ≡ end - start = omega arith in
    ap (λ n. take n (drop start (xs ++ ys))) e ∙ between-kept start end xs ys l ∙ ap (λ n. take n (drop start xs)) (sym e)

pub between-next : (at end : ℕ) (ts : List Token) (t : Token) → at < end → end ≤ length ts → t ≡ get_or ts at t → between at end ts ≡ t ∷ between (at + 1) end ts
between-next at end [] t h l e = absurd (omega (arith, h, l))
between-next at zero (x ∷ ts) t h l e = absurd (omega (arith, h))
between-next zero (suc end) (x ∷ ts) t h l e =
    let n : suc end - 0 ≡ suc end = omega arith in
    let m : end ≡ suc end - 1 = omega arith in
    ap (λ k. take k (x ∷ ts)) n ∙ ap (λ y. y ∷ take end ts) (sym e) ∙ ap (λ k. t ∷ take k ts) m
between-next (suc at) (suc end) (x ∷ ts) t h l e =
    let h' : at < end = omega (arith, h) in
    let l' : end ≤ length ts = omega (arith, l) in
    let n : suc end - suc at ≡ end - at = omega arith in
    let m : end - (at + 1) ≡ suc end - (suc at + 1) = omega arith in
    let o : suc (at + 1) ≡ suc at + 1 = omega arith in
    ap (λ k. take k (drop at ts)) n ∙ between-next at end ts t h' l' e ∙ ap (λ k. t ∷ take k (drop (at + 1) ts)) m
    ∙ ap (λ k. t ∷ take (suc end - (suc at + 1)) (drop k (x ∷ ts))) o

module _ (G : List KeyedRule) where
  pub is-kept-more : (xs ys : List Token) (e : Entry) → IsKept G xs e → IsKept G (xs ++ ys) e
  is-kept-more xs ys Free h = tt
  is-kept-more xs ys Long h = tt
  is-kept-more xs ys (Kept rule part start end) h = (omega (arith, h.0, length-append xs ys), ap labels_of (between-kept start end xs ys h.0) ∙ h.1)

  pub all-kept-more : (xs ys : List Token) (es : List Entry) → All (IsKept G xs) es → All (IsKept G (xs ++ ys)) es
  all-kept-more xs ys es a k d h = is-kept-more xs ys (get_or es k d) (a k d h)

labels-append : (xs ys : List Token) → labels_of (xs ++ ys) ≡ labels_of xs ++ labels_of ys
labels-append [] ys = refl
labels-append (x ∷ xs) ys = ap (λ ls. label_of x ∷ ls) (labels-append xs ys)

pub told-more : (all left rest : List Label) (first old new : List Token) → Told all left first old → Told left rest old new → Told all rest first new
told-more all left rest first old new t u = record {
  more = t.more ++ u.more;
  added = u.added ∙ ap (λ ts. ts ++ u.more) t.added ∙ append_assoc first t.more u.more;
  all_told = t.all_told ∙ ap (λ ls. labels_of t.more ++ ls) u.all_told ∙ sym (append_assoc (labels_of t.more) (labels_of u.more) rest) ∙ ap (λ ls. ls ++ rest) (sym (labels-append t.more u.more));
}

pub told-one : (all left : List Label) (t : Token) (ts : List Token) → all ≡ label_of t ∷ left → Told all left ts (ts ++ t ∷ [])
told-one all left t ts e = record { more = t ∷ []; added = refl; all_told = e }

pub kept-more : (G : List KeyedRule) (old later : KeptSegments) (more : List Token) → later.tokens.items ≡ old.tokens.items ++ more → later.entries.items ≡ old.entries.items → later.spare.items ≡ [] → length G ≤ vec_capacity later.spare
    → 16384 ≤ vec_capacity later.tokens → later.end ≡ old.end → AreKept G old → AreKept G later
kept-more G old later more added same none spare room end a = record {
  entries = subst (λ (ts : List Token). All (IsKept G ts) later.entries.items) (sym added) (subst (λ (es : List Entry). All (IsKept G (old.tokens.items ++ more)) es) (sym same) (all-kept-more G old.tokens.items more old.entries.items a.entries));
  places = ap length same ∙ a.places;
  none_open = none;
  spare_room = spare;
  room = room;
  within = omega (arith, a.within, end, ap length added, length-append old.tokens.items more);
}
