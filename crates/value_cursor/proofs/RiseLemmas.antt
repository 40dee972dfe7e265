-- Rises of labels that are joined, and of the segments along a tour.
use Rattle.std.proofs.Common.{◌≡◌, ℕ, zero, suc, ◌+◌, ◌-◌, ◌<◌, ◌≤◌, List, [], ◌∷◌, ◌++◌, length, get_or, take, refl, ap, sym, ◌∙◌, arith, sum_by, subst, append_assoc, append-nil, ◌⊎◌, inl, inr}
use Rattle.std.specs.Prelude.{max, set}
use Rattle.std.proofs.lemmas.Bool.{cases_lt}
use Rattle.std.proofs.lemmas.List.Sums.{sum_by-cons, sum_by-append, sum_by-take-le}
use Rattle.std.proofs.Math.Nat.{max-le, le-max_left, le-max_right}
use Rattle.rule_arena.specs.declared.label.Label.{Label}
use Rattle.rule_arena.specs.declared.label.Label.TheVariants.{Bottom, Symbol, Call, Param}
use Rattle.slt_grammar.specs.Bodies.{params}
use Rattle.slt_grammar.specs.Segments.{part_of, preorder, segment}
use Rattle.slt_grammar.specs.declared.rules.Rule.{Rule}
use Rattle.slt_grammar.proofs.Meanings.{params-append}
use Rattle.slt_grammar.proofs.TourLemmas.{params-segment}
use Rattle.segment_counts.specs.Weights.{all_weight, node_weight}
use Rattle.segment_counts.proofs.Numbers.{segment-within}
use Rattle.value_cursor.specs.Rises.{IsOf, IsRise, Passes, RisesAtMost, close_weight, closes, opens}
use Rattle.value_cursor.specs.declared.rises.Passed.{Passed}
use Rattle.value_cursor.specs.declared.rises.Rising.{Rising}

-- the nodes that are opened and closed are the symbols and the bottoms
pub opens-closes : (ls : List Label) → opens ls + closes ls ≡ sum_by all_weight ls
opens-closes [] = refl
opens-closes (Bottom ∷ ls) = omega (arith, sum_by-cons node_weight Bottom ls, sum_by-cons close_weight Bottom ls, sum_by-cons all_weight Bottom ls, opens-closes ls)
opens-closes (Symbol f ∷ ls) = omega (arith, sum_by-cons node_weight (Symbol f) ls, sum_by-cons close_weight (Symbol f) ls, sum_by-cons all_weight (Symbol f) ls, opens-closes ls)
opens-closes (Call q ∷ ls) = omega (arith, sum_by-cons node_weight (Call q) ls, sum_by-cons close_weight (Call q) ls, sum_by-cons all_weight (Call q) ls, opens-closes ls)
opens-closes (Param ∷ ls) = omega (arith, sum_by-cons node_weight Param ls, sum_by-cons close_weight Param ls, sum_by-cons all_weight Param ls, opens-closes ls)

joined : (xs ys : List Label) (o c most : ℕ) → ((k : ℕ) → o + opens (take k xs) ≤ c + closes (take k xs) + most) → ((k : ℕ) → o + opens xs + opens (take k ys) ≤ c + closes xs + closes (take k ys) + most)
    → (n : ℕ) → o + opens (take n (xs ++ ys)) ≤ c + closes (take n (xs ++ ys)) + most
joined [] ys o c most f g n = omega (arith, g n)
joined (x ∷ xs) ys o c most f g zero = omega (arith, f 0)
joined (x ∷ xs) ys o c most f g (suc n) =
    omega (
      arith,
      sum_by-cons node_weight x (take n (xs ++ ys)),
      sum_by-cons close_weight x (take n (xs ++ ys)),
      joined xs ys (o + node_weight x) (c + close_weight x) most
          (λ k. omega (arith, f (suc k), sum_by-cons node_weight x (take k xs), sum_by-cons close_weight x (take k xs)))
          (λ k. omega (arith, g k, sum_by-cons node_weight x xs, sum_by-cons close_weight x xs)) n,
    )

-- the rise of joined labels
pub rise-joined : (xs ys : List Label) (a b most : ℕ) → RisesAtMost a xs → RisesAtMost b ys → a ≤ most → opens xs + b ≤ closes xs + most → RisesAtMost most (xs ++ ys)
rise-joined xs ys a b most f g h k n = omega (arith, joined xs ys 0 0 most (λ j. omega (arith, f j)) (λ j. omega (arith, g j)) n)

-- what joined labels rise to, the first of them do, and the others from there on
front : (xs ys : List Label) (o c m : ℕ) → ((k : ℕ) → o + opens (take k (xs ++ ys)) ≤ c + closes (take k (xs ++ ys)) + m) → (n : ℕ) → o + opens (take n xs) ≤ c + closes (take n xs) + m
front [] ys o c m f zero = f 0
front [] ys o c m f (suc n) = f 0
front (x ∷ xs) ys o c m f zero = f 0
front (x ∷ xs) ys o c m f (suc n) =
    omega (
      arith,
      sum_by-cons node_weight x (take n xs),
      sum_by-cons close_weight x (take n xs),
      front xs ys (o + node_weight x) (c + close_weight x) m (λ k. omega (arith, f (suc k), sum_by-cons node_weight x (take k (xs ++ ys)), sum_by-cons close_weight x (take k (xs ++ ys)))) n,
    )

pub back : (xs ys : List Label) (o c m : ℕ) → ((k : ℕ) → o + opens (take k (xs ++ ys)) ≤ c + closes (take k (xs ++ ys)) + m) → (n : ℕ) → o + opens xs + opens (take n ys) ≤ c + closes xs + closes (take n ys) + m
back [] ys o c m f n = omega (arith, f n)
back (x ∷ xs) ys o c m f n =
    omega (
      arith,
      sum_by-cons node_weight x xs,
      sum_by-cons close_weight x xs,
      back xs ys (o + node_weight x) (c + close_weight x) m (λ k. omega (arith, f (suc k), sum_by-cons node_weight x (take k (xs ++ ys)), sum_by-cons close_weight x (take k (xs ++ ys)))) n,
    )

-- the least rise of joined labels
pub least-joined : (xs ys : List Label) (a b m : ℕ) → IsRise a xs → IsRise b ys → RisesAtMost m (xs ++ ys) → (a ≤ m) × (opens xs + b ≤ closes xs + m)
least-joined xs ys a b m f g h =
    let before = front xs ys 0 0 m (λ k. omega (arith, h k)) in
    let behind = back xs ys 0 0 m (λ k. omega (arith, h k)) in
    let here : opens xs ≤ closes xs + m = omega (arith, behind 0) in
    let b-least : b ≤ closes xs + m - opens xs = g.least (closes xs + m - opens xs) (λ n. omega (arith, behind n, here)) in (f.least m (λ n. omega (arith, before n)), omega (arith, b-least, here))

-- labels rise to no more than they open in all
pub rise-few : (most : ℕ) (ls : List Label) → IsRise most ls → most ≤ opens ls
rise-few most ls r = r.least (opens ls) (λ n. omega (arith, sum_by-take-le node_weight ls n))

no-segment : (i : ℕ) → segment i [] ≡ []
no-segment zero = refl
no-segment (suc i) = refl

-- labels without parameters are passed in the last segment
segment-plain : (xs : List Label) → params xs ≡ 0 → (i : ℕ) → (i ≡ 0 → segment i xs ≡ xs) × (0 < i → segment i xs ≡ [])
segment-plain [] p zero = (λ _. refl, λ h. refl)
segment-plain [] p (suc i) = (λ h. refl, λ _. refl)
segment-plain (Param ∷ xs) p i = absurd (omega arith)
segment-plain (Bottom ∷ xs) p zero = (λ _. ap (λ ls. Bottom ∷ ls) ((segment-plain xs p 0).0 refl), λ h. absurd (omega arith))
segment-plain (Bottom ∷ xs) p (suc i) = (λ h. absurd (omega arith), λ h. (segment-plain xs p (suc i)).1 h)
segment-plain (Symbol f ∷ xs) p zero = (λ _. ap (λ ls. Symbol f ∷ ls) ((segment-plain xs p 0).0 refl), λ h. absurd (omega arith))
segment-plain (Symbol f ∷ xs) p (suc i) = (λ h. absurd (omega arith), λ h. (segment-plain xs p (suc i)).1 h)
segment-plain (Call q ∷ xs) p zero = (λ _. ap (λ ls. Call q ∷ ls) ((segment-plain xs p 0).0 refl), λ h. absurd (omega arith))
segment-plain (Call q ∷ xs) p (suc i) = (λ h. absurd (omega arith), λ h. (segment-plain xs p (suc i)).1 h)

module _ (xs : List Label) (plain : params xs ≡ 0) where
  segment-last : (ds : List Label) (i : ℕ) → i ≡ params ds → segment i (ds ++ xs) ≡ segment i ds ++ xs
  segment-last [] zero e = (segment-plain xs plain 0).0 refl
  segment-last [] (suc i) e = absurd (omega arith)
  segment-last (Param ∷ ds) zero e = absurd (omega arith)
  segment-last (Param ∷ ds) (suc i) e = segment-last ds i (omega arith)
  segment-last (Bottom ∷ ds) zero e = ap (λ ls. Bottom ∷ ls) (segment-last ds 0 e)
  segment-last (Bottom ∷ ds) (suc i) e = segment-last ds (suc i) e
  segment-last (Symbol f ∷ ds) zero e = ap (λ ls. Symbol f ∷ ls) (segment-last ds 0 e)
  segment-last (Symbol f ∷ ds) (suc i) e = segment-last ds (suc i) e
  segment-last (Call q ∷ ds) zero e = ap (λ ls. Call q ∷ ls) (segment-last ds 0 e)
  segment-last (Call q ∷ ds) (suc i) e = segment-last ds (suc i) e

  segment-other : (ds : List Label) (i : ℕ) → (i ≡ params ds → ⊥) → segment i (ds ++ xs) ≡ segment i ds
  segment-other [] zero h = absurd (h refl)
  segment-other [] (suc i) h = (segment-plain xs plain (suc i)).1 (omega arith)
  segment-other (Param ∷ ds) zero h = refl
  segment-other (Param ∷ ds) (suc i) h = segment-other ds i (λ e. h (omega arith))
  segment-other (Bottom ∷ ds) zero h = ap (λ ls. Bottom ∷ ls) (segment-other ds 0 h)
  segment-other (Bottom ∷ ds) (suc i) h = segment-other ds (suc i) h
  segment-other (Symbol f ∷ ds) zero h = ap (λ ls. Symbol f ∷ ls) (segment-other ds 0 h)
  segment-other (Symbol f ∷ ds) (suc i) h = segment-other ds (suc i) h
  segment-other (Call q ∷ ds) zero h = ap (λ ls. Call q ∷ ls) (segment-other ds 0 h)
  segment-other (Call q ∷ ds) (suc i) h = segment-other ds (suc i) h

-- a parameter begins a segment without labels
segment-closed : (ds : List Label) (i : ℕ) → segment i (ds ++ Param ∷ []) ≡ segment i ds
segment-closed [] zero = refl
segment-closed [] (suc i) = no-segment i
segment-closed (Param ∷ ds) zero = refl
segment-closed (Param ∷ ds) (suc i) = segment-closed ds i
segment-closed (Bottom ∷ ds) zero = ap (λ ls. Bottom ∷ ls) (segment-closed ds 0)
segment-closed (Bottom ∷ ds) (suc i) = segment-closed ds (suc i)
segment-closed (Symbol f ∷ ds) zero = ap (λ ls. Symbol f ∷ ls) (segment-closed ds 0)
segment-closed (Symbol f ∷ ds) (suc i) = segment-closed ds (suc i)
segment-closed (Call q ∷ ds) zero = ap (λ ls. Call q ∷ ls) (segment-closed ds 0)
segment-closed (Call q ∷ ds) (suc i) = segment-closed ds (suc i)

segment-past : (ds : List Label) (i : ℕ) → params ds < i → segment i ds ≡ []
segment-past ds zero h = absurd (omega arith)
segment-past [] (suc i) h = refl
segment-past (Param ∷ ds) (suc i) h = segment-past ds i (omega arith)
segment-past (Bottom ∷ ds) (suc i) h = segment-past ds (suc i) h
segment-past (Symbol f ∷ ds) (suc i) h = segment-past ds (suc i) h
segment-past (Call q ∷ ds) (suc i) h = segment-past ds (suc i) h

set-here : (xs : List ℕ) (i v : ℕ) → i < length xs → get_or (set xs i v) i 0 ≡ v
set-here [] i v h = absurd (omega arith)
set-here (x ∷ xs) zero v h = refl
set-here (x ∷ xs) (suc i) v h = set-here xs i v (omega arith)

set-there : (xs : List ℕ) (i v j : ℕ) → (j ≡ i → ⊥) → get_or (set xs i v) j 0 ≡ get_or xs j 0
set-there [] i v j h = refl
set-there (x ∷ xs) zero v zero h = absurd (h refl)
set-there (x ∷ xs) zero v (suc j) h = refl
set-there (x ∷ xs) (suc i) v zero h = refl
set-there (x ∷ xs) (suc i) v (suc j) h = set-there xs i v j (λ e. h (omega arith))

length-set : (xs : List ℕ) (i v : ℕ) → length (set xs i v) ≡ length xs
length-set [] i v = refl
length-set (x ∷ xs) zero v = refl
length-set (x ∷ xs) (suc i) v = ap suc (length-set xs i v)

-- the rises of the labels that were passed, where others are left
pub record IsRising (all left : List Label) (s : Rising) : Type 0 where
  pub passed : List Label
  pub split : all ≡ passed ++ left
  pub place : s.at ≡ params passed
  pub each : (i : ℕ) → IsRise (get_or s.most i 0) (segment i passed)
  pub opened : s.opened ≡ opens (segment s.at passed)
  pub closed : s.closed ≡ closes (segment s.at passed)
  pub width : length s.most ≡ 9

rise-none : IsRise 0 []
rise-none = record { bound = λ n. none n; least = λ m h. omega arith }
  where
    none : (n : ℕ) → opens (take n []) ≤ closes (take n []) + 0
    none zero = omega arith
    none (suc n) = omega arith

-- one label
pub rise-symbol : (f : ℕ) → IsRise 1 (Symbol f ∷ [])
rise-symbol f = record { bound = λ n. omega (arith, sum_by-take-le node_weight (Symbol f ∷ []) n); least = λ m h. omega (arith, h 1) }

pub rising-start : (all : List Label) (s : Rising) → ((i : ℕ) → get_or s.most i 0 ≡ 0) → length s.most ≡ 9 → s.at ≡ 0 → s.opened ≡ 0 → s.closed ≡ 0 → IsRising all all s
rising-start all s z n a o c = record {
  passed = [];
  split = refl;
  place = a;
  each = λ i. rw (z i, no-segment i) rise-none;
  opened = omega (arith, o, ap opens (no-segment s.at));
  closed = omega (arith, c, ap closes (no-segment s.at));
  width = n;
}

module _ (all rest : List Label) (few : params all ≤ 8) where
  pub place-few : (xs : List Label) (s : Rising) → IsRising all (xs ++ rest) s → s.at < 9
  place-few xs s i = omega (arith, few, i.place, ap params i.split, params-append i.passed (xs ++ rest))

  -- no more are opened and closed than in all
  pub opened-few : (xs : List Label) (s : Rising) → IsRising all (xs ++ rest) s → s.opened + opens xs ≤ opens all
  opened-few xs s i =
      omega (arith, i.opened, segment-within node_weight i.passed s.at, ap opens i.split, sum_by-append node_weight i.passed (xs ++ rest), sum_by-append node_weight xs rest)

  pub closed-few : (xs : List Label) (s : Rising) → IsRising all (xs ++ rest) s → s.closed + closes xs ≤ closes all
  closed-few xs s i =
      omega (arith, i.closed, segment-within close_weight i.passed s.at, ap closes i.split, sum_by-append close_weight i.passed (xs ++ rest), sum_by-append close_weight xs rest)

  module _ (xs : List Label) (plain : params xs ≡ 0) (p : Passed) (is : IsOf p xs) (s : Rising) (i : IsRising all (xs ++ rest) s) where
    abbrev high : ℕ
    high = max (get_or s.most s.at 0) (s.opened + p.rise - s.closed)

    abbrev next : Rising
    next = record { most = set s.most s.at high; at = s.at; opened = s.opened + p.opened; closed = s.closed + p.closed }

    last : segment s.at (i.passed ++ xs) ≡ segment s.at i.passed ++ xs
    last = segment-last xs plain i.passed s.at i.place

    rise-here : IsRise high (segment s.at i.passed ++ xs)
    rise-here =
        let here = segment s.at i.passed in
        let l : get_or s.most s.at 0 ≤ high = le-max_left (get_or s.most s.at 0) (s.opened + p.rise - s.closed) in
        let r : s.opened + p.rise - s.closed ≤ high = le-max_right (get_or s.most s.at 0) (s.opened + p.rise - s.closed) in
        record {
          bound = rise-joined here xs (get_or s.most s.at 0) p.rise high (i.each s.at).bound is.rise.bound l (omega (arith, r, i.opened, i.closed));
          least = λ m h.
              let b = least-joined here xs (get_or s.most s.at 0) p.rise m (i.each s.at) is.rise h in
              max-le b.0 (omega (arith, b.1, i.opened, i.closed));
        }

    rise-at : (j : ℕ) → (j < s.at) ⊎ (s.at ≤ j) → (s.at < j) ⊎ (j ≤ s.at) → IsRise (get_or (set s.most s.at high) j 0) (segment j (i.passed ++ xs))
    rise-at j (inl l) h = rw (set-there s.most s.at high j (λ e. omega (arith, e, l)), segment-other xs plain i.passed j (λ e. omega (arith, e, l, i.place))) (i.each j)
    rise-at j (inr g) (inl l) = rw (set-there s.most s.at high j (λ e. omega (arith, e, l)), segment-other xs plain i.passed j (λ e. omega (arith, e, l, i.place))) (i.each j)
    rise-at j (inr g) (inr h) =
        let e : j ≡ s.at = omega arith in
        rw (e, set-here s.most s.at high (omega (arith, i.width, place-few xs s i)), last) rise-here

    rising-plain : IsRising all rest next
    rising-plain = record {
      passed = i.passed ++ xs;
      split = i.split ∙ sym (append_assoc i.passed xs rest);
      place = omega (arith, i.place, plain, params-append i.passed xs);
      each = λ j. rise-at j (cases_lt j s.at) (cases_lt s.at j);
      opened = omega (arith, i.opened, is.opened, ap opens last, sum_by-append node_weight (segment s.at i.passed) xs);
      closed = omega (arith, i.closed, is.closed, ap closes last, sum_by-append close_weight (segment s.at i.passed) xs);
      width = length-set s.most s.at high ∙ i.width;
    }

  -- a stop was passed
  pub rising-step : (G : List Rule) (l : Label) (part : ℕ) (p : Passed) (s t : Rising) → IsRising all (part_of G l part ++ rest) s → IsOf p (part_of G l part) → Passes l p s t → IsRising all rest t
  rising-step G Param part p s t i is e =
      let past : segment (s.at + 1) (i.passed ++ Param ∷ []) ≡ [] = segment-closed i.passed (s.at + 1) ∙ segment-past i.passed (s.at + 1) (omega (arith, i.place)) in
      let made : IsRising all rest (record { most = s.most; at = s.at + 1; opened = 0; closed = 0 }) = record {
        passed = i.passed ++ Param ∷ [];
        split = i.split ∙ sym (append_assoc i.passed (Param ∷ []) rest);
        place = omega (arith, i.place, params-append i.passed (Param ∷ []));
        each = λ j. rw (segment-closed i.passed j) (i.each j);
        opened = sym (ap opens past);
        closed = sym (ap closes past);
        width = i.width;
      } in
      subst (λ (x : Rising). IsRising all rest x) (sym e) made
  rising-step G Bottom zero p s t i is e = subst (λ (x : Rising). IsRising all rest x) (sym e) (rising-plain (Bottom ∷ []) refl p is s i)
  rising-step G Bottom (suc part) p s t i is e = subst (λ (x : Rising). IsRising all rest x) (sym e) (rising-plain [] refl p is s i)
  rising-step G (Symbol f) zero p s t i is e = subst (λ (x : Rising). IsRising all rest x) (sym e) (rising-plain (Symbol f ∷ []) refl p is s i)
  rising-step G (Symbol f) (suc part) p s t i is e = subst (λ (x : Rising). IsRising all rest x) (sym e) (rising-plain [] refl p is s i)
  rising-step G (Call q) part p s t i is e =
      subst (λ (x : Rising). IsRising all rest x) (sym e) (rising-plain (segment part (preorder G q)) (params-segment part (preorder G q)) p is s i)

-- nothing is left
pub rising-end : (all : List Label) (s : Rising) → IsRising all [] s → (j : ℕ) → IsRise (get_or s.most j 0) (segment j all)
rising-end all s i j = rw (i.split ∙ append-nil i.passed) (i.each j)
