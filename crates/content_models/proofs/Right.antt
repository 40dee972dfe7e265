-- Reading a chain from its end on finds out whether a model matches it.
use Rattle.std.proofs.Common.{◌≡◌, ◌⊎◌, inl, inr, ℕ, suc, ◌+◌, List, [], ◌∷◌, ◌++◌, length, refl, ap, sym, subst, ◌∙◌, append_assoc, append-nil, length-append, arith}
use Rattle.std.specs.Prelude.{◌↔◌, Bool, true, false, ◌||◌, ◌&&◌}
use Rattle.std.specs.Str.{bytes_eq}
use Rattle.std.proofs.lemmas.Slice.Eq.{bytes_eq-Decides}
use Rattle.std.proofs.lemmas.Bool.{or_cases, or_left, or_right, and_parts, and_from, false≢true}
use Rattle.content_models.specs.Models.{Model, Named, Nothing, Then, Either, Optional, Any, Some, Joined, Parts, no_part, one_part, Matches}
use Rattle.content_models.specs.Matching.{places, enter, read}
use Rattle.content_models.specs.Places.{Before, AreOpen, Agree}

abbrev Names : Type 0
Names = List (List ℕ)

-- cuts behind cuts
split_right : (L M K : Names → Type 0) (names : Names) → Joined (Joined L M) K names → Joined L (Joined M K) names
split_right L M K names ((_, back, (front, middle, l, m, e), k, f)) = (front, middle ++ back, l, (middle, back, m, k, refl), f ∙ ap (λ z. z ++ back) e ∙ append_assoc front middle back)

split_left : (L M K : Names → Type 0) (names : Names) → Joined L (Joined M K) names → Joined (Joined L M) K names
split_left L M K names ((front, _, l, (middle, back, m, k, e), f)) = (front ++ middle, back, (front, middle, l, m, refl), k, f ∙ ap (λ z. front ++ z) e ∙ sym (append_assoc front middle back))

one_more : (L K : Names → Type 0) (names : Names) → Joined L (Joined (Parts L) K) names → Joined (Parts L) K names
one_more L K names ((front, _, l, (middle, back, m, k, e), f)) =
    (front ++ middle, back, one_part front middle (front ++ middle) l m refl, k, f ∙ ap (λ z. front ++ z) e ∙ sym (append_assoc front middle back))

none_before : (K : Names → Type 0) (L : Names → Type 0) (names : Names) → L [] → K names → Joined L K names
none_before K L names l k = ([], names, l, k, refl)

-- the first part of a cut is in a larger set
widen : (L M K : Names → Type 0) (names : Names) → ((front : Names) → L front → M front) → Joined L K names → Joined M K names
widen L M K names f ((front, back, l, k, e)) = (front, back, f front l, k, e)

by_either : (x y : Bool) (P : Type 0) → (x ≡ true → P) → (y ≡ true → P) → (x || y) ≡ true → P
by_either x y P f g e = by_side (or_cases x y e) where
  by_side : (x ≡ true) ⊎ (y ≡ true) → P
  by_side (inl h) = f h
  by_side (inr h) = g h

none_of_any : (x : Model) (K : Names → Type 0) (names : Names) → K names → Before (Any x) K names
none_of_any x K names k = none_before K (Parts (Matches x)) names no_part k

-- what is entered is a match before names in K
pub sound : (m : Model) (at : ℕ) (marks : ℕ → Bool) (behind : Bool) (K : Names → Type 0) (names : Names)
    → (behind ≡ true → K names) → AreOpen at m marks K names → enter at m marks behind ≡ true → Before m K names
sound (Named name) at marks behind K names b o e = o.0 e
sound Nothing at marks behind K names b o e = none_before K (λ n. n ≡ []) names refl (b e)
sound (Then x y) at marks behind K names b o e =
    split_left (Matches x) (Matches y) K names
    (sound x at marks (enter (at + places x) y marks behind) (Before y K) names (sound y (at + places x) marks behind K names b o.1) o.0 e)
sound (Either x y) at marks behind K names b o e =
    by_either (enter at x marks behind) (enter (at + places x) y marks behind) (Before (Either x y) K names)
    (λ f. widen (Matches x) (Matches (Either x y)) K names (λ n l. inl l) (sound x at marks behind K names b o.0 f))
    (λ f. widen (Matches y) (Matches (Either x y)) K names (λ n l. inr l) (sound y (at + places x) marks behind K names b o.1 f))
    e
sound (Optional x) at marks behind K names b o e =
    by_either behind (enter at x marks behind) (Before (Optional x) K names)
    (λ f. none_before K (Matches (Optional x)) names (inl refl) (b f))
    (λ f. widen (Matches x) (Matches (Optional x)) K names (λ n l. inr l) (sound x at marks behind K names b o f))
    e
sound (Any x) at marks behind K names b o e =
    by_either behind (enter at x marks behind) (Before (Any x) K names)
    (λ f. none_of_any x K names (b f))
    (λ f. one_more (Matches x) K names (sound x at marks behind (Before (Any x) K) names (λ g. none_of_any x K names (b g)) o f))
    e
sound (Some x) at marks behind K names b o e =
    split_left (Matches x) (Parts (Matches x)) K names (sound x at marks behind (Before (Any x) K) names (λ f. none_of_any x K names (b f)) o e)

-- what is a match before names in K is entered, where what is behind is told if the match is empty
abbrev Completes : Model → ℕ → (ℕ → Bool) → (Names → Type 0) → Names → Bool → Type 0
Completes m at marks K names behind = (front back : Names) → Matches m front → K back → names ≡ front ++ back → (front ≡ [] → behind ≡ true) → enter at m marks behind ≡ true

cons_nil : (c : List ℕ) (cs : Names) → c ∷ cs ≡ [] → ⊥
cons_nil c cs e = cc

nil_cons : (c : List ℕ) (cs : Names) → [] ≡ c ∷ cs → ⊥
nil_cons c cs e = cc

-- one part, and then more
some_parts : (x : Model) (at : ℕ) (marks : ℕ → Bool) (K : Names → Type 0) (names : Names) (behind : Bool)
    → ((b : Bool) → Completes x at marks (Before (Any x) K) names b)
    → (rest : Names) → Parts (Matches x) rest → (first front back : Names) → Matches x first → front ≡ first ++ rest → K back → names ≡ front ++ back → (front ≡ [] → behind ≡ true)
    → enter at x marks behind ≡ true
some_parts x at marks K names behind h rest no_part first front back l e k f b =
    let same : front ≡ first = e ∙ append-nil first in
    h behind first back l (none_of_any x K back k) (f ∙ ap (λ z. z ++ back) same) (λ z. b (same ∙ z))
some_parts x at marks K names behind h rest (one_part second more _ l2 ps e2) [] front back l e k f b =
    some_parts x at marks K names behind h more ps second front back l2 (e ∙ e2) k f b
some_parts x at marks K names behind h rest (one_part second more _ l2 ps e2) (c ∷ cs) front back l e k f b =
    h behind (c ∷ cs) (rest ++ back) l (rest, back, one_part second more rest l2 ps e2, k, refl) (f ∙ ap (λ z. z ++ back) e ∙ append_assoc (c ∷ cs) rest back) (λ z. absurd (cons_nil c cs z))

any_parts : (x : Model) (at : ℕ) (marks : ℕ → Bool) (K : Names → Type 0) (names : Names) (behind : Bool)
    → ((b : Bool) → Completes x at marks (Before (Any x) K) names b)
    → (front : Names) → Parts (Matches x) front → (back : Names) → K back → names ≡ front ++ back → (front ≡ [] → behind ≡ true)
    → (behind || enter at x marks behind) ≡ true
any_parts x at marks K names behind h front no_part back k f b = or_left behind (enter at x marks behind) (b refl)
any_parts x at marks K names behind h front (one_part first rest _ l ps e) back k f b =
    or_right behind (enter at x marks behind) (some_parts x at marks K names behind h rest ps first front back l e k f b)

pub complete : (m : Model) (at : ℕ) (marks : ℕ → Bool) (K : Names → Type 0) (names : Names) → AreOpen at m marks K names → (behind : Bool) → Completes m at marks K names behind
complete (Named name) at marks K names o behind front back l k f b = o.1 (front, back, l, k, f)
complete Nothing at marks K names o behind front back l k f b = b l
complete (Then x y) at marks K names o behind front back (front1, front2, l, l2, e) k f b =
    complete x at marks (Before y K) names o.0 (enter (at + places x) y marks behind) front1 (front2 ++ back) l (front2, back, l2, k, refl)
    (f ∙ ap (λ z. z ++ back) e ∙ append_assoc front1 front2 back)
    (λ none. let same : front ≡ front2 = e ∙ ap (λ z. z ++ front2) none in
    complete y (at + places x) marks K names o.1 behind front2 back l2 k (f ∙ ap (λ z. z ++ back) same) (λ z. b (same ∙ z)))
complete (Either x y) at marks K names o behind front back (inl l) k f b =
    or_left (enter at x marks behind) (enter (at + places x) y marks behind) (complete x at marks K names o.0 behind front back l k f b)
complete (Either x y) at marks K names o behind front back (inr l) k f b =
    or_right (enter at x marks behind) (enter (at + places x) y marks behind) (complete y (at + places x) marks K names o.1 behind front back l k f b)
complete (Optional x) at marks K names o behind front back (inl l) k f b = or_left behind (enter at x marks behind) (b l)
complete (Optional x) at marks K names o behind front back (inr l) k f b = or_right behind (enter at x marks behind) (complete x at marks K names o behind front back l k f b)
complete (Any x) at marks K names o behind front back l k f b =
    any_parts x at marks K names behind (complete x at marks (Before (Any x) K) names o) front l back k f b
complete (Some x) at marks K names o behind front back (first, rest, l, ps, e) k f b =
    some_parts x at marks K names behind (complete x at marks (Before (Any x) K) names o) rest ps first front back l e k f b

-- where it is told whether the names are in K, it is found out whether they are a match before names in K
pub entered : (m : Model) (at : ℕ) (marks : ℕ → Bool) (behind : Bool) (K : Names → Type 0) (names : Names)
    → (behind ≡ true) ↔ K names → AreOpen at m marks K names → (enter at m marks behind ≡ true) ↔ Before m K names
entered m at marks behind K names b o =
    (sound m at marks behind K names b.0 o, λ (front, back, l, k, e). complete m at marks K names o behind front back l k e (λ none. b.1 (subst K (sym (e ∙ ap (λ z. z ++ back) none)) k)))

-- reading a name in front

-- the names before which a name is read
read_name : (wanted name : List ℕ) (behind : Bool) (K : Names → Type 0) (names : Names) → (behind ≡ true) ↔ K names → ((bytes_eq wanted name && behind) ≡ true) ↔ Before (Named wanted) K (name ∷ names)
read_name wanted name behind K names b = (there, back) where
  there : (bytes_eq wanted name && behind) ≡ true → Before (Named wanted) K (name ∷ names)
  there e =
      let h = and_parts (bytes_eq wanted name) behind e in
      let same : wanted ≡ name = (bytes_eq-Decides wanted name).0 h.0 in
      (wanted ∷ [], names, refl, b.0 h.1, ap (λ z. z ∷ names) (sym same))

  back : Before (Named wanted) K (name ∷ names) → (bytes_eq wanted name && behind) ≡ true
  back ((front, rest, l, k, e)) =
      let whole : name ∷ names ≡ wanted ∷ rest = e ∙ ap (λ z. z ++ rest) l in
      let same : wanted ≡ name = cc in
      let others : rest ≡ names = cc in
      and_from (bytes_eq wanted name) behind ((bytes_eq-Decides wanted name).1 same) (b.1 (subst K others k))

agree-append : (xs ys : List Bool) (at n : ℕ) (marks : ℕ → Bool) → length xs ≡ n → Agree at (xs ++ ys) marks → Agree at xs marks × Agree (at + n) ys marks
agree-append [] ys at n marks e a = (tt, subst (λ z. Agree z ys marks) (omega (arith, e)) a)
agree-append (x ∷ xs) ys at n marks e (h, a) =
    let r = agree-append xs ys (suc at) (length xs) marks refl a in
    ((h, r.0), subst (λ z. Agree z ys marks) (omega (arith, e)) r.1)

both : (xs ys : List Bool) (m n : ℕ) → length xs ≡ m → length ys ≡ n → length (xs ++ ys) ≡ m + n
both xs ys m n d e = omega (arith, length-append xs ys)

read-length : (name : List ℕ) (at : ℕ) (m : Model) (marks : ℕ → Bool) (behind : Bool) → length (read name at m marks behind) ≡ places m
read-length name at (Named wanted) marks behind = refl
read-length name at Nothing marks behind = refl
read-length name at (Then x y) marks behind =
    both (read name at x marks (enter (at + places x) y marks behind)) (read name (at + places x) y marks behind) (places x) (places y)
    (read-length name at x marks (enter (at + places x) y marks behind)) (read-length name (at + places x) y marks behind)
read-length name at (Either x y) marks behind =
    both (read name at x marks behind) (read name (at + places x) y marks behind) (places x) (places y)
    (read-length name at x marks behind) (read-length name (at + places x) y marks behind)
read-length name at (Optional x) marks behind = read-length name at x marks behind
read-length name at (Any x) marks behind = read-length name at x marks (behind || enter at x marks behind)
read-length name at (Some x) marks behind = read-length name at x marks (behind || enter at x marks behind)

-- the places that are found are right for the chain with the name before it
pub reads : (m : Model) (name : List ℕ) (at : ℕ) (marks new : ℕ → Bool) (behind : Bool) (K : Names → Type 0) (names : Names)
    → Agree at (read name at m marks behind) new → (behind ≡ true) ↔ K names → AreOpen at m marks K names → AreOpen at m new K (name ∷ names)
reads (Named wanted) name at marks new behind K names a b o =
    let h = read_name wanted name behind K names b in
    (λ e. h.0 (sym a.0 ∙ e), λ k. a.0 ∙ h.1 k)
reads Nothing name at marks new behind K names a b o = tt
reads (Then x y) name at marks new behind K names a b o =
    let front = enter (at + places x) y marks behind in
    let s = agree-append (read name at x marks front) (read name (at + places x) y marks behind) at (places x) new (read-length name at x marks front) a in
    (reads x name at marks new front (Before y K) names s.0 (entered y (at + places x) marks behind K names b o.1) o.0, reads y name (at + places x) marks new behind K names s.1 b o.1)
reads (Either x y) name at marks new behind K names a b o =
    let s = agree-append (read name at x marks behind) (read name (at + places x) y marks behind) at (places x) new (read-length name at x marks behind) a in
    (reads x name at marks new behind K names s.0 b o.0, reads y name (at + places x) marks new behind K names s.1 b o.1)
reads (Optional x) name at marks new behind K names a b o = reads x name at marks new behind K names a b o
reads (Any x) name at marks new behind K names a b o = reads x name at marks new (behind || enter at x marks behind) (Before (Any x) K) names a (entered (Any x) at marks behind K names b o) o
reads (Some x) name at marks new behind K names a b o = reads x name at marks new (behind || enter at x marks behind) (Before (Any x) K) names a (entered (Any x) at marks behind K names b o) o

-- no place can be read from where no names are left
pub blank : (m : Model) (at : ℕ) (marks : ℕ → Bool) (K : Names → Type 0) → ((i : ℕ) → marks i ≡ false) → AreOpen at m marks K []
blank (Named name) at marks K h = (λ e. absurd (false≢true (sym (h at) ∙ e)), λ (front, back, l, k, e). absurd (nil_cons name back (e ∙ ap (λ z. z ++ back) l)))
blank Nothing at marks K h = tt
blank (Then x y) at marks K h = (blank x at marks (Before y K) h, blank y (at + places x) marks K h)
blank (Either x y) at marks K h = (blank x at marks K h, blank y (at + places x) marks K h)
blank (Optional x) at marks K h = blank x at marks K h
blank (Any x) at marks K h = blank x at marks (Before (Any x) K) h
blank (Some x) at marks K h = blank x at marks (Before (Any x) K) h
