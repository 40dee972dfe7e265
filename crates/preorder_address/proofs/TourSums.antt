-- Tours of the first nodes, and sums over the stops of tours.
use Rattle.std.proofs.Common.{◌≡◌, ℕ, zero, suc, List, [], ◌∷◌, ◌++◌, get_or, drop, take, Some, refl, ap, sym, ◌∙◌, arith, append_assoc, sum_by}
use Rattle.std.specs.Prelude.{slice_get}
use Rattle.std.proofs.lemmas.List.Sums.{sum_by-cons, sum_by-append}
use Rattle.slt_grammar.specs.Tours.{Stop, stop, opened_kids, once_closed, entered, tour, tour_from}

module _ {X : Type 0} (ar : X → ℕ) where
  -- a tour passes the tour of the first nodes, and goes on from the next one
  pub tour-split : (afters : List (List (Stop X))) (xs : List X) (p : ℕ) → tour ar afters xs ≡ tour ar afters (take p xs) ++ tour_from ar afters xs p
  tour-split afters [] zero = refl
  tour-split afters [] (suc p) = refl
  tour-split afters (x ∷ xs) zero = refl
  tour-split afters (x ∷ xs) (suc p) =
      let closed = once_closed (ar x) (get_or afters 0 []) in
      ap (λ ms. stop x 0 ∷ (closed ++ ms)) (tour-split (entered ar x afters) xs p)
      ∙ ap (λ ms. stop x 0 ∷ ms) (sym (append_assoc closed (tour ar (entered ar x afters) (take p xs)) (tour_from ar (entered ar x afters) xs p)))

-- two weights that agree on the stops of some nodes
module _ {X : Type 0} (f g : Stop X → ℕ) where
  -- both sums of the stops behind each term are the same
  abbrev pub AgreeBehind : List (List (Stop X)) → Type 0
  AgreeBehind afters = (i : ℕ) → sum_by f (get_or afters i []) ≡ sum_by g (get_or afters i [])

  abbrev pub Agree : X → Type 0
  Agree x = (i : ℕ) → f (stop x i) ≡ g (stop x i)

  pub none-behind : AgreeBehind ([] ∷ [])
  none-behind zero = refl
  none-behind (suc i) = refl

  sums-cons : (m : Stop X) (ms : List (Stop X)) → f m ≡ g m → sum_by f ms ≡ sum_by g ms → sum_by f (m ∷ ms) ≡ sum_by g (m ∷ ms)
  sums-cons m ms h e = omega (arith, h, e, sum_by-cons f m ms, sum_by-cons g m ms)

  sums-opened : (x : X) → Agree x → (j n : ℕ) (a : List (Stop X)) (rest : List (List (Stop X))) → sum_by f a ≡ sum_by g a → AgreeBehind rest → AgreeBehind (opened_kids x j n a ++ rest)
  sums-opened x h j zero a rest e r i = r i
  sums-opened x h j (suc zero) a rest e r zero = sums-cons (stop x j) a (h j) e
  sums-opened x h j (suc zero) a rest e r (suc i) = r i
  sums-opened x h j (suc (suc n)) a rest e r zero = sums-cons (stop x j) [] (h j) refl
  sums-opened x h j (suc (suc n)) a rest e r (suc i) = sums-opened x h (suc j) (suc n) a rest e r i

  sums-closed : (n : ℕ) (a : List (Stop X)) → sum_by f a ≡ sum_by g a → sum_by f (once_closed n a) ≡ sum_by g (once_closed n a)
  sums-closed zero a e = e
  sums-closed (suc n) a e = refl

  sums-dropped : (afters : List (List (Stop X))) → AgreeBehind afters → AgreeBehind (drop 1 afters)
  sums-dropped [] r i = refl
  sums-dropped (a ∷ afters) r i = r (suc i)

  pub tour-sums : (ar : X → ℕ) (afters : List (List (Stop X))) (xs : List X) → ((p : ℕ) (x : X) → slice_get xs p ≡ Some x → Agree x) → AgreeBehind afters → sum_by f (tour ar afters xs) ≡ sum_by g (tour ar afters xs)
  tour-sums ar afters [] h r = refl
  tour-sums ar afters (x ∷ xs) h r =
      let a : List (Stop X) = get_or afters 0 [] in
      let later = tour-sums ar (entered ar x afters) xs (λ p. h (suc p)) (sums-opened x (h 0 x refl) 1 (ar x) a (drop 1 afters) (r 0) (sums-dropped afters r)) in
      let closed = once_closed (ar x) a in
      let rest = tour ar (entered ar x afters) xs in
      sums-cons (stop x 0) (closed ++ rest) (h 0 x refl 0) (omega (arith, later, sums-closed (ar x) a (r 0), sum_by-append f closed rest, sum_by-append g closed rest))
