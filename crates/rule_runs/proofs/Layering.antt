-- Lists one above another, with an item more or a list less.
use Rattle.std.proofs.Common.{◌≡◌, ℕ, suc, ◌+◌, ◌-◌, ◌≤◌, ◌<◌, List, [], ◌∷◌, ◌++◌, length, take, drop, reverse, slice_range, Option, Some, None, IfSome, IsErr, OnOk, Ok, Err, Result, option_to_list, refl, ap, sym, ◌∙◌, arith, append-nil}
use Rattle.std.proofs.lemmas.List.{drop_all, length-append, length_push, length-reverse, take_all}
use Rattle.std.proofs.Math.Seq.{take-append_seam, drop-append_seam}
use Rattle.rule_runs.proofs.Lists.{reverse-push}

module _ {T : Type 0} (floor : ℕ) (x : T) (xs : List T) (h : floor ≤ length xs) where
  one_more : length (x ∷ xs) - floor ≡ suc (length xs - floor)
  one_more = omega arith

  -- an item more is on the topmost list
  pub top-push : take (length (x ∷ xs) - floor) (x ∷ xs) ≡ x ∷ take (length xs - floor) xs
  top-push = rw one_more refl

  pub rest-push : drop (length (x ∷ xs) - floor) (x ∷ xs) ≡ drop (length xs - floor) xs
  rest-push = rw one_more refl

-- the top of the topmost list is taken off, where it has one
module _ {T : Type 0} (floor : ℕ) (result : Option T) (old new : List T) (is : old ≡ new ++ option_to_list result) where
  pub top-pop : floor < length old → IfSome result (λ item. take (length (reverse old) - floor) (reverse old) ≡ item ∷ take (length (reverse new) - floor) (reverse new))
  top-pop lt = by_result result is
    where
      by_result : (r : Option T) → old ≡ new ++ option_to_list r → IfSome r (λ item. take (length (reverse old) - floor) (reverse old) ≡ item ∷ take (length (reverse new) - floor) (reverse new))
      by_result None e = tt
      by_result (Some item) e =
          let p : reverse old ≡ item ∷ reverse new = ap reverse e ∙ reverse-push new item in
          rw p (top-push floor item (reverse new) (omega (arith, ap length e, length_push new item, length-reverse new)))

  pub rest-pop : floor < length old → drop (length (reverse new) - floor) (reverse new) ≡ drop (length (reverse old) - floor) (reverse old)
  rest-pop lt = by_result result is
    where
      by_result : (r : Option T) → old ≡ new ++ option_to_list r → drop (length (reverse new) - floor) (reverse new) ≡ drop (length (reverse old) - floor) (reverse old)
      by_result None e = ap (λ xs. drop (length (reverse xs) - floor) (reverse xs)) (sym (append-nil new) ∙ sym e)
      by_result (Some item) e =
          let p : reverse old ≡ item ∷ reverse new = ap reverse e ∙ reverse-push new item in
          sym (rw p (rest-push floor item (reverse new) (omega (arith, ap length e, length_push new item, length-reverse new))))

-- a list whose end was turned around in its place
pub end-of : {T : Type 0} (old taken xs : List T) (begin end : ℕ) → xs ≡ old ++ taken → begin ≡ length old → end ≡ length xs → slice_range xs begin end ≡ taken
end-of old taken xs begin end x b e =
    let n : end ≡ length old + length taken = omega (arith, e, ap length x, length-append old taken) in
    rw (x, b, n) (ap (take (length old + length taken - length old)) (drop-append_seam old taken) ∙ take_all (length old + length taken - length old) taken (omega arith))

module _ {T : Type 0} (old taken turned : List T) (is : turned ≡ reverse taken) where
  count : length turned ≡ length taken
  count = ap length is ∙ length-reverse taken

  pub end-reversed : (n b : ℕ) (xs : List T) → xs ≡ old ++ taken → n ≡ length xs → b ≡ length old
      → take n (take b xs ++ (turned ++ drop (length turned) (drop b xs)) ++ drop (length (take b xs ++ (turned ++ drop (length turned) (drop b xs)))) xs) ≡ old ++ reverse taken
  end-reversed n b xs x l begin =
      let front : take b xs ≡ old = ap (λ k. take k xs) begin ∙ ap (take (length old)) x ∙ take-append_seam old taken in
      let back : drop b xs ≡ taken = ap (λ k. drop k xs) begin ∙ ap (drop (length old)) x ∙ drop-append_seam old taken in
      let none : drop (length turned) taken ≡ [] = drop_all (length turned) taken (omega (arith, count)) in
      let whole : take b xs ++ (turned ++ drop (length turned) (drop b xs)) ≡ old ++ turned = rw (front, back, none, append-nil turned) refl in
      let all : length (old ++ turned) ≡ length xs = omega (arith, length-append old turned, count, ap length x, length-append old taken) in
      let rest : drop (length (old ++ turned)) xs ≡ [] = drop_all (length (old ++ turned)) xs (omega (arith, all)) in
      ap (λ ys. take n (ys ++ drop (length ys) xs)) whole ∙ ap (λ ys. take n ((old ++ turned) ++ ys)) rest ∙ ap (take n) (append-nil (old ++ turned)) ∙ take_all n (old ++ turned) (omega (arith, l, all)) ∙ ap (λ ys. old ++ ys) is

-- nothing is owed where a call failed
pub failed : {T E : Type 0} (r : Result T E) (P : Type 0) → IsErr r → OnOk r P
failed (Ok v) P h = absurd (cc)
failed (Err e) P h = tt
