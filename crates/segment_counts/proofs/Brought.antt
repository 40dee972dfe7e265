-- The end of a list, brought forward, or all that is kept.
use Rattle.std.proofs.Common.{◌≡◌, ℕ, ◌+◌, ◌-◌, ◌≤◌, List, [], ◌++◌, length, take, drop, ap, sym, ◌∙◌, arith, append_assoc, length-drop}
use Rattle.std.specs.List.{copy_within, insert_slice}
use Rattle.std.proofs.lemmas.List.{take_all, take-append-le, take-take, drop-drop, drop-take, drop_all, append-nil}
use Rattle.std.proofs.lemmas.List.Edits.{paste_all}
use borrow.Rule.Slice.PartMut.{put_mid}

module _ {X : Type 0} (xs : List X) (b k : ℕ) (mid r : List X) (h : b + k ≤ length xs) (m : mid ≡ take (length xs - b) (drop b xs)) (e : r ≡ drop (length mid - k) mid ++ take (length mid - k) mid) where
  rest : mid ≡ drop b xs
  rest = m ∙ take_all (length xs - b) (drop b xs) (omega (arith, length-drop b xs))

  count : length mid - k ≡ length xs - k - b
  count = omega (arith, ap length rest, length-drop b xs)

  back : drop (length mid - k) mid ≡ drop (length xs - k) xs
  back =
      let n : b + (length xs - k - b) ≡ length xs - k = omega arith in
      ap (λ q. drop q mid) count ∙ ap (drop (length xs - k - b)) rest ∙ drop-drop (length xs - k - b) b xs ∙ ap (λ q. drop q xs) n

  front : take (length mid - k) mid ≡ drop b (take (length xs - k) xs)
  front =
      let n : b + (length xs - k - b) ≡ length xs - k = omega arith in
      ap (λ q. take q mid) count ∙ ap (take (length xs - k - b)) rest ∙ sym (drop-take b (length xs - k - b) xs) ∙ ap (λ q. drop b (take q xs)) n

  none : drop (length xs - b) (drop b xs) ≡ []
  none = drop_all (length xs - b) (drop b xs) (omega (arith, length-drop b xs))

  pub brought : put_mid b (length xs - b) xs r ≡ insert_slice (take (length xs - k) xs) b (drop (length xs - k) xs)
  brought =
      let n : b ≤ length xs - k = omega arith in
      ap (λ (ys : List X). take b xs ++ (r ++ ys)) none ∙ ap (λ (ys : List X). take b xs ++ ys) (append-nil r ∙ e ∙ ap (λ (ys : List X). ys ++ take (length mid - k) mid) back ∙ ap (λ (ys : List X). drop (length xs - k) xs ++ ys) front)
      ∙ sym (append_assoc (take b xs) (drop (length xs - k) xs) (drop b (take (length xs - k) xs)))
      ∙ ap (λ (ys : List X). (ys ++ drop (length xs - k) xs) ++ drop b (take (length xs - k) xs)) (sym (take-take b (length xs - k) xs n))

-- the end of a list, copied to its front and cut off behind
module _ {X : Type 0} (xs ys : List X) (from n : ℕ) (same : ys ≡ xs) (count : n ≡ length xs - from) where
  end-first : take n (copy_within ys from (length ys) 0) ≡ drop from xs
  end-first =
      let m : n ≡ length (drop from xs) = omega (arith, count, length-drop from xs) in
      let k : length xs - from ≡ length (drop from xs) = omega (arith, length-drop from xs) in
      ap (λ (zs : List X). take n (copy_within zs from (length zs) 0)) same ∙ ap (take n) (paste_all xs 0 (drop from xs) (length xs - from) k)
      ∙ take-append-le n (drop from xs) (drop (0 + (length xs - from)) xs) (omega (arith, m)) ∙ take_all n (drop from xs) (omega (arith, m))

  pub end-kept : (zs : List X) (len : ℕ) → len ≡ length xs → zs ≡ copy_within ys from (length ys) 0 → length zs ≡ length ys → take n (take len (zs ++ drop (length zs) xs)) ≡ drop from xs
  end-kept zs len l e m =
      let z : len ≡ length zs = omega (arith, l, m, ap length same) in
      ap (take n) (take-append-le len zs (drop (length zs) xs) (omega (arith, z)) ∙ take_all len zs (omega (arith, z))) ∙ ap (take n) e ∙ end-first
