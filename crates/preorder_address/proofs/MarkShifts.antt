-- The pass along marks that are left or moved.
use Rattle.std.proofs.Common.{◌≡◌, ℕ, zero, suc, ◌+◌, ◌<◌, ◌≤◌, List, [], ◌∷◌, ◌++◌, All, Some, drop, get_or, length, set, slice_get, sym, take, ap, ◌∙◌, arith}
use Rattle.std.proofs.lemmas.List.{drop-drop, drop-set-lt, drop_more, take_more_set}
use Rattle.std.proofs.lemmas.List.Elements.{All-push, All-same}
use Rattle.rule_arena.specs.declared.key.Key.{Key}
use Rattle.preorder_address.specs.Shifted.{ComesOf, IsLeft}
use Rattle.preorder_address.specs.declared.marks.Mark.{Mark}
use Rattle.preorder_address.specs.declared.shifting.Shift.{Shift}

-- the first mark of what is left of the old ones
first-left : (olds rest : List Mark) (n : ℕ) (x : Mark) → drop n olds ≡ x ∷ rest → slice_get olds n ≡ Some x
first-left [] rest zero x e = absurd cc
first-left [] rest (suc n) x e = absurd cc
first-left (y ∷ olds) rest zero x e = let z : y ≡ x = cc in ap (λ (m : Mark). Some m) z
first-left (y ∷ olds) rest (suc n) x e = first-left olds rest n x e

-- and what is left behind it
pub rest-more : (olds xs : List Mark) (n : ℕ) → drop n xs ≡ drop n olds → drop (n + 1) xs ≡ drop (n + 1) olds
rest-more olds xs n e = sym (drop-drop 1 n xs) ∙ ap (λ ms. drop 1 ms) e ∙ drop-drop 1 n olds

-- also where a mark is put before it
pub rest-set : (olds xs : List Mark) (kept n : ℕ) (mark : Mark) → kept ≤ n → drop n xs ≡ drop n olds → drop (n + 1) (set xs kept mark) ≡ drop (n + 1) olds
rest-set olds xs kept n mark few e = drop-set-lt (n + 1) xs kept mark (omega (arith, few)) ∙ rest-more olds xs n e

-- the mark that is put comes of the next old one
pub left-more : (shift : Shift) (gone : List Key) (olds xs : List Mark) (kept n : ℕ) (d mark : Mark) → kept ≤ n → n < length xs → drop n xs ≡ drop n olds → All (IsLeft shift gone olds) (take kept xs)
    → ComesOf shift gone (get_or xs n d) mark → All (IsLeft shift gone olds) (take (kept + 1) (set xs kept mark))
left-more shift gone olds xs kept n d mark few more e left comes =
    let there : slice_get olds n ≡ Some (get_or xs n d) = first-left olds (drop (n + 1) xs) n (get_or xs n d) (sym e ∙ drop_more xs n d more) in
    All-same (IsLeft shift gone olds) (take (kept + 1) (set xs kept mark)) (take kept xs ++ mark ∷ []) (take_more_set xs kept mark (omega (arith, few, more)))
    (All-push (IsLeft shift gone olds) (take kept xs) mark left (record { index = n; old = get_or xs n d; there = there; comes = comes }))
