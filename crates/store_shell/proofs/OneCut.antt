-- Bytes are cut into lines in one way alone, and into no more lines than there are bytes.
use Rattle.std.specs.Prelude.{◌≡◌, ◌≤◌, ℕ, List, [], ◌∷◌, ◌++◌, All, length, refl}
use Rattle.std.proofs.Common.{sym, ap, ◌∙◌, arith, length-append}
use Rattle.std.specs.List.{flat_map}
use Rattle.std.proofs.lemmas.List.{append_assoc}
use Rattle.std.proofs.lemmas.List.Elements.{All-tail, All-head}
use Rattle.store_shell.specs.Lines.{IsOneLine, IsCut, ended}
use Rattle.store_shell.proofs.Marks.{first_mark, no_mark}

-- what follows a line
after : (l : List ℕ) (ls : List (List ℕ)) (t : List ℕ) → flat_map ended (l ∷ ls) ++ t ≡ l ++ 10 ∷ (flat_map ended ls ++ t)
after l ls t = append_assoc (ended l) (flat_map ended ls) t ∙ append_assoc l (10 ∷ []) (flat_map ended ls ++ t)

lines-one : (ls ms : List (List ℕ)) (t u : List ℕ) → All IsOneLine ls → All IsOneLine ms → IsOneLine t → IsOneLine u → flat_map ended ls ++ t ≡ flat_map ended ms ++ u → (ls ≡ ms) × (t ≡ u)
lines-one [] [] t u h k p q e = (refl, e)
lines-one [] (m ∷ ms) t u h k p q e = absurd (no_mark t m (flat_map ended ms ++ u) p (e ∙ after m ms u))
lines-one (l ∷ ls) [] t u h k p q e = absurd (no_mark u l (flat_map ended ls ++ t) q (sym e ∙ after l ls t))
lines-one (l ∷ ls) (m ∷ ms) t u h k p q e =
    let first = first_mark l m (flat_map ended ls ++ t) (flat_map ended ms ++ u) (All-head IsOneLine l ls h) (All-head IsOneLine m ms k) (sym (after l ls t) ∙ (e ∙ after m ms u)) in
    let r = lines-one ls ms t u (All-tail IsOneLine l ls h) (All-tail IsOneLine m ms k) p q first.1 in
    (ap (λ z. z ∷ ls) first.0 ∙ ap (λ z. m ∷ z) r.0, r.1)

pub cut-one : (bytes : List ℕ) (ls ms : List (List ℕ)) (t u : List ℕ) → IsCut bytes ls t → IsCut bytes ms u → (ls ≡ ms) × (t ≡ u)
cut-one bytes ls ms t u h k = lines-one ls ms t u h.each k.each h.rest k.rest (sym h.whole ∙ k.whole)

lines-few : (ls : List (List ℕ)) → length ls ≤ length (flat_map ended ls)
lines-few [] = omega arith
lines-few (l ∷ ls) = omega (arith, lines-few ls, length-append (ended l) (flat_map ended ls), length-append l (10 ∷ []))

pub cut-few : (bytes : List ℕ) (ls : List (List ℕ)) (t : List ℕ) → IsCut bytes ls t → length ls ≤ length bytes
cut-few bytes ls t h = omega (arith, lines-few ls, length-append (flat_map ended ls) t, ap length h.whole)
