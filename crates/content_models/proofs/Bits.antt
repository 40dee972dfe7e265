-- Words of few truths are small.
use Rattle.std.proofs.Common.{ℕ, zero, suc, ◌^◌, ◌<◌, ◌≤◌, List, [], ◌∷◌, map, drop, length, length-drop, pow-suc, arith}
use Rattle.std.proofs.lemmas.List.{length-map}
use Rattle.std.specs.Prelude.{Bool, true, false}
use Rattle.std.proofs.Math.Pow.{pow_pos}
use Rattle.content_models.specs.declared.ways.Spot.{Spot}
use Rattle.content_models.specs.Checking.{goes_on, next_bits}
use Rattle.content_models.specs.Ways.{truth, word}

truth-small : (b : Bool) → truth b ≤ 1
truth-small true = omega arith
truth-small false = omega arith

word-below : (k : ℕ) (bs : List Bool) → length bs ≤ k → word bs < 2 ^ k
word-below zero [] l = omega arith
word-below zero (b ∷ bs) l = absurd (omega arith)
word-below (suc k) [] l = pow_pos (suc k)
word-below (suc k) (b ∷ bs) l = let h = word-below k bs (omega arith) in let t = truth-small b in rw (pow-suc 2 k) (omega arith)

pub rest-below : (sets : List ℕ) (ended : Bool) (row : List Spot) (left : ℕ) → length row ≤ 64 → 0 < left → next_bits sets ended (drop left row) < 9223372036854775808
rest-below sets ended row left l h = word-below 63 (map (goes_on sets ended) (drop left row)) (omega (arith, length-map {B = Bool} (drop left row) (goes_on sets ended), length-drop left row))
