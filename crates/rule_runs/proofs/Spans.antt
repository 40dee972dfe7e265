-- Parts of lists to which more is put.
use Rattle.std.proofs.Common.{◌≡◌, ◌≤◌, ◌+◌, ◌-◌, ℕ, List, ◌++◌, length, take, drop, slice_range, ap, ◌∙◌, arith, take_all}
use Rattle.std.proofs.lemmas.List.{length-drop, take-append-le, drop-append-le}
use Rattle.std.proofs.Math.Seq.{drop-append_seam}
use Rattle.rule_runs.specs.Spans.{LiesWithin}
use Rattle.rule_runs.specs.declared.span.Span.{Span}

-- what stands in a list stands there still with more behind it
pub range-more : {X : Type 0} (xs more : List X) (a b : ℕ) → a ≤ b → b ≤ length xs → slice_range (xs ++ more) a b ≡ slice_range xs a b
range-more xs more a b h within = ap (take (b - a)) (drop-append-le a xs more (omega arith)) ∙ take-append-le (b - a) (drop a xs) more (omega (arith, length-drop a xs))

pub range-new : {X : Type 0} (xs more : List X) → slice_range (xs ++ more) (length xs) (length xs + length more) ≡ more
range-new xs more = ap (take (length xs + length more - length xs)) (drop-append_seam xs more) ∙ take_all (length xs + length more - length xs) more (omega arith)

-- a part lies within more items too
pub lies-more : (s : Span) (n m : ℕ) → n ≤ m → LiesWithin n s → LiesWithin m s
lies-more s n m le h = (h.0, omega (arith, h.1))
