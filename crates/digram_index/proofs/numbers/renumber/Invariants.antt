use Rattle.std.proofs.Common.{◌≡◌, length}
use Rattle.digram_index.specs.Numbers.{Tell}
use Rattle.digram_index.proofs.numbers.renumber.Given as goal

abbrev pub invariant-loop-place : goal.invariant-loop-place
invariant-loop-place l = record {
  told : Tell l.numbers l.places l.place;
  len : length l.places ≡ length l.fn.places;
}
