use Rattle.std.proofs.Common.{refl, arith}
use Rattle.segment_counts.proofs.Weighed.{added, fits-there}
use Rattle.segment_counts.proofs.tally.Tallies.add.Goals as goal

pub plus-requires : goal.plus-requires
plus-requires c = λ m. fits-there m c.args.self.now c.args.weights (c.requires.under m) (c.if-not-have_room_for.ensures.small refl m)

pub returns : goal.returns
returns c = record {
  adds = λ _ m. added m c.args.label c.in_default.not-Param c.args.self.now c.args.weights c.plus.result c.plus-self.result (c.plus.ensures m) (c.plus-self.ensures m);
  small = λ _ m. omega (arith, c.plus-self.ensures m, c.if-not-have_room_for.ensures.small refl m);
  many = λ e. absurd (cc);
}
