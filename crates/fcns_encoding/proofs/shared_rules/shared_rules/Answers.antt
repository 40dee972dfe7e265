use Rattle.std.proofs.Common.{rules, ◌≡◌, ◌+◌, ap, ◌∙◌, length, replicate, None, arith}
use Rattle.fcns_encoding.proofs.MarkLemmas.{marks-length}
use Rattle.fcns_encoding.proofs.SharingLemmas.{places-none}
use Rattle.fcns_encoding.proofs.shared_rules.shared_rules.Goals as goal

pub rules_with-requires-clause-marks : goal.rules_with-requires-clause-marks
rules_with-requires-clause-marks c = ap length (c.as_slice.ensures.value ∙ c.in_ok-marks.ensures) ∙ marks-length c.args.sharing c.args.cells.now

pub rules_with-requires-clause-places : goal.rules_with-requires-clause-places
rules_with-requires-clause-places c =
    let blank : c.in_ok-places.places.items ≡ replicate (length c.args.cells.now + 1) None = c.in_ok-places.ensures.items_if_clones_equal (λ y h. search rules) in
    places-none c.as_slice.result.now c.args.cells.now c.as_mut_slice.result.now (length c.args.cells.now + 1) (c.as_mut_slice.ensures.value ∙ blank) (omega arith)
