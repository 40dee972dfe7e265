use Rattle.std.proofs.Common.{◌≡◌, ◌+◌, ◌<◌, true, false, ap, ◌∙◌, sym, subst, length, arith}
use Rattle.fcns_encoding.proofs.CellLemmas.{has_get}
use Rattle.fcns_encoding.proofs.SharingLemmas.{rules-ruled, rules-other, next-place, places-ruled, places-other}
use Rattle.fcns_encoding.specs.Sharing.{is_ruled, ArePlaces}
use Rattle.fcns_encoding.proofs.shared_rules.rules_with.Goals as goal
use Rattle.fcns_encoding.proofs.shared_rules.rules_with.Goals.{then-has_rule+in_ok-body+in_ok-place+in_ok-push, else-has_rule}

pub loop-at-preserved : goal.loop-at-preserved
loop-at-preserved c =
    let cell = has_get c.args.table.cells.now c.loop-at.at (record { symbol = 0; first = 0; second = 0 }) c.loop-at-test.true in
    let room : c.loop-at.at + 1 < length c.loop-at.places = omega (arith, c.loop-at-test.true, c.requires.len, c.loop-at.auto.places) in
    elim c.if-has_rule.branch [
      | then-has_rule+in_ok-body+in_ok-place+in_ok-push w ↦
          let r : is_ruled c.args.table.marks.now c.args.table.cells.now (c.loop-at.at + 1) ≡ true = sym c.has_rule.ensures ∙ w.if-has_rule.true in
          let p = next-place c.args.table.marks.now c.args.table.cells.now c.loop-at.at _ c.loop-at.rules w.in_ok-place.place cell c.loop-at.invariant.rules (w.in_ok-place.ensures ∙ ap length w.as_slice.ensures) in
          record {
            rules = w.rules-is ∙ rules-ruled c.args.table.marks.now c.args.table.cells.now c.loop-at.at _ c.loop-at.rules w.push.new.self w.in_ok-body.body cell r c.loop-at.invariant.rules (w.in_ok-body.ensures _ cell) w.in_ok-push.ensures.ok;
            places = places-ruled c.args.table.marks.now c.args.table.cells.now c.loop-at.at w.in_ok-place.place c.loop-at.places c.if-has_rule.places c.loop-at.invariant.places room r p w.places-is;
          }
      | else-has_rule w ↦
          let r : is_ruled c.args.table.marks.now c.args.table.cells.now (c.loop-at.at + 1) ≡ false = sym c.has_rule.ensures ∙ w.if-has_rule.false in
          record {
            rules = w.rules-is ∙ rules-other c.args.table.marks.now c.args.table.cells.now c.loop-at.at _ c.loop-at.rules cell r c.loop-at.invariant.rules;
            places = subst (λ ps. ArePlaces c.args.table.marks.now c.args.table.cells.now (c.loop-at.at + 1) ps) (sym w.places-is) (places-other c.args.table.marks.now c.args.table.cells.now c.loop-at.at c.loop-at.places c.loop-at.invariant.places room r);
          }
    ]
