use Rattle.std.proofs.Common.{◌-◌, sym, ◌∙◌, arith}
use Rattle.tree_updates.proofs.MeetingTexts.{is-before, not-before, other-before}
use Rattle.tree_updates.proofs.NodeExtents.{spot-low}
use Rattle.tree_updates.proofs.SpotPlaces.{place-small}
use Rattle.tree_updates.proofs.meeting.text_before.Goals as goal

pub spot_there-requires-clause-store : goal.spot_there-requires-clause-store
spot_there-requires-clause-store g c =
    let a = c.args.store.now in
    let r = c.requires.store in
    let low = spot-low a.names a.grammar.rules r.0 c.args.number c.args.spot.now r.1.stand.code c.requires.spot in
    (r.0, r.1, omega (arith, low))

pub returns-then-not-is_text : goal.returns-then-not-is_text
returns-then-not-is_text g c = record {
  spot = tt;
  marks = c.spot_there.ensures.marks;
  before = λ t i.
      let a = c.args.store.now in
      let n = c.args.number in
      let low = spot-low a.names a.grammar.rules t n c.args.spot.now i.stand.code c.requires.spot in
      let kind = c.kind.ensures a.grammar.rules (n - 1) t c.in_ok-left.ensures.spot i.stand.code in
      sym (other-before t i.stand.document n c.requires.behind low c.kind.result kind (sym c.is_text.ensures ∙ c.if-not-is_text.true));
}

pub overflow_add-place : goal.overflow_add-place
overflow_add-place g c =
    let a = c.args.store.now in
    let r = c.requires.store in
    let n = c.args.number in
    let low = spot-low a.names a.grammar.rules r.0 (n - 1) c.in_ok-left.left r.1.stand.code c.in_ok-left.ensures.spot in
    omega (arith, place-small r.0 (n - 1) c.place.result low (c.place.ensures a.names a.grammar.rules (n - 1) r.0 c.in_ok-left.ensures.spot r.1.stand.code), r.1.small)

pub returns-then-place-clause-before : goal.returns-then-place-clause-before
returns-then-place-clause-before g c = λ t i.
    let a = c.args.store.now in
    let n = c.args.number in
    let low = spot-low a.names a.grammar.rules t n c.args.spot.now i.stand.code c.requires.spot in
    let kind = c.kind.ensures a.grammar.rules (n - 1) t c.in_ok-left.ensures.spot i.stand.code in
    let left = c.place.ensures a.names a.grammar.rules (n - 1) t c.in_ok-left.ensures.spot i.stand.code in
    let here = c.place-2.ensures a.names a.grammar.rules n t c.requires.spot i.stand.code in
    sym (not-before t i.stand.document n c.requires.behind low c.kind.result kind (sym c.is_text.ensures ∙ c.if-not-is_text.false) c.place.result c.place-2.result left here c.if-place.true)

pub returns-clause-before : goal.returns-clause-before
returns-clause-before g c = λ t i.
    let a = c.args.store.now in
    let n = c.args.number in
    let low = spot-low a.names a.grammar.rules t n c.args.spot.now i.stand.code c.requires.spot in
    let kind = c.kind.ensures a.grammar.rules (n - 1) t c.in_ok-left.ensures.spot i.stand.code in
    let left = c.place.ensures a.names a.grammar.rules (n - 1) t c.in_ok-left.ensures.spot i.stand.code in
    let here = c.place-2.ensures a.names a.grammar.rules n t c.requires.spot i.stand.code in
    sym (is-before t i.stand.document n c.requires.behind low c.kind.result kind (sym c.is_text.ensures ∙ c.if-not-is_text.false) c.place.result c.place-2.result left here c.if-place.false)
