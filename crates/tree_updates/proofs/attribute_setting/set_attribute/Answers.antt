use Rattle.std.proofs.Common.{◌+◌, List, length, ap, sym, subst, arith}
use Rattle.plain_tree.specs.declared.edit.Edit.TheVariants.{Attr}
use Rattle.plain_tree.specs.EditLaws.{IsEditOf}
use Rattle.tree_updates.proofs.AttributePlaces.{before-low, element-other, place-fits}
use Rattle.tree_updates.proofs.GrownStores.{texts-few}
use Rattle.tree_updates.proofs.NodeExtents.{spot-low}
use Rattle.tree_updates.proofs.OldAttributes.{attribute-applies, old-rank, value-allowed}
use Rattle.tree_updates.proofs.ValuedStores.{rank-within}
use Rattle.std.proofs.lemmas.Result.{err_from_is_err_and}
use Rattle.tree_updates.specs.declared.store.EditError.TheVariants.{Memory}
use Rattle.tree_updates.proofs.StoreLemmas.{refused-there}
use Rattle.slt_grammar.specs.Keyed.{KeyedRule}
use Rattle.slt_grammar.specs.declared.level.Level.{Level}
use Rattle.start_fronts.specs.Moved.{MovesBefore}
use Rattle.segment_counts.specs.Weights.{all_weight}
use Rattle.preorder_address.specs.Marks.{AreMarks}
use Rattle.tree_updates.specs.Fronts.{first_keys}
use Rattle.tree_updates.proofs.MovedMarks.{edited-counts}
use Rattle.tree_updates.proofs.IsolatedPlaces.{places-coded}
use Rattle.tree_updates.proofs.attribute_setting.set_attribute.Goals as goal

pub find_attribute-requires-clause-store : goal.find_attribute-requires-clause-store
find_attribute-requires-clause-store g c =
    let s = c.args.store.now in
    let r = c.requires.store in (
      r.0,
      r.1,
      spot-low s.names s.grammar.rules r.0 c.args.number c.in_ok-spot.spot r.1.stand.code c.in_ok-spot.ensures.spot,
      element-other r.0 c.args.number c.args.name.now c.args.value.now (c.in_ok-spot.ensures.answer r.0 c.args.name.now c.args.value.now r.1),
    )

pub overflow_add-number : goal.overflow_add-number
overflow_add-number g c =
    let s = c.args.store.now in
    let r = c.requires.store in
    omega (arith, spot-low s.names s.grammar.rules r.0 c.args.number c.in_ok-spot.spot r.1.stand.code c.in_ok-spot.ensures.spot, r.1.small)

pub overflow_add-number-then-place : goal.overflow_add-number-then-place
overflow_add-number-then-place g c =
    let r = c.requires.store in
    let x = c.args.name.now in
    let w = c.args.value.now in
    let edit : IsEditOf r.0 (Attr c.args.number x w) = record { document_is = r.1.stand.document; allowed = c.in_ok-spot.ensures.answer r.0 x w r.1; parts = (c.requires.name, c.requires.chars) } in
    omega (arith, before-low r.0 c.args.number x w edit c.in_ok-place.place (c.in_ok-place.ensures.place r.0 r.1 (element-other r.0 c.args.number x w (c.in_ok-spot.ensures.answer r.0 x w r.1))), r.1.small)

pub overflow_add-rank : goal.overflow_add-rank
overflow_add-rank g c =
    let s = c.args.store.now in
    let r = c.requires.store in
    let n = c.args.number in
    let x = c.args.name.now in
    let w = c.args.value.now in
    let edit : IsEditOf r.0 (Attr n x w) = record { document_is = r.1.stand.document; allowed = c.in_ok-spot.ensures.answer r.0 x w r.1; parts = (c.requires.name, c.requires.chars) } in
    let place = c.in_ok-place.ensures.place r.0 r.1 (element-other r.0 c.args.number x w (c.in_ok-spot.ensures.answer r.0 x w r.1)) in
    let rank = c.text_rank.result + c.in_ok-place.place.before in
    let told = old-rank s r.0 r.1 n x w edit c.in_ok-place.place place c.if-place.true c.text_rank.result (c.text_rank.ensures s.names s.grammar.rules n r.0 c.in_ok-spot.ensures.spot r.1.stand.code) in
    let within = rank-within s r.0 r.1 (n + 1 + c.in_ok-place.place.before) w c.requires.chars (value-allowed s r.0 r.1 n x w edit c.in_ok-place.place place c.if-place.true) rank told in
    omega (arith, within, ap length r.1.stand.texts, texts-few r.0, r.1.small)

pub put_value-requires-clause-store : goal.put_value-requires-clause-store
put_value-requires-clause-store g c =
    let s = c.args.store.now in
    let r = c.requires.store in
    let n = c.args.number in
    let x = c.args.name.now in
    let w = c.args.value.now in
    let edit : IsEditOf r.0 (Attr n x w) = record { document_is = r.1.stand.document; allowed = c.in_ok-spot.ensures.answer r.0 x w r.1; parts = (c.requires.name, c.requires.chars) } in
    let place = c.in_ok-place.ensures.place r.0 r.1 (element-other r.0 c.args.number x w (c.in_ok-spot.ensures.answer r.0 x w r.1)) in (
      r.0,
      r.1,
      value-allowed s r.0 r.1 n x w edit c.in_ok-place.place place c.if-place.true,
      old-rank s r.0 r.1 n x w edit c.in_ok-place.place place c.if-place.true c.text_rank.result (c.text_rank.ensures s.names s.grammar.rules n r.0 c.in_ok-spot.ensures.spot r.1.stand.code),
    )

pub returns-then-place-clause-applies : goal.returns-then-place-clause-applies
returns-then-place-clause-applies g c = λ t i.
    let s = c.args.store.now in
    let n = c.args.number in
    let x = c.args.name.now in
    let w = c.args.value.now in
    let edit : IsEditOf t (Attr n x w) = record { document_is = i.stand.document; allowed = c.in_ok-spot.ensures.answer t x w i; parts = (c.requires.name, c.requires.chars) } in
    let place = c.in_ok-place.ensures.place t i (element-other t c.args.number x w (c.in_ok-spot.ensures.answer t x w i)) in
    let rank = old-rank s t i n x w edit c.in_ok-place.place place c.if-place.true c.text_rank.result (c.text_rank.ensures s.names s.grammar.rules n t c.in_ok-spot.ensures.spot i.stand.code) in
    attribute-applies s t i n x w edit c.in_ok-place.place place c.if-place.true c.put_value.result c.put_value.new.store
    (c.put_value.ensures.applies t i (value-allowed s t i n x w edit c.in_ok-place.place place c.if-place.true) rank)

pub attribute_site-site-requires-clause-store : goal.attribute_site-site-requires-clause-store
attribute_site-site-requires-clause-store g c =
    let r = c.requires.store in
    let x = c.args.name.now in
    let w = c.args.value.now in
    let edit : IsEditOf r.0 (Attr c.args.number x w) = record { document_is = r.1.stand.document; allowed = c.in_ok-spot.ensures.answer r.0 x w r.1; parts = (c.requires.name, c.requires.chars) } in
    (r.0, w, r.1, edit, c.in_ok-place.ensures.place r.0 r.1 (element-other r.0 c.args.number x w (c.in_ok-spot.ensures.answer r.0 x w r.1)))

pub add_attribute-requires-clause-store : goal.add_attribute-requires-clause-store
add_attribute-requires-clause-store g c =
    let r = c.requires.store in
    let x = c.args.name.now in
    let w = c.args.value.now in
    let edit : IsEditOf r.0 (Attr c.args.number x w) = record { document_is = r.1.stand.document; allowed = c.in_ok-spot.ensures.answer r.0 x w r.1; parts = (c.requires.name, c.requires.chars) } in
    (r.0, c.args.number, r.1, edit, c.attribute_site-site.ensures r.0 w r.1 edit (c.in_ok-place.ensures.place r.0 r.1 (element-other r.0 c.args.number x w (c.in_ok-spot.ensures.answer r.0 x w r.1))))

pub returns-clause-applies : goal.returns-clause-applies
returns-clause-applies g c = λ t i.
    let x = c.args.name.now in
    let w = c.args.value.now in
    let edit : IsEditOf t (Attr c.args.number x w) = record { document_is = i.stand.document; allowed = c.in_ok-spot.ensures.answer t x w i; parts = (c.requires.name, c.requires.chars) } in
    c.in_ok-add_attribute.ensures.applies t c.args.number i edit (c.attribute_site-site.ensures t w i edit (c.in_ok-place.ensures.place t i (element-other t c.args.number x w (c.in_ok-spot.ensures.answer t x w i))))

pub returns-in_err-place-clause-applies : goal.returns-in_err-place-clause-applies
returns-in_err-place-clause-applies g c =
    let p = err_from_is_err_and c.from_residual-in_err-place.result c.from_residual-in_err-place.ensures.1 in
    rw (p.1, p.2) (λ t i. refused-there t (Attr c.args.number c.args.name.now c.args.value.now) Memory c.args.store.now tt i)

pub find_place-requires-clause-counts : goal.find_place-requires-clause-counts
find_place-requires-clause-counts g c = c.requires.store.1.counts

pub find_place-requires-clause-low : goal.find_place-requires-clause-low
find_place-requires-clause-low g c =
    let s = c.args.store.now in
    let r = c.requires.store in
    let x = c.args.name.now in
    let w = c.args.value.now in
    let edit : IsEditOf r.0 (Attr c.args.number x w) = record { document_is = r.1.stand.document; allowed = c.in_ok-spot.ensures.answer r.0 x w r.1; parts = (c.requires.name, c.requires.chars) } in
    let site = c.attribute_site-site.ensures r.0 w r.1 edit (c.in_ok-place.ensures.place r.0 r.1 (element-other r.0 c.args.number x w (c.in_ok-spot.ensures.answer r.0 x w r.1))) in
    omega (arith, place-fits r.0 c.args.number x w edit s.names c.attribute_site-site.result site, places-coded s.names s.grammar.rules r.0 r.1.stand.code)

pub returns-in_err-end-clause-applies : goal.returns-in_err-end-clause-applies
returns-in_err-end-clause-applies g c =
    let p = err_from_is_err_and c.from_residual-in_err-end.result c.from_residual-in_err-end.ensures.1 in
    rw (p.1, p.2) (λ t i. refused-there t (Attr c.args.number c.args.name.now c.args.value.now) Memory c.args.store.now tt i)

pub returns-in_err-add_attribute-clause-applies : goal.returns-in_err-add_attribute-clause-applies
returns-in_err-add_attribute-clause-applies g c =
    let p = err_from_is_err_and c.from_residual-in_err-add_attribute.result c.from_residual-in_err-add_attribute.ensures.1 in
    rw (p.1, p.2) (λ t i.
    let x = c.args.name.now in
    let w = c.args.value.now in
    let edit : IsEditOf t (Attr c.args.number x w) = record { document_is = i.stand.document; allowed = c.in_ok-spot.ensures.answer t x w i; parts = (c.requires.name, c.requires.chars) } in
    c.in_err-add_attribute.ensures.applies t c.args.number i edit (c.attribute_site-site.ensures t w i edit (c.in_ok-place.ensures.place t i (element-other t c.args.number x w (c.in_ok-spot.ensures.answer t x w i)))))

pub returns-in_err-add_attribute-clause-marks : goal.returns-in_err-add_attribute-clause-marks
returns-in_err-add_attribute-clause-marks g c =
    subst (λ (R : List KeyedRule). AreMarks c.args.store.now.names R c.find_place.new.marks) (sym c.in_err-add_attribute.ensures.rules) c.find_place.ensures.marks

pub returns-clause-marks : goal.returns-clause-marks
returns-clause-marks g c =
    let x = c.args.name.now in
    let w = c.args.value.now in
    let edit : IsEditOf c.requires.store.0 (Attr c.args.number x w) = record { document_is = c.requires.store.1.stand.document; allowed = c.in_ok-spot.ensures.answer c.requires.store.0 x w c.requires.store.1; parts = (c.requires.name, c.requires.chars) } in
    let site = c.attribute_site-site.ensures c.requires.store.0 w c.requires.store.1 edit (c.in_ok-place.ensures.place c.requires.store.0 c.requires.store.1 (element-other c.requires.store.0 c.args.number x w (c.in_ok-spot.ensures.answer c.requires.store.0 x w c.requires.store.1))) in
    let s = c.args.store.now in
    let new = c.add_attribute.new.store in
    let r = c.requires.store in
    let place = c.attribute_site-site.result.place in
    let end = c.in_ok-end.end in
    let e = Attr c.args.number x w in
    let lawful = c.limit-limit.ensures.keyed.grammar in
    let E = c.in_ok-add_attribute.ensures.applies r.0 c.args.number r.1 edit site in
    let moves = subst (λ (ls : List Level). MovesBefore all_weight (first_keys ls) place s.grammar.rules new.grammar.rules) (sym c.levels.ensures) c.in_ok-add_attribute.ensures.moves in
    c.move_marks.ensures s.names s.grammar.rules (λ few. (c.find_place.ensures.marks, moves, c.whole_weights-had.ensures s.names s.grammar.rules r.1.counts lawful, edited-counts r.0 e s new E (omega (arith, few, c.len-named.ensures.value))))
