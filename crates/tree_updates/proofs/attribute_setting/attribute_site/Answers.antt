use Rattle.std.proofs.Common.{arith}
use Rattle.tree_updates.proofs.AttributePlaces.{place-within, rank-within, site-is}
use Rattle.tree_updates.proofs.GrownStores.{texts-few}
use Rattle.tree_updates.proofs.attribute_setting.attribute_site.Goals as goal

pub overflow_add-result : goal.overflow_add-result
overflow_add-result c =
    let s = c.args.store.now in
    let r = c.requires.store in
    let place = c.place.ensures s.names s.grammar.rules c.args.number r.0 c.requires.spot r.2.stand.code in
    omega (arith, place-within r.0 c.args.number c.args.name.now r.1 r.3 c.args.place r.4 c.requires.absent c.place.result place, r.2.small)

pub overflow_mul-result : goal.overflow_mul-result
overflow_mul-result c =
    let s = c.args.store.now in
    let r = c.requires.store in
    let place = c.place.ensures s.names s.grammar.rules c.args.number r.0 c.requires.spot r.2.stand.code in
    omega (arith, place-within r.0 c.args.number c.args.name.now r.1 r.3 c.args.place r.4 c.requires.absent c.place.result place, r.2.small)

pub overflow_add-result-2 : goal.overflow_add-result-2
overflow_add-result-2 c =
    let s = c.args.store.now in
    let r = c.requires.store in
    let place = c.place.ensures s.names s.grammar.rules c.args.number r.0 c.requires.spot r.2.stand.code in
    omega (arith, place-within r.0 c.args.number c.args.name.now r.1 r.3 c.args.place r.4 c.requires.absent c.place.result place, r.2.small)

pub overflow_add-result-3 : goal.overflow_add-result-3
overflow_add-result-3 c =
    let s = c.args.store.now in
    let r = c.requires.store in
    let rank = c.text_rank.ensures s.names s.grammar.rules c.args.number r.0 c.requires.spot r.2.stand.code in
    omega (arith, rank-within r.0 c.args.number c.args.name.now r.1 r.3 c.args.place r.4 c.requires.absent c.text_rank.result rank, texts-few r.0, r.2.small)

pub returns : goal.returns
returns c = λ t value i edit h.
    let s = c.args.store.now in
    site-is t c.args.number c.args.name.now value edit c.args.place h c.requires.absent c.place.result c.text_rank.result (c.place.ensures s.names s.grammar.rules c.args.number t c.requires.spot i.stand.code)
    (c.text_rank.ensures s.names s.grammar.rules c.args.number t c.requires.spot i.stand.code)
