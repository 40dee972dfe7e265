use Rattle.std.proofs.Common.{List, refl, ap, sym, subst, arith, length}
use Rattle.plain_tree.specs.NodePairs.{Pair}
use Rattle.tree_updates.specs.Growths.{GrowsInto}
use Rattle.tree_updates.proofs.GrownStores.{growth-few, text-stays, with-text}
use Rattle.slt_grammar.specs.Keyed.{KeyedRule}
use Rattle.tree_updates.specs.CodePlaces.{IsPlaceSpot}
use Rattle.start_fronts.specs.Moved.{MovesBefore}
use Rattle.segment_counts.specs.Weights.{all_weight}
use Rattle.tree_updates.specs.Fronts.{first_keys}
use Rattle.tree_updates.proofs.MovedMarks.{moves-swept}
use Rattle.tree_updates.proofs.growing.grow_joined.Goals as goal

pub reserve_growth-requires-clause-few : goal.reserve_growth-requires-clause-few
reserve_growth-requires-clause-few g c = let r = c.requires.store in growth-few c.args.store.now.names r.1 r.2 c.args.growth r.5

pub set-requires-clause-place : goal.set-requires-clause-place
set-requires-clause-place g c = let r = c.requires.store in omega (arith, r.4.within, ap length c.reserve_growth.ensures.texts)

pub put_in-requires-clause-store : goal.put_in-requires-clause-store
put_in-requires-clause-store g c =
    let r = c.requires.store in
    let s = c.reserve_growth.new.store in
    let e = c.reserve_growth.ensures in
    let h = text-stays c.args.store.now s r.0 r.1 c.args.joined e.texts e.names e.rules r.4 in
    let x = subst (λ (ns : List Pair). GrowsInto ns r.1 r.2 c.args.growth) (sym e.names) r.5 in
    let u = with-text s r.0 r.1 (e.store r.0 r.3) c.args.joined h (record { grammar = s.grammar; names = s.names; texts = c.set.new.self; counts = s.counts; index = s.index; marks = s.marks }) refl refl refl refl c.set.ensures.texts in
    (r.1, r.2, u, x)

pub put_in-requires-clause-room : goal.put_in-requires-clause-room
put_in-requires-clause-room g c = omega (arith, c.in_ok-reserve_growth.ensures.room, c.set.ensures.room)

pub sweep-requires : goal.sweep-requires
sweep-requires g c =
    let r = c.requires.store in
    let s = c.reserve_growth.new.store in
    let e = c.reserve_growth.ensures in
    let h = text-stays c.args.store.now s r.0 r.1 c.args.joined e.texts e.names e.rules r.4 in
    let x = subst (λ (ns : List Pair). GrowsInto ns r.1 r.2 c.args.growth) (sym e.names) r.5 in
    let u = with-text s r.0 r.1 (e.store r.0 r.3) c.args.joined h (record { grammar = s.grammar; names = s.names; texts = c.set.new.self; counts = s.counts; index = s.index; marks = s.marks }) refl refl refl refl c.set.ensures.texts in
    record { store = (r.2, c.put_in.ensures.store r.1 r.2 u x) }

pub returns-clause-grown : goal.returns-clause-grown
returns-clause-grown g c = λ t one u i k y.
    let s = c.reserve_growth.new.store in
    let e = c.reserve_growth.ensures in
    let h = text-stays c.args.store.now s t one c.args.joined e.texts e.names e.rules k in
    let x = subst (λ (ns : List Pair). GrowsInto ns one u c.args.growth) (sym e.names) y in
    let v = with-text s t one (e.store t i) c.args.joined h (record { grammar = s.grammar; names = s.names; texts = c.set.new.self; counts = s.counts; index = s.index; marks = s.marks }) refl refl refl refl c.set.ensures.texts in
    c.sweep.ensures.store u (c.put_in.ensures.store one u v x)

pub put_in-requires-clause-spot : goal.put_in-requires-clause-spot
put_in-requires-clause-spot g c =
    subst (λ (R : List KeyedRule). IsPlaceSpot R c.args.growth.site.place c.args.spot.now) (sym c.reserve_growth.ensures.rules) c.requires.spot

pub returns-clause-moves : goal.returns-clause-moves
returns-clause-moves g c =
    let gone = first_keys c.args.spot.now.levels.items in
    let place = c.args.growth.site.place in
    let K : List KeyedRule = c.sweep.new.store.grammar.rules in
    let moves = moves-swept all_weight gone place c.reserve_growth.new.store.grammar.rules c.put_in.new.store.grammar.rules K c.sweep.ensures.value c.put_in.ensures.moves c.sweep.ensures.before in
    subst (λ (R : List KeyedRule). MovesBefore all_weight gone place R K) c.reserve_growth.ensures.rules moves
