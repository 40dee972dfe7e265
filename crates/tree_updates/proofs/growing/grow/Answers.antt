use Rattle.std.proofs.Common.{List, subst, sym}
use Rattle.plain_tree.specs.NodePairs.{Pair}
use Rattle.tree_updates.specs.Growths.{GrowsInto}
use Rattle.tree_updates.proofs.GrownStores.{growth-few}
use Rattle.tree_updates.proofs.LeavingDocuments.{unswept}
use Rattle.slt_grammar.specs.Keyed.{KeyedRule}
use Rattle.tree_updates.specs.CodePlaces.{IsPlaceSpot}
use Rattle.start_fronts.specs.Moved.{MovesBefore}
use Rattle.segment_counts.specs.Weights.{all_weight}
use Rattle.tree_updates.specs.Fronts.{first_keys}
use Rattle.tree_updates.proofs.MovedMarks.{moves-swept}
use Rattle.tree_updates.proofs.growing.grow.Goals as goal

pub reserve_growth-requires-clause-few : goal.reserve_growth-requires-clause-few
reserve_growth-requires-clause-few g c = let r = c.requires.store in growth-few c.args.store.now.names r.0 r.1 c.args.growth r.3

pub sweep-requires : goal.sweep-requires
sweep-requires g c =
    let r = c.requires.store in
    let s = c.reserve_growth.new.store in
    let x = subst (λ (ns : List Pair). GrowsInto ns r.0 r.1 c.args.growth) (sym c.reserve_growth.ensures.names) r.3 in
    record { store = (r.1, c.put_in.ensures.store r.0 r.1 (unswept s r.0 (c.reserve_growth.ensures.store r.0 r.2)) x) }

pub returns-clause-grown : goal.returns-clause-grown
returns-clause-grown g c = λ t u i h.
    let s = c.reserve_growth.new.store in
    let x = subst (λ (ns : List Pair). GrowsInto ns t u c.args.growth) (sym c.reserve_growth.ensures.names) h in
    c.sweep.ensures.store u (c.put_in.ensures.store t u (unswept s t (c.reserve_growth.ensures.store t i)) x)

pub put_in-requires-clause-spot : goal.put_in-requires-clause-spot
put_in-requires-clause-spot g c =
    subst (λ (R : List KeyedRule). IsPlaceSpot R c.args.growth.site.place c.args.spot.now) (sym c.reserve_growth.ensures.rules) c.requires.spot

pub returns-clause-moves : goal.returns-clause-moves
returns-clause-moves g c =
    let gone = first_keys c.args.spot.now.levels.items in
    let place = c.args.growth.site.place in
    let K : List KeyedRule = c.sweep.new.store.grammar.rules in
    let moves = moves-swept all_weight gone place c.reserve_growth.new.store.grammar.rules c.put_in.new.store.grammar.rules K c.sweep.ensures.value c.put_in.ensures.moves c.sweep.ensures.before in
    subst (λ (R : List KeyedRule). MovesBefore all_weight gone place R K) c.reserve_growth.ensures.rules moves
