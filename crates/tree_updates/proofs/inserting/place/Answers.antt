use Rattle.std.proofs.Common.{List, length, ap, sym, subst, arith}
use Rattle.plain_tree.specs.InTurn.{in_turn}
use Rattle.rule_arena.specs.declared.label.Label.{Label}
use Rattle.slt_grammar.specs.Keyed.{KeyedRule}
use Rattle.preorder_address.specs.Spots.{IsSpot}
use Rattle.tree_updates.specs.Joinings.{joined_edits}
use Rattle.tree_updates.proofs.InsertedEdits.{still-joins}
use Rattle.tree_updates.proofs.LeavingDocuments.{unswept}
use Rattle.start_fronts.specs.Moved.{MovesBefore}
use Rattle.segment_counts.specs.Weights.{node_weight}
use Rattle.tree_updates.specs.Fronts.{first_keys}
use Rattle.tree_updates.proofs.MovedMarks.{moves-swept}
use Rattle.tree_updates.proofs.inserting.place.Goals as goal

pub put_joined-requires-clause-comes : goal.put_joined-requires-clause-comes
put_joined-requires-clause-comes g c =
    let r = c.requires.comes in
    (r.0, r.1, unswept c.reserve_at.new.store r.0 (c.reserve_at.ensures.store r.0 r.2), still-joins c.args.store.now c.reserve_at.new.store r.0 c.args.number c.args.rank r.1 c.args.joined c.reserve_at.ensures.names r.3)

pub put_joined-requires-clause-spot : goal.put_joined-requires-clause-spot
put_joined-requires-clause-spot g c =
    let S = c.requires.spot in
    (S.0, subst (λ (R : List KeyedRule). IsSpot S.0 R c.args.number c.args.spot.now) (sym c.reserve_at.ensures.rules) S.1)

pub put_joined-requires-clause-room : goal.put_joined-requires-clause-room
put_joined-requires-clause-room g c = omega (arith, c.in_ok-reserve_at.ensures.nodes, c.count_labels-labels.ensures.value, ap (λ (ls : List Label). length ls) c.as_slice.ensures)

pub put_joined-requires-clause-links : goal.put_joined-requires-clause-links
put_joined-requires-clause-links g c = omega (arith, c.in_ok-reserve_at.ensures.links, c.count_labels-labels.ensures.value, ap (λ (ls : List Label). length ls) c.as_slice.ensures)

pub sweep-requires : goal.sweep-requires
sweep-requires g c =
    let r = c.requires.comes in
    let j = c.args.joined in
    record {
      store = (
        in_turn r.0 (joined_edits c.args.number j.front j.back r.1),
        c.put_joined.ensures.store r.0 r.1 (unswept c.reserve_at.new.store r.0 (c.reserve_at.ensures.store r.0 r.2)) (still-joins c.args.store.now c.reserve_at.new.store r.0 c.args.number c.args.rank r.1 j c.reserve_at.ensures.names r.3),
      );
    }

pub returns-clause-store : goal.returns-clause-store
returns-clause-store g c = λ t F i M.
    let j = c.args.joined in
    c.sweep.ensures.store (in_turn t (joined_edits c.args.number j.front j.back F))
    (c.put_joined.ensures.store t F (unswept c.reserve_at.new.store t (c.reserve_at.ensures.store t i)) (still-joins c.args.store.now c.reserve_at.new.store t c.args.number c.args.rank F j c.reserve_at.ensures.names M))

pub returns-clause-moves : goal.returns-clause-moves
returns-clause-moves g c =
    let gone = first_keys c.args.spot.now.levels.items in
    let K : List KeyedRule = c.sweep.new.store.grammar.rules in
    let moves = moves-swept node_weight gone c.args.number c.reserve_at.new.store.grammar.rules c.put_joined.new.store.grammar.rules K c.sweep.ensures.value c.put_joined.ensures.moves c.sweep.ensures.before in
    subst (λ (R : List KeyedRule). MovesBefore node_weight gone c.args.number R K) c.reserve_at.ensures.rules moves
