use Rattle.std.proofs.Common.{List, refl, ap, arith}
use Rattle.std.proofs.lemmas.Result.{on_ok_weaker}
use Rattle.slt_grammar.specs.Keyed.{KeyedRule, rules_of}
use Rattle.path_isolation.specs.Isolations.{room_along}
use Rattle.tree_updates.proofs.CopiedStores.{roomy-counts, roomy-store}
use Rattle.tree_updates.proofs.RenamedStores.{index-again}
use Rattle.tree_updates.proofs.copying.reserve_copy.Goals as goal

pub returns-clause-nodes : goal.returns-clause-nodes
returns-clause-nodes g c =
    let ls = c.args.spot.now.levels.items in
    on_ok_weaker c.reserve-3.result (λ more. omega (arith, c.in_ok-reserve_at.ensures.nodes, c.in_ok-reserve.ensures.grown, ap (λ (R : List KeyedRule). room_along R ls) c.reserve.ensures.rules)) c.reserve-3.ensures.room

pub returns-clause-rule : goal.returns-clause-rule
returns-clause-rule g c = on_ok_weaker c.reserve-3.result (λ more. omega (arith, c.in_ok-reserve.ensures.places)) c.reserve-3.ensures.room

pub returns-clause-links : goal.returns-clause-links
returns-clause-links g c =
    let ls = c.args.spot.now.levels.items in
    on_ok_weaker c.reserve-3.result (λ more. omega (arith, c.in_ok-reserve_at.ensures.links, c.reserve-2.ensures.spares.0, ap (λ (R : List KeyedRule). room_along R ls) c.reserve.ensures.rules)) c.reserve-3.ensures.room

pub returns-clause-number : goal.returns-clause-number
returns-clause-number g c = on_ok_weaker c.reserve-3.result (λ more. omega (arith, c.in_ok-reserve-2.ensures.room.2)) c.reserve-3.ensures.room

pub returns-clause-cells : goal.returns-clause-cells
returns-clause-cells g c = on_ok_weaker c.reserve-3.result (λ more. omega (arith, c.in_ok-reserve-2.ensures.room.0)) c.reserve-3.ensures.room

pub returns-clause-room : goal.returns-clause-room
returns-clause-room g c = on_ok_weaker c.reserve-3.result (λ more. omega (arith, c.in_ok-reserve_at.ensures.room)) c.reserve-3.ensures.room

pub returns-clause-store : goal.returns-clause-store
returns-clause-store g c = λ t i.
    let a = c.reserve_at.new.store in
    let k = c.reserve_at.ensures.store t i in
    let I = index-again a.grammar c.reserve.new.self a.index c.reserve-2.new.self k.index c.reserve.ensures.rules c.reserve-2.ensures.rules c.reserve-2.ensures.cells in
    let counts = roomy-counts a.names (rules_of a.grammar.rules) a.counts c.reserve-3.new.self c.reserve-3.ensures.rules c.reserve-3.ensures.grown c.reserve-3.ensures.kept k.counts in
    roomy-store a (record { grammar = c.reserve.new.self; names = a.names; texts = a.texts; counts = c.reserve-3.new.self; index = c.reserve-2.new.self; marks = a.marks }) t k c.reserve.ensures.rules refl refl counts I
