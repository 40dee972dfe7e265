use Rattle.std.proofs.Common.{List, sym, ◌∙◌, arith}
use Rattle.slt_grammar.specs.Keyed.{KeyedRule, rules_of}
use Rattle.slt_grammar.proofs.KeyedLemmas.{length-rules_of}
use Rattle.tree_updates.proofs.InStart.{others-stay, same-value}
use Rattle.tree_updates.proofs.IsolatedPlaces.{around-place, body-wraps, place-in-start}
use Rattle.tree_updates.specs.Fronts.{first_keys}
use Rattle.tree_updates.proofs.KeptRanks.{ranks-in-start, ranks-wrapped}
use Rattle.tree_updates.proofs.MovedMarks.{moves-place}
use Rattle.tree_updates.proofs.code_places.wrap_place.Goals as goal

pub isolate_place-at-requires-clause-room : goal.isolate_place-at-requires-clause-room
isolate_place-at-requires-clause-room g c = omega (arith, c.requires.room)

pub isolate_place-at-requires-clause-links : goal.isolate_place-at-requires-clause-links
isolate_place-at-requires-clause-links g c = omega (arith, c.requires.links)

pub wrap_linked-requires-clause-there : goal.wrap_linked-requires-clause-there
wrap_linked-requires-clause-there g c =
    let r = c.requires.leads in
    place-in-start c.isolate_place-at.new.grammar.rules r.0 c.isolate_place-at.result (c.isolate_place-at.ensures.isolated r.0 r.1)

pub wrap_linked-requires-clause-body : goal.wrap_linked-requires-clause-body
wrap_linked-requires-clause-body g c = let b = c.requires.body in body-wraps (rules_of c.isolate_place-at.new.grammar.rules) b.0 c.args.body.now b.1

pub wrap_linked-requires-clause-last : goal.wrap_linked-requires-clause-last
wrap_linked-requires-clause-last g c = let b = c.requires.body in b.1.last

pub wrap_linked-requires-clause-nodes : goal.wrap_linked-requires-clause-nodes
wrap_linked-requires-clause-nodes g c = omega (arith, c.requires.room, c.isolate_place-at.ensures.spare_nodes)

pub wrap_linked-requires-clause-links : goal.wrap_linked-requires-clause-links
wrap_linked-requires-clause-links g c = omega (arith, c.requires.links, c.isolate_place-at.ensures.links)

pub wrap_linked-requires-clause-cells : goal.wrap_linked-requires-clause-cells
wrap_linked-requires-clause-cells g c = omega (arith, c.requires.cells, c.isolate_place-at.ensures.cells, c.isolate_place-at.ensures.limit)

pub returns-clause-value : goal.returns-clause-value
returns-clause-value g c = λ n front l b.
    let G : List KeyedRule = c.args.grammar.now.rules in
    let H : List KeyedRule = c.isolate_place-at.new.grammar.rules in
    let I = c.isolate_place-at.ensures.isolated n l in
    let v = same-value (rules_of G) (rules_of H) (length-rules_of H ∙ c.isolate_place-at.ensures.others.many ∙ sym (length-rules_of G)) c.isolate_place-at.ensures.values in
    around-place (rules_of G) (rules_of H) (rules_of c.wrap_linked.new.grammar.rules) I.position n front c.args.body.now v b I.before (c.wrap_linked.ensures.value (place-in-start H n c.isolate_place-at.result I))

pub returns-clause-values : goal.returns-clause-values
returns-clause-values g c =
    let G : List KeyedRule = c.args.grammar.now.rules in
    let H : List KeyedRule = c.isolate_place-at.new.grammar.rules in
    others-stay (rules_of G) (rules_of H) (rules_of c.wrap_linked.new.grammar.rules) (length-rules_of H ∙ c.isolate_place-at.ensures.others.many ∙ sym (length-rules_of G)) c.isolate_place-at.ensures.values c.wrap_linked.ensures.values

pub returns-clause-most : goal.returns-clause-most
returns-clause-most g c = omega (arith, c.wrap_linked.ensures.size, c.isolate_place-at.ensures.most)

pub returns-clause-moves : goal.returns-clause-moves
returns-clause-moves g c = λ n l.
    let E = c.isolate_place-at.ensures in
    let b = c.requires.body in
    let body = c.args.body.now in
    let G : List KeyedRule = c.args.grammar.now.rules in
    let h = c.isolate_place-at.new.grammar in
    let I = E.isolated n l in
    let v = same-value (rules_of G) (rules_of h.rules) (length-rules_of h.rules ∙ E.others.many ∙ sym (length-rules_of G)) E.values in
    moves-place G (first_keys (g.W.Way.levels c.args.way G)) h c.limit-limit.ensures.keyed n c.isolate_place-at.result I v E.before c.wrap_linked.new.grammar c.limit-after.ensures.keyed body
    (body-wraps (rules_of h.rules) b.0 body b.1) b.1.last b.1.plain (c.wrap_linked.ensures.rules (place-in-start h.rules n c.isolate_place-at.result I))

pub returns-clause-ranks : goal.returns-clause-ranks
returns-clause-ranks g c =
    let r = c.requires.leads in
    let E = c.isolate_place-at.ensures in
    let h = c.isolate_place-at.new.grammar in
    let S = place-in-start h.rules r.0 c.isolate_place-at.result (E.isolated r.0 r.1) in
    omega (
      arith,
      ranks-in-start c.args.grammar.now.rules h.rules E.others c.limit-limit.ensures.keyed.grammar,
      ranks-wrapped h.rules c.wrap_linked.new.grammar.rules S.here.rule S.here.place c.isolate_place-at.result c.args.body.now (c.wrap_linked.ensures.rules S),
    )
