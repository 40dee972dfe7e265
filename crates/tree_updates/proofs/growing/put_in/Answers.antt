use Rattle.std.proofs.Common.{◌≤◌, ◌+◌, ℕ, List, length, sym, ◌∙◌, subst, arith}
use Rattle.slt_grammar.specs.Grammars.{value}
use Rattle.slt_grammar.specs.Keyed.{rules_of}
use Rattle.slt_grammar.specs.Standing.{StandsFor}
use Rattle.slt_grammar.specs.declared.level.Level.{Level}
use Rattle.segment_counts.specs.Changes.{HasMore}
use Rattle.path_isolation.specs.Isolations.{room_along}
use Rattle.tree_updates.specs.CodePlaces.{LeadToPlace}
use Rattle.tree_updates.proofs.GrownStores.{all-come, grown-more, grown-stands, nodes-come, rank-fits, texts-come}
use Rattle.start_fronts.specs.Moved.{MovesBefore}
use Rattle.segment_counts.specs.Weights.{all_weight}
use Rattle.tree_updates.specs.Fronts.{first_keys}
use Rattle.tree_updates.proofs.growing.put_in.Goals as goal

pub wrap_place-requires-clause-leads : goal.wrap_place-requires-clause-leads
wrap_place-requires-clause-leads g c = let L = c.requires.spot in (c.args.growth.site.place, record { located = c.way.ensures ∙ L.located; low = L.low })

pub wrap_place-requires-clause-body : goal.wrap_place-requires-clause-body
wrap_place-requires-clause-body g c = let r = c.requires.store in (r.3.front, r.3.body)

pub wrap_place-requires-clause-room : goal.wrap_place-requires-clause-room
wrap_place-requires-clause-room g c =
    let G = c.args.store.now.grammar in
    subst (λ (ls : List Level). room_along G.rules ls + length c.args.growth.body ≤ G.spare_nodes) (sym (c.way.ensures ∙ c.requires.spot.located)) c.requires.nodes

pub wrap_place-requires-clause-links : goal.wrap_place-requires-clause-links
wrap_place-requires-clause-links g c =
    let G = c.args.store.now.grammar in
    subst (λ (ls : List Level). room_along G.rules ls + length c.args.growth.body ≤ c.args.store.now.index.spare_links) (sym (c.way.ensures ∙ c.requires.spot.located)) c.requires.links

pub insert-requires : goal.insert-requires
insert-requires g c =
    let a = c.args.store.now in
    let r = c.requires.store in
    rank-fits (rules_of a.grammar.rules) (rules_of a.grammar.rules) a.names a.texts.texts r.0 r.1 r.2.stand c.args.growth r.3

pub raise_start-requires-clause-all : goal.raise_start-requires-clause-all
raise_start-requires-clause-all g c =
    let a = c.args.store.now in
    let r = c.requires.store in
    all-come (rules_of a.grammar.rules) (rules_of a.grammar.rules) a.names a.texts.texts r.0 r.1 r.2.stand c.args.growth r.3 a.counts r.2.counts c.limit-limit.ensures.keyed.grammar

pub raise_start-requires-clause-nodes : goal.raise_start-requires-clause-nodes
raise_start-requires-clause-nodes g c =
    let a = c.args.store.now in
    let r = c.requires.store in
    nodes-come (rules_of a.grammar.rules) (rules_of a.grammar.rules) a.names a.texts.texts r.0 r.1 r.2.stand c.args.growth r.3 a.counts r.2.counts c.limit-limit.ensures.keyed.grammar

pub raise_start-requires-clause-texts : goal.raise_start-requires-clause-texts
raise_start-requires-clause-texts g c =
    let a = c.args.store.now in
    let r = c.requires.store in
    omega (arith, texts-come (rules_of a.grammar.rules) (rules_of a.grammar.rules) a.names a.texts.texts r.0 r.1 r.2.stand c.args.growth r.3 a.counts r.2.counts c.limit-limit.ensures.keyed.grammar, c.len-count.ensures)

pub returns-clause-store : goal.returns-clause-store
returns-clause-store g c = λ t u s x.
    let a = c.args.store.now in
    let G = rules_of a.grammar.rules in
    let H = rules_of c.wrap_place.new.grammar.rules in
    let lead : LeadToPlace a.grammar.rules _ c.args.growth.site.place = record { located = c.way.ensures ∙ c.requires.spot.located; low = c.requires.spot.low } in
    let around = c.wrap_place.ensures.value c.args.growth.site.place x.front lead x.body in
    let texts = rw c.unwrap.ensures at c.insert.ensures.texts in
    let more = grown-more G H a.names a.texts.texts t u s.stand c.args.growth x around in
    record {
      stand = subst (λ (ts : List (List ℕ)). StandsFor H a.names ts u) (sym texts) (grown-stands G H a.names a.texts.texts t u s.stand c.args.growth x around);
      small = x.small;
      counts = c.raise_start.ensures.counts a.names G H s.counts c.wrap_place.ensures.values (subst (λ (k : ℕ). HasMore a.names (value G) (value H) c.args.growth.nodes k) (sym c.len-count.ensures) more);
      index = c.wrap_place.ensures.index;
    }

pub returns-clause-moves : goal.returns-clause-moves
returns-clause-moves g c =
    let G = c.args.store.now.grammar.rules in
    let place = c.args.growth.site.place in
    let lead : LeadToPlace G _ place = record { located = c.way.ensures ∙ c.requires.spot.located; low = c.requires.spot.low } in
    subst (λ (ls : List Level). MovesBefore all_weight (first_keys ls) place G c.wrap_place.new.grammar.rules) c.way.ensures (c.wrap_place.ensures.moves place lead)
