use Rattle.std.proofs.Common.{arith}
use Rattle.slt_grammar.specs.Keyed.{rules_of}
use Rattle.tree_updates.proofs.InsertedStores.{put-all, put-counts, put-length, put-nodes, put-place, put-stands, put-texts}
use Rattle.tree_updates.proofs.inserting.put_before.Goals as goal

pub wrap_node-requires-clause-body : goal.wrap_node-requires-clause-body
wrap_node-requires-clause-body g c = let r = c.requires.comes in (c.args.store.now.names, r.1, r.3.code)

pub insert-requires : goal.insert-requires
insert-requires g c =
    let r = c.requires.comes in
    let a = c.args.store.now in
    let gets = c.wrap_node.ensures.value c.requires.spot.0 a.names c.args.number r.1 c.requires.spot.1 r.3.code in
    put-place a r.0 r.2 c.args.number c.args.rank r.1 c.args.coded r.3 (rules_of c.wrap_node.new.grammar.rules) gets

pub raise_start-requires-clause-all : goal.raise_start-requires-clause-all
raise_start-requires-clause-all g c =
    let r = c.requires.comes in
    let a = c.args.store.now in
    let gets = c.wrap_node.ensures.value c.requires.spot.0 a.names c.args.number r.1 c.requires.spot.1 r.3.code in
    put-all a r.0 r.2 c.args.number c.args.rank r.1 c.args.coded r.3 (rules_of c.wrap_node.new.grammar.rules) gets c.limit-limit.ensures.keyed.grammar c.len.result c.len.ensures

pub raise_start-requires-clause-nodes : goal.raise_start-requires-clause-nodes
raise_start-requires-clause-nodes g c =
    let r = c.requires.comes in
    let a = c.args.store.now in
    let gets = c.wrap_node.ensures.value c.requires.spot.0 a.names c.args.number r.1 c.requires.spot.1 r.3.code in
    put-nodes a r.0 r.2 c.args.number c.args.rank r.1 c.args.coded r.3 (rules_of c.wrap_node.new.grammar.rules) gets c.limit-limit.ensures.keyed.grammar c.len.result c.len.ensures

pub raise_start-requires-clause-texts : goal.raise_start-requires-clause-texts
raise_start-requires-clause-texts g c =
    let r = c.requires.comes in
    let a = c.args.store.now in
    let gets = c.wrap_node.ensures.value c.requires.spot.0 a.names c.args.number r.1 c.requires.spot.1 r.3.code in
    let s = put-texts a r.0 r.2 c.args.number c.args.rank r.1 c.args.coded r.3 (rules_of c.wrap_node.new.grammar.rules) gets c.limit-limit.ensures.keyed.grammar c.len.result c.len.ensures in
    omega (arith, s, c.len-before.ensures.value, c.len-after.ensures.few)

pub returns-clause-store : goal.returns-clause-store
returns-clause-store g c = λ t F u M.
    let a = c.args.store.now in
    let H = rules_of c.wrap_node.new.grammar.rules in
    let gets = c.wrap_node.ensures.value c.requires.spot.0 a.names c.args.number F c.requires.spot.1 M.code in
    let are = rw c.unwrap.ensures at c.insert.ensures.texts in
    let more = put-length a t u c.args.number c.args.rank F c.args.coded M H gets c.insert.new.self.texts are in
    record {
      stand = put-stands a t u c.args.number c.args.rank F c.args.coded M H gets c.insert.new.self.texts are;
      small = M.small;
      counts = put-counts a t u c.args.number c.args.rank F c.args.coded M H gets c.insert.new.self.texts are c.raise_start.new.self c.len.result c.len-before.result c.len-after.result c.len.ensures c.len-before.ensures.value c.len-after.ensures.value
          (λ m. c.raise_start.ensures.counts a.names (rules_of a.grammar.rules) H u.counts c.wrap_node.ensures.values m);
      index = c.wrap_node.ensures.index;
    }

pub returns-clause-moves : goal.returns-clause-moves
returns-clause-moves g c = let S = c.requires.spot in c.wrap_node.ensures.moves S.0 c.args.number S.1
