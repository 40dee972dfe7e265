use Rattle.std.proofs.Common.{◌≤◌, ◌+◌, ◌-◌, ℕ, Option, refl, subst, arith}
use Rattle.std.specs.Prelude.{IfSome}
use Rattle.plain_tree.specs.Tree.{node_count}
use Rattle.slt_grammar.specs.Keyed.{rules_of}
use Rattle.preorder_address.specs.Spots.{IsSpot}
use Rattle.preorder_address.specs.declared.spot.Spot.{Spot}
use Rattle.preorder_address.proofs.Naming.{total-count}
use Rattle.tree_updates.proofs.NodeExtents.{all-texts-before, texts-before}
use Rattle.tree_updates.proofs.SpotExtents.{extent-between, spot-measured, texts-between}
use Rattle.tree_updates.proofs.StoreLemmas.{none-told}
use Rattle.tree_updates.proofs.node_extent.span_of.Goals as goal

pub overflow_add-nodes : goal.overflow_add-nodes
overflow_add-nodes g c =
    let a = c.args.store.now in
    let r = c.requires.store in
    let m = spot-measured a.names a.grammar.rules r.0 c.args.number c.extent-nodes.result c.args.spot.now r.1.stand.document r.1.stand.code c.requires.spot
    (c.extent-nodes.ensures.extent a.names c.args.number r.0 c.requires.spot r.1.stand.code) in
    omega (arith, m.within, r.1.small)

pub overflow_add-number : goal.overflow_add-number
overflow_add-number g c =
    let a = c.args.store.now in
    let r = c.requires.store in
    let m = spot-measured a.names a.grammar.rules r.0 c.args.number c.extent-nodes.result c.args.spot.now r.1.stand.document r.1.stand.code c.requires.spot
    (c.extent-nodes.ensures.extent a.names c.args.number r.0 c.requires.spot r.1.stand.code) in
    omega (arith, m.within, r.1.small)

pub overflow_sub-texts : goal.overflow_sub-texts
overflow_sub-texts g c =
    let a = c.args.store.now in
    let r = c.requires.store in
    let n : ℕ = c.args.number in
    let below : ℕ = c.extent-nodes.result in
    let t = r.0 in
    let code = r.1.stand.code in
    let K = c.limit-limit.ensures.keyed in
    let m = spot-measured a.names a.grammar.rules t n below c.args.spot.now r.1.stand.document code c.requires.spot (c.extent-nodes.ensures.extent a.names n t c.requires.spot code) in
    let no = none-told c.in_ok-found.found c.in_default.is c.in_ok-found.ensures.some.1 in
    let high : node_count t ≤ n + (below + 1) = omega (arith, total-count a.names a.grammar.rules t code a.counts (a.names, r.1.counts) K.grammar, no) in
    let end = all-texts-before a.names (rules_of a.grammar.rules) t (n + (below + 1)) c.total_texts.result code high (c.total_texts.ensures.texts a.names (rules_of a.grammar.rules) r.1.counts K.grammar) in
    omega (arith, texts-between t n below c.text_rank-rank.result c.total_texts.result m (c.text_rank-rank.ensures a.names a.grammar.rules n t c.requires.spot code) end)

pub returns-in_default-clause-span : goal.returns-in_default-clause-span
returns-in_default-clause-span g c = λ t s.
    let a = c.args.store.now in
    let r = c.requires.store in
    let n : ℕ = c.args.number in
    let below : ℕ = c.extent-nodes.result in
    let code = s.code in
    let K = c.limit-limit.ensures.keyed in
    let m = spot-measured a.names a.grammar.rules t n below c.args.spot.now s.document code c.requires.spot (c.extent-nodes.ensures.extent a.names n t c.requires.spot code) in
    let no = none-told c.in_ok-found.found c.in_default.is c.in_ok-found.ensures.some.1 in
    let high : node_count t ≤ n + (below + 1) = omega (arith, total-count a.names a.grammar.rules t code a.counts (a.names, r.1.counts) K.grammar, no) in
    let end = all-texts-before a.names (rules_of a.grammar.rules) t (n + (below + 1)) c.total_texts.result code high (c.total_texts.ensures.texts a.names (rules_of a.grammar.rules) r.1.counts K.grammar) in
    record {
      extent = extent-between t n below c.text_rank-rank.result c.total_texts.result m (c.text_rank-rank.ensures a.names a.grammar.rules n t c.requires.spot code) end
          (record { nodes = c.extent-nodes.result + 1; rank = c.text_rank-rank.result; texts = c.total_texts.result - c.text_rank-rank.result }) refl refl refl;
      behind = high;
    }

pub overflow_sub-texts-2 : goal.overflow_sub-texts-2
overflow_sub-texts-2 g c =
    let a = c.args.store.now in
    let r = c.requires.store in
    let n : ℕ = c.args.number in
    let below : ℕ = c.extent-nodes.result in
    let t = r.0 in
    let code = r.1.stand.code in
    let m = spot-measured a.names a.grammar.rules t n below c.args.spot.now r.1.stand.document code c.requires.spot (c.extent-nodes.ensures.extent a.names n t c.requires.spot code) in
    let S = subst (λ (o : Option Spot). IfSome o (IsSpot a.names a.grammar.rules (n + (below + 1)))) c.in-Some.is c.in_ok-found.ensures.spot in
    let end = texts-before t (n + (below + 1)) c.text_rank.result (c.text_rank.ensures a.names a.grammar.rules (n + (below + 1)) t S code) in
    omega (arith, texts-between t n below c.text_rank-rank.result c.text_rank.result m (c.text_rank-rank.ensures a.names a.grammar.rules n t c.requires.spot code) end)

pub returns-clause-span : goal.returns-clause-span
returns-clause-span g c = λ t s.
    let a = c.args.store.now in
    let n : ℕ = c.args.number in
    let below : ℕ = c.extent-nodes.result in
    let code = s.code in
    let m = spot-measured a.names a.grammar.rules t n below c.args.spot.now s.document code c.requires.spot (c.extent-nodes.ensures.extent a.names n t c.requires.spot code) in
    let S = subst (λ (o : Option Spot). IfSome o (IsSpot a.names a.grammar.rules (n + (below + 1)))) c.in-Some.is c.in_ok-found.ensures.spot in
    let end = texts-before t (n + (below + 1)) c.text_rank.result (c.text_rank.ensures a.names a.grammar.rules (n + (below + 1)) t S code) in
    record {
      extent = extent-between t n below c.text_rank-rank.result c.text_rank.result m (c.text_rank-rank.ensures a.names a.grammar.rules n t c.requires.spot code) end
          (record { nodes = c.extent-nodes.result + 1; rank = c.text_rank-rank.result; texts = c.text_rank.result - c.text_rank-rank.result }) refl refl refl;
      behind = S;
    }
