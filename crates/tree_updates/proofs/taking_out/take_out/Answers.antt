use Rattle.std.proofs.Common.{ℕ, List, sym, subst, arith}
use Rattle.plain_tree.specs.declared.edit.Edit.TheVariants.{Delete}
use Rattle.plain_tree.specs.Edits.{placed}
use Rattle.slt_grammar.specs.Keyed.{rules_of}
use Rattle.slt_grammar.specs.Standing.{StandsFor}
use Rattle.tree_updates.proofs.NodeExtents.{all-go, extent-low, fits, left-less, left-nodes, left-stands, nodes-go, texts-go}
use Rattle.tree_updates.proofs.taking_out.take_out.Goals as goal

pub remove_range-requires : goal.remove_range-requires
remove_range-requires g c =
    let r = c.requires.store in
    let a = c.args.store.now in
    let n = c.args.number in
    let e = c.args.extent in
    let q = c.requires.spot in
    fits (rules_of a.grammar.rules) (rules_of c.lift_node.new.grammar.rules) a.names a.texts.texts r.0 r.1.stand n (extent-low r.0 n e r.2) e r.2 (c.lift_node.ensures.value q.0 n q.1) r.3

pub lower_start-requires-clause-nodes : goal.lower_start-requires-clause-nodes
lower_start-requires-clause-nodes g c =
    let r = c.requires.store in
    let a = c.args.store.now in
    let n = c.args.number in
    let e = c.args.extent in
    let q = c.requires.spot in
    nodes-go (rules_of a.grammar.rules) (rules_of c.lift_node.new.grammar.rules) a.names a.texts.texts r.0 r.1.stand n (extent-low r.0 n e r.2) e r.2 (c.lift_node.ensures.value q.0 n q.1) r.3 a.counts r.1.counts c.limit-limit.ensures.keyed.grammar

pub lower_start-requires-clause-all : goal.lower_start-requires-clause-all
lower_start-requires-clause-all g c =
    let r = c.requires.store in
    let a = c.args.store.now in
    let n = c.args.number in
    let e = c.args.extent in
    let q = c.requires.spot in
    all-go (rules_of a.grammar.rules) (rules_of c.lift_node.new.grammar.rules) a.names a.texts.texts r.0 r.1.stand n (extent-low r.0 n e r.2) e r.2 (c.lift_node.ensures.value q.0 n q.1) r.3 a.counts r.1.counts c.limit-limit.ensures.keyed.grammar

pub lower_start-requires-clause-texts : goal.lower_start-requires-clause-texts
lower_start-requires-clause-texts g c =
    let r = c.requires.store in
    let a = c.args.store.now in
    let n = c.args.number in
    let e = c.args.extent in
    let q = c.requires.spot in
    texts-go (rules_of a.grammar.rules) (rules_of c.lift_node.new.grammar.rules) a.names a.texts.texts r.0 r.1.stand n (extent-low r.0 n e r.2) e r.2 (c.lift_node.ensures.value q.0 n q.1) r.3 a.counts r.1.counts c.limit-limit.ensures.keyed.grammar

pub returns-clause-store : goal.returns-clause-store
returns-clause-store g c = λ t s x v.
    let a = c.args.store.now in
    let n : ℕ = c.args.number in
    let e = c.args.extent in
    let q = c.requires.spot in
    let G = rules_of a.grammar.rules in
    let H = rules_of c.lift_node.new.grammar.rules in
    let low = extent-low t n e x in
    let loses = c.lift_node.ensures.value q.0 n q.1 in
    record {
      stand = subst (λ (ts : List (List ℕ)). StandsFor H a.names ts (placed t (Delete n))) (sym c.remove_range.ensures.texts) (left-stands G H a.names a.texts.texts t s.stand n low e x loses v);
      small = omega (arith, s.small, left-nodes G H a.names a.texts.texts t s.stand n low e x loses v);
      counts = c.lower_start.ensures.counts a.names G H s.counts c.lift_node.ensures.values (left-less G H a.names a.texts.texts t s.stand n low e x loses v);
      index = c.lift_node.ensures.index;
    }

pub returns-clause-cells : goal.returns-clause-cells
returns-clause-cells g c = omega (arith, c.requires.cells, c.lift_node.ensures.cells, c.lift_node.ensures.limit)

pub returns-clause-moves : goal.returns-clause-moves
returns-clause-moves g c = let q = c.requires.spot in c.lift_node.ensures.moves q.0 c.args.number q.1
