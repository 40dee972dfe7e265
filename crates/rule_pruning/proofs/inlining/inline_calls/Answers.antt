use Rattle.std.proofs.Common.{◌≤◌, ◌+◌, ◌*◌, ℕ, List, length, sym, subst, arith}
use Rattle.rule_arena.specs.Terms.{Node}
use Rattle.slt_grammar.specs.Grammars.{calls_of}
use Rattle.slt_grammar.specs.Keyed.{nodes_at, rules_of}
use Rattle.digram_index.proofs.Marks.{keeps-then}
use Rattle.rule_pruning.proofs.InlineCalls.{inlining-next, as-call, room-left, room-next}
use Rattle.rule_pruning.proofs.inlining.inline_calls.Goals as goal

pub find_call-call-requires-clause-called : goal.find_call-call-requires-clause-called
find_call-call-requires-clause-called c =
    let t = c.loop-test.true in
    let v = c.calls-end.ensures in
    let l = c.loop.invariant.inlining.left in
    omega arith

pub inline_call-requires-clause-nodes : goal.inline_call-requires-clause-nodes
inline_call-requires-clause-nodes c =
    let I = c.loop.invariant in
    let n : ℕ = calls_of (rules_of c.args.grammar.now.rules) c.args.rule in
    subst (λ (ns : List Node). length ns ≤ c.loop.grammar.spare_nodes) (sym (I.inlining.before c.args.rule (omega arith)))
    (room-left n c.loop.counter (length (nodes_at c.args.grammar.now.rules c.args.rule)) c.loop.grammar.spare_nodes (let t = c.loop-test.true in omega arith) I.nodes)

pub inline_call-requires-clause-links : goal.inline_call-requires-clause-links
inline_call-requires-clause-links c =
    let I = c.loop.invariant in
    let n : ℕ = calls_of (rules_of c.args.grammar.now.rules) c.args.rule in
    subst (λ (ns : List Node). length ns ≤ c.loop.index.spare_links) (sym (I.inlining.before c.args.rule (omega arith)))
    (room-left n c.loop.counter (length (nodes_at c.args.grammar.now.rules c.args.rule)) c.loop.index.spare_links (let t = c.loop-test.true in omega arith) I.links)

pub loop-preserved : goal.loop-preserved
loop-preserved c =
    let I = c.loop.invariant in
    let n : ℕ = calls_of (rules_of c.args.grammar.now.rules) c.args.rule in
    let s : ℕ = length (nodes_at c.args.grammar.now.rules c.args.rule) in
    let E = c.inline_call.ensures in
    let S = c.find_call-call.ensures in
    let J = E.inlined (as-call c.loop.grammar.rules c.args.rule c.find_call-call.result S) in
    let same = I.inlining.before c.args.rule (omega arith) in
    let nodes = subst (λ (ns : List Node). c.loop.grammar.spare_nodes ≤ c.inline_call.new.grammar.spare_nodes + length ns) same E.nodes in
    let links = subst (λ (ns : List Node). c.loop.index.spare_links ≤ c.inline_call.new.index.spare_links + length ns) same E.links in
    record {
      inlining = inlining-next c.args.grammar.now.rules c.loop.grammar c.limit-limit.ensures.keyed c.args.rule c.loop.counter I.inlining c.find_call-call.result S c.inline_call.new.grammar.rules J.0 J.1.0 J.1.1 E.values E.size;
      within = let t = c.loop-test.true in omega arith;
      index = E.index;
      nodes = room-next (n * s) c.loop.counter s c.loop.grammar.spare_nodes c.inline_call.new.grammar.spare_nodes I.nodes nodes;
      links = room-next (n * s) c.loop.counter s c.loop.index.spare_links c.inline_call.new.index.spare_links I.links links;
      cells = E.cells;
      marks = keeps-then c.args.grammar.now.rules c.loop.grammar.rules c.inline_call.new.grammar.rules c.args.index.now c.loop.index c.inline_call.new.index I.marks E.marks;
    }
