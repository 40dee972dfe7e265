use Rattle.std.proofs.Common.{◌≡◌, ◌≤◌, ℕ, length, subst, arith}
use Rattle.rule_arena.specs.declared.key.Key.{Key}
use Rattle.slt_grammar.specs.Keyed.{Keyed, IsKeyed, nodes_at}
use Rattle.slt_grammar.specs.KeyedEdits.{StandsAsCall}
use Rattle.digram_index.proofs.Inlined.{same-callee}
use Rattle.rule_pruning.specs.Calls.{StandsAsCallOf}
use Rattle.rule_pruning.proofs.InlineCalls.{as-call}
use Rattle.rule_pruning.proofs.inlining.inline_call.Goals as goal

pub inline_linked-requires-clause-call : goal.inline_linked-requires-clause-call
inline_linked-requires-clause-call c = as-call c.args.grammar.now.rules c.args.rule c.args.call c.requires.call

same : (g : Keyed) → IsKeyed g → (rule : ℕ) (call : Key) → StandsAsCallOf g.rules rule call → (C : StandsAsCall g.rules call) → rule ≡ C.called
same g K rule call S C = same-callee g K call (as-call g.rules rule call S) C

pub inline_linked-requires-clause-nodes : goal.inline_linked-requires-clause-nodes
inline_linked-requires-clause-nodes c = λ C. subst (λ (q : ℕ). length (nodes_at c.args.grammar.now.rules q) ≤ c.args.grammar.now.spare_nodes) (same c.args.grammar.now c.limit-limit.ensures.keyed c.args.rule c.args.call c.requires.call C) c.requires.nodes

pub inline_linked-requires-clause-links : goal.inline_linked-requires-clause-links
inline_linked-requires-clause-links c = λ C. subst (λ (q : ℕ). length (nodes_at c.args.grammar.now.rules q) ≤ c.args.index.now.spare_links) (same c.args.grammar.now c.limit-limit.ensures.keyed c.args.rule c.args.call c.requires.call C) c.requires.links

pub returns-clause-inlined : goal.returns-clause-inlined
returns-clause-inlined c = λ C. (c.args.call, (c.inline_linked.result.followed, c.inline_linked.ensures.rules C))

pub returns-clause-size : goal.returns-clause-size
returns-clause-size c = c.inline_linked.ensures.size (as-call c.args.grammar.now.rules c.args.rule c.args.call c.requires.call)

pub returns-clause-nodes : goal.returns-clause-nodes
returns-clause-nodes c = c.inline_linked.ensures.spare_nodes (as-call c.args.grammar.now.rules c.args.rule c.args.call c.requires.call)

pub returns-clause-links : goal.returns-clause-links
returns-clause-links c = c.inline_linked.ensures.links (as-call c.args.grammar.now.rules c.args.rule c.args.call c.requires.call)

pub returns-clause-cells : goal.returns-clause-cells
returns-clause-cells c = omega (arith, c.inline_linked.ensures.limit, c.inline_linked.ensures.cells, c.requires.cells)
