use Rattle.std.proofs.Common.{◌≤◌, ℕ, length, subst}
use Rattle.slt_grammar.specs.Keyed.{nodes_at}
use Rattle.digram_index.proofs.Inlined.{same-callee}
use Rattle.path_isolation.proofs.Before.{before-inlined}
use Rattle.path_isolation.proofs.Walks.{walk-call, walk-inlined, walk-kept}
use Rattle.path_isolation.proofs.linked.follow_linked.Goals as goal

pub inline_linked-inlined-requires-clause-call : goal.inline_linked-inlined-requires-clause-call
inline_linked-inlined-requires-clause-call c =
    let w = c.requires.walk in
    walk-call w.0 w.1 w.2 c.args.grammar.now.rules c.args.here c.args.level w.3 w.4

pub inline_linked-inlined-requires-clause-nodes : goal.inline_linked-inlined-requires-clause-nodes
inline_linked-inlined-requires-clause-nodes c = λ C.
    let w = c.requires.walk in
    let e = same-callee c.args.grammar.now c.limit-before.ensures.keyed c.args.here (walk-call w.0 w.1 w.2 c.args.grammar.now.rules c.args.here c.args.level w.3 w.4) C in
    subst (λ (q : ℕ). length (nodes_at c.args.grammar.now.rules q) ≤ c.args.grammar.now.spare_nodes) e c.requires.room

pub inline_linked-inlined-requires-clause-links : goal.inline_linked-inlined-requires-clause-links
inline_linked-inlined-requires-clause-links c = λ C.
    let w = c.requires.walk in
    let e = same-callee c.args.grammar.now c.limit-before.ensures.keyed c.args.here (walk-call w.0 w.1 w.2 c.args.grammar.now.rules c.args.here c.args.level w.3 w.4) C in
    subst (λ (q : ℕ). length (nodes_at c.args.grammar.now.rules q) ≤ c.args.index.now.spare_links) e c.requires.links

pub returns-clause-walk : goal.returns-clause-walk
returns-clause-walk c = λ G levels qs ls w.
    walk-inlined G levels qs c.args.grammar.now.rules c.inline_linked-inlined.new.grammar.rules c.args.here c.inline_linked-inlined.result.followed c.args.level ls w c.inline_linked-inlined.ensures.rules

pub returns-clause-kept : goal.returns-clause-kept
returns-clause-kept c = λ G levels qs ls w.
    walk-kept G levels qs c.args.grammar.now.rules c.inline_linked-inlined.new.grammar.rules c.args.here c.inline_linked-inlined.result.followed c.args.level ls w c.inline_linked-inlined.ensures.rules

pub returns-clause-spare_nodes : goal.returns-clause-spare_nodes
returns-clause-spare_nodes c =
    let w = c.requires.walk in
    c.inline_linked-inlined.ensures.spare_nodes (walk-call w.0 w.1 w.2 c.args.grammar.now.rules c.args.here c.args.level w.3 w.4)

pub returns-clause-links : goal.returns-clause-links
returns-clause-links c =
    let w = c.requires.walk in
    c.inline_linked-inlined.ensures.links (walk-call w.0 w.1 w.2 c.args.grammar.now.rules c.args.here c.args.level w.3 w.4)

pub returns-clause-before : goal.returns-clause-before
returns-clause-before c = λ G first B.
    let w = c.requires.walk in
    before-inlined w.0 w.1 w.2 c.args.grammar.now c.inline_linked-inlined.new.grammar c.args.here c.inline_linked-inlined.result.followed c.args.level w.3 c.limit-before.ensures.keyed c.limit-after.ensures.keyed w.4
    c.inline_linked-inlined.ensures.rules G first B
