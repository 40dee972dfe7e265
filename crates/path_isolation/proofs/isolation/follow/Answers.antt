use Rattle.path_isolation.proofs.Walks.{walk-call, walk-inlined, walk-kept}
use Rattle.path_isolation.proofs.isolation.follow.Goals as goal

pub inline-requires : goal.inline-requires
inline-requires c =
    let w = c.requires.walk in
    walk-call w.0 w.1 w.2 c.args.grammar.now.rules c.args.here c.args.level w.3 w.4

pub unwrap-requires : goal.unwrap-requires
unwrap-requires c =
    let w = c.requires.walk in
    c.inline.ensures.succeeds (walk-call w.0 w.1 w.2 c.args.grammar.now.rules c.args.here c.args.level w.3 w.4) c.requires.room

pub returns-clause-walk : goal.returns-clause-walk
returns-clause-walk c = λ G levels qs ls w.
    walk-inlined G levels qs c.args.grammar.now.rules c.inline.new.self.rules c.args.here c.unwrap.result.followed c.args.level ls w (rw c.unwrap.ensures at c.inline.ensures.rules)

pub returns-clause-kept : goal.returns-clause-kept
returns-clause-kept c = λ G levels qs ls w.
    walk-kept G levels qs c.args.grammar.now.rules c.inline.new.self.rules c.args.here c.unwrap.result.followed c.args.level ls w (rw c.unwrap.ensures at c.inline.ensures.rules)

pub returns-clause-spare_nodes : goal.returns-clause-spare_nodes
returns-clause-spare_nodes c =
    let w = c.requires.walk in
    (rw c.unwrap.ensures at c.inline.ensures.spare_nodes) (walk-call w.0 w.1 w.2 c.args.grammar.now.rules c.args.here c.args.level w.3 w.4)

pub returns-clause-limit : goal.returns-clause-limit
returns-clause-limit c =
    let w = c.requires.walk in
    c.inline.ensures.stays (walk-call w.0 w.1 w.2 c.args.grammar.now.rules c.args.here c.args.level w.3 w.4) c.requires.room
