use Rattle.std.proofs.Common.{arith}
use Rattle.slt_grammar.specs.Grammars.{value}
use Rattle.slt_grammar.specs.Keyed.{rules_of}
use Rattle.segment_counts.proofs.Coded.{weight-coded}
use Rattle.store_core.proofs.Walks.{count-some, walk-few, walk_saves}
use Rattle.store_core.proofs.saving.document_walk.Goals as goal

pub returns-clause-text : goal.returns-clause-text
returns-clause-text g c = λ t stand.
    let begins = rw c.in-Some.is at c.in_ok-found.ensures.begins in
    let unused = rw c.in-Some.is at c.in_ok-found.ensures.texts in
    walk_saves c.args.store.now c.in-Some.walk t stand begins unused

pub returns-clause-countable : goal.returns-clause-countable
returns-clause-countable g c =
    let held = c.requires.held in
    let begins = rw c.in-Some.is at c.in_ok-found.ensures.begins in
    record {
      nodes = omega (arith, walk-few c.args.store.now 0 c.in-Some.walk.cursor held.tree held.stand begins, held.small);
      texts = omega arith;
    }

pub unreachable-requires : goal.unreachable-requires
unreachable-requires g c =
    let held = c.requires.held in
    let e = weight-coded c.args.store.now.names held.tree (value (rules_of c.args.store.now.grammar.rules)) held.stand.code in
    let some = rw c.in-None.is at c.in_ok-found.ensures.some in
    let no = some.1 (omega (arith, e, count-some held.tree)) in
    cc
