use Rattle.std.proofs.Common.{List, sym, subst, arith}
use Rattle.plain_tree.specs.NodePairs.{Pair}
use Rattle.preorder_address.specs.Marks.{AreMarks}
use Rattle.tree_updates.proofs.AppliedMarks.{names-same}
use Rattle.tree_updates.proofs.applying.keep_where_named.Goals as goal

pub returns-else-named-len : goal.returns-else-named-len
returns-else-named-len c = λ old G many grown a.
    let same = names-same old grown.0 c.args.names.now grown.1 (omega (arith, many, c.len.ensures.value, c.if-named-len.false)) in
    subst (λ (ns : List Pair). AreMarks ns G c.args.marks.now) (sym same) a
