use Rattle.std.proofs.Common.{subst}
use Rattle.plain_tree.specs.Tree.{none, more}
use Rattle.plain_tree.specs.NodeTree.{tree_of}
use Rattle.slt_grammar.specs.Terms.{Leaf}
use Rattle.fcns_encoding.specs.Interning.{Interns}
use Rattle.fcns_encoding.proofs.InternLemmas.{on-err}
use Rattle.fcns_encoding.proofs.ListLemmas.{pairs-one}
use Rattle.fcns_encoding.proofs.VisitLemmas.{spelled-codes, interned-all}
use Rattle.fcns_encoding.proofs.coding.encode.Goals as goal

pub returns-in_err-push-clause-refused : goal.returns-in_err-push-clause-refused
returns-in_err-push-clause-refused c =
    let pairs = rw c.from_ref.ensures.value at c.in_ok-coded.ensures.names in
    on-err c.from_residual-in_err-push.result (interned-all _ _ _ (subst (λ ps. Interns c.args.names.now ps c.encode_nodes.new.names) (pairs-one (tree_of c.args.node.now)) pairs))

pub returns-clause-code : goal.returns-clause-code
returns-clause-code c =
    let labels = rw c.from_ref.ensures.value at c.in_ok-coded.ensures.labels in
    spelled-codes c.encode_nodes.new.names Leaf (more (tree_of c.args.node.now) none) _ _ labels c.in_ok-push.ensures.ok
