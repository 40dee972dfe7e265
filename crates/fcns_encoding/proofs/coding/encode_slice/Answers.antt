use Rattle.plain_tree.specs.NodeTree.{trees_of}
use Rattle.plain_tree.specs.Tree.{trees}
use Rattle.slt_grammar.specs.Terms.{Hole}
use Rattle.fcns_encoding.proofs.InternLemmas.{on-err}
use Rattle.fcns_encoding.proofs.VisitLemmas.{spelled-codes, interned-all}
use Rattle.fcns_encoding.proofs.coding.encode_slice.Goals as goal

pub returns-in_err-push-clause-refused : goal.returns-in_err-push-clause-refused
returns-in_err-push-clause-refused c = on-err c.from_residual-in_err-push.result (interned-all _ _ _ c.in_ok-coded.ensures.names)

pub returns-clause-code : goal.returns-clause-code
returns-clause-code c = spelled-codes c.encode_nodes.new.names (Hole 0) (trees (trees_of c.args.nodes.now)) _ _ c.in_ok-coded.ensures.labels c.in_ok-push.ensures.ok
