use Rattle.plain_tree.specs.NodePairs.{pairs_of_trees}
use Rattle.plain_tree.specs.Tree.{trees}
use Rattle.fcns_encoding.proofs.LawfulLemmas.{trees-lawful}
use Rattle.tree_updates.proofs.FragmentNames.{grown-store, some-came}
use Rattle.tree_updates.proofs.fragment_code.encode_in.Goals as goal

pub returns-clause-store : goal.returns-clause-store
returns-clause-store c = λ t i.
    let F = trees c.args.fragment.now in
    let w = some-came c.encode_list.result c.args.store.now.names (pairs_of_trees F) c.encode_list.new.names (trees-lawful F c.requires.fragment.1.1) c.encode_list.ensures.names c.encode_list.ensures.refused in
    grown-store c.args.store.now t i c.limit-limit.ensures.keyed.grammar w.0 c.encode_list.new.names w.1 w.2
