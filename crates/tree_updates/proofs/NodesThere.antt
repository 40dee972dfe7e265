-- The node at which an edit is made.
use Rattle.std.proofs.Common.{◌≡◌, ℕ, ◌<◌, arith, None}
use Rattle.plain_tree.specs.declared.edit.Edit.{Edit}
use Rattle.plain_tree.specs.Allowed.{IsAllowed}
use Rattle.plain_tree.specs.Edits.{number_of}
use Rattle.plain_tree.specs.Siblings.{from_node}
use Rattle.plain_tree.specs.Tree.{Tree, node, Trees, none, more, node_count}
use Rattle.plain_tree.proofs.LawfulDocuments.{place-low, stands}
use Rattle.tree_updates.proofs.Numbers.{node-at}
use Rattle.tree_updates.proofs.StoreSteps.{NodeOf}

-- the number of an allowed edit is a node's
pub allowed-low : (t : Tree) (e : Edit) → IsAllowed t e → number_of e < node_count t
allowed-low t e h = let s = stands t e h in let l = place-low None none (number_of e) (more t none) s.place s.there in omega (arith, l)

node-of : (n : ℕ) (t r : Tree) (us : Trees) → from_node n (more t none) ≡ more r us → NodeOf n t
node-of n t (node k m v ks) us e = record { kind = k; name = m; content = v; kids = ks; behind = us; here = e }

-- that node
pub node-there : (t : Tree) (n : ℕ) → n < node_count t → NodeOf n t
node-there t n low = let a = node-at n (more t none) (omega (arith, low)) in node-of n t a.here a.behind a.from_is
