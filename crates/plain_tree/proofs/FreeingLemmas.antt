-- Each round of freeing leaves less work.
use Rattle.std.proofs.Common.{◌≡◌, ℕ, ◌+◌, ◌*◌, ◌<◌, ◌++◌, List, [], ◌∷◌, length, get_or, refl, ap, arith}
use Rattle.std.proofs.Math.ListN.{set}
use Rattle.std.specs.List.{swap}
use Rattle.plain_tree.specs.declared.nodes.Node.{Node}
use Rattle.plain_tree.specs.Tree.{Tree, node, node_count, list_count}
use Rattle.plain_tree.specs.NodeTree.{tree_of, trees_of}
use Rattle.plain_tree.specs.Freeing.{first_work, work}
use Rattle.plain_tree.proofs.NodeCounts.{list_count-append}

-- one more at the end of some
work-append : (t : Tree) (ts : List Tree) (last : Tree) → work ((t ∷ ts) ++ last ∷ []) ≡ work (t ∷ ts) + 2 * node_count last
work-append t ts last = omega (arith, list_count-append ts last)

node_count-pos : (t : Tree) → 0 < node_count t
node_count-pos (node k n v ks) = omega arith

-- a node without kids is gone
pub work-without : (ns : List Node) (t : Tree) → 0 < length ns → work (trees_of ns) < work (trees_of ns ++ t ∷ [])
work-without [] t some = absurd (omega arith)
work-without (n ∷ ns) t some = omega (arith, work-append (tree_of n) (trees_of ns) t, node_count-pos t)

get_or-last : (ns : List Node) (n d : Node) → get_or (ns ++ n ∷ []) (length ns) d ≡ n
get_or-last [] n d = refl
get_or-last (m ∷ ns) n d = get_or-last ns n d

set-last : (ns : List Node) (n m : Node) → set (ns ++ n ∷ []) (length ns) m ≡ ns ++ m ∷ []
set-last [] n m = refl
set-last (k ∷ ns) n m = ap (λ (xs : List Node). k ∷ xs) (set-last ns n m)

pub trees_of-append : (ns : List Node) (n : Node) → trees_of (ns ++ n ∷ []) ≡ trees_of ns ++ tree_of n ∷ []
trees_of-append [] n = refl
trees_of-append (m ∷ ns) n = ap (λ (xs : List Tree). tree_of m ∷ xs) (trees_of-append ns n)

-- the last node goes to the first place
work-swap : (ns : List Node) (n : Node) → work (trees_of (swap (ns ++ n ∷ []) 0 (length ns))) ≡ first_work (tree_of n) + 2 * list_count (trees_of ns)
work-swap [] n = omega arith
work-swap (m ∷ ns) n =
    rw (get_or-last ns n m, set-last ns n m, trees_of-append ns m) (omega (arith, list_count-append (trees_of ns) (tree_of m)))

-- a node that waits again, with all that wait in place of its kids
pub work-linked :
    (ns rest pushed : List Node) (kid old linked : Node) (last : ℕ) → 0 < length ns → pushed ≡ rest ++ linked ∷ [] → last ≡ length rest → old.kids ≡ trees_of (rest ++ kid ∷ [])
    → linked.kids ≡ trees_of (ns ++ kid ∷ [])
    → work (trees_of (swap pushed 0 last)) < work (trees_of ns ++ tree_of old ∷ [])
work-linked [] rest pushed kid old linked last some pushes is olds links = absurd (omega arith)
work-linked (n ∷ ns) rest pushed kid old linked last some pushes is olds links =
    let before = work-append (tree_of n) (trees_of ns) (tree_of old) in
    let after = work-swap rest linked in
    let linked_work : first_work (tree_of linked) ≡ work (trees_of (n ∷ ns) ++ tree_of kid ∷ []) + 1 = rw (links, trees_of-append ns kid) refl in
    let with_kid = work-append (tree_of n) (trees_of ns) (tree_of kid) in
    let old_count : node_count (tree_of old) ≡ list_count (trees_of rest ++ tree_of kid ∷ []) + 1 = rw (olds, trees_of-append rest kid) refl in
    let kids = list_count-append (trees_of rest) (tree_of kid) in
    rw (pushes, is) (omega arith)
