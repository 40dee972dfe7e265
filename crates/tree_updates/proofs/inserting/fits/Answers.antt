use Rattle.std.proofs.Common.{◌-◌, ◌^◌, List, min, ap, ◌∙◌, arith}
use Rattle.plain_tree.specs.Tree.{Tree, list_count}
use Rattle.tree_updates.proofs.InsertedEdits.{fits-told}
use Rattle.tree_updates.proofs.StoreLemmas.{total-is}
use Rattle.tree_updates.proofs.inserting.fits.Goals as goal

pub overflow_sub-most : goal.overflow_sub-most
overflow_sub-most c =
    let r = c.requires.store in
    omega (arith, c.total.ensures.kept, total-is c.args.store.now r.0 r.1 c.limit-limit.ensures.keyed.grammar, r.1.small)

pub returns : goal.returns
returns c = λ t i.
    let s = c.args.store.now in
    let F = c.args.fragment.now in
    fits-told s F c.args.seams c.limit-limit.ensures.keyed.grammar c.total.result c.total.ensures.kept c.ends.result c.ends-2.result c.ends.ensures c.ends-2.ensures c.in_ok-count.count (c.in_ok-count.ensures ∙ ap (λ (ts : List Tree). min (list_count ts) (2 ^ 64 - 1)) c.as_slice.ensures) t i
