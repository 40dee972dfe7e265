use Rattle.std.proofs.Common.{◌≡◌, ◌+◌, ◌<◌, ◌^◌, List, take, ap, sym, subst, arith}
use Rattle.std.proofs.lemmas.Result.{err_from_is_err_and}
use Rattle.plain_tree.specs.declared.edit.Edit.TheVariants.{Append}
use Rattle.plain_tree.specs.Edits.{placed}
use Rattle.plain_tree.specs.NodePairs.{Pair, pairs_of_trees}
use Rattle.plain_tree.specs.Tree.{Tree, list_count, node_count, node_count_all, trees}
use Rattle.fcns_encoding.specs.Interning.{Interns}
use Rattle.tree_updates.specs.FragmentGrowths.{IsFragmentGrowth}
use Rattle.tree_updates.specs.Stores.{IsStoreFor}
use Rattle.tree_updates.specs.declared.store.EditError.TheVariants.{TooMany, Memory}
use Rattle.tree_updates.proofs.AppendedStores.{apart-count, apart-grows, real-fragment}
use Rattle.tree_updates.proofs.BroughtNames.{all-named, edited-named, refused-later, refused-named}
use Rattle.tree_updates.proofs.LeavingDocuments.{coded, unswept}
use Rattle.tree_updates.proofs.StoreLemmas.{refused-there, total-is}
use Rattle.tree_updates.specs.CodePlaces.{IsPlaceSpot}
use Rattle.tree_updates.specs.declared.growing.Site.{Site}
use Rattle.start_fronts.specs.Moved.{MovesBefore}
use Rattle.segment_counts.specs.Weights.{all_weight}
use Rattle.tree_updates.specs.Fronts.{first_keys}
use Rattle.tree_updates.proofs.appending.append_apart.Goals as goal

pub overflow_sub-total : goal.overflow_sub-total
overflow_sub-total g c =
    let r = c.requires.store in
    omega (arith, c.total.ensures.kept, total-is c.args.store.now r.0 r.1 c.limit-limit.ensures.keyed.grammar, r.1.small)

pub returns-then-count-total-clause-applies : goal.returns-then-count-total-clause-applies
returns-then-count-total-clause-applies g c = λ t i edit same.
    let s = c.args.store.now in
    let F = c.args.fragment.now in
    let total = total-is s t i c.limit-limit.ensures.keyed.grammar in
    refused-there t (Append c.args.number F) TooMany s
    (edit.allowed, omega (arith, c.if-count-total.true, c.in_ok-count.ensures, ap list_count c.as_slice-nodes.ensures, c.total.ensures.kept, total, apart-count t c.args.number F edit same)) i

pub returns-in_err-growth-clause-applies : goal.returns-in_err-growth-clause-applies
returns-in_err-growth-clause-applies g c =
    let s = c.args.store.now in
    let F = c.args.fragment.now in
    let names = c.fragment_growth.new.names in
    let k = c.in_err-growth.ensures.refused in
    let some = subst (λ (ts : List Tree). Interns s.names (take k.0 (pairs_of_trees (trees ts))) names) c.as_slice-nodes.ensures k.1 in
    let p = err_from_is_err_and c.from_residual-in_err-growth.result c.from_residual-in_err-growth.ensures.1 in
    rw (p.1, p.2) (λ t i edit same. refused-named s t i (Append c.args.number F) edit c.limit-limit.ensures.keyed.grammar k.0 names some)

pub grow-requires : goal.grow-requires
grow-requires g c =
    let s = c.args.store.now in
    let n = c.args.number in
    let F = c.args.fragment.now in
    let r = c.requires.store in
    let G = c.limit-limit.ensures.keyed.grammar in
    let names = c.fragment_growth.new.names in
    let e = c.as_slice-nodes.ensures in
    let total = total-is s r.0 r.1 G in
    let size : c.in_ok-count.count ≡ node_count_all (trees F) = omega (arith, c.in_ok-count.ensures, ap list_count e, c.if-count-total.false) in
    let few : node_count r.0 + c.in_ok-count.count < 2 ^ 63 = omega (arith, c.if-count-total.false, c.total.ensures.kept, total) in
    let grown = subst (λ (ts : List Tree). Interns s.names (pairs_of_trees (trees ts)) names) e c.in_ok-growth.ensures.grown in
    let x = subst (λ (ts : List Tree). IsFragmentGrowth names ts c.in_ok-count.count c.args.site c.in_ok-growth.growth) e c.in_ok-growth.ensures.growth in
    record {
      spot = subst (λ (w : Site). IsPlaceSpot s.grammar.rules w.place c.args.spot.now) (sym c.in_ok-growth.ensures.growth.site_is) c.requires.spot;
      store = (
        r.0,
        placed r.0 (Append n F),
        all-named s r.0 r.1 (Append n F) r.2 G names grown,
        apart-grows r.0 n F r.2 names c.in_ok-count.count size c.args.site (c.requires.site r.0 (coded s r.0 (unswept s r.0 r.1))) c.in_ok-growth.growth x few,
      );
    }

pub returns-in_err-grow-clause-applies : goal.returns-in_err-grow-clause-applies
returns-in_err-grow-clause-applies g c =
    let s = c.args.store.now in
    let n = c.args.number in
    let F = c.args.fragment.now in
    let G = c.limit-limit.ensures.keyed.grammar in
    let names = c.fragment_growth.new.names in
    let new = c.grow.new.store in
    let come = subst (λ (ts : List Tree). Interns s.names (pairs_of_trees (trees ts)) names) c.as_slice-nodes.ensures c.in_ok-growth.ensures.grown in
    let grown = subst (λ (ns : List Pair). Interns s.names (pairs_of_trees (trees F)) ns) (sym c.grow.ensures.names) come in
    let p = err_from_is_err_and c.from_residual-in_err-grow.result c.from_residual-in_err-grow.ensures.1 in
    rw (p.1, p.2) (λ t i edit same.
    refused-later s t i (Append n F) edit G new grown (c.in_err-grow.ensures.kept t (all-named s t i (Append n F) edit G names come)) c.in_err-grow.ensures.rules c.in_err-grow.ensures.texts)

pub returns-clause-applies : goal.returns-clause-applies
returns-clause-applies g c =
    let s = c.args.store.now in
    let n = c.args.number in
    let F = c.args.fragment.now in
    let G = c.limit-limit.ensures.keyed.grammar in
    let names = c.fragment_growth.new.names in
    let new = c.grow.new.store in
    let e = c.as_slice-nodes.ensures in
    let come = subst (λ (ts : List Tree). Interns s.names (pairs_of_trees (trees ts)) names) e c.in_ok-growth.ensures.grown in
    let grown = subst (λ (ns : List Pair). Interns s.names (pairs_of_trees (trees F)) ns) (sym c.grow.ensures.names) come in
    let x = subst (λ (ts : List Tree). IsFragmentGrowth names ts c.in_ok-count.count c.args.site c.in_ok-growth.growth) e c.in_ok-growth.ensures.growth in
    let size : c.in_ok-count.count ≡ node_count_all (trees F) = omega (arith, c.in_ok-count.ensures, ap list_count e, c.if-count-total.false) in
    λ t i edit same.
    let total = total-is s t i G in
    let few : node_count t + c.in_ok-count.count < 2 ^ 63 = omega (arith, c.if-count-total.false, c.total.ensures.kept, total) in
    let site = c.requires.site t (coded s t (unswept s t i)) in
    let store = c.in_ok-grow.ensures.grown t (placed t (Append n F)) (all-named s t i (Append n F) edit G names come) (apart-grows t n F edit names c.in_ok-count.count size c.args.site site c.in_ok-growth.growth x few) in
    edited-named s t i (Append n F) edit G new grown (subst (IsStoreFor new) (sym same) store)
    (omega (arith, c.in_ok-grow.ensures.size, real-fragment names F c.in_ok-count.count c.args.site c.in_ok-growth.growth x)) c.in_ok-grow.ensures.ranks

pub returns-in_err-count-clause-applies : goal.returns-in_err-count-clause-applies
returns-in_err-count-clause-applies g c =
    let p = err_from_is_err_and c.from_residual.result c.from_residual.ensures.1 in
    rw (p.1, p.2) (λ t i edit same. refused-there t (Append c.args.number c.args.fragment.now) Memory c.args.store.now tt i)

pub returns-clause-moves : goal.returns-clause-moves
returns-clause-moves g c =
    let s = c.args.store.now in
    subst (λ (w : Site). MovesBefore all_weight (first_keys c.args.spot.now.levels.items) w.place s.grammar.rules c.grow.new.store.grammar.rules) c.in_ok-growth.ensures.growth.site_is c.in_ok-grow.ensures.moves
