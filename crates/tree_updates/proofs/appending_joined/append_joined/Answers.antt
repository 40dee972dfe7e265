use Rattle.std.proofs.Common.{◌≡◌, ◌++◌, ◌+◌, ◌<◌, ◌^◌, ℕ, suc, List, take, ap, sym, ◌∙◌, subst, arith}
use Rattle.std.proofs.lemmas.Result.{err_from_is_err_and}
use Rattle.plain_tree.specs.declared.edit.Edit.TheVariants.{Append, Value}
use Rattle.plain_tree.specs.declared.nodes.Node.{Node}
use Rattle.plain_tree.specs.Edits.{edited, placed}
use Rattle.plain_tree.specs.NodePairs.{Pair, pairs_of_trees}
use Rattle.plain_tree.specs.Tree.{Tree, list_count, node_count, node_count_all, trees}
use Rattle.fcns_encoding.specs.Interning.{Interns}
use Rattle.tree_updates.specs.FragmentGrowths.{IsFragmentGrowth}
use Rattle.tree_updates.specs.declared.store.EditError.TheVariants.{Memory, TooMany}
use Rattle.tree_updates.proofs.AppendedStores.{real-fragment}
use Rattle.tree_updates.proofs.AppendedTexts.{first-value, joined-count, joined-grows, joined-text, others-behind, others-named, some-named}
use Rattle.tree_updates.proofs.BroughtNames.{all-named, edited-named, named, refused-later, refused-named}
use Rattle.tree_updates.proofs.StoreLemmas.{refused-there, total-is}
use Rattle.tree_updates.specs.CodePlaces.{IsPlaceSpot}
use Rattle.tree_updates.specs.declared.growing.Site.{Site}
use Rattle.start_fronts.specs.Moved.{MovesBefore}
use Rattle.segment_counts.specs.Weights.{all_weight}
use Rattle.tree_updates.specs.Fronts.{first_keys}
use Rattle.tree_updates.proofs.appending_joined.append_joined.Goals as goal

pub returns-in_err-count-clause-applies : goal.returns-in_err-count-clause-applies
returns-in_err-count-clause-applies g c =
    let p = err_from_is_err_and c.from_residual.result c.from_residual.ensures.1 in
    rw (p.1, p.2) (λ t i edit M. refused-there t (Append c.args.number c.args.fragment.now) Memory c.args.store.now tt i)

pub returns-in_err-joined-clause-applies : goal.returns-in_err-joined-clause-applies
returns-in_err-joined-clause-applies g c =
    let p = err_from_is_err_and c.from_residual-in_err-joined.result c.from_residual-in_err-joined.ensures.1 in
    rw (p.1, p.2) (λ t i edit M. refused-there t (Append c.args.number c.args.fragment.now) Memory c.args.store.now tt i)

pub overflow_sub-total : goal.overflow_sub-total
overflow_sub-total g c =
    let r = c.requires.store in
    omega (arith, c.total.ensures.kept, total-is c.args.store.now r.0 r.1 c.limit-limit.ensures.keyed.grammar, r.1.small)

pub returns-then-count-total-clause-applies : goal.returns-then-count-total-clause-applies
returns-then-count-total-clause-applies g c = λ t i edit M.
    let s = c.args.store.now in
    let F = c.args.fragment.now in
    let total = total-is s t i c.limit-limit.ensures.keyed.grammar in
    let o = others-behind c.as_slice.result.now F M.first M.others c.in-len1-up.len_at_least c.as_slice.ensures M.begins in
    refused-there t (Append c.args.number F) TooMany s
    (edit.allowed, omega (arith, c.if-count-total.true, c.in_ok-count.ensures, ap list_count o, c.total.ensures.kept, total, joined-count s t i c.args.number c.args.last.now.number F edit M)) i

pub returns-in_err-growth-clause-applies : goal.returns-in_err-growth-clause-applies
returns-in_err-growth-clause-applies g c =
    let s = c.args.store.now in
    let F = c.args.fragment.now in
    let names = c.fragment_growth.new.names in
    let k = c.in_err-growth.ensures.refused in
    let p = err_from_is_err_and c.from_residual-in_err-growth.result c.from_residual-in_err-growth.ensures.1 in
    rw (p.1, p.2) (λ t i edit M.
    let o = others-behind c.as_slice.result.now F M.first M.others c.in-len1-up.len_at_least c.as_slice.ensures M.begins in
    let some = subst (λ (ts : List Tree). Interns s.names (take k.0 (pairs_of_trees (trees ts))) names) o k.1 in
    refused-named s t i (Append c.args.number F) edit c.limit-limit.ensures.keyed.grammar (suc k.0) names (some-named s t i c.args.number c.args.last.now.number F edit M k.0 names some))

pub grow_joined-requires : goal.grow_joined-requires
grow_joined-requires g c =
    let s = c.args.store.now in
    let n = c.args.number in
    let last = c.args.last.now.number in
    let F = c.args.fragment.now in
    let G = c.limit-limit.ensures.keyed.grammar in
    let names = c.fragment_growth.new.names in
    let r = c.requires.store in
    let t = r.0 in
    let i = r.1 in
    let edit = r.2 in
    let M = r.3 in
    let o = others-behind c.as_slice.result.now F M.first M.others c.in-len1-up.len_at_least c.as_slice.ensures M.begins in
    let come = subst (λ (ts : List Tree). Interns s.names (pairs_of_trees (trees ts)) names) o c.in_ok-growth.ensures.grown in
    let grown = others-named s t i n last F edit M names come in
    let again = all-named s t i (Append n F) edit G names grown in
    let x = subst (λ (ts : List Tree). IsFragmentGrowth names ts c.in_ok-count.count c.args.site c.in_ok-growth.growth) o c.in_ok-growth.ensures.growth in
    let size : c.in_ok-count.count ≡ node_count_all (trees M.others) = omega (arith, c.in_ok-count.ensures, ap list_count o, c.if-count-total.false) in
    let few : node_count t + c.in_ok-count.count < 2 ^ 63 = omega (arith, c.if-count-total.false, c.total.ensures.kept, total-is s t i G) in
    let rank = c.in_ok-joined.ensures.rank t n F i M in
    let first = ap (λ (y : Node). y.value) c.first-item.is ∙ first-value c.as_slice.result.now F M.first M.others c.in-len1-up.len_at_least c.as_slice.ensures M.begins c.first-item.result in
    let value = c.in_ok-joined.ensures.value t n F M i ∙ ap (λ (y : List ℕ). M.before ++ y) first in
    let site = c.requires.site (placed t (Value last (M.before ++ M.first))) (joined-text s t i n last F edit M c.in_ok-joined.joined rank value).coded in
    let joined = joined-text (named s names) t again n last F edit M c.in_ok-joined.joined rank value in
    let grows = joined-grows s t i n last F edit M names c.in_ok-count.count size c.args.site site c.in_ok-growth.growth x few in
    record { spot = subst (λ (w : Site). IsPlaceSpot s.grammar.rules w.place c.args.spot.now) (sym c.in_ok-growth.ensures.growth.site_is) c.requires.spot; store = (t, placed t (Value last (M.before ++ M.first)), edited t (Append n F), again, joined, grows) }

pub returns-in_err-grow_joined-clause-applies : goal.returns-in_err-grow_joined-clause-applies
returns-in_err-grow_joined-clause-applies g c =
    let s = c.args.store.now in
    let n = c.args.number in
    let last = c.args.last.now.number in
    let F = c.args.fragment.now in
    let G = c.limit-limit.ensures.keyed.grammar in
    let names = c.fragment_growth.new.names in
    let new = c.grow_joined.new.store in
    let p = err_from_is_err_and c.from_residual-in_err-grow_joined.result c.from_residual-in_err-grow_joined.ensures.1 in
    rw (p.1, p.2) (λ t i edit M.
    let o = others-behind c.as_slice.result.now F M.first M.others c.in-len1-up.len_at_least c.as_slice.ensures M.begins in
    let come = subst (λ (ts : List Tree). Interns s.names (pairs_of_trees (trees ts)) names) o c.in_ok-growth.ensures.grown in
    let grown = others-named s t i n last F edit M names come in
    let again = all-named s t i (Append n F) edit G names grown in
    let kept = subst (λ (ns : List Pair). Interns s.names (pairs_of_trees (trees F)) ns) (sym c.grow_joined.ensures.names) grown in
    refused-later s t i (Append n F) edit G new kept (c.in_err-grow_joined.ensures.kept t again) c.in_err-grow_joined.ensures.rules c.in_err-grow_joined.ensures.texts)

pub returns-clause-applies : goal.returns-clause-applies
returns-clause-applies g c =
    let s = c.args.store.now in
    let n = c.args.number in
    let last = c.args.last.now.number in
    let F = c.args.fragment.now in
    let G = c.limit-limit.ensures.keyed.grammar in
    let names = c.fragment_growth.new.names in
    let new = c.grow_joined.new.store in
    λ t i edit M.
    let o = others-behind c.as_slice.result.now F M.first M.others c.in-len1-up.len_at_least c.as_slice.ensures M.begins in
    let come = subst (λ (ts : List Tree). Interns s.names (pairs_of_trees (trees ts)) names) o c.in_ok-growth.ensures.grown in
    let grown = others-named s t i n last F edit M names come in
    let again = all-named s t i (Append n F) edit G names grown in
    let x = subst (λ (ts : List Tree). IsFragmentGrowth names ts c.in_ok-count.count c.args.site c.in_ok-growth.growth) o c.in_ok-growth.ensures.growth in
    let size : c.in_ok-count.count ≡ node_count_all (trees M.others) = omega (arith, c.in_ok-count.ensures, ap list_count o, c.if-count-total.false) in
    let few : node_count t + c.in_ok-count.count < 2 ^ 63 = omega (arith, c.if-count-total.false, c.total.ensures.kept, total-is s t i G) in
    let rank = c.in_ok-joined.ensures.rank t n F i M in
    let first = ap (λ (y : Node). y.value) c.first-item.is ∙ first-value c.as_slice.result.now F M.first M.others c.in-len1-up.len_at_least c.as_slice.ensures M.begins c.first-item.result in
    let value = c.in_ok-joined.ensures.value t n F M i ∙ ap (λ (y : List ℕ). M.before ++ y) first in
    let site = c.requires.site (placed t (Value last (M.before ++ M.first))) (joined-text s t i n last F edit M c.in_ok-joined.joined rank value).coded in
    let joined = joined-text (named s names) t again n last F edit M c.in_ok-joined.joined rank value in
    let grows = joined-grows s t i n last F edit M names c.in_ok-count.count size c.args.site site c.in_ok-growth.growth x few in
    let kept = subst (λ (ns : List Pair). Interns s.names (pairs_of_trees (trees F)) ns) (sym c.grow_joined.ensures.names) grown in
    edited-named s t i (Append n F) edit G new kept (c.in_ok-grow_joined.ensures.grown t (placed t (Value last (M.before ++ M.first))) (edited t (Append n F)) again joined grows)
    (omega (arith, c.in_ok-grow_joined.ensures.size, real-fragment names M.others c.in_ok-count.count c.args.site c.in_ok-growth.growth x, ap (λ (ts : List Tree). node_count_all (trees ts)) M.begins))
    c.in_ok-grow_joined.ensures.ranks

pub returns-clause-moves : goal.returns-clause-moves
returns-clause-moves g c =
    let s = c.args.store.now in
    subst (λ (w : Site). MovesBefore all_weight (first_keys c.args.spot.now.levels.items) w.place s.grammar.rules c.grow_joined.new.store.grammar.rules) c.in_ok-growth.ensures.growth.site_is c.in_ok-grow_joined.ensures.moves
