use Rattle.std.proofs.Common.{◌+◌, ◌≤◌, ℕ, length, ap, sym, subst, arith}
use Rattle.std.proofs.lemmas.Result.{on_ok_weaker}
use Rattle.plain_tree.specs.Tree.{trees, node_count_all}
use Rattle.tree_updates.specs.Joinings.{back_value, ends, front_value}
use Rattle.tree_updates.specs.Stores.{IsStoreFor}
use Rattle.tree_updates.proofs.CodeBodies.{code-last, code-real}
use Rattle.tree_updates.proofs.JoinedCodes.{rest-fewer}
use Rattle.tree_updates.proofs.JoinedInsertions.{comes-to, labels-fit-ends, left_trees, may-join, texts-fit-ends}
use Rattle.tree_updates.proofs.inserting.place_coded.Goals as goal

pub join_ends-requires-clause-last : goal.join_ends-requires-clause-last
join_ends-requires-clause-last g c = let r = c.requires.comes in code-last c.args.store.now.names r.1 c.args.coded.body r.3.code

pub join_ends-requires-clause-labels : goal.join_ends-requires-clause-labels
join_ends-requires-clause-labels g c =
    let r = c.requires.comes in
    labels-fit-ends c.args.store.now r.0 r.2 c.args.number c.args.rank r.1 r.3.edit_is r.3.rank_is r.4 c.args.seams r.3.seams c.args.coded.body r.3.code

pub join_ends-requires-clause-values : goal.join_ends-requires-clause-values
join_ends-requires-clause-values g c =
    let r = c.requires.comes in
    let f = texts-fit-ends c.args.store.now r.0 r.2 c.args.number c.args.rank r.1 r.3.edit_is r.3.rank_is r.4 c.args.seams r.3.seams in
    subst (λ (k : ℕ). ends c.args.seams.front 1 + ends c.args.seams.back 1 ≤ k) (sym (ap length r.3.texts_are)) f

pub place-requires-clause-comes : goal.place-requires-clause-comes
place-requires-clause-comes g c =
    let r = c.requires.comes in
    let a = c.args.store.now in
    let j = c.in_ok-joined.joined in
    let e = c.in_ok-joined.ensures in (
      r.0,
      left_trees a r.0 r.2 c.args.number c.args.rank r.1 r.3.edit_is r.3.rank_is r.4,
      r.2,
      may-join a r.0 r.2 c.args.number c.args.rank r.1 r.3.edit_is r.3.rank_is r.4 c.args.seams r.3.seams c.args.coded r.3.code r.3.texts_are r.3.small j e.front e.back e.body e.rest,
    )

pub returns-clause-store : goal.returns-clause-store
returns-clause-store g c =
    on_ok_weaker c.place.result (λ told t F i M apart.
    let a = c.args.store.now in
    let j = c.in_ok-joined.joined in
    let e = c.in_ok-joined.ensures in
    let n = c.args.number in
    let join = may-join a t i n c.args.rank F M.edit_is M.rank_is apart c.args.seams M.seams c.args.coded M.code M.texts_are M.small j e.front e.back e.body e.rest in
    subst (IsStoreFor c.place.new.store) (comes-to a t i n c.args.rank F M.edit_is M.rank_is apart c.args.seams M.seams c.args.coded M.code M.texts_are M.small j e.front e.back e.body e.rest)
    (told t (left_trees a t i n c.args.rank F M.edit_is M.rank_is apart) i join)) c.place.ensures.store

pub returns-clause-size : goal.returns-clause-size
returns-clause-size g c =
    let r = c.requires.comes in
    let a = c.args.store.now in
    let j = c.in_ok-joined.joined in
    let e = c.in_ok-joined.ensures in
    let n = c.args.number in
    let left = left_trees a r.0 r.2 n c.args.rank r.1 r.3.edit_is r.3.rank_is r.4 in
    let join = may-join a r.0 r.2 n c.args.rank r.1 r.3.edit_is r.3.rank_is r.4 c.args.seams r.3.seams c.args.coded r.3.code r.3.texts_are r.3.small j e.front e.back e.body e.rest in
    let fewer : node_count_all (trees left) ≤ node_count_all (trees r.1) = rest-fewer (front_value r.0 n r.1) (back_value r.0 n r.1) r.1 in
    on_ok_weaker c.place.result (λ told. omega (arith, told, fewer, code-real a.names left j.rest.body join.code, code-real a.names r.1 c.args.coded.body r.3.code)) c.place.ensures.size
