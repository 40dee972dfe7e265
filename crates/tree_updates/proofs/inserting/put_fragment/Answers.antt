use Rattle.std.proofs.Common.{◌≡◌, true, sym, ◌∙◌, arith}
use Rattle.std.proofs.Math.Bool.{true≢false}
use Rattle.std.proofs.lemmas.Result.{on_ok_weaker}
use Rattle.plain_tree.specs.Tree.{trees, node_count_all}
use Rattle.tree_updates.proofs.CodeBodies.{code-length}
use Rattle.tree_updates.proofs.InsertedCounts.{between, not-between}
use Rattle.tree_updates.proofs.inserting.put_fragment.Goals as goal

pub join_three-requires : goal.join_three-requires
join_three-requires g c =
    let r = c.requires.comes in
    let a = c.args.store.now in
    let w = c.is_one_between.ensures.0 c.if-is_one_between.true in
    let one : node_count_all (trees r.1) ≡ 1 = omega (arith, c.len.ensures, w.1.1, code-length a.names r.1 c.args.coded.body r.3.code) in
    record { spot = c.requires.spot; between = (r.0, r.1, r.2, between a r.0 r.2 c.args.number c.args.rank r.1 r.3.edit_is r.3.rank_is c.args.seams r.3.seams one w.0 w.1.0 c.args.coded.texts r.3.texts_are) }

pub returns-then-is_one_between-clause-store : goal.returns-then-is_one_between-clause-store
returns-then-is_one_between-clause-store g c =
    on_ok_weaker c.join_three.result (λ told t F i M.
    let a = c.args.store.now in
    let w = c.is_one_between.ensures.0 c.if-is_one_between.true in
    let one : node_count_all (trees F) ≡ 1 = omega (arith, c.len.ensures, w.1.1, code-length a.names F c.args.coded.body M.code) in
    told t F i (between a t i c.args.number c.args.rank F M.edit_is M.rank_is c.args.seams M.seams one w.0 w.1.0 c.args.coded.texts M.texts_are)) c.join_three.ensures.store

pub place_coded-requires-clause-comes : goal.place_coded-requires-clause-comes
place_coded-requires-clause-comes g c =
    let r = c.requires.comes in
    let a = c.args.store.now in
    let M = r.3 in
    let no = λ (one : node_count_all (trees r.1) ≡ 1) (f : c.args.seams.front ≡ true) (b : c.args.seams.back ≡ true).
    absurd (true≢false (sym (c.is_one_between.ensures.1 (f, (b, omega (arith, c.len.ensures, one, code-length a.names r.1 c.args.coded.body M.code)))) ∙ c.if-is_one_between.false)) in
    (r.0, r.1, r.2, M, not-between a r.0 r.2 c.args.number c.args.rank r.1 M.edit_is M.rank_is c.args.seams M.seams no)

pub returns-clause-store : goal.returns-clause-store
returns-clause-store g c =
    on_ok_weaker c.place_coded.result (λ told t F i M.
    let a = c.args.store.now in
    let no = λ (one : node_count_all (trees F) ≡ 1) (f : c.args.seams.front ≡ true) (b : c.args.seams.back ≡ true).
    absurd (true≢false (sym (c.is_one_between.ensures.1 (f, (b, omega (arith, c.len.ensures, one, code-length a.names F c.args.coded.body M.code)))) ∙ c.if-is_one_between.false)) in
    told t F i M (not-between a t i c.args.number c.args.rank F M.edit_is M.rank_is c.args.seams M.seams no)) c.place_coded.ensures.store
