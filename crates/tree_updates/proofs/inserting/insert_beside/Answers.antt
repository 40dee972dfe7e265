use Rattle.std.proofs.Common.{◌≡◌, ◌*◌, List, ap, sym, ◌∙◌, subst, arith}
use Rattle.std.proofs.lemmas.Result.{err_from_is_err_and}
use Rattle.plain_tree.specs.declared.edit.Edit.TheVariants.{Insert}
use Rattle.plain_tree.specs.Edits.{merged}
use Rattle.plain_tree.specs.NodePairs.{Pair, pairs_of_trees}
use Rattle.plain_tree.specs.Tree.{none, more, trees, node_count_all}
use Rattle.slt_grammar.specs.Grammars.{size}
use Rattle.slt_grammar.specs.Keyed.{Keyed, KeyedRule, rules_of}
use Rattle.slt_grammar.specs.Ranks.{greatest_rank}
use Rattle.slt_grammar.specs.declared.level.Level.{Level}
use Rattle.text_list.specs.RoomyTexts.{RoomyTexts}
use Rattle.fcns_encoding.specs.Interning.{Interns}
use Rattle.preorder_address.specs.Spots.{IsSpot}
use Rattle.tree_updates.specs.declared.store.EditError.TheVariants.{Memory}
use Rattle.tree_updates.proofs.CodeBodies.{code-real}
use Rattle.tree_updates.proofs.InsertedEdits.{doubled-more, may-insert, refused-coded, refused-some, too-many}
use Rattle.tree_updates.proofs.NodeExtents.{spot-low}
use Rattle.tree_updates.proofs.Ranks.{rank-told}
use Rattle.tree_updates.proofs.SpareNodes.{insert-some}
use Rattle.tree_updates.proofs.StoreLemmas.{refused-there}
use Rattle.tree_updates.proofs.Texts.{rank_in}
use Rattle.preorder_address.specs.Marks.{AreMarks}
use Rattle.start_fronts.specs.Moved.{MovesBefore}
use Rattle.segment_counts.specs.Counting.{AreCounts}
use Rattle.segment_counts.specs.Weights.{node_weight}
use Rattle.tree_updates.specs.Fronts.{first_keys}
use Rattle.tree_updates.proofs.AppliedMarks.{names-same}
use Rattle.tree_updates.proofs.inserting.insert_beside.Goals as goal

pub find_seams-requires-clause-behind : goal.find_seams-requires-clause-behind
find_seams-requires-clause-behind g c = let r = c.requires.store in insert-some r.0 c.args.number c.args.fragment.now r.2

pub returns-in_err-seams-clause-applies : goal.returns-in_err-seams-clause-applies
returns-in_err-seams-clause-applies g c =
    let p = err_from_is_err_and c.from_residual.result c.from_residual.ensures.1 in
    rw (p.1, p.2) (λ t i allowed. refused-there t (Insert c.args.number c.args.fragment.now) Memory c.args.store.now tt i)

pub returns-in_err-fits-clause-applies : goal.returns-in_err-fits-clause-applies
returns-in_err-fits-clause-applies g c =
    let p = err_from_is_err_and c.from_residual-in_err-fits.result c.from_residual-in_err-fits.ensures.1 in
    rw (p.1, p.2) (λ t i allowed. refused-there t (Insert c.args.number c.args.fragment.now) Memory c.args.store.now tt i)

pub returns-then-not-branch-clause-applies : goal.returns-then-not-branch-clause-applies
returns-then-not-branch-clause-applies g c = λ t i allowed.
    let s = c.args.store.now in
    let n = c.args.number in
    let low = spot-low s.names s.grammar.rules t n c.args.spot.now i.stand.code c.requires.spot in
    too-many s t i n c.args.fragment.now allowed c.requires.fragment (rank_in n (more t none)) (sym (rank-told t n low)) c.in_ok-seams.seams (c.in_ok-seams.ensures.seams t i) c.in_ok-fits.field-0 (c.in_ok-fits.ensures t i) c.if-not-branch.true

pub put_fragment-requires-clause-comes : goal.put_fragment-requires-clause-comes
put_fragment-requires-clause-comes g c =
    let s = c.args.store.now in
    let r = c.requires.store in
    let n = c.args.number in
    let ranked = c.text_rank-rank.ensures s.names s.grammar.rules n r.0 c.requires.spot r.1.stand.code in (
      r.0,
      c.args.fragment.now,
      c.encode_in.ensures.store r.0 r.1,
      may-insert s r.0 r.1 n c.args.fragment.now r.2 c.requires.fragment c.text_rank-rank.result ranked c.in_ok-seams.seams (c.in_ok-seams.ensures.seams r.0 r.1) c.in_ok-fits.field-0 (c.in_ok-fits.ensures r.0 r.1) c.if-not-branch.false
          c.encode_in.new.store c.in_ok-coded.coded c.in_ok-coded.ensures.code c.in_ok-coded.ensures.values,
    )

pub put_fragment-requires-clause-spot : goal.put_fragment-requires-clause-spot
put_fragment-requires-clause-spot g c =
    let s = c.args.store.now in
    (s.names, subst (λ (k : Keyed). IsSpot s.names k.rules c.args.number c.args.spot.now) (sym c.encode_in.ensures.grammar) c.requires.spot)

pub returns-in_err-put_fragment-clause-applies : goal.returns-in_err-put_fragment-clause-applies
returns-in_err-put_fragment-clause-applies g c =
    let s = c.args.store.now in
    let F = trees c.args.fragment.now in
    let p = err_from_is_err_and c.from_residual-in_err-put_fragment.result c.from_residual-in_err-put_fragment.ensures.1 in
    rw (p.1, p.2) (λ t i allowed.
    refused-coded s t i c.args.number c.args.fragment.now allowed c.requires.fragment c.put_fragment.new.store
    (subst (λ (ps : List Pair). Interns s.names (pairs_of_trees (trees c.args.fragment.now)) ps) (sym c.put_fragment.ensures.names) c.in_ok-coded.ensures.names)
    (c.in_err-put_fragment.ensures.kept t (c.encode_in.ensures.store t i)) (ap rules_of (c.in_err-put_fragment.ensures.rules ∙ ap (λ (k : Keyed). k.rules) c.encode_in.ensures.grammar))
    (c.in_err-put_fragment.ensures.texts ∙ ap (λ (x : RoomyTexts). x.texts) c.encode_in.ensures.texts))

pub returns-clause-applies : goal.returns-clause-applies
returns-clause-applies g c = λ t i allowed.
    let s = c.args.store.now in
    let n = c.args.number in
    let F = c.args.fragment.now in
    let coded = c.in_ok-coded.coded in
    let ranked = c.text_rank-rank.ensures s.names s.grammar.rules n t c.requires.spot i.stand.code in
    let come = may-insert s t i n F allowed c.requires.fragment c.text_rank-rank.result ranked c.in_ok-seams.seams (c.in_ok-seams.ensures.seams t i) c.in_ok-fits.field-0 (c.in_ok-fits.ensures t i) c.if-not-branch.false
    c.encode_in.new.store coded c.in_ok-coded.ensures.code c.in_ok-coded.ensures.values in
    record {
      allowed = allowed;
      store = c.in_ok-put_fragment.ensures.store t F (c.encode_in.ensures.store t i) come;
      names = subst (λ (ps : List Pair). Interns s.names (pairs_of_trees (trees F)) ps) (sym c.put_fragment.ensures.names) c.in_ok-coded.ensures.names;
      ranks = omega (arith, c.in_ok-put_fragment.ensures.ranks, ap (λ (k : Keyed). greatest_rank (rules_of k.rules)) c.encode_in.ensures.grammar);
      size = doubled-more (size (rules_of s.grammar.rules)) (size (rules_of c.put_fragment.new.store.grammar.rules)) (merged t (Insert n F)) (2 * node_count_all (trees F))
          (omega (arith, c.in_ok-put_fragment.ensures.size, code-real c.encode_in.new.store.names F coded.body c.in_ok-coded.ensures.code, ap (λ (k : Keyed). size (rules_of k.rules)) c.encode_in.ensures.grammar));
    }

pub returns-in_err-coded-clause-marks : goal.returns-in_err-coded-clause-marks
returns-in_err-coded-clause-marks g c =
    subst (λ (k : Keyed). AreMarks c.args.store.now.names k.rules c.find_seams.new.marks) (sym c.encode_in.ensures.grammar) c.find_seams.ensures.marks

pub returns-in_err-put_fragment-clause-marks : goal.returns-in_err-put_fragment-clause-marks
returns-in_err-put_fragment-clause-marks g c =
    subst (λ (R : List KeyedRule). AreMarks c.args.store.now.names R c.find_seams.new.marks) (sym (c.in_err-put_fragment.ensures.rules ∙ ap (λ (k : Keyed). k.rules) c.encode_in.ensures.grammar)) c.find_seams.ensures.marks

pub returns-clause-marks : goal.returns-clause-marks
returns-clause-marks g c =
    let s = c.args.store.now in
    let r = c.requires.store in
    let n = c.args.number in
    let F = c.args.fragment.now in
    let after = c.put_fragment.new.store in
    let H : List KeyedRule = after.grammar.rules in
    let gone = first_keys c.args.spot.now.levels.items in
    let lawful = c.limit-limit.ensures.keyed.grammar in
    let ranked = c.text_rank-rank.ensures s.names s.grammar.rules n r.0 c.requires.spot r.1.stand.code in
    let come = may-insert s r.0 r.1 n F r.2 c.requires.fragment c.text_rank-rank.result ranked c.in_ok-seams.seams (c.in_ok-seams.ensures.seams r.0 r.1) c.in_ok-fits.field-0 (c.in_ok-fits.ensures r.0 r.1) c.if-not-branch.false
    c.encode_in.new.store c.in_ok-coded.coded c.in_ok-coded.ensures.code c.in_ok-coded.ensures.values in
    let stored = c.in_ok-put_fragment.ensures.store r.0 F (c.encode_in.ensures.store r.0 r.1) come in
    let grown = subst (λ (ps : List Pair). Interns s.names (pairs_of_trees (trees F)) ps) (sym c.put_fragment.ensures.names) c.in_ok-coded.ensures.names in
    let moves = subst (λ (k : Keyed). MovesBefore node_weight gone n k.rules H) c.encode_in.ensures.grammar c.in_ok-put_fragment.ensures.moves in
    c.move_marks.ensures s.names s.grammar.rules (λ few.
    let none : after.names ≡ s.names = names-same s.names (pairs_of_trees (trees F)) after.names grown (omega (arith, few, c.len-named.ensures.value)) in (
      c.find_seams.ensures.marks,
      subst (λ (ls : List Level). MovesBefore node_weight (first_keys ls) n s.grammar.rules H) (sym c.levels-levels.ensures) moves,
      c.whole_weights-had.ensures s.names s.grammar.rules r.1.counts lawful,
      subst (λ (ns : List Pair). AreCounts ns (rules_of H) after.counts) none stored.counts,
    ))

pub returns-in_err-coded-clause-applies : goal.returns-in_err-coded-clause-applies
returns-in_err-coded-clause-applies g c =
    let s = c.args.store.now in
    let k = c.in_err-coded.ensures.refused in
    let p = err_from_is_err_and c.from_residual-in_err-coded.result c.from_residual-in_err-coded.ensures.1 in
    rw (p.1, p.2) (λ t i allowed.
    refused-some s t i c.args.number c.args.fragment.now allowed c.requires.fragment c.encode_in.new.store k.0 k.1 (c.encode_in.ensures.store t i) (ap (λ (h : Keyed). rules_of h.rules) c.encode_in.ensures.grammar)
    (ap (λ (x : RoomyTexts). x.texts) c.encode_in.ensures.texts))
