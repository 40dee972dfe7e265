use Rattle.std.proofs.Common.{List, ap, sym, ◌∙◌, subst, arith}
use Rattle.plain_tree.specs.declared.edit.Edit.TheVariants.{Delete}
use Rattle.plain_tree.specs.Edits.{merged}
use Rattle.slt_grammar.specs.Grammars.{size}
use Rattle.slt_grammar.specs.Keyed.{KeyedRule, rules_of}
use Rattle.slt_grammar.specs.Ranks.{greatest_rank}
use Rattle.tree_updates.specs.Stores.{IsStoreFor}
use Rattle.tree_updates.proofs.LeavingDocuments.{doubled, leaves, unswept}
use Rattle.plain_tree.specs.NodePairs.{Pair}
use Rattle.slt_grammar.specs.declared.level.Level.{Level}
use Rattle.start_fronts.specs.Moved.{MovesBefore}
use Rattle.segment_counts.specs.Counting.{AreCounts}
use Rattle.segment_counts.specs.Weights.{node_weight}
use Rattle.preorder_address.specs.Marks.{AreMarks}
use Rattle.tree_updates.specs.Fronts.{first_keys}
use Rattle.tree_updates.proofs.deleting.delete_apart.Goals as goal

pub delete_plain-requires-clause-room : goal.delete_plain-requires-clause-room
delete_plain-requires-clause-room g c = omega (arith, c.in_ok-reserve_at.ensures.nodes)

pub delete_plain-requires-clause-links : goal.delete_plain-requires-clause-links
delete_plain-requires-clause-links g c = omega (arith, c.in_ok-reserve_at.ensures.links)

pub delete_plain-requires-clause-store : goal.delete_plain-requires-clause-store
delete_plain-requires-clause-store g c =
    let r = c.requires.store in
    (r.0, unswept c.reserve_at.new.store r.0 (c.reserve_at.ensures.store r.0 r.1), r.3, leaves r.0 r.1.stand.document (Delete c.args.number) r.2 tt)

pub returns-clause-applies : goal.returns-clause-applies
returns-clause-applies g c = λ t s allowed x same.
    let kept = unswept c.reserve_at.new.store t (c.reserve_at.ensures.store t s) in
    record {
      allowed = allowed;
      store = subst (IsStoreFor c.delete_plain.new.store) (sym same) (c.delete_plain.ensures.store t kept x (leaves t s.stand.document (Delete c.args.number) allowed tt));
      names = c.delete_plain.ensures.names ∙ c.reserve_at.ensures.names;
      ranks = omega (arith, c.delete_plain.ensures.ranks, ap (λ (G : List KeyedRule). greatest_rank (rules_of G)) c.reserve_at.ensures.rules);
      size = doubled (size (rules_of c.args.store.now.grammar.rules)) (size (rules_of c.delete_plain.new.store.grammar.rules)) (merged t (Delete c.args.number))
          (omega (arith, c.delete_plain.ensures.size, ap (λ (G : List KeyedRule). size (rules_of G)) c.reserve_at.ensures.rules));
    }

pub returns-in_err-reserve_at-clause-marks : goal.returns-in_err-reserve_at-clause-marks
returns-in_err-reserve_at-clause-marks g c =
    subst (λ (R : List KeyedRule). AreMarks c.args.store.now.names R c.args.marks.now) (sym c.reserve_at.ensures.rules) c.requires.marks

pub returns-clause-marks : goal.returns-clause-marks
returns-clause-marks g c =
    let s = c.args.store.now in
    let r = c.requires.store in
    let between = c.reserve_at.new.store in
    let after = c.delete_plain.new.store in
    let G : List KeyedRule = s.grammar.rules in
    let same = c.reserve_at.ensures.rules in
    let document = r.1.stand.document in
    let left = c.delete_plain.ensures.store r.0 (unswept between r.0 (c.reserve_at.ensures.store r.0 r.1)) r.3 (leaves r.0 document (Delete c.args.number) r.2 tt) in
    let moves = subst (λ (R : List KeyedRule). MovesBefore node_weight (first_keys c.args.spot.now.levels.items) c.args.number R after.grammar.rules) same c.delete_plain.ensures.moves in
    let had = subst (λ (ns : List Pair). AreCounts ns (rules_of between.grammar.rules) between.counts) c.reserve_at.ensures.names (c.reserve_at.ensures.store r.0 r.1).counts in
    let had_there = subst (λ (R : List KeyedRule). AreCounts s.names (rules_of R) between.counts) same had in
    let has = subst (λ (ns : List Pair). AreCounts ns (rules_of after.grammar.rules) after.counts) (c.delete_plain.ensures.names ∙ c.reserve_at.ensures.names) left.counts in
    c.move_marks.ensures s.names G (λ few.
    (c.requires.marks, subst (λ (ls : List Level). MovesBefore node_weight (first_keys ls) c.args.number G after.grammar.rules) (sym c.levels.ensures) moves, c.whole_weights-had.ensures s.names G had_there c.limit-limit.ensures.keyed.grammar, has))
