use Rattle.std.proofs.Common.{List, sym, subst}
use Rattle.preorder_address.specs.Marks.{AreMarks}
use Rattle.preorder_address.specs.declared.marks.Mark.{Mark}
use Rattle.tree_updates.proofs.AppliedMarks.{applies-marked, marked, names-grow, store-marked}
use Rattle.tree_updates.proofs.applying.apply.Goals as goal

pub make-result-requires-clause-store : goal.make-result-requires-clause-store
make-result-requires-clause-store g c = let r = c.requires.store in (r.0, store-marked c.args.store.now c.replace-marks.new.dest r.0 r.1)

pub returns-clause-applies : goal.returns-clause-applies
returns-clause-applies g c = λ t i.
    let s = c.args.store.now in
    let m = c.replace-marks.new.dest in
    applies-marked t c.args.edit.now s c.make-result.new.store m _ c.make-result.result (c.make-result.ensures.applies t (store-marked s m t i))

pub make-result-requires-clause-marks : goal.make-result-requires-clause-marks
make-result-requires-clause-marks g c =
    let s = c.args.store.now in
    subst (λ (m : List Mark). AreMarks s.names s.grammar.rules m) (sym c.replace-marks.ensures.value) c.requires.marks

pub returns-clause-marks : goal.returns-clause-marks
returns-clause-marks g c =
    let s = c.args.store.now in
    let r = c.requires.store in
    let new = c.make-result.new.store in
    let made = c.make-result.ensures.applies r.0 (store-marked s c.replace-marks.new.dest r.0 r.1) in
    let grown = names-grow r.0 c.args.edit.now (marked s c.replace-marks.new.dest) new c.make-result.result made in
    c.keep_where_named.ensures s.names new.grammar.rules (sym c.len-named.ensures.value) grown c.make-result.ensures.marks
