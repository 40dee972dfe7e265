use Rattle.std.proofs.Common.{sym, ◌∙◌}
use Rattle.std.proofs.lemmas.Result.{err_from_is_err_and}
use Rattle.xpath_parser.specs.Shown.{paths_of}
use Rattle.store_core.specs.StoreOf.{parts_of}
use Rattle.store_core.proofs.Asked.{answered-asked, query_refused}
use Rattle.store_core.proofs.Comparisons.{coded-marked, coded-plain, few-compared, has-selected, lines-found, reads-marked, reads-plain}
use Rattle.store_core.proofs.selecting.select.Goals as goal
use Rattle.store_core.proofs.selecting.select.Goals.{then-compares+in_ok-found, else-compares+in_ok-found-2}

pub returns-in_err-query-clause-refused : goal.returns-in_err-query-clause-refused
returns-in_err-query-clause-refused g c =
    let p = err_from_is_err_and c.from_residual.result c.from_residual.ensures.1 in
    rw (p.1, p.2) (λ act old new answered held. query_refused c.in_err-query.field-0.0 act c.args.text.now (parts_of c.args.store.now) old new c.in_err-query.ensures.refused (answered-asked act c.args.text.now answered) held)

pub run_marked-requires-clause-few : goal.run_marked-requires-clause-few
run_marked-requires-clause-few g c =
    rw c.literals.ensures (few-compared c.args.text.now (parts_of c.args.store.now) c.in_ok-selector.selector c.in_ok-selector.ensures c.spells_one.ensures (paths_of c.in_ok-query.query.paths) c.in_ok-query.ensures.reading)

pub returns-in_err-found-clause-reads : goal.returns-in_err-found-clause-reads
returns-in_err-found-clause-reads g c =
    let of = c.in_ok-selector.ensures in
    reads-marked c.args.text.now (parts_of c.args.store.now) c.in_ok-selector.selector of c.spells_one.ensures (paths_of c.in_ok-query.query.paths) c.in_ok-query.ensures.reading c.args.steps.now c.run_marked.new.steps (sym c.compares.ensures ∙ c.if-compares.true)
    (rw c.literals.ensures at c.in_err-found.ensures.reads _ _ of.states)

pub returns-in_err-found-2-clause-reads : goal.returns-in_err-found-2-clause-reads
returns-in_err-found-2-clause-reads g c =
    let of = c.in_ok-selector.ensures in
    reads-plain c.args.text.now (parts_of c.args.store.now) c.in_ok-selector.selector of c.spells_one.ensures (paths_of c.in_ok-query.query.paths) c.in_ok-query.ensures.reading c.args.steps.now c.run_plain.new.steps (c.in_err-found-2.ensures.reads _ _ of.states)

pub returns-clause-selects : goal.returns-clause-selects
returns-clause-selects g c = λ tree w held stand.
    let parts = parts_of c.args.store.now in
    let of = c.in_ok-selector.ensures in
    let meant = paths_of c.in_ok-query.query.paths in
    let reading = c.in_ok-query.ensures.reading in
    elim c.if-compares.branch [
      | then-compares+in_ok-found b ↦
          rw b.found-is
          (has-selected c.args.text.now parts c.in_ok-selector.selector of tree w _ c.args.listed b.in_ok-found.found held stand (coded-marked c.args.text.now parts c.in_ok-selector.selector of c.spells_one.ensures meant reading tree stand) (rw b.literals.ensures at b.in_ok-found.ensures.finds))
      | else-compares+in_ok-found-2 b ↦
          rw b.found-is
          (has-selected c.args.text.now parts c.in_ok-selector.selector of tree w _ c.args.listed b.in_ok-found-2.found held stand
          (coded-plain c.args.text.now parts c.in_ok-selector.selector of c.spells_one.ensures meant reading (sym c.compares.ensures ∙ b.if-compares.false) tree stand) b.in_ok-found-2.ensures.finds)
    ]

pub returns-clause-lines : goal.returns-clause-lines
returns-clause-lines g c = λ tree stand.
    let parts = parts_of c.args.store.now in
    elim c.if-compares.branch [
      | then-compares+in_ok-found b ↦ rw b.found-is (lines-found parts tree _ c.args.listed b.in_ok-found.found stand b.in_ok-found.ensures.finds)
      | else-compares+in_ok-found-2 b ↦ rw b.found-is (lines-found parts tree _ c.args.listed b.in_ok-found-2.found stand b.in_ok-found-2.ensures.finds)
    ]

pub returns-clause-reads : goal.returns-clause-reads
returns-clause-reads g c =
    let parts = parts_of c.args.store.now in
    let of = c.in_ok-selector.ensures in
    let meant = paths_of c.in_ok-query.query.paths in
    let reading = c.in_ok-query.ensures.reading in
    elim c.if-compares.branch [
      | then-compares+in_ok-found b ↦
          rw b.steps-is
          (reads-marked c.args.text.now parts c.in_ok-selector.selector of c.spells_one.ensures meant reading c.args.steps.now b.run_marked.new.steps (sym c.compares.ensures ∙ b.if-compares.true) (rw b.literals.ensures at b.in_ok-found.ensures.reads _ _ of.states))
      | else-compares+in_ok-found-2 b ↦
          rw b.steps-is (reads-plain c.args.text.now parts c.in_ok-selector.selector of c.spells_one.ensures meant reading c.args.steps.now b.run_plain.new.steps (b.in_ok-found-2.ensures.reads _ _ of.states))
    ]
