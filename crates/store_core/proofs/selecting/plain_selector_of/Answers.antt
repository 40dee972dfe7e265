use Rattle.std.proofs.Common.{ap, sym, ◌∙◌}
use Rattle.std.proofs.lemmas.Result.{err_from_is_err_and}
use Rattle.xpath_parser.specs.Comparing.{paths_compare}
use Rattle.store_core.proofs.Asked.{no-plain-query}
use Rattle.store_core.proofs.selecting.plain_selector_of.Goals as goal

pub returns-in_err-query-clause-refused : goal.returns-in_err-query-clause-refused
returns-in_err-query-clause-refused c =
    let p = err_from_is_err_and c.from_residual.result c.from_residual.ensures.1 in
    rw (p.1, p.2) (no-plain-query c.in_err-query.field-0.0 c.args.text.now c.in_err-query.ensures.refused)

pub returns-then-compares-clause-refused : goal.returns-then-compares-clause-refused
returns-then-compares-clause-refused c =
    let r = c.in_ok-query.ensures.reading in
    (r.paths, r.spelled, r.within, sym (ap paths_compare r.means) ∙ sym c.compares.ensures ∙ c.if-compares.true)

pub returns-clause-selector : goal.returns-clause-selector
returns-clause-selector c =
    let r = c.in_ok-query.ensures.reading in
    let of = c.in_ok-selector.ensures in
    let same = (c.spells_one.ensures c.args.text.now r.paths of.paths r.spelled of.spelled).0 in
    record { of = of; plain = sym (ap paths_compare (r.means ∙ same)) ∙ sym c.compares.ensures ∙ c.if-compares.false }
