use Rattle.std.proofs.Common.{ap, subst, ◌∙◌, map, arith}
use Rattle.std.proofs.lemmas.List.{length-map}
use Rattle.content_models.specs.Compiled.{AddsAll, sort_of}
use Rattle.content_models.specs.Rules.{rule_of, rules_of}
use Rattle.content_models.specs.Ways.{to_end, way_of}
use Rattle.content_models.proofs.Compiles.{checks}
use Rattle.content_models.proofs.schema.Schema.compile.Goals as goal

pub returns : goal.returns
returns c =
    let own = c.args.self.now in
    let few = own.few in
    let names = c.args.names.now in
    let two = ap (map rule_of) c.deref-2.ensures.value in
    checks (rules_of own) names (record { sorts = c.in_ok-sorts.sorts.items; fronts = c.in_ok-fronts.fronts.items; rows = c.add_models.new.rows.items }) c.in_ok-rows.rows.items c.len.result
    (omega (arith, length-map own.declarations.items rule_of, few))
    (c.in_ok-sorts.ensures ∙ ap (λ S. map (λ pair. sort_of S pair.0 pair.1) names) (ap (map rule_of) c.deref.ensures.value))
    (c.in_ok-fronts.ensures.fronts ∙ ap (map (λ pair. way_of 0 pair.1 to_end)) two)
    c.in_ok-rows.ensures
    (subst (λ S. AddsAll names S c.in_ok-rows.rows.items c.add_models.new.rows.items) two c.in_ok-fronts.ensures.added)
