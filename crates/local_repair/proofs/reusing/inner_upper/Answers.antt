use Rattle.local_repair.proofs.Reuses.{parent-stands}
use Rattle.local_repair.proofs.reusing.inner_upper.Goals as goal

pub site-requires-2 : goal.site-requires-2
site-requires-2 c =
    let S = parent-stands c.args.grammar.now c.limit-limit.ensures.keyed c.args.lower c.requires c.site.result.parent c.site.ensures.parent c.in_ok-upper.upper c.in_ok-upper.field-0-1 c.in_ok-upper.was in
    (S.rule, S.place, S.there)

pub returns : goal.returns
returns c = parent-stands c.args.grammar.now c.limit-limit.ensures.keyed c.args.lower c.requires c.site.result.parent c.site.ensures.parent c.in_ok-upper.upper c.in_ok-upper.field-0-1 c.in_ok-upper.was
