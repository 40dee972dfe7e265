use Rattle.local_repair.proofs.Reuses.{parent-stands}
use Rattle.local_repair.proofs.reusing.match_rule.Goals as goal

pub site-requires-else-eq : goal.site-requires-else-eq
site-requires-else-eq c =
    let S = parent-stands c.args.grammar.now c.limit-limit.ensures.keyed c.args.node c.requires.node c.site.result.parent c.site.ensures.parent c.in_ok-root.root c.in_ok-root.field-0-1 c.in_ok-root.was in
    (S.rule, S.place, S.there)
