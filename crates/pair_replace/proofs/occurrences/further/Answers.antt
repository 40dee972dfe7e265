use Rattle.std.proofs.Common.{sym, ◌∙◌}
use Rattle.pair_replace.proofs.NextFolds.{kid-stands}
use Rattle.pair_replace.proofs.occurrences.further.Goals as goal

pub item-requires-2 : goal.item-requires-2
item-requires-2 c =
    kid-stands c.args.grammar.now c.limit-limit.ensures.keyed c.args.lower c.requires.0 c.requires.1 c.item.result.kids c.in_ok-child.child c.in_ok-next.next c.item.ensures.kids (sym c.get.ensures ∙ c.in_ok-next.was)
