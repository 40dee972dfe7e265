use Rattle.std.proofs.Common.{sym}
use Rattle.digram_index.proofs.RootClimbs.{climbs-on, marked-in-start}
use Rattle.digram_index.proofs.roots.stands_in_start.Goals as goal

pub loop-here-smaller : goal.loop-here-smaller
loop-here-smaller c =
    (climbs-on c.args.grammar.now c.limit-limit.ensures.keyed c.args.key c.loop-here.here c.loop-here.invariant c.site.result.parent c.site.ensures.parent c.in-Some.upper c.in-Some.field-0-1 c.in-Some.is).1

pub loop-here-preserved : goal.loop-here-preserved
loop-here-preserved c =
    (climbs-on c.args.grammar.now c.limit-limit.ensures.keyed c.args.key c.loop-here.here c.loop-here.invariant c.site.result.parent c.site.ensures.parent c.in-Some.upper c.in-Some.field-0-1 c.in-Some.is).0

pub returns : goal.returns
returns c = λ _. marked-in-start c.args.grammar.now c.limit-limit.ensures.keyed c.args.key c.loop-here.here c.loop-here.invariant c.args.index.now c.requires.marked (sym c.loop-here-test.ensures.value)
