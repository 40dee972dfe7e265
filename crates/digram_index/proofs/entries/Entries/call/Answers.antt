use Rattle.std.proofs.Common.{length}
use Rattle.digram_index.proofs.ChainLemmas.{within}
use Rattle.digram_index.proofs.ChainSpots.{calling-held, calling-entry}
use Rattle.digram_index.proofs.PlainDigrams.{some-then, none-then}
use Rattle.digram_index.proofs.entries.Entries.call.Goals as goal

pub returns-in-Some-clause-some : goal.returns-in-Some-clause-some
returns-in-Some-clause-some c = rw (← c.self.view_is) (
    calling-held c.self.inside.patterns.patterns c.self.inside.counts.items c.self.inside.occurrences c.self.inside.uppers c.self.inside.ranking c.self.invariant
    c.args.number c.in-Some.found.0 c.in-Some.found.1 c.in-Some.ensures.some.0 c.in-Some.ensures.some.1)

pub returns-clause-some : goal.returns-clause-some
returns-clause-some c = rw (← c.self.view_is) (
    some-then _ _ c.live_caller-2.result
    (λ f h. calling-held c.self.inside.patterns.patterns c.self.inside.counts.items c.self.inside.occurrences c.self.inside.uppers c.self.inside.ranking c.self.invariant c.args.number f.0 f.1 h.0 h.1) c.live_caller-2.ensures.some)

pub returns-clause-none : goal.returns-clause-none
returns-clause-none c = rw (← c.self.view_is) (
    none-then _ _ c.live_caller-2.result
    (λ h k S.
    let E = calling-entry c.self.inside.patterns.patterns c.self.inside.counts.items c.self.inside.occurrences c.self.inside.uppers c.self.inside.ranking c.self.invariant c.args.number k S in
    let L = c.latest_caller-latest.ensures in
    h (length c.self.inside.patterns.patterns) k E.0 L (within c.self.inside.patterns.patterns c.args.number E.0 E.1.1) E.1.1 E.1.0)
    c.live_caller-2.ensures.none)
