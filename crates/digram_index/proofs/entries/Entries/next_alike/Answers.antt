use Rattle.digram_index.proofs.NextAlike.{next-spot}
use Rattle.digram_index.proofs.SpotLemmas.{spot-some}
use Rattle.digram_index.proofs.entries.Entries.next_alike.Goals as goal

pub next_in-requires : goal.next_in-requires
next_in-requires c =
    let s = rw (← c.self.view_is) at c.requires in
    spot-some c.self.inside.patterns.patterns c.self.inside.counts.items c.self.inside.occurrences c.self.inside.uppers c.self.inside.ranking c.self.invariant c.args.lower s

pub returns : goal.returns
returns c =
    let s = rw (← c.self.view_is) at c.requires in
    rw (← c.self.view_is) (
    next-spot c.self.inside.patterns.patterns c.self.inside.counts.items c.self.inside.occurrences c.self.inside.uppers c.self.inside.ranking c.self.invariant c.args.lower
    (spot-some c.self.inside.patterns.patterns c.self.inside.counts.items c.self.inside.occurrences c.self.inside.uppers c.self.inside.ranking c.self.invariant c.args.lower s) c.next_in.result c.next_in.ensures)
