use Rattle.digram_index.specs.Linked.{cell}
use Rattle.pair_replace.proofs.ChainLemmas.{some-cell, occurs-told}
use Rattle.pair_replace.proofs.occurrences.occurs.Goals as goal

pub read-requires : goal.read-requires
read-requires c =
    let s = some-cell (cell c.args.index.now c.args.lower.number) c.if-not-is_linked.ensures in
    (s.0, c.requires c.args.lower s.0 s.1)

pub returns : goal.returns
returns c =
    let s = some-cell (cell c.args.index.now c.args.lower.number) c.if-not-is_linked.ensures in
    occurs-told c.args.index.now c.args.lower.number s.0 c.read.result.0 c.args.digram c.eq.result s.1 (c.read.ensures.digram s.0 (c.requires c.args.lower s.0 s.1)) c.eq.ensures
