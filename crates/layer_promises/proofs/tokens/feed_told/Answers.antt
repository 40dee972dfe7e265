use Rattle.layer_promises.proofs.tokens.feed_told.Goals as goal

pub returns-clause-ready : goal.returns-clause-ready
returns-clause-ready g c = c.feed.ensures.ready

pub returns-clause-lenders : goal.returns-clause-lenders
returns-clause-lenders g c = c.feed.ensures.lenders

pub returns-clause-ok : goal.returns-clause-ok
returns-clause-ok g c = c.feed.ensures.ok

pub returns-clause-count : goal.returns-clause-count
returns-clause-count g c = c.feed.ensures.count

pub returns-clause-bad : goal.returns-clause-bad
returns-clause-bad g c = c.feed.ensures.bad

pub returns-clause-place : goal.returns-clause-place
returns-clause-place g c = c.feed.ensures.place
