use Rattle.store_core.proofs.repairing.settle_store.Goals as goal

pub refresh-requires-clause-store : goal.refresh-requires-clause-store
refresh-requires-clause-store c = let r = c.requires.store in (r.0, c.in_ok-settle_in_place.ensures.store r.0 r.1)

pub returns-clause-store : goal.returns-clause-store
returns-clause-store c = λ t i. c.refresh.ensures.store t (c.in_ok-settle_in_place.ensures.store t i)
