use Rattle.tree_updates.proofs.valuing.set_value.Goals as goal

pub put_value-requires-clause-store : goal.put_value-requires-clause-store
put_value-requires-clause-store g c = let r = c.requires.store in (r.0, r.1, c.in_ok-rank.ensures.allowed r.0 r.1, c.in_ok-rank.ensures.rank r.0 r.1)

pub returns-clause-applies : goal.returns-clause-applies
returns-clause-applies g c = λ t i. c.put_value.ensures.applies t i (c.in_ok-rank.ensures.allowed t i) (c.in_ok-rank.ensures.rank t i)
