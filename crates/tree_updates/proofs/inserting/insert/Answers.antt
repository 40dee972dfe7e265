use Rattle.tree_updates.proofs.inserting.insert.Goals as goal

pub insert_beside-requires-clause-store : goal.insert_beside-requires-clause-store
insert_beside-requires-clause-store g c = let r = c.requires.store in (r.0, r.1, c.in_ok-spot.ensures.answer r.0 r.1)

pub returns-clause-applies : goal.returns-clause-applies
returns-clause-applies g c = λ t i. c.insert_beside.ensures.applies t i (c.in_ok-spot.ensures.answer t i)
