use Rattle.bulk_rewrite.proofs.making.open.Goals as goal

pub returns-clause-stands : goal.returns-clause-stands
returns-clause-stands g c = λ ts. rw c.replace-waits.ensures.after (c.in_ok-inner.ensures.stands ts)
