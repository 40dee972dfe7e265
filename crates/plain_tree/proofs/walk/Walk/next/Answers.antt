use Rattle.plain_tree.proofs.WalkLemmas.{left_in-append}
use Rattle.plain_tree.proofs.walk.Walk.next.Goals as goal

pub returns-in_ok-push-in-Some-clause-ok : goal.returns-in_ok-push-in-Some-clause-ok
returns-in_ok-push-in-Some-clause-ok c =
    rw (c.in_ok-push-in-Some.ensures.items, left_in-append, c.inside-self-inside-in-Some.ensures, ← c.self.view_is, c.in-Inside.is, c.in-Some.ensures.cases.0)
