use Rattle.std.proofs.Common.{◌≡◌, ◌∙◌, ap}
use Rattle.rule_runs.proofs.falling.hand_back.Goals as goal

pub returns-clause-entered : goal.returns-clause-entered
returns-clause-entered g c =
    let handed : c.deref.result.now ≡ c.args.frame.now.handed.items = c.deref.ensures.value ∙ ap (λ f. f.handed.items) c.replace-done.ensures.value in
    λ lists s ms ss. rw (handed, c.close.ensures.top, c.replace-done.ensures.after) at (c.in_ok-enter_call.ensures.entered lists s ms ss)
