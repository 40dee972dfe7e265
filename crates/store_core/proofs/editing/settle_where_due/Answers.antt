use Rattle.std.proofs.Common.{inl, inr, ap, refl, subst}
use Rattle.store_core.specs.Editing.{IsDue}
use Rattle.store_core.specs.declared.answer.Answer.TheVariants.{Nodes, Unsettled}
use Rattle.store_core.proofs.editing.settle_where_due.Goals as goal

pub returns-in-Ok-clause-kept : goal.returns-in-Ok-clause-kept
returns-in-Ok-clause-kept c = λ never. absurd (never (subst (IsDue c.args.settings) c.saturating_add-loaded.ensures (c.is_due.ensures.0 c.if-is_due.true)))

pub returns-in-Err-clause-kept : goal.returns-in-Err-clause-kept
returns-in-Err-clause-kept c = λ never. absurd (never (subst (IsDue c.args.settings) c.saturating_add-loaded.ensures (c.is_due.ensures.0 c.if-is_due.true)))

pub returns-in-Ok-clause-settled : goal.returns-in-Ok-clause-settled
returns-in-Ok-clause-settled c = λ t i.
    inr (inl (subst (IsDue c.args.settings) c.saturating_add-loaded.ensures (c.is_due.ensures.0 c.if-is_due.true), c.in-Ok.ensures.settled, refl, ap Nodes (c.nodes_of-count.ensures t i)))

pub returns-in-Err-clause-settled : goal.returns-in-Err-clause-settled
returns-in-Err-clause-settled c = λ t i.
    inr (inr (subst (IsDue c.args.settings) c.saturating_add-loaded.ensures (c.is_due.ensures.0 c.if-is_due.true), c.saturating_add-loaded.ensures, ap Unsettled (c.nodes_of-count.ensures t i)))
