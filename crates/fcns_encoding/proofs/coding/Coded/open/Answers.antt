use Rattle.fcns_encoding.proofs.InternLemmas.{interned, on-err}
use Rattle.fcns_encoding.proofs.coding.Coded.open.Goals as goal

pub returns-in_err-push-clause-refused : goal.returns-in_err-push-clause-refused
returns-in_err-push-clause-refused c = on-err c.from_residual-in_err-push.result (1, interned _ _ _ _ _ c.as_slice.ensures c.in_ok-symbol.ensures.kept c.in_ok-symbol.ensures.added)

pub returns-in_err-value-clause-refused : goal.returns-in_err-value-clause-refused
returns-in_err-value-clause-refused c = on-err c.from_residual-in_err-value.result (1, interned _ _ _ _ _ c.as_slice.ensures c.in_ok-symbol.ensures.kept c.in_ok-symbol.ensures.added)

pub returns-in_err-push-2-clause-refused : goal.returns-in_err-push-2-clause-refused
returns-in_err-push-2-clause-refused c = on-err c.from_residual-in_err-push-2.result (1, interned _ _ _ _ _ c.as_slice.ensures c.in_ok-symbol.ensures.kept c.in_ok-symbol.ensures.added)

pub returns-in_ok-push-2-clause-names : goal.returns-in_ok-push-2-clause-names
returns-in_ok-push-2-clause-names c = interned _ _ _ _ _ c.as_slice.ensures c.in_ok-symbol.ensures.kept c.in_ok-symbol.ensures.added

pub returns-else-has_value-clause-names : goal.returns-else-has_value-clause-names
returns-else-has_value-clause-names c = interned _ _ _ _ _ c.as_slice.ensures c.in_ok-symbol.ensures.kept c.in_ok-symbol.ensures.added
