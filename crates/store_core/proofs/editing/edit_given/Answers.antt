use Rattle.std.proofs.Common.{refl}
use Rattle.std.proofs.lemmas.Result.{err_from_is_err_and}
use Rattle.store_core.specs.Acts.{Append, Attr, Insert, Value}
use Rattle.store_core.proofs.Edited.{fragment-not-read, gives-name, gives-none, value-not-read}
use Rattle.store_core.proofs.editing.edit_given.Goals as goal

pub returns-in_err-fragment_of-in-Insert-clause-refused : goal.returns-in_err-fragment_of-in-Insert-clause-refused
returns-in_err-fragment_of-in-Insert-clause-refused c =
    let p = err_from_is_err_and c.from_residual-in_err-fragment_of-in-Insert.result c.from_residual-in_err-fragment_of-in-Insert.ensures.1 in
    rw (p.1, p.2, c.in-Insert.is)
    (fragment-not-read c.in_err-fragment_of-in-Insert.field-0.0 (Insert c.in-Insert.number c.in-Insert.fragment.now) c.in-Insert.fragment.now refl c.in_err-fragment_of-in-Insert.ensures.refused)

pub returns-in_err-fragment_of-in-Append-clause-refused : goal.returns-in_err-fragment_of-in-Append-clause-refused
returns-in_err-fragment_of-in-Append-clause-refused c =
    let p = err_from_is_err_and c.from_residual-in_err-fragment_of-in-Append.result c.from_residual-in_err-fragment_of-in-Append.ensures.1 in
    rw (p.1, p.2, c.in-Append.is)
    (fragment-not-read c.in_err-fragment_of-in-Append.field-0.0 (Append c.in-Append.number c.in-Append.fragment.now) c.in-Append.fragment.now refl c.in_err-fragment_of-in-Append.ensures.refused)

pub returns-in_err-value_of-in-Value-clause-refused : goal.returns-in_err-value_of-in-Value-clause-refused
returns-in_err-value_of-in-Value-clause-refused c =
    let p = err_from_is_err_and c.from_residual-in_err-value_of-in-Value.result c.from_residual-in_err-value_of-in-Value.ensures.1 in
    rw (p.1, p.2, c.in-Value.is)
    (value-not-read c.in_err-value_of-in-Value.field-0.0 (Value c.in-Value.number c.in-Value.value.now) c.in-Value.value.now (gives-none (Value c.in-Value.number c.in-Value.value.now) refl) refl c.in_err-value_of-in-Value.ensures.refused)

pub returns-in_err-value_of-in-Attr-clause-refused : goal.returns-in_err-value_of-in-Attr-clause-refused
returns-in_err-value_of-in-Attr-clause-refused c =
    let p = err_from_is_err_and c.from_residual-in_err-value_of-in-Attr.result c.from_residual-in_err-value_of-in-Attr.ensures.1 in
    let act = Attr c.in-Attr.number c.in-Attr.name.now c.in-Attr.value.now in
    rw (p.1, p.2, c.in-Attr.is)
    (value-not-read c.in_err-value_of-in-Attr.field-0.0 act c.in-Attr.value.now (gives-name act c.in-Attr.name.now refl c.in_ok-name_of-in-Attr.ensures.name.1) refl c.in_err-value_of-in-Attr.ensures.refused)
