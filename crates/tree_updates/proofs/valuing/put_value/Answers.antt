use Rattle.std.proofs.Common.{◌∙◌, ap, arith, length, refl, List, ℕ}
use Rattle.std.specs.Prelude.{slice_set}
use Rattle.std.proofs.lemmas.Result.{err_from_is_err_and}
use Rattle.plain_tree.specs.declared.edit.Edit.TheVariants.{Value}
use Rattle.tree_updates.specs.declared.store.EditError.TheVariants.{Memory}
use Rattle.tree_updates.proofs.StoreLemmas.{refused-texts, refused-there}
use Rattle.tree_updates.proofs.ValuedStores.{rank-within, valued-store}
use Rattle.tree_updates.proofs.valuing.put_value.Goals as goal

pub returns-in_err-text-clause-applies : goal.returns-in_err-text-clause-applies
returns-in_err-text-clause-applies c =
    let p = err_from_is_err_and c.from_residual.result c.from_residual.ensures.1 in
    rw (p.1, p.2) (λ t i allowed told. refused-there t (Value c.args.number c.args.value.now) Memory c.args.store.now tt i)

pub returns-in_err-reserve-clause-applies : goal.returns-in_err-reserve-clause-applies
returns-in_err-reserve-clause-applies c =
    let s = c.args.store.now in
    let p = err_from_is_err_and c.from_residual-in_err-reserve.result c.from_residual-in_err-reserve.ensures.1 in
    rw (p.1, p.2) (λ t i allowed told.
    refused-texts t (Value c.args.number c.args.value.now) s (record { grammar = s.grammar; names = s.names; texts = c.reserve.new.self; counts = s.counts; index = s.index; marks = s.marks }) i refl refl refl refl c.reserve.ensures.texts)

pub set-requires-clause-place : goal.set-requires-clause-place
set-requires-clause-place c =
    let r = c.requires.store in
    let h = rank-within c.args.store.now r.0 r.1 c.args.number c.args.value.now c.requires.chars r.2 c.args.rank r.3 in
    omega (arith, h, ap length c.reserve.ensures.texts)

pub returns-clause-applies : goal.returns-clause-applies
returns-clause-applies c =
    let s = c.args.store.now in
    let rank : ℕ = c.args.rank in
    let texts = c.set.ensures.texts ∙ ap (λ (vs : List (List ℕ)). slice_set vs rank c.in_ok-text.text) c.reserve.ensures.texts ∙ ap (slice_set s.texts.texts rank) c.in_ok-text.ensures in
    λ t i allowed told.
    valued-store s t i c.args.number c.args.value.now c.requires.chars allowed rank told
    (record { grammar = s.grammar; names = s.names; texts = c.set.new.self; counts = s.counts; index = s.index; marks = s.marks }) refl refl refl refl texts
