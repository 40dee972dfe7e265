use Rattle.std.proofs.Common.{◌≡◌, false, ap, sym, ◌∙◌, Option, Some}
use Rattle.std.proofs.Math.Bool.{true≢false}
use Rattle.plain_tree.specs.declared.kind.Kind.{Kind}
use Rattle.plain_tree.specs.declared.kind.Kind.TheVariants.{Text}
use Rattle.tree_updates.specs.CallAnswers.{is_text}
use Rattle.tree_updates.proofs.MeetingTexts.{text-told}
use Rattle.tree_updates.proofs.copying.copy.Goals as goal

-- what is told to be no text is none
no-text : (k o : Option Kind) → is_text k ≡ false → k ≡ o → o ≡ Some Text → ⊥
no-text k o e f g = true≢false (sym (ap is_text (f ∙ g)) ∙ e)

pub copy_text-requires-clause-store : goal.copy_text-requires-clause-store
copy_text-requires-clause-store g c =
    let s = c.args.store.now in
    let r = c.requires.store in
    let kind = c.kind.ensures s.grammar.rules c.args.number r.0 c.in_ok-spot.ensures.spot r.1.stand.code in
    (r.0, r.1, c.in_ok-spot.ensures.answer r.0 r.1, sym kind ∙ text-told c.kind.result (sym c.is_text.ensures ∙ c.if-is_text.true))

pub copy_other-requires-clause-store : goal.copy_other-requires-clause-store
copy_other-requires-clause-store g c =
    let s = c.args.store.now in
    let r = c.requires.store in
    let kind = c.kind.ensures s.grammar.rules c.args.number r.0 c.in_ok-spot.ensures.spot r.1.stand.code in
    (r.0, r.1, c.in_ok-spot.ensures.answer r.0 r.1, no-text c.kind.result _ (sym c.is_text.ensures ∙ c.if-is_text.false) kind)

pub returns-then-is_text-clause-applies : goal.returns-then-is_text-clause-applies
returns-then-is_text-clause-applies g c = λ t i.
    let s = c.args.store.now in
    let kind = c.kind.ensures s.grammar.rules c.args.number t c.in_ok-spot.ensures.spot i.stand.code in
    c.copy_text.ensures.applies t i (c.in_ok-spot.ensures.answer t i) (sym kind ∙ text-told c.kind.result (sym c.is_text.ensures ∙ c.if-is_text.true))

pub returns-clause-applies : goal.returns-clause-applies
returns-clause-applies g c = λ t i.
    let s = c.args.store.now in
    let kind = c.kind.ensures s.grammar.rules c.args.number t c.in_ok-spot.ensures.spot i.stand.code in
    c.copy_other.ensures.applies t i (c.in_ok-spot.ensures.answer t i) (no-text c.kind.result _ (sym c.is_text.ensures ∙ c.if-is_text.false) kind)
