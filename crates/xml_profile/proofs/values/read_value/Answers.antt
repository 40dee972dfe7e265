use Rattle.std.proofs.Common.{◌≡◌, [], ◌∙◌, ap, sym, subst, Err, Some}
use Rattle.xml_tokenizer.specs.Standing.{BreaksAt}
use Rattle.xml_tokenizer.specs.Taking.{taken}
use Rattle.xml_nodes.specs.Spelling.{SpellsValue}
use Rattle.xml_profile.specs.Reading.{IsBadValue}
use Rattle.xml_profile.specs.Valuing.{value_step}
use Rattle.xml_profile.proofs.ValueChars.{value_chars}
use Rattle.xml_profile.proofs.Valued.{taken_spells, value_ends_bad, value_breaks_bad}
use Rattle.xml_profile.proofs.values.read_value.Goals as goal

pub returns-in-Err-Bad-clause-bad : goal.returns-in-Err-Bad-clause-bad
returns-in-Err-Bad-clause-bad c = λ at e.
    let breaks = c.in-Err-Bad.ensures.place (ap (λ z. Err z) c.in-Err-Bad.field-0-is) [] [] c.new-tokenizer.ensures.stands in
    let is : c.start.result ≡ at = cc in
    subst (λ z. IsBadValue c.args.bytes.now z) (sym c.start.ensures ∙ is)
    (value_breaks_bad c.args.bytes.now c.feed.new.self.start (subst (λ z. BreaksAt value_step z [] c.args.bytes.now c.feed.new.self.start) c.new.ensures.items breaks))

pub returns-then-is_whole-clause-spelled : goal.returns-then-is_whole-clause-spelled
returns-then-is_whole-clause-spelled c =
    let on = c.in-Ok.ensures.ok [] [] c.new-tokenizer.ensures.stands in
    let took = subst (λ z. taken value_step z on.more ≡ Some c.feed.new.sink.value.items) c.new.ensures.items on.took in
    subst (λ z. SpellsValue c.args.bytes.now z) (sym c.as_slice.ensures.value ∙ sym c.in_ok-from_slice.ensures)
    (taken_spells c.args.bytes.now c.feed.new.sink.value.items on.more took (c.is_whole.ensures.whole c.if-is_whole.true on.more c.args.bytes.now on.holds))

pub returns-then-is_whole-clause-chars : goal.returns-then-is_whole-clause-chars
returns-then-is_whole-clause-chars c = value_chars c.args.bytes.now c.in_ok-from_slice.field-0 (returns-then-is_whole-clause-spelled c)

pub returns-clause-bad : goal.returns-clause-bad
returns-clause-bad c = λ at e.
    let on = c.in-Ok.ensures.ok [] [] c.new-tokenizer.ensures.stands in
    let took = subst (λ z. taken value_step z on.more ≡ Some c.feed.new.sink.value.items) c.new.ensures.items on.took in
    let is : c.start-else-is_whole.result ≡ at = cc in
    subst (λ z. IsBadValue c.args.bytes.now z) (sym c.start-else-is_whole.ensures ∙ is)
    (value_ends_bad c.feed.new.self c.args.bytes.now c.feed.new.sink.value.items on.more took on.holds
    (λ others cut. c.is_whole.ensures.broken c.if-is_whole.false on.more others c.args.bytes.now on.holds cut))
