use Rattle.std.proofs.Common.{◌≡◌, true, false, length, arith, ap, sym, ◌∙◌}
use Rattle.std.proofs.lemmas.Bool.Decides.{nat_tests}
use Rattle.xml_tokens.specs.Seen.{byte_given, seen_items}
use Rattle.xml_tokens.proofs.Decoding.{value_chars, value_missing, value_same}
use Rattle.xml_tokens.proofs.Spacing.{same_given}
use Rattle.xml_tokens.proofs.values.value_of.Goals as goal

pub returns-then-not-are_chars : goal.returns-then-not-are_chars
returns-then-not-are_chars c =
    let told : c.are_chars.result ≡ false = grind (arith, nat_tests) in
    value_missing (byte_given c.args.spaces) _ (sym c.are_chars.ensures ∙ told)

pub returns-then-is_empty : goal.returns-then-is_empty
returns-then-is_empty c =
    let told : c.are_chars.result ≡ true = grind (arith, nat_tests) in
    let none : length c.skip_plain.result.now ≡ 0 = grind (arith, nat_tests) in
    value_chars (byte_given c.args.spaces) _ _ (sym c.are_chars.ensures ∙ told) (value_same (byte_given c.args.spaces) (same_given c.args.spaces) _ _ c.skip_plain.ensures.left none)

pub returns-in-Some : goal.returns-in-Some
returns-in-Some c =
    let told : c.are_chars.result ≡ true = grind (arith, nat_tests) in
    value_chars (byte_given c.args.spaces) _ _ (sym c.are_chars.ensures ∙ told) (sym (ap seen_items c.in-Some.is) ∙ c.in_ok-bytes.ensures)

pub returns-in-None : goal.returns-in-None
returns-in-None c =
    let told : c.are_chars.result ≡ true = grind (arith, nat_tests) in
    value_chars (byte_given c.args.spaces) _ _ (sym c.are_chars.ensures ∙ told) (sym (ap seen_items c.in-None.is) ∙ c.in_ok-bytes.ensures)
