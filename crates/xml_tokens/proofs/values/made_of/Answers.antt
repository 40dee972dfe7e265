use Rattle.std.proofs.Common.{◌≡◌, ◌++◌, [], ◌∷◌, false, eqb, get_or, arith, ap, ◌∙◌}
use Rattle.std.specs.Prelude.{None}
use Rattle.std.specs.Char.{encode_utf8}
use Rattle.std.proofs.lemmas.Bool.Decides.{nat_tests}
use Rattle.xml_tokens.specs.Seen.{byte_given}
use Rattle.xml_tokens.specs.TokenAt.{put, value_in}
use Rattle.xml_tokens.proofs.Lists.{tail_of}
use Rattle.xml_tokens.proofs.Decoding.{run, ended, reference_on, reference_none, less_none, byte_on}
use Rattle.xml_tokens.proofs.Spacing.{same_given}
use Rattle.xml_tokens.proofs.values.made_of.Goals as goal

pub returns-in-empty : goal.returns-in-empty
returns-in-empty c = ended (byte_given c.args.spaces) _ _ _ c.in-empty.len_below (run (byte_given c.args.spaces) (same_given c.args.spaces) _ _ _ c.skip_plain-left.result.now _ c.in_ok-extend_from_slice.ensures.items c.skip_plain-left.ensures.left c.loop-value.invariant)

pub loop-value-preserved-in-Some : goal.loop-value-preserved-in-Some
loop-value-preserved-in-Some c =
    let made : c.push_char.new.out.items ≡ c.extend_from_slice.new.self.items ++ encode_utf8 c.in-Some.c = c.in_ok-push_char-in-Some.ensures in
    ap (λ z. put z (value_in (byte_given c.args.spaces) None c.in-Some.after.now)) made
    ∙ reference_on (byte_given c.args.spaces) _ _ c.skip_plain-left.result.now c.in-Some.after.now c.in-Some.c c.in-38.len_at_least (omega arith) (run (byte_given c.args.spaces) (same_given c.args.spaces) _ _ _ c.skip_plain-left.result.now _ c.in_ok-extend_from_slice.ensures.items c.skip_plain-left.ensures.left c.loop-value.invariant) c.in-Some.ensures.found

pub returns-in-None : goal.returns-in-None
returns-in-None c = reference_none (byte_given c.args.spaces) _ _ c.skip_plain-left.result.now c.in-38.len_at_least (omega arith) (run (byte_given c.args.spaces) (same_given c.args.spaces) _ _ _ c.skip_plain-left.result.now _ c.in_ok-extend_from_slice.ensures.items c.skip_plain-left.ensures.left c.loop-value.invariant) c.in-None.ensures.found

pub returns-in-60 : goal.returns-in-60
returns-in-60 c = less_none (byte_given c.args.spaces) _ _ c.skip_plain-left.result.now c.in-60.len_at_least (omega arith) (run (byte_given c.args.spaces) (same_given c.args.spaces) _ _ _ c.skip_plain-left.result.now _ c.in_ok-extend_from_slice.ensures.items c.skip_plain-left.ensures.left c.loop-value.invariant)

pub loop-value-preserved : goal.loop-value-preserved
loop-value-preserved c =
    let made : c.push.new.self.items ≡ c.extend_from_slice.new.self.items ++ c.given.result ∷ [] = c.in_ok-push-in-len1-up.ensures.items in
    let a : eqb (get_or c.skip_plain-left.result.now 0 0) 38 ≡ false = grind (arith, nat_tests) in
    let b : eqb (get_or c.skip_plain-left.result.now 0 0) 60 ≡ false = grind (arith, nat_tests) in
    ap (λ z. put z (value_in (byte_given c.args.spaces) None (tail_of c.skip_plain-left.result.now))) (made ∙ ap (λ z. c.extend_from_slice.new.self.items ++ z ∷ []) c.given.ensures)
    ∙ byte_on (byte_given c.args.spaces) _ _ c.skip_plain-left.result.now c.in-len1-up.len_at_least a b (run (byte_given c.args.spaces) (same_given c.args.spaces) _ _ _ c.skip_plain-left.result.now _ c.in_ok-extend_from_slice.ensures.items c.skip_plain-left.ensures.left c.loop-value.invariant)
