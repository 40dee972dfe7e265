use Rattle.std.proofs.Common.{◌≡◌, ◌+◌, ◌*◌, ◌<◌, ◌≤◌, length, get_or, arith}
use Rattle.std.proofs.lemmas.Option.{slice_get-get_or, slice_get_past}
use Rattle.std.proofs.lemmas.Result.{err_from_is_err_and}
use Rattle.slt_grammar.specs.Grammars.{no_rule}
use Rattle.slt_grammar.specs.Keyed.{rules_of}
use Rattle.slt_grammar.specs.declared.rules.Rule.{Rule}
use Rattle.grammar_file.specs.FileBytes.{list_bytes, rule_bytes}
use Rattle.grammar_file.specs.Numbers.{number_bytes}
use Rattle.grammar_file.proofs.ListLemmas.{drop-at, drop-none}
use Rattle.grammar_file.proofs.Listing.{listing_begins, listing_goes, listing_fails, listing_ends, listing_short}
use Rattle.grammar_file.proofs.Sizes.{rule_size, length-rules}
use Rattle.slt_grammar.proofs.KeyedLemmas.{length-rules_of}
use Rattle.grammar_file.proofs.writing.write_rules.Goals as goal

pub loop-rule-init : goal.loop-rule-init
loop-rule-init g c =
    let G = rules_of c.args.grammar.now.rules in
    let n : c.rules.result ≡ length G = omega (arith, c.rules.ensures.value, length-rules_of c.args.grammar.now.rules) in
    listing_begins rule_bytes rule_size G (number_bytes (length G)) _ _ (rw n at c.in_ok-number.ensures)

pub returns-in_err-write_rule-clause-puts : goal.returns-in_err-write_rule-clause-puts
returns-in_err-write_rule-clause-puts g c =
    let G = rules_of c.args.grammar.now.rules in
    let i = c.loop-rule.rule in
    let there : i < length G = omega (arith, length-rules_of c.args.grammar.now.rules, c.loop-rule-test.true) in
    listing_fails rule_bytes rule_size G (list_bytes rule_bytes G) _ _ (get_or G i no_rule) _ _ _ _ c.from_residual-in_err-write_rule.result c.loop-rule.invariant (drop-at G i (get_or G i no_rule) (slice_get-get_or G i no_rule there))
    c.in_err-write_rule.ensures.puts (err_from_is_err_and c.from_residual-in_err-write_rule.result c.from_residual-in_err-write_rule.ensures.1).1

pub loop-rule-preserved : goal.loop-rule-preserved
loop-rule-preserved g c =
    let G = rules_of c.args.grammar.now.rules in
    let i = c.loop-rule.rule in
    let there : i < length G = omega (arith, length-rules_of c.args.grammar.now.rules, c.loop-rule-test.true) in
    let R : Rule = get_or G i no_rule in
    let small : length (rule_bytes R) ≤ 1 + 11 * length R.body = omega (arith, c.in_ok-write_rule.ensures.small) in
    listing_goes rule_bytes rule_size G (list_bytes rule_bytes G) _ _ R _ _ _ c.loop-rule.invariant (drop-at G i R (slice_get-get_or G i no_rule there)) c.in_ok-write_rule.ensures.puts small

pub returns-clause-puts : goal.returns-clause-puts
returns-clause-puts g c =
    let G = rules_of c.args.grammar.now.rules in
    let past : length G ≤ c.loop-rule.rule = omega (arith, length-rules_of c.args.grammar.now.rules, c.loop-rule-test.false) in
    listing_ends rule_bytes rule_size G (list_bytes rule_bytes G) _ _ _ c.loop-rule.invariant (drop-none G c.loop-rule.rule (slice_get_past G c.loop-rule.rule past))

pub returns-clause-small : goal.returns-clause-small
returns-clause-small g c =
    let G = rules_of c.args.grammar.now.rules in
    let past : length G ≤ c.loop-rule.rule = omega (arith, length-rules_of c.args.grammar.now.rules, c.loop-rule-test.false) in
    length-rules G (omega (arith, length-rules_of c.args.grammar.now.rules, c.rules.ensures.value, c.rules.type_inv)) c.limit-limit.ensures.keyed.few
    (listing_short rule_bytes rule_size G (list_bytes rule_bytes G) _ _ _ c.loop-rule.invariant (drop-none G c.loop-rule.rule (slice_get_past G c.loop-rule.rule past)))
