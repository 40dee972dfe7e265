use Rattle.std.proofs.lemmas.Result.{err_from_is_err_and}
use Rattle.slt_grammar.specs.Keyed.{rules_of}
use Rattle.grammar_file.specs.FileBytes.{mark, list_bytes, name_bytes, rule_bytes, text_bytes, dictionary_bytes}
use Rattle.grammar_file.specs.Numbers.{number_bytes}
use Rattle.grammar_file.proofs.Putting.{on_ok, puts_then, puts_stops, puts_same, puts_last}
use Rattle.grammar_file.proofs.Sizes.{length-file}
use Rattle.grammar_file.proofs.writing.write_file.Goals as goal

pub returns-in_err-bytes-clause-puts : goal.returns-in_err-bytes-clause-puts
returns-in_err-bytes-clause-puts g c =
    puts_stops _ _ _ _ mark _ c.in_err-bytes.ensures (err_from_is_err_and _ c.from_residual.ensures.1).1

pub returns-in_err-write_names-clause-puts : goal.returns-in_err-write_names-clause-puts
returns-in_err-write_names-clause-puts g c =
    puts_then _ _ _ _ mark _ c.in_ok-bytes.ensures
    (puts_stops _ _ _ _ (list_bytes name_bytes c.args.names.now) _ c.in_err-write_names.ensures.puts (err_from_is_err_and _ c.from_residual-in_err-write_names.ensures.1).1)

pub returns-in_err-write_rules-clause-puts : goal.returns-in_err-write_rules-clause-puts
returns-in_err-write_rules-clause-puts g c =
    puts_then _ _ _ _ mark _ c.in_ok-bytes.ensures
    (puts_then _ _ _ _ (list_bytes name_bytes c.args.names.now) _ c.in_ok-write_names.ensures.puts
    (puts_stops _ _ _ _ (list_bytes rule_bytes (rules_of c.args.grammar.now.rules)) _ c.in_err-write_rules.ensures.puts (err_from_is_err_and _ c.from_residual-in_err-write_rules.ensures.1).1))

pub returns-in_err-write_texts-clause-puts : goal.returns-in_err-write_texts-clause-puts
returns-in_err-write_texts-clause-puts g c =
    puts_then _ _ _ _ mark _ c.in_ok-bytes.ensures
    (puts_then _ _ _ _ (list_bytes name_bytes c.args.names.now) _ c.in_ok-write_names.ensures.puts
    (puts_then _ _ _ _ (list_bytes rule_bytes (rules_of c.args.grammar.now.rules)) (dictionary_bytes c.args.dictionary.now) c.in_ok-write_rules.ensures.puts
    (puts_stops _ _ _ _ (list_bytes text_bytes c.args.dictionary.now.different) (list_bytes number_bytes c.args.dictionary.now.places) c.in_err-write_texts.ensures.puts (err_from_is_err_and _ c.from_residual-in_err-write_texts.ensures.1).1)))

pub returns-in_err-write_places-clause-puts : goal.returns-in_err-write_places-clause-puts
returns-in_err-write_places-clause-puts g c =
    puts_then _ _ _ _ mark _ c.in_ok-bytes.ensures
    (puts_then _ _ _ _ (list_bytes name_bytes c.args.names.now) _ c.in_ok-write_names.ensures.puts
    (puts_then _ _ _ _ (list_bytes rule_bytes (rules_of c.args.grammar.now.rules)) (dictionary_bytes c.args.dictionary.now) c.in_ok-write_rules.ensures.puts
    (puts_then _ _ _ _ (list_bytes text_bytes c.args.dictionary.now.different) (list_bytes number_bytes c.args.dictionary.now.places) c.in_ok-write_texts.ensures.puts
    (puts_same _ _ _ _ (list_bytes number_bytes c.args.dictionary.now.places) c.in_err-write_places.ensures.puts (err_from_is_err_and _ c.from_residual-in_err-write_places.ensures.1).1))))

pub returns-clause-puts : goal.returns-clause-puts
returns-clause-puts g c =
    puts_then _ _ _ _ mark _ c.in_ok-bytes.ensures
    (puts_then _ _ _ _ (list_bytes name_bytes c.args.names.now) _ c.in_ok-write_names.ensures.puts
    (puts_then _ _ _ _ (list_bytes rule_bytes (rules_of c.args.grammar.now.rules)) (dictionary_bytes c.args.dictionary.now) c.in_ok-write_rules.ensures.puts
    (puts_then _ _ _ _ (list_bytes text_bytes c.args.dictionary.now.different) (list_bytes number_bytes c.args.dictionary.now.places) c.in_ok-write_texts.ensures.puts
    (puts_last _ _ _ _ (list_bytes number_bytes c.args.dictionary.now.places) c.in_ok-write_places.ensures.puts c.flush.ensures.puts))))

pub returns-clause-small : goal.returns-clause-small
returns-clause-small g c =
    on_ok c.flush.result
    (length-file c.args.names.now (rules_of c.args.grammar.now.rules) c.args.dictionary.now c.in_ok-write_names.ensures.small c.in_ok-write_rules.ensures.small c.in_ok-write_texts.ensures.small c.in_ok-write_places.ensures.small)
