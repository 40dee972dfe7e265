use Rattle.std.proofs.Common.{refl, sym, ◌∙◌, subst}
use Rattle.std.proofs.lemmas.Result.{err_from_is_err_and}
use Rattle.slt_grammar.specs.Keyed.{rules_of}
use Rattle.grammar_file.specs.Files.{AreRules}
use Rattle.grammar_file.proofs.FileReading.{no_mark, no_grammar, no_texts, no_end, is_whole}
use Rattle.grammar_file.proofs.Reading.{refused}
use Rattle.grammar_file.proofs.parsing.parse_file.Goals as goal

pub returns-in_err-version-clause-bad : goal.returns-in_err-version-clause-bad
returns-in_err-version-clause-bad c =
    let p = err_from_is_err_and c.from_residual.result c.from_residual.ensures.1 in
    refused c.from_residual.result p.0 c.in_err-version.field-0.0 p.1 p.2 (no_mark c.args.bytes.now c.new-scan.result c.new-scan.ensures) c.in_err-version.ensures

pub returns-in_err-grammar-clause-bad : goal.returns-in_err-grammar-clause-bad
returns-in_err-grammar-clause-bad c =
    let p = err_from_is_err_and c.from_residual-in_err-grammar.result c.from_residual-in_err-grammar.ensures.1 in
    refused c.from_residual-in_err-grammar.result p.0 c.in_err-grammar.field-0.0 p.1 p.2
    (no_grammar c.args.bytes.now c.mark.new.self c.in_ok-version.version (sym c.new-scan.ensures ∙ c.in_ok-version.ensures.1) c.in_ok-names.names c.read_names.new.scan c.in_ok-names.ensures.1 c.len.result c.len.ensures.value)
    c.in_err-grammar.ensures

pub returns-in_err-texts-clause-bad : goal.returns-in_err-texts-clause-bad
returns-in_err-texts-clause-bad c =
    let p = err_from_is_err_and c.from_residual-in_err-texts.result c.from_residual-in_err-texts.ensures.1 in
    refused c.from_residual-in_err-texts.result p.0 c.in_err-texts.field-0.0 p.1 p.2
    (no_texts c.args.bytes.now c.mark.new.self c.in_ok-version.version (sym c.new-scan.ensures ∙ c.in_ok-version.ensures.1) c.in_ok-names.names c.read_names.new.scan c.in_ok-names.ensures.1
    (rules_of c.in_ok-grammar.grammar.rules) c.read_grammar.new.scan c.in_ok-grammar.ensures.0.grammar c.in_ok-grammar.ensures.1)
    c.in_err-texts.ensures

pub returns-then-not-is_empty-clause-bad : goal.returns-then-not-is_empty-clause-bad
returns-then-not-is_empty-clause-bad c =
    λ _. no_end c.args.bytes.now c.mark.new.self c.in_ok-version.version (sym c.new-scan.ensures ∙ c.in_ok-version.ensures.1) c.in_ok-names.names c.read_names.new.scan c.in_ok-names.ensures.1
    (rules_of c.in_ok-grammar.grammar.rules) c.read_grammar.new.scan c.in_ok-grammar.ensures.0.grammar c.in_ok-grammar.ensures.1
    c.in_ok-texts.texts.texts c.read_texts_of.new.scan c.in_ok-texts.ensures.1 (λ none. let yes = c.if-not-is_empty.ensures.1 none in cc)

pub returns-clause-file : goal.returns-clause-file
returns-clause-file c =
    record {
      lawful = c.in_ok-names.ensures.0;
      grammar = subst (λ n. AreRules n (rules_of c.in_ok-grammar.grammar.rules)) c.len.ensures.value c.in_ok-grammar.ensures.0;
      whole = is_whole c.args.bytes.now c.mark.new.self c.in_ok-version.version (sym c.new-scan.ensures ∙ c.in_ok-version.ensures.1) c.in_ok-names.names c.read_names.new.scan c.in_ok-names.ensures.1
          (rules_of c.in_ok-grammar.grammar.rules) c.read_grammar.new.scan c.in_ok-grammar.ensures.0.grammar c.in_ok-grammar.ensures.1
          c.in_ok-texts.texts.texts c.read_texts_of.new.scan c.in_ok-texts.ensures.1 (c.if-not-is_empty.ensures.0 refl);
    }
