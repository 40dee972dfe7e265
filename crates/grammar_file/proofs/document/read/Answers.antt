use Rattle.std.proofs.Common.{ap, Err, arith}
use Rattle.slt_grammar.specs.Grammars.{value}
use Rattle.slt_grammar.specs.Keyed.{rules_of}
use Rattle.segment_counts.proofs.Coded.{weight-coded}
use Rattle.grammar_file.proofs.FileDocuments.{no-document}
use Rattle.grammar_file.proofs.document.read.Goals as goal

pub returns-then-not-branch-clause-bad : goal.returns-then-not-branch-clause-bad
returns-then-not-branch-clause-bad c = λ e names G texts t file stand.
    let parts = c.in_ok-parts.parts in
    let none = c.in_ok-is_document.ensures.no c.if-not-branch.true in
    absurd (no-document c.args.bytes.now parts.names names (rules_of parts.grammar.rules) G parts.texts.texts texts t c.in_ok-parts.ensures.file file stand none)

pub returns-in-Ok-clause-document : goal.returns-in-Ok-clause-document
returns-in-Ok-clause-document c =
    let parts = c.in_ok-parts.parts in
    let (t, stand) = c.in_ok-is_document.ensures.yes c.if-not-branch.false in
    (t, stand, omega (arith, weight-coded parts.names t (value (rules_of parts.grammar.rules)) stand.code, c.in-Ok.ensures.few))

pub returns-in-Err-TooMany-clause-many : goal.returns-in-Err-TooMany-clause-many
returns-in-Err-TooMany-clause-many c = λ e.
    let parts = c.in_ok-parts.parts in
    let (t, stand) = c.in_ok-is_document.ensures.yes c.if-not-branch.false in
    let many = c.in-Err-TooMany.ensures.many (ap Err c.in-Err-TooMany.field-0-is) in
    (parts.names, rules_of parts.grammar.rules, parts.texts.texts, t, c.in_ok-parts.ensures.file, stand, omega (arith, weight-coded parts.names t (value (rules_of parts.grammar.rules)) stand.code, many))
