use Rattle.plain_tree.specs.Tree.{Tree}
use Rattle.slt_grammar.specs.Keyed.{rules_of}
use Rattle.slt_grammar.specs.Standing.{StandsFor}
use Rattle.grammar_file.proofs.Documents.{stands, told-whole, told-texts, not-false, yes-so, no-not}
use Rattle.grammar_file.proofs.lawful.is_document.Goals as goal

pub returns-then-branch-clause-yes : goal.returns-then-branch-clause-yes
returns-then-branch-clause-yes c =
    let whole = c.in_ok-codes_document.ensures.0 c.if-branch.true in
    yes-so c.are_texts_of.result c.are_texts_of.ensures (λ texts. stands (rules_of c.args.grammar.now.rules) c.args.names.now c.args.texts.now.texts c.rules-rules.ensures.grammar c.find-place.ensures.distinct c.requires whole texts)

pub returns-then-branch-clause-no : goal.returns-then-branch-clause-no
returns-then-branch-clause-no c =
    let G = rules_of c.args.grammar.now.rules in
    let Stands : Tree → Type 0 = λ t. StandsFor G c.args.names.now c.args.texts.now.texts t in
    no-not Stands c.are_texts_of.result c.are_texts_of.ensures (λ t s. told-texts G c.args.names.now c.args.texts.now.texts t s)

pub returns-else-branch-clause-no : goal.returns-else-branch-clause-no
returns-else-branch-clause-no c = λ e t s.
    not-false c.in_ok-codes_document.field-0 c.if-branch.false (c.in_ok-codes_document.ensures.1 (told-whole (rules_of c.args.grammar.now.rules) c.args.names.now c.args.texts.now.texts t s))
