use Rattle.std.proofs.Common.{◌≡◌, [], ◌++◌, ◌∙◌, ap, sym, subst, Err}
use Rattle.std.proofs.lemmas.Result.{err_from_is_err_and}
use Rattle.plain_tree.specs.NodeTree.{tree_of}
use Rattle.xml_nodes.specs.Spelling.{Spells}
use Rattle.xml_profile.proofs.FedDocuments.{fed_bad, fed_well, passed_on}
use Rattle.xml_profile.proofs.documents.read_document.Goals as goal

pub returns-in_err-feed-clause-bad : goal.returns-in_err-feed-clause-bad
returns-in_err-feed-clause-bad c = λ at e.
    let on = c.in_err-feed.ensures.fed [] [] c.in_ok-reader.ensures.fed in
    let p = err_from_is_err_and c.from_residual-in_err-feed.result c.from_residual-in_err-feed.ensures.1 in
    fed_bad c.feed.new.self on.more c.args.bytes.now c.in_err-feed.field-0.0 at c.in_err-feed.ensures.answer (passed_on p.1 p.2 e) on.fed

pub returns-in_err-finish-clause-bad : goal.returns-in_err-finish-clause-bad
returns-in_err-finish-clause-bad c = λ at e.
    let on = c.in_ok-feed.ensures.fed [] [] c.in_ok-reader.ensures.fed in
    let p = err_from_is_err_and c.from_residual-in_err-finish.result c.from_residual-in_err-finish.ensures.1 in
    c.in_err-finish.ensures.bad at (ap (λ z. Err z) (passed_on p.1 p.2 e)) on.more c.args.bytes.now on.fed

pub returns-clause-spelled : goal.returns-clause-spelled
returns-clause-spelled c =
    let on = c.in_ok-feed.ensures.fed [] [] c.in_ok-reader.ensures.fed in
    let spelled = c.in_ok-finish.ensures.document on.more c.args.bytes.now on.fed in
    let logged = on.logged (fed_well c.feed.new.self.failed c.in_ok-feed.ensures.answer) ∙ ap (λ z. z ++ on.more) c.new-builder.ensures.log in
    let is : tree_of c.in_ok-document.field-0 ≡ spelled.0 = c.in_ok-document.ensures c.args.bytes.now spelled.0 spelled.1 (logged ∙ spelled.2) in
    subst (λ z. Spells c.args.bytes.now z) (sym is) spelled.1
