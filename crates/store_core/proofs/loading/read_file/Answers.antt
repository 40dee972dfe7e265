use Rattle.std.proofs.Common.{arith}
use Rattle.std.proofs.lemmas.Result.{IfOk-weaker, IfErr-weaker}
use Rattle.store_core.proofs.FoundFiles.{holds_document, read_lawful, stops_document}
use Rattle.store_core.proofs.loading.read_file.Goals as goal

pub returns-clause-document : goal.returns-clause-document
returns-clause-document g c =
    let opened = c.in_ok-open_file.ensures.opened in
    IfOk-weaker c.read_document-read.result _ _
    (λ folded reads. record {
      tree = reads.tree;
      held = λ state. holds_document _ _ c.args.name.now state _ reads.tree opened.0 opened.1 reads.reads;
      small = (read_lawful _ reads.tree reads.reads).1;
      fold = reads.fold;
    })
    c.read_document-read.ensures.document

pub returns-clause-refused : goal.returns-clause-refused
returns-clause-refused g c =
    let opened = c.in_ok-open_file.ensures.opened in
    IfErr-weaker c.read_document-read.result _ _
    (λ refusal stops state. stops_document refusal _ _ c.args.name.now state _ _ _ _ opened.0 opened.1 (omega (arith, c.in_ok-open_file.ensures.later)) (omega (arith, c.close.ensures.cause)) stops)
    c.read_document-read.ensures.refused
