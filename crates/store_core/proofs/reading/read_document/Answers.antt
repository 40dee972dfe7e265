use Rattle.std.proofs.Common.{Err, ap, refl}
use Rattle.std.proofs.lemmas.Result.{err_from_is_err_and}
use Rattle.store_core.proofs.Feeds.{bad_stops}
use Rattle.store_core.proofs.Folds.{unfailed, told_document}
use Rattle.store_core.proofs.ReadSteps.{OnlyReads-refl}
use Rattle.store_core.proofs.reading.read_document.Goals as goal

pub returns-in_err-finish-clause-refused : goal.returns-in_err-finish-clause-refused
returns-in_err-finish-clause-refused g c =
    let p = err_from_is_err_and c.from_residual-in_err-finish.result c.from_residual-in_err-finish.ensures.1 in
    rw p.1 (bad_stops c.in_err-finish.field-0.0 p.0 _ _ _ _ _ c.in_ok-feed_file.ensures.feeds p.2 (λ at same. c.in_err-finish.ensures.bad at (ap Err same)))

pub returns-in_err-reader-clause-only : goal.returns-in_err-reader-clause-only
returns-in_err-reader-clause-only g c = OnlyReads-refl (g.F.Shelf.told c.args.shelf.now)

pub returns-clause-document : goal.returns-clause-document
returns-clause-document g c =
    let w = told_document _ _ _ c.in_ok-feed_file.ensures.feeds (unfailed _ _ c.in_ok-finish.field-0 c.in_ok-finish.ensures.again refl) c.in_ok-finish.ensures.document in
    let e = c.in_ok-finish_with.ensures in
    record {
      tree = w.tree;
      reads = w.reads;
      fold = record { stand = e.stand w.tree w.document w.logged; names = e.names w.tree w.document w.logged; grammar = e.grammar; swept = e.swept; ranks = e.ranks };
    }
