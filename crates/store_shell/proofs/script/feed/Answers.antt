use Rattle.std.proofs.Common.{ℕ, List, ◌+◌, take, subst, arith, Option, Ok, Err}
use Rattle.std.proofs.lemmas.Result.{err_from_is_err_and}
use Rattle.store_core.specs.Worlds.{World, world}
use Rattle.store_core.specs.declared.session.SinkFailed.{SinkFailed}
use Rattle.store_shell.specs.Feeding.{Feeds}
use Rattle.store_shell.specs.declared.script.Flow.{Flow}
use Rattle.store_shell.proofs.Pieces.{Feeds-nil, Feeds-next, Feeds-all, Feeds-ended}
use Rattle.tree_outside.proofs.Beside.{Stays-refl, Keeps-refl, Keeps-trans}
use Rattle.store_shell.proofs.script.feed.Goals as goal

pub loop-byte-init : goal.loop-byte-init
loop-byte-init g c = record { feeds = λ part one e. Feeds-nil part _ _ _ _ one e (Stays-refl _); later = omega arith; shelf = omega arith; kept = Keeps-refl (g.K.Sink.kept c.args.sink.now) }

pub returns-in_err-feed_byte : goal.returns-in_err-feed_byte
returns-in_err-feed_byte g c =
    let p = err_from_is_err_and c.from_residual.result c.from_residual.ensures.1 in
    rw p.1 (record {
      feeds = λ part one e.
          let piece : List ℕ = c.args.piece.now in
          let i : ℕ = c.loop-byte.byte-index in
          let w0 : World = world c.args.session.now (g.F.Shelf.told c.args.shelf.now) (g.F.Shelf.faults c.args.shelf.now) in
          let w1 : World = world c.loop-byte.session (g.F.Shelf.told c.loop-byte.shelf) (g.F.Shelf.faults c.loop-byte.shelf) in
          let w2 : World = world c.feed_byte.new.session (g.F.Shelf.told c.feed_byte.new.shelf) (g.F.Shelf.faults c.feed_byte.new.shelf) in
          let g0 : Option (List ℕ) = g.K.Sink.got c.args.sink.now in
          let g1 : Option (List ℕ) = g.K.Sink.got c.loop-byte.sink in
          let g2 : Option (List ℕ) = g.K.Sink.got c.feed_byte.new.sink in
          let so_far = c.loop-byte.invariant.feeds part one e in
          let at = c.in_err-feed_byte.ensures.feeds so_far.tail so_far.cut.rest so_far.does.1 in
          let next = Feeds-next part piece i (Err c.in_err-feed_byte.field-0.0) w0 w1 w2 g0 g1 g2 c.loop-byte.line c.feed_byte.new.line c.loop-byte-test.true so_far at in
          Feeds-all part piece (i + 1) c.in_err-feed_byte.field-0.0 p.0 w0 w2 g0 g2 c.feed_byte.new.line next;
      later = omega (arith, c.in_err-feed_byte.ensures.later);
      kept = Keeps-trans (g.K.Sink.kept c.args.sink.now) (g.K.Sink.kept c.loop-byte.sink) (g.K.Sink.kept c.feed_byte.new.sink) c.loop-byte.invariant.kept c.in_err-feed_byte.ensures.kept;
      cause = record { later = omega (arith, c.in_err-feed_byte.ensures.cause.later); failed = omega (arith, c.in_err-feed_byte.ensures.cause.failed) };
    })

pub returns-in-Quit-clause-feeds : goal.returns-in-Quit-clause-feeds
returns-in-Quit-clause-feeds g c = λ part one e.
    let piece : List ℕ = c.args.piece.now in
    let i : ℕ = c.loop-byte.byte-index in
    let w0 : World = world c.args.session.now (g.F.Shelf.told c.args.shelf.now) (g.F.Shelf.faults c.args.shelf.now) in
    let w1 : World = world c.loop-byte.session (g.F.Shelf.told c.loop-byte.shelf) (g.F.Shelf.faults c.loop-byte.shelf) in
    let w2 : World = world c.feed_byte.new.session (g.F.Shelf.told c.feed_byte.new.shelf) (g.F.Shelf.faults c.feed_byte.new.shelf) in
    let g0 : Option (List ℕ) = g.K.Sink.got c.args.sink.now in
    let g1 : Option (List ℕ) = g.K.Sink.got c.loop-byte.sink in
    let g2 : Option (List ℕ) = g.K.Sink.got c.feed_byte.new.sink in
    let so_far = c.loop-byte.invariant.feeds part one e in
    let at = c.in_ok-feed_byte.ensures.feeds so_far.tail so_far.cut.rest so_far.does.1 in
    let next = Feeds-next part piece i (Ok c.in_ok-feed_byte.field-0) w0 w1 w2 g0 g1 g2 c.loop-byte.line c.feed_byte.new.line c.loop-byte-test.true so_far at in
    let P : Flow → Type 0 = λ r. Feeds {E = SinkFailed} c.args.settings part (take (i + 1) piece) (Ok r) w0 w2 g0 g2 c.feed_byte.new.line in
    Feeds-ended part piece (i + 1) w0 w2 g0 g2 c.feed_byte.new.line (subst P c.in-Quit.is next)

pub loop-byte-preserved : goal.loop-byte-preserved
loop-byte-preserved g c = record {
  feeds = λ part one e.
      let piece : List ℕ = c.args.piece.now in
      let i : ℕ = c.loop-byte.byte-index in
      let w0 : World = world c.args.session.now (g.F.Shelf.told c.args.shelf.now) (g.F.Shelf.faults c.args.shelf.now) in
      let w1 : World = world c.loop-byte.session (g.F.Shelf.told c.loop-byte.shelf) (g.F.Shelf.faults c.loop-byte.shelf) in
      let w2 : World = world c.feed_byte.new.session (g.F.Shelf.told c.feed_byte.new.shelf) (g.F.Shelf.faults c.feed_byte.new.shelf) in
      let g0 : Option (List ℕ) = g.K.Sink.got c.args.sink.now in
      let g1 : Option (List ℕ) = g.K.Sink.got c.loop-byte.sink in
      let g2 : Option (List ℕ) = g.K.Sink.got c.feed_byte.new.sink in
      let so_far = c.loop-byte.invariant.feeds part one e in
      let at = c.in_ok-feed_byte.ensures.feeds so_far.tail so_far.cut.rest so_far.does.1 in
      let next = Feeds-next part piece i (Ok c.in_ok-feed_byte.field-0) w0 w1 w2 g0 g1 g2 c.loop-byte.line c.feed_byte.new.line c.loop-byte-test.true so_far at in
      let P : Flow → Type 0 = λ r. Feeds {E = SinkFailed} c.args.settings part (take (i + 1) piece) (Ok r) w0 w2 g0 g2 c.feed_byte.new.line in
      subst P c.in-On.is next;
  later = omega (arith, c.in_ok-feed_byte.ensures.cause.later);
  shelf = omega (arith, c.in_ok-feed_byte.ensures.later);
  kept = Keeps-trans (g.K.Sink.kept c.args.sink.now) (g.K.Sink.kept c.loop-byte.sink) (g.K.Sink.kept c.feed_byte.new.sink) c.loop-byte.invariant.kept c.in_ok-feed_byte.ensures.kept;
}
