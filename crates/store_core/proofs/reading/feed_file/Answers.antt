use Rattle.std.proofs.Common.{◌≡◌, ◌≤◌, length, take, sym, ap, ◌∙◌, length-take, arith}
use Rattle.store_core.proofs.Feeds.{feeding_goes, fed_on, read_front}
use Rattle.store_core.proofs.ReadSteps.{OnlyReads-refl}
use Rattle.store_core.proofs.reading.feed_file.Goals as goal

pub loop-fed-preserved : goal.loop-fed-preserved
loop-fed-preserved g c =
    let w = c.loop-fed.invariant.feeding in
    let count = c.in-Ok.count in
    let within : count ≤ length c.read.new.buf = omega (arith, c.in-Ok.ensures.count) in
    let room : count ≤ c.loop-fed.piece.len = omega (arith, within, c.deref_mut.ensures.len, c.read.auto.buf) in
    let piece = take count c.deref.result.now in
    let front : piece ≡ take count c.read.new.buf = ap (λ xs. take count xs) c.deref.ensures.value ∙ read_front count _ _ _ within room in
    let many : count ≡ length piece = sym (ap length front ∙ length-take count c.read.new.buf ∙ omega arith) in
    let e = c.feed.ensures in
    let has = fed_on _ _ _ _ w.bytes piece c.feed.result w.has e.fed e.ready e.count e.answer e.again in
    record {
      feeding = feeding_goes _ _ _ _ _ _ _ piece _ count w (rw front c.in-Ok.ensures.content.0) has many;
      later = omega (arith, c.in-Ok.ensures.cause.later);
      room = c.loop-fed.invariant.room;
    }

pub returns-in_err-resize-clause-only : goal.returns-in_err-resize-clause-only
returns-in_err-resize-clause-only g c = OnlyReads-refl (g.F.Shelf.told c.args.shelf.now)
