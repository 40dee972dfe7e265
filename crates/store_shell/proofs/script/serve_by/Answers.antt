use Rattle.std.proofs.Common.{◌≡◌, ◌≤◌, ◌<◌, ◌^◌, ℕ, List, [], ◌++◌, Option, length, take, drop, Result, Ok, arith, refl, sym, ap, subst, ◌∙◌}
use Rattle.std.proofs.lemmas.List.{append-nil, length-take}
use Rattle.tree_outside.specs.Outside.{Takes}
use Rattle.tree_outside.proofs.Beside.{Stays-refl, Keeps-refl, Keeps-trans}
use Rattle.store_core.specs.Worlds.{World, world}
use Rattle.store_core.specs.declared.session.SinkFailed.{SinkFailed}
use Rattle.store_shell.specs.Feeding.{Feeds}
use Rattle.store_shell.specs.declared.script.Flow.{Flow}
use Rattle.store_shell.proofs.Cuts.{nothing}
use Rattle.store_shell.proofs.Ending.{Takes-nil, Takes-append, Takes-stays, Takes-all, no_script, script_of, serves_last, serves_failed, serves_quit, fed_more, count_more}
use Rattle.store_shell.proofs.Kept.{kept-nil}
use Rattle.store_shell.proofs.Pieces.{Feeds-nil}
use Rattle.store_shell.proofs.script.serve_by.Goals as goal

pub returns-in_default-clause-serves : goal.returns-in_default-clause-serves
returns-in_default-clause-serves g c =
    (no_script, Takes-nil (g.S.Source.left c.args.source.now), record { bytes = refl; world = refl; got = Stays-refl (g.K.Sink.got c.args.sink.now) })

pub loop-taken-init : goal.loop-taken-init
loop-taken-init g c =
    let w0 : World = world c.args.session.now (g.F.Shelf.told c.args.shelf.now) (g.F.Shelf.faults c.args.shelf.now) in
    let g0 : Option (List ℕ) = g.K.Sink.got c.args.sink.now in
    record {
      within = omega arith;
      bytes = [];
      taken = Takes-nil (g.S.Source.left c.args.source.now);
      count = refl;
      fed = Feeds-nil [] w0 g0 g0 c.in-Ok.line nothing (c.in-Ok.ensures ∙ sym kept-nil) (Stays-refl g0);
      source = omega arith;
      sink = omega arith;
      shelf = omega arith;
      kept = Keeps-refl (g.K.Sink.kept c.args.sink.now);
    }

pub returns-in-Err-clause-serves : goal.returns-in-Err-clause-serves
returns-in-Err-clause-serves g c =
    let inv = c.loop-taken.invariant in
    let lt : length inv.bytes < 2 ^ 30 = omega (arith, inv.count, c.loop-taken-test.true) in (
      script_of inv.bytes inv.fed.lines inv.fed.tail inv.fed.cut (omega (arith, lt)),
      Takes-stays (g.S.Source.left c.args.source.now) (g.S.Source.left c.loop-taken.source) (g.S.Source.left c.read.new.self) inv.bytes inv.taken c.in-Err.ensures.content,
      (lt, inv.fed.does.0),
    )

pub returns-clause-serves : goal.returns-clause-serves
returns-clause-serves g c =
    let inv = c.loop-taken.invariant in
    let all : length inv.bytes ≡ 2 ^ 30 = omega (arith, inv.count, inv.within, c.loop-taken-test.false) in
    (script_of inv.bytes inv.fed.lines inv.fed.tail inv.fed.cut (omega (arith, all)), inv.taken, (all, inv.fed.does.0))

pub returns-in-Ok-eq0-clause-serves : goal.returns-in-Ok-eq0-clause-serves
returns-in-Ok-eq0-clause-serves g c =
    let inv = c.loop-taken.invariant in
    let first : Option (List ℕ) = g.S.Source.left c.args.source.now in
    let left : Option (List ℕ) = g.S.Source.left c.loop-taken.source in
    let after : Option (List ℕ) = g.S.Source.left c.read.new.self in
    let w0 : World = world c.args.session.now (g.F.Shelf.told c.args.shelf.now) (g.F.Shelf.faults c.args.shelf.now) in
    let w1 : World = world c.loop-taken.session (g.F.Shelf.told c.loop-taken.shelf) (g.F.Shelf.faults c.loop-taken.shelf) in
    let g0 : Option (List ℕ) = g.K.Sink.got c.args.sink.now in
    let g1 : Option (List ℕ) = g.K.Sink.got c.loop-taken.sink in
    let w2 : World = world c.end_line-last.new.session (g.F.Shelf.told c.end_line-last.new.shelf) (g.F.Shelf.faults c.end_line-last.new.shelf) in
    let g2 : Option (List ℕ) = g.K.Sink.got c.end_line-last.new.sink in
    let r = c.in-Ok-eq0.ensures.content in
    let z : c.in-Ok-eq0.field-0 ≡ 0 = c.in-Ok-eq0.field-0-test in
    let Q : ℕ → Type 0 = λ k. Takes left after (take k c.read.new.buf) in
    let lt : length inv.bytes < 2 ^ 30 = omega (arith, inv.count, c.loop-taken-test.true) in
    let within : length inv.bytes ≤ 2 ^ 30 = omega (arith, lt) in
    let taken : Takes first after inv.bytes = subst (λ (b : List ℕ). Takes first after b) (append-nil inv.bytes) (Takes-append first left after inv.bytes [] inv.taken (subst Q z r.0)) in
    let last = c.end_line-last.ensures.ends inv.fed.tail (c.bytes.ensures ∙ inv.fed.does.1) in (
      script_of inv.bytes inv.fed.lines inv.fed.tail inv.fed.cut within,
      taken,
      serves_last inv.bytes first c.end_line-last.result c.last_status.result w0 w1 w2 g0 g1 g2 c.loop-taken.line inv.fed within
          (record { short = lt; all = Takes-all first left inv.bytes inv.taken (r.1 z) }) c.last_status.ensures last,
    )

pub loop-taken-preserved : goal.loop-taken-preserved
loop-taken-preserved g c =
    let inv = c.loop-taken.invariant in
    let first : Option (List ℕ) = g.S.Source.left c.args.source.now in
    let left : Option (List ℕ) = g.S.Source.left c.loop-taken.source in
    let after : Option (List ℕ) = g.S.Source.left c.read.new.self in
    let w0 : World = world c.args.session.now (g.F.Shelf.told c.args.shelf.now) (g.F.Shelf.faults c.args.shelf.now) in
    let w1 : World = world c.loop-taken.session (g.F.Shelf.told c.loop-taken.shelf) (g.F.Shelf.faults c.loop-taken.shelf) in
    let g0 : Option (List ℕ) = g.K.Sink.got c.args.sink.now in
    let g1 : Option (List ℕ) = g.K.Sink.got c.loop-taken.sink in
    let w2 : World = world c.feed.new.session (g.F.Shelf.told c.feed.new.shelf) (g.F.Shelf.faults c.feed.new.shelf) in
    let g2 : Option (List ℕ) = g.K.Sink.got c.feed.new.sink in
    let n : ℕ = c.in-Ok-read.count in
    let buf : List ℕ = c.read.new.buf in
    let le : n ≤ length buf = c.in-Ok-read.ensures.count in
    let all = fed_more inv.bytes buf (drop c.min-room.result c.loop-taken.piece) n c.feed.result w0 w1 w2 g0 g1 g2 c.loop-taken.line c.feed.new.line le inv.fed (c.feed.ensures.feeds inv.fed.tail inv.fed.cut.rest inv.fed.does.1) in
    let P : Result Flow SinkFailed → Type 0 = λ r. Feeds c.args.settings [] (inv.bytes ++ take n buf) r w0 w2 g0 g2 c.feed.new.line in
    record {
      within = omega (arith, length-take {A = ℕ});
      bytes = inv.bytes ++ take n buf;
      taken = Takes-append first left after inv.bytes (take n buf) inv.taken c.in-Ok-read.ensures.content.0;
      count = count_more inv.bytes buf n c.loop-taken.taken le inv.count;
      fed = subst P (c.in-Ok-On.is ∙ ap Ok c.in-Ok-On.field-0-is) all;
      source = omega arith;
      sink = omega arith;
      shelf = omega arith;
      kept = Keeps-trans (g.K.Sink.kept c.args.sink.now) (g.K.Sink.kept c.loop-taken.sink) (g.K.Sink.kept c.feed.new.sink) inv.kept c.feed.ensures.kept;
    }

pub returns-in-Ok-Quit-clause-serves : goal.returns-in-Ok-Quit-clause-serves
returns-in-Ok-Quit-clause-serves g c =
    let inv = c.loop-taken.invariant in
    let first : Option (List ℕ) = g.S.Source.left c.args.source.now in
    let left : Option (List ℕ) = g.S.Source.left c.loop-taken.source in
    let after : Option (List ℕ) = g.S.Source.left c.read.new.self in
    let w0 : World = world c.args.session.now (g.F.Shelf.told c.args.shelf.now) (g.F.Shelf.faults c.args.shelf.now) in
    let w1 : World = world c.loop-taken.session (g.F.Shelf.told c.loop-taken.shelf) (g.F.Shelf.faults c.loop-taken.shelf) in
    let g0 : Option (List ℕ) = g.K.Sink.got c.args.sink.now in
    let g1 : Option (List ℕ) = g.K.Sink.got c.loop-taken.sink in
    let w2 : World = world c.feed.new.session (g.F.Shelf.told c.feed.new.shelf) (g.F.Shelf.faults c.feed.new.shelf) in
    let g2 : Option (List ℕ) = g.K.Sink.got c.feed.new.sink in
    let n : ℕ = c.in-Ok-read.count in
    let buf : List ℕ = c.read.new.buf in
    let le : n ≤ length buf = c.in-Ok-read.ensures.count in
    let all = fed_more inv.bytes buf (drop c.min-room.result c.loop-taken.piece) n c.feed.result w0 w1 w2 g0 g1 g2 c.loop-taken.line c.feed.new.line le inv.fed (c.feed.ensures.feeds inv.fed.tail inv.fed.cut.rest inv.fed.does.1) in
    let P : Result Flow SinkFailed → Type 0 = λ r. Feeds c.args.settings [] (inv.bytes ++ take n buf) r w0 w2 g0 g2 c.feed.new.line in
    let within : length (inv.bytes ++ take n buf) ≤ 2 ^ 30 = omega (arith, count_more inv.bytes buf n c.loop-taken.taken le inv.count, length-take {A = ℕ}) in
    let fed = subst P (c.in-Ok-Quit.is ∙ ap Ok c.in-Ok-Quit.field-0-is) all in (
      script_of (inv.bytes ++ take n buf) fed.lines fed.tail fed.cut within,
      Takes-append first left after inv.bytes (take n buf) inv.taken c.in-Ok-read.ensures.content.0,
      serves_quit (inv.bytes ++ take n buf) first w0 w2 g0 g2 c.feed.new.line fed within,
    )

pub returns-in-Err-feed-clause-serves : goal.returns-in-Err-feed-clause-serves
returns-in-Err-feed-clause-serves g c =
    let inv = c.loop-taken.invariant in
    let first : Option (List ℕ) = g.S.Source.left c.args.source.now in
    let left : Option (List ℕ) = g.S.Source.left c.loop-taken.source in
    let after : Option (List ℕ) = g.S.Source.left c.read.new.self in
    let w0 : World = world c.args.session.now (g.F.Shelf.told c.args.shelf.now) (g.F.Shelf.faults c.args.shelf.now) in
    let w1 : World = world c.loop-taken.session (g.F.Shelf.told c.loop-taken.shelf) (g.F.Shelf.faults c.loop-taken.shelf) in
    let g0 : Option (List ℕ) = g.K.Sink.got c.args.sink.now in
    let g1 : Option (List ℕ) = g.K.Sink.got c.loop-taken.sink in
    let w2 : World = world c.feed.new.session (g.F.Shelf.told c.feed.new.shelf) (g.F.Shelf.faults c.feed.new.shelf) in
    let g2 : Option (List ℕ) = g.K.Sink.got c.feed.new.sink in
    let n : ℕ = c.in-Ok-read.count in
    let buf : List ℕ = c.read.new.buf in
    let le : n ≤ length buf = c.in-Ok-read.ensures.count in
    let all = fed_more inv.bytes buf (drop c.min-room.result c.loop-taken.piece) n c.feed.result w0 w1 w2 g0 g1 g2 c.loop-taken.line c.feed.new.line le inv.fed (c.feed.ensures.feeds inv.fed.tail inv.fed.cut.rest inv.fed.does.1) in
    let P : Result Flow SinkFailed → Type 0 = λ r. Feeds c.args.settings [] (inv.bytes ++ take n buf) r w0 w2 g0 g2 c.feed.new.line in
    let within : length (inv.bytes ++ take n buf) ≤ 2 ^ 30 = omega (arith, count_more inv.bytes buf n c.loop-taken.taken le inv.count, length-take {A = ℕ}) in
    let fed = subst P c.in-Err-feed.is all in (
      script_of (inv.bytes ++ take n buf) fed.lines fed.tail fed.cut within,
      Takes-append first left after inv.bytes (take n buf) inv.taken c.in-Ok-read.ensures.content.0,
      serves_failed (inv.bytes ++ take n buf) first c.in-Err-feed.field-0 w0 w2 g0 g2 c.feed.new.line fed within,
    )
