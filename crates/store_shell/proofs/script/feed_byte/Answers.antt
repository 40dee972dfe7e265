use Rattle.std.proofs.Common.{◌≡◌, ℕ, List, [], ◌∷◌, ◌++◌, Some, Option, arith, ◌∙◌, subst}
use Rattle.store_core.specs.Worlds.{World, world}
use Rattle.store_shell.specs.Feeding.{Feeds}
use Rattle.store_shell.specs.Lines.{kept}
use Rattle.store_shell.proofs.Kept.{kept-push}
use Rattle.store_shell.proofs.Pieces.{Feeds-byte, Feeds-line}
use Rattle.tree_outside.proofs.Beside.{Stays-refl}
use Rattle.store_shell.proofs.script.feed_byte.Goals as goal

pub returns-then-byte-ne10-clause-feeds : goal.returns-then-byte-ne10-clause-feeds
returns-then-byte-ne10-clause-feeds g c = λ part one e.
    let same : c.push.new.self ≡ kept (part ++ c.args.byte ∷ []) = rw (kept-push part c.args.byte, ← e) c.push.ensures in
    Feeds-byte part c.args.byte (world c.args.session.now (g.F.Shelf.told c.args.shelf.now) (g.F.Shelf.faults c.args.shelf.now))
    (g.K.Sink.got c.args.sink.now) c.push.new.self one c.if-byte-ne10.true same (Stays-refl (g.K.Sink.got c.args.sink.now))

pub returns-clause-feeds : goal.returns-clause-feeds
returns-clause-feeds g c = λ part one e.
    let w0 : World = world c.args.session.now (g.F.Shelf.told c.args.shelf.now) (g.F.Shelf.faults c.args.shelf.now) in
    let w1 : World = world c.end_line-done.new.session (g.F.Shelf.told c.end_line-done.new.shelf) (g.F.Shelf.faults c.end_line-done.new.shelf) in
    let g0 : Option (List ℕ) = g.K.Sink.got c.args.sink.now in
    let g1 : Option (List ℕ) = g.K.Sink.got c.end_line-done.new.sink in
    let ends = c.end_line-done.ensures.ends part (c.bytes.ensures ∙ e) in
    let Q : ℕ → Type 0 = λ byte. Feeds c.args.settings part (byte ∷ []) c.end_line-done.result w0 w1 g0 g1 (Some []) in
    let ten : 10 ≡ c.args.byte = omega arith in
    rw c.clear.ensures (subst Q ten (Feeds-line part c.end_line-done.result w0 w1 g0 g1 one ends))
