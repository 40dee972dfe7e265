use Rattle.std.proofs.Common.{◌≡◌, ◌++◌, ℕ, List, take, sym, subst, arith}
use Rattle.tree_outside.specs.Shelf.{TakesFile}
use Rattle.store_core.proofs.ReadSteps.{TakesFile-none, TakesFile-append}
use Rattle.store_core.proofs.file_reading.read_bytes.Goals as goal

pub loop-piece-init : goal.loop-piece-init
loop-piece-init g c =
    let P : List ℕ → Type 0 = λ bytes. TakesFile (g.F.Shelf.told c.args.shelf.now) (g.F.Shelf.told c.args.shelf.now) bytes in
    record {
      taken = subst P (sym c.new-bytes.ensures.items) (TakesFile-none (g.F.Shelf.told c.args.shelf.now));
      later = omega arith;
    }

pub loop-piece-preserved : goal.loop-piece-preserved
loop-piece-preserved g c =
    let w = c.loop-piece.invariant in
    let count = c.in-Ok.count in
    let piece = take count c.read.new.buf in
    let all : c.extend_from_slice.new.self.items ≡ c.loop-piece.bytes.items ++ piece = c.in_ok-extend_from_slice.ensures.items in
    record {
      taken = rw all (TakesFile-append _ _ _ c.loop-piece.bytes.items piece w.taken c.in-Ok.ensures.content.0);
      later = omega (arith, c.in-Ok.ensures.cause.later);
    }
