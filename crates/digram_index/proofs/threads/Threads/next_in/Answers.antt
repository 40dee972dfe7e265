use Rattle.std.proofs.Common.{length, ap, ◌∙◌}
use Rattle.digram_index.specs.Grouped.{Grouped}
use Rattle.digram_index.specs.Places.{thread_at}
use Rattle.digram_index.specs.Threading.{IsThreaded, held_of}
use Rattle.digram_index.proofs.NextAlike.{seen-next}
use Rattle.digram_index.proofs.threads.Threads.next_in.Goals as goal

pub returns : goal.returns
returns c =
    let T : IsThreaded (length c.as_slice-2.result.now) (thread_at c.as_slice.result.now c.as_slice-2.result.now) = rw (c.as_slice.ensures.value, c.as_slice-2.ensures.value) c.self.invariant.threaded in
    seen-next c.as_slice.result.now c.as_slice-2.result.now c.args.self.now T (ap held_of c.as_slice.ensures.value ∙ ap (λ (g : Grouped). g.held) c.self.view_is)
    c.args.item c.requires c.next.result c.next.ensures
