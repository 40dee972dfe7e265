use Rattle.std.proofs.Common.{ap, sym, ◌∙◌, arith}
use Rattle.digram_index.specs.Grouped.{Grouped}
use Rattle.digram_index.specs.declared.thread.Place.TheVariants.{Item}
use Rattle.digram_index.proofs.ThreadLemmas.{at-now}
use Rattle.digram_index.proofs.threads.Threads.groups.Goals as goal

pub returns-clause-all : goal.returns-clause-all
returns-clause-all c = λ k g h.
    let w = c.self.invariant.threaded.few (Item k) g (sym (at-now c.self.inside.items.items c.args.self.now (ap (λ (g : Grouped). g.held) c.self.view_is) k) ∙ h) in
    omega arith
