use Rattle.std.proofs.Common.{ap, sym, ◌∙◌}
use Rattle.digram_index.specs.Linked.{cell_of}
use Rattle.digram_index.proofs.CellLemmas.{cell-at}
use Rattle.digram_index.proofs.MarkLemmas.{kept-taken}
use Rattle.digram_index.proofs.index.Index.unlink.Goals as goal

pub returns-clause-others : goal.returns-clause-others
returns-clause-others c = rw (← c.self.view_is) (λ k n.
    cell-at c.self.inside.numbers.numbers c.take.new.self.spots k ∙ ap (cell_of c.self.inside.numbers.numbers) (c.take.ensures.others k (λ z. n (z ∙ c.number-number.ensures))) ∙ sym (cell-at c.self.inside.numbers.numbers c.self.inside.entries.spots k))

pub invariant_of-self : goal.invariant_of-self
invariant_of-self c =
    kept-taken c.self.inside.numbers c.self.inside.entries c.take.new.self c.number-number.result c.self.inside.marked.items c.clear.new.flags.items c.self.invariant c.take.ensures.here c.take.ensures.others c.take.ensures.callees
    c.clear.ensures.here c.clear.ensures.others
