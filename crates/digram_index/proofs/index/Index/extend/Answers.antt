use Rattle.std.proofs.Common.{refl, ap, sym, ◌∙◌, arith}
use Rattle.digram_index.specs.Linked.{cell_of}
use Rattle.digram_index.proofs.CellLemmas.{cell-at, knowns-spots}
use Rattle.digram_index.proofs.MarkLemmas.{marks-spots}
use Rattle.digram_index.proofs.index.Index.extend.Goals as goal

pub returns-clause-cells : goal.returns-clause-cells
returns-clause-cells c = rw (← c.self.view_is) (λ k.
    cell-at c.self.inside.numbers.numbers c.extend.new.self.spots k ∙ ap (cell_of c.self.inside.numbers.numbers) (c.extend.ensures.spots k) ∙ sym (cell-at c.self.inside.numbers.numbers c.self.inside.entries.spots k))

pub invariant_of-self : goal.invariant_of-self
invariant_of-self c = record {
  known = knowns-spots c.self.inside.numbers c.self.inside.numbers c.self.inside.entries c.extend.new.self c.self.invariant.known c.extend.ensures.spots refl (let k = c.self.invariant.known.callees in let e = c.extend.ensures.callees in omega arith);
  marks = marks-spots c.self.inside.entries c.extend.new.self c.self.inside.marked.items c.self.invariant.marks c.extend.ensures.spots;
}
