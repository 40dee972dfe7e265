use Rattle.std.proofs.Common.{ℕ, List, get_or, Option, None, refl, ap, sym, ◌∙◌, arith}
use Rattle.digram_index.specs.Linked.{cell_of}
use Rattle.digram_index.specs.Spots.{Spot}
use Rattle.digram_index.proofs.CellLemmas.{cell-at, knowns-spots}
use Rattle.digram_index.proofs.MarkLemmas.{marks-spots}
use Rattle.digram_index.proofs.index.Index.reserve_link.Goals as goal

pub returns-clause-cells : goal.returns-clause-cells
returns-clause-cells c = rw (← c.self.view_is) (λ k.
    cell-at c.self.inside.numbers.numbers c.reserve.new.self.spots k
    ∙ ap (λ (ss : List (Option Spot)). cell_of c.self.inside.numbers.numbers (get_or ss k None)) c.reserve.ensures.spots
    ∙ sym (cell-at c.self.inside.numbers.numbers c.self.inside.entries.spots k))

pub invariant_of-self : goal.invariant_of-self
invariant_of-self c =
    let q = λ (k : ℕ). ap (λ (ss : List (Option Spot)). get_or ss k None) c.reserve.ensures.spots in
    record {
      known = knowns-spots c.self.inside.numbers c.self.inside.numbers c.self.inside.entries c.reserve.new.self c.self.invariant.known q refl (let k = c.self.invariant.known.callees in let e = c.reserve.ensures.callees in omega arith);
      marks = marks-spots c.self.inside.entries c.reserve.new.self c.self.inside.marked.items c.self.invariant.marks q;
    }
