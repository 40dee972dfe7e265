use Rattle.std.proofs.Common.{ℕ, List, get_or, Option, None, ap, sym, ◌∙◌, arith}
use Rattle.digram_index.specs.Linked.{cell_of}
use Rattle.digram_index.specs.Spots.{Spot, spot_at}
use Rattle.digram_index.proofs.CellLemmas.{cell-at, knowns-spots}
use Rattle.digram_index.proofs.MarkLemmas.{marks-spots}
use Rattle.digram_index.proofs.index.Index.reserve.Goals as goal

pub returns-clause-cells : goal.returns-clause-cells
returns-clause-cells c = rw (← c.self.view_is) (λ k.
    cell-at c.reserve.new.self.numbers c.extend.new.self.spots k ∙ ap (cell_of c.reserve.new.self.numbers) (c.extend.ensures.spots k)
    ∙ ap (λ ns. cell_of ns (spot_at c.reserve-2.new.self k)) c.reserve.ensures.numbers
    ∙ ap (λ (ss : List (Option Spot)). cell_of c.self.inside.numbers.numbers (get_or ss k None)) (c.reserve-2.ensures.spots ∙ c.reserve_callees.ensures.spots)
    ∙ sym (cell-at c.self.inside.numbers.numbers c.self.inside.entries.spots k))

pub invariant_of-self-2 : goal.invariant_of-self-2
invariant_of-self-2 c =
    let q = λ (k : ℕ). c.extend.ensures.spots k ∙ ap (λ (ss : List (Option Spot)). get_or ss k None) (c.reserve-2.ensures.spots ∙ c.reserve_callees.ensures.spots) in
    record {
      known = knowns-spots c.self.inside.numbers c.reserve.new.self c.self.inside.entries c.extend.new.self c.self.invariant.known q c.reserve.ensures.numbers
          (let k = c.self.invariant.known.callees in let g = c.reserve.ensures.given in let m = c.reserve_callees.ensures.more in let e = c.reserve-2.ensures.callees in let f = c.extend.ensures.callees in omega arith);
      marks = marks-spots c.self.inside.entries c.extend.new.self c.self.inside.marked.items c.self.invariant.marks q;
    }
