use Rattle.std.proofs.Common.{ap, sym, ◌∙◌, arith}
use Rattle.digram_index.specs.Linked.{cell_of}
use Rattle.digram_index.proofs.CellLemmas.{knowns-added, cell-at}
use Rattle.digram_index.proofs.MarkLemmas.{marks-added}
use Rattle.digram_index.proofs.index.Index.enter.Goals as goal

pub returns-clause-others : goal.returns-clause-others
returns-clause-others c = rw (← c.self.view_is) (λ k n.
    cell-at c.self.inside.numbers.numbers c.add.new.self.spots k ∙ ap (cell_of c.self.inside.numbers.numbers) (c.add.ensures.others k n) ∙ sym (cell-at c.self.inside.numbers.numbers c.self.inside.entries.spots k))

pub invariant_of-self : goal.invariant_of-self
invariant_of-self c =
    record {
      known = knowns-added c.self.inside.numbers c.self.inside.entries c.add.new.self c.args.lower c.args.upper.number (record { upper = c.mark_of.result; place = c.args.digram.place; lower = c.mark_of-2.result; rank = c.args.rank }) c.self.invariant.known
          c.add.ensures.here c.add.ensures.others c.mark_of.ensures.known c.mark_of-2.ensures.known c.requires.small (let e = c.add.ensures.callees in omega arith);
      marks = marks-added c.self.inside.entries c.add.new.self c.args.lower (record { pattern = record { upper = c.mark_of.result; place = c.args.digram.place; lower = c.mark_of-2.result; rank = c.args.rank }; upper = c.args.upper.number }) c.self.inside.marked.items c.self.invariant.marks c.add.ensures.here c.add.ensures.others;
    }

pub add-requires-clause-callee : goal.add-requires-clause-callee
add-requires-clause-callee c = λ n e. let l = c.mark_of-2.ensures.below n e in let k = c.self.invariant.known.callees in omega arith
