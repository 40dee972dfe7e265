use Rattle.std.proofs.Common.{◌≡◌, ◌∙◌, ap, ℕ, List, Vec, Global, get_or, set, insert, remove, arith}
use Rattle.slt_grammar.proofs.Orders.{carried-up, carried-down, get-any}
use Rattle.slt_grammar.proofs.order.carry.Goals as goal
use Rattle.slt_grammar.proofs.order.carry.Goals.{then-from-to, else-from-to}

pub returns : goal.returns
returns c =
    let xs : List ℕ = c.args.items.now.items in
    let e : c.index-item.result.now ≡ get_or xs c.args.from 0 = c.index-item.ensures ∙ get-any xs c.args.from c.index-item.result.now 0 c.requires.from in
    elim c.if-from-to.branch [
      | then-from-to w ↦
          ap (λ (v : Vec ℕ Global). set v.items c.args.to c.index-item.result.now) w.items-is
          ∙ carried-up xs w.copy_within.new.self.items c.args.from c.args.to c.index-item.result.now w.if-from-to.true c.requires.to e (omega (arith, w.copy_within.ensures.len, w.copy_within.new.self.ok, c.args.items.now.ok)) w.copy_within.ensures.by_index
          ∙ ap (insert (remove xs c.args.from) c.args.to) e
      | else-from-to w ↦
          ap (λ (v : Vec ℕ Global). set v.items c.args.to c.index-item.result.now) w.items-is
          ∙ carried-down xs w.copy_within-else-from-to.new.self.items c.args.from c.args.to c.index-item.result.now w.if-from-to.false c.requires.from e
          (omega (arith, w.copy_within-else-from-to.ensures.len, w.copy_within-else-from-to.new.self.ok, c.args.items.now.ok)) w.copy_within-else-from-to.ensures.by_index
          ∙ ap (insert (remove xs c.args.from) c.args.to) e
    ]
