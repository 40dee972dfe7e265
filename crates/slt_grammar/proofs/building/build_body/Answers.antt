use Rattle.std.proofs.Common.{◌+◌, ◌-◌, ◌≤◌, ◌∙◌, refl, length, get_or, take, drop, arith, rules}
use Rattle.std.proofs.lemmas.List.{length-set}
use Rattle.rule_arena.specs.declared.label.Label.TheVariants.{Bottom}
use Rattle.slt_grammar.specs.Algebras.{ranks_of}
use Rattle.slt_grammar.proofs.Growing.{IsStack, IsAdded, end-there, some-there, stand-there, differ-there, built-on, keeps-on, new-on, one-left}
use Rattle.slt_grammar.proofs.building.build_body.Goals as goal

pub slice_bounds-add-end : goal.slice_bounds-add-end
slice_bounds-add-end c =
    let I = c.loop-i.invariant in
    let S : IsStack (ranks_of c.args.rules.now) c.args.body.now c.loop-i.arena c.loop-i.stack c.loop-i.top c.loop-i.i c.arity_of.result =
    record { whole = c.requires.term; built = I.built; room = I.top; fits = omega (arith, I.stack, c.requires.stack); more = c.loop-i-test.true; there = c.loop-i.auto.i; takes = c.arity_of.ensures } in
    let h : c.loop-i.top + c.arity_of.result ≤ length c.loop-i.stack = end-there (ranks_of c.args.rules.now) c.args.body.now c.loop-i.arena c.loop-i.stack c.loop-i.top c.loop-i.i c.arity_of.result S in
    search rules

pub add-root-requires-clause-roots : goal.add-root-requires-clause-roots
add-root-requires-clause-roots c =
    let I = c.loop-i.invariant in
    let S : IsStack (ranks_of c.args.rules.now) c.args.body.now c.loop-i.arena c.loop-i.stack c.loop-i.top c.loop-i.i c.arity_of.result =
    record { whole = c.requires.term; built = I.built; room = I.top; fits = omega (arith, I.stack, c.requires.stack); more = c.loop-i-test.true; there = c.loop-i.auto.i; takes = c.arity_of.ensures } in
    stand-there (ranks_of c.args.rules.now) c.args.body.now c.loop-i.arena c.loop-i.stack c.loop-i.top c.loop-i.i c.arity_of.result S

pub add-root-requires-clause-distinct : goal.add-root-requires-clause-distinct
add-root-requires-clause-distinct c =
    let I = c.loop-i.invariant in
    let S : IsStack (ranks_of c.args.rules.now) c.args.body.now c.loop-i.arena c.loop-i.stack c.loop-i.top c.loop-i.i c.arity_of.result =
    record { whole = c.requires.term; built = I.built; room = I.top; fits = omega (arith, I.stack, c.requires.stack); more = c.loop-i-test.true; there = c.loop-i.auto.i; takes = c.arity_of.ensures } in
    differ-there (ranks_of c.args.rules.now) c.args.body.now c.loop-i.arena c.loop-i.stack c.loop-i.top c.loop-i.i c.arity_of.result S

pub overflow_sub-top : goal.overflow_sub-top
overflow_sub-top c =
    let I = c.loop-i.invariant in
    let S : IsStack (ranks_of c.args.rules.now) c.args.body.now c.loop-i.arena c.loop-i.stack c.loop-i.top c.loop-i.i c.arity_of.result =
    record { whole = c.requires.term; built = I.built; room = I.top; fits = omega (arith, I.stack, c.requires.stack); more = c.loop-i-test.true; there = c.loop-i.auto.i; takes = c.arity_of.ensures } in
    some-there (ranks_of c.args.rules.now) c.args.body.now c.loop-i.arena c.loop-i.stack c.loop-i.top c.loop-i.i c.arity_of.result S

pub loop-i-preserved : goal.loop-i-preserved
loop-i-preserved c =
    let I = c.loop-i.invariant in
    let S : IsStack (ranks_of c.args.rules.now) c.args.body.now c.loop-i.arena c.loop-i.stack c.loop-i.top c.loop-i.i c.arity_of.result =
    record { whole = c.requires.term; built = I.built; room = I.top; fits = omega (arith, I.stack, c.requires.stack); more = c.loop-i-test.true; there = c.loop-i.auto.i; takes = c.arity_of.ensures } in
    let added : IsAdded c.loop-i.arena c.add-root.new.self (get_or c.args.body.now (c.loop-i.i - 1) Bottom) (take (c.loop-i.top + c.arity_of.result - c.loop-i.top) (drop c.loop-i.top c.loop-i.stack)) c.add-root.result =
    record { vacant = c.add-root.ensures.vacant; term = c.add-root.ensures.term; others = c.add-root.ensures.others } in
    let some = some-there (ranks_of c.args.rules.now) c.args.body.now c.loop-i.arena c.loop-i.stack c.loop-i.top c.loop-i.i c.arity_of.result S in
    let end = end-there (ranks_of c.args.rules.now) c.args.body.now c.loop-i.arena c.loop-i.stack c.loop-i.top c.loop-i.i c.arity_of.result S in
    let n = length-set c.loop-i.stack (c.loop-i.top + c.arity_of.result - 1) c.add-root.result in
    record {
      built = built-on (ranks_of c.args.rules.now) c.args.body.now c.loop-i.arena c.loop-i.stack c.loop-i.top c.loop-i.i c.arity_of.result S c.args.arena.now c.add-root.new.self c.add-root.result I.keeps I.new added;
      new = new-on (ranks_of c.args.rules.now) c.args.body.now c.loop-i.arena c.loop-i.stack c.loop-i.top c.loop-i.i c.arity_of.result S c.args.arena.now c.add-root.new.self c.add-root.result I.keeps I.new added;
      keeps = keeps-on (ranks_of c.args.rules.now) c.args.body.now c.loop-i.arena c.loop-i.stack c.loop-i.top c.loop-i.i c.arity_of.result S c.args.arena.now c.add-root.new.self c.add-root.result I.keeps I.new added;
      spare = omega (arith, I.spare, c.add-root.ensures.spare, c.loop-i-test.true, c.loop-i.auto.i);
      top = omega arith;
      stack = n ∙ I.stack;
    }

pub returns-clause-vacant : goal.returns-clause-vacant
returns-clause-vacant c =
    let l = one-left (ranks_of c.args.rules.now) c.args.body.now c.loop-i.arena c.loop-i.stack c.loop-i.top c.loop-i.i c.index-stack-top.result c.requires.term c.loop-i.invariant.built (omega arith) c.index-stack-top.is in
    c.loop-i.invariant.new 0 c.index-stack-top.result (rw l.1 refl)

pub returns-clause-built : goal.returns-clause-built
returns-clause-built c = (one-left (ranks_of c.args.rules.now) c.args.body.now c.loop-i.arena c.loop-i.stack c.loop-i.top c.loop-i.i c.index-stack-top.result c.requires.term c.loop-i.invariant.built (omega arith) c.index-stack-top.is).2
