use Rattle.std.proofs.Common.{List, Option, All, option_to_list, subst, arith}
use Rattle.rule_arena.specs.declared.key.Key.{Key}
use Rattle.preorder_address.specs.Shifted.{IsLeft}
use Rattle.preorder_address.specs.declared.marks.Mark.{Mark}
use Rattle.preorder_address.specs.declared.shifting.Shift.{Shift}
use Rattle.start_marks.proofs.Moving.{marks-left}
use Rattle.tree_updates.specs.Fronts.{first_keys}
use Rattle.tree_updates.proofs.moving_marks.move_marks.Goals as goal

pub returns : goal.returns
returns c = λ names G told.
    let s = c.args.store.now in
    let t = told (omega (arith, c.len.ensures.value, c.if-named-len.false)) in
    let shift : Shift = record { by = c.args.by; number = c.args.number; had = c.args.had; has = c.whole_weights.result } in
    let olds : List Mark = c.args.marks.now in
    let news : List Mark = c.shift.new.self in
    let left = subst (λ (k : Option Key). All (IsLeft shift (option_to_list k) olds) news) c.key_of_first.ensures c.shift.ensures in
    marks-left names shift (first_keys c.args.levels.now) G s.grammar.rules olds news t.1 t.2 (c.whole_weights.ensures names s.grammar.rules t.3 c.limit-limit.ensures.keyed.grammar) t.0 left
