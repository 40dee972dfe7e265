use Rattle.std.proofs.Common.{◌≡◌, ◌≢◌, inl, inr, ℕ, [], reverse, ap, sym, ◌∙◌}
use Rattle.std.proofs.lemmas.List.{length-reverse}
use Rattle.rule_arena.specs.declared.label.Label.{Label}
use Rattle.rule_arena.specs.declared.label.Label.TheVariants.{Symbol}
use Rattle.slt_grammar.specs.Bodies.{arity}
use Rattle.border_repair.specs.Digrams.{IsEnd}
use Rattle.border_repair.proofs.Closing.{can-first, can-second, both-closed, no-kids}
use Rattle.border_repair.proofs.cutting.close_kids.Goals as goal

pub close-requires : goal.close-requires
close-requires c =
    let o = c.args.cutter.now in
    let n = c.len-end.ensures ∙ o.args.ok.0 ∙ sym (length-reverse o.args.items) in
    can-first c.args.rules.now (reverse o.marks.items) (reverse o.parts.items) (reverse o.args.items) (arity [] c.args.label) (ap (arity []) c.in-Symbol.is) c.requires.kids c.len-end.result n

pub close-requires-in-Symbol : goal.close-requires-in-Symbol
close-requires-in-Symbol c =
    let o = c.args.cutter.now in
    let k = c.close.new.cutter in
    let n = c.len-end.ensures ∙ o.args.ok.0 ∙ sym (length-reverse o.args.items) in
    let w = c.requires.kids in
    let first = can-first c.args.rules.now (reverse o.marks.items) (reverse o.parts.items) (reverse o.args.items) (arity [] c.args.label) (ap (arity []) c.in-Symbol.is) w c.len-end.result n in
    can-second c.args.rules.now (reverse o.marks.items) (reverse o.parts.items) (reverse o.args.items) (arity [] c.args.label) (ap (arity []) c.in-Symbol.is) w
    c.close.new.rules (reverse k.marks.items) (reverse k.parts.items) (reverse k.args.items) c.in_ok-middle.middle (c.in_ok-middle.ensures.closed first)

pub returns-in-Symbol-clause-closed : goal.returns-in-Symbol-clause-closed
returns-in-Symbol-clause-closed c w =
    let o = c.args.cutter.now in
    let k = c.close.new.cutter in
    let j = c.close-in-Symbol.new.cutter in
    let n = c.len-end.ensures ∙ o.args.ok.0 ∙ sym (length-reverse o.args.items) in
    let first = can-first c.args.rules.now (reverse o.marks.items) (reverse o.parts.items) (reverse o.args.items) (arity [] c.args.label) (ap (arity []) c.in-Symbol.is) w c.len-end.result n in
    let x = c.in_ok-middle.ensures.closed first in
    let second = can-second c.args.rules.now (reverse o.marks.items) (reverse o.parts.items) (reverse o.args.items) (arity [] c.args.label) (ap (arity []) c.in-Symbol.is) w
    c.close.new.rules (reverse k.marks.items) (reverse k.parts.items) (reverse k.args.items) c.in_ok-middle.middle x in
    both-closed c.args.rules.now (reverse o.marks.items) (reverse o.parts.items) (reverse o.args.items) (arity [] c.args.label) (ap (arity []) c.in-Symbol.is) w
    c.close.new.rules (reverse k.marks.items) (reverse k.parts.items) (reverse k.args.items) c.in_ok-middle.middle x
    c.close-in-Symbol.new.rules (reverse j.marks.items) (reverse j.parts.items) (reverse j.args.items) c.in_ok-start.start (c.in_ok-start.ensures.closed second)

pub returns-clause-closed : goal.returns-clause-closed
returns-clause-closed c w =
    let o = c.args.cutter.now in
    no-kids c.args.rules.now (reverse o.marks.items) (reverse o.parts.items) (reverse o.args.items) (arity [] c.args.label) (by_label c.args.label c.requires.symbol c.in_default.not-Symbol) w.held c.len-end.result (c.len-end.ensures ∙ o.args.ok.0 ∙ sym (length-reverse o.args.items))
  where
    by_label : (l : Label) → IsEnd l → ((f : ℕ) → l ≢ Symbol f) → arity [] l ≡ 0
    by_label l (inl x) n = absurd (n x.0 x.1)
    by_label l (inr x) n = ap (arity []) x
