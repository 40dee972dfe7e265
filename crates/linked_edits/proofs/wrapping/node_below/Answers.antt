use Rattle.std.proofs.Common.{◌≡◌, ◌-◌, ℕ, length, ap, sym, ◌∙◌, subst, arith}
use Rattle.slt_grammar.specs.Keyed.{key_at}
use Rattle.linked_edits.specs.Endings.{IsBelow}
use Rattle.linked_edits.proofs.NodesBelow.{child-below, parent-stands, root-below, some-below, some-rules, under-some}
use Rattle.linked_edits.proofs.wrapping.node_below.Goals as goal

pub returns-in_default : goal.returns-in_default
returns-in_default c = λ place B.
    let g = c.args.grammar.now in
    let e : c.rules.result - 1 ≡ length g.rules - 1 = omega (arith, c.rules.ensures.value) in
    root-below g c.limit-limit.ensures.keyed (some-rules g c.limit-limit.ensures.keyed) place c.root.result (subst (IsBelow g.rules place) c.in_default.is B) (ap (λ (i : ℕ). key_at g.rules i 0) (sym e) ∙ c.root.ensures)

pub item-kids-requires : goal.item-kids-requires
item-kids-requires c =
    let g = c.args.grammar.now in
    let w = c.requires in
    let P = parent-stands g c.limit-limit.ensures.keyed (some-rules g c.limit-limit.ensures.keyed) w.0 c.in-Some.link.0 c.in-Some.link.1 (subst (IsBelow g.rules w.0) c.in-Some.is w.1) in
    (P.0, P.1.0, P.1.1)

pub overflow_sub-link : goal.overflow_sub-link
overflow_sub-link c =
    let g = c.args.grammar.now in
    let w = c.requires in
    under-some g c.limit-limit.ensures.keyed (some-rules g c.limit-limit.ensures.keyed) w.0 c.in-Some.link.0 c.in-Some.link.1 (subst (IsBelow g.rules w.0) c.in-Some.is w.1)

pub unwrap-requires : goal.unwrap-requires
unwrap-requires c =
    let g = c.args.grammar.now in
    let w = c.requires in
    let K = c.limit-limit.ensures.keyed in
    let B = subst (IsBelow g.rules w.0) c.in-Some.is w.1 in
    some-below g K (some-rules g K) w.0 c.in-Some.link.0 c.in-Some.link.1 B c.get.result (c.get.ensures ∙ child-below g K (some-rules g K) w.0 c.in-Some.link.0 c.in-Some.link.1 B c.item-kids.result.kids c.item-kids.ensures.kids)

pub returns : goal.returns
returns c = λ place B'.
    let g = c.args.grammar.now in
    let K = c.limit-limit.ensures.keyed in
    let B = subst (IsBelow g.rules place) c.in-Some.is B' in
    sym (child-below g K (some-rules g K) place c.in-Some.link.0 c.in-Some.link.1 B c.item-kids.result.kids c.item-kids.ensures.kids) ∙ sym c.get.ensures ∙ c.unwrap.ensures
