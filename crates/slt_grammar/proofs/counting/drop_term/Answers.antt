use Rattle.std.proofs.Common.{◌≡◌, ◌∙◌, ◌+◌, ◌∷◌, [], ℕ, suc, List, Option, Some, None, length, ap, sym, refl, subst, arith}
use Rattle.rule_arena.specs.Terms.{Node, At, term_at, or_nothing}
use Rattle.rule_arena.proofs.CellLemmas.{some_of}
use Rattle.rule_arena.specs.declared.key.Key.{Key}
use Rattle.rule_arena.specs.declared.label.Label.{Label}
use Rattle.slt_grammar.specs.Bodies.{calls_in, CallsBelow}
use Rattle.slt_grammar.specs.Placing.{placed_label}
use Rattle.slt_grammar.proofs.Dropped.{dropped-none, dropped-more, dropped-all, below-placed, calls-one, labels_past, labels_past-next, params-few, dropped-fewer}
use Rattle.slt_grammar.proofs.Held.{term-within}
use Rattle.slt_grammar.proofs.KeyedLemmas.{key_in-within}
use Rattle.slt_grammar.proofs.Orders.{place-within}
use Rattle.slt_grammar.proofs.Seen.{known-node}
use Rattle.slt_grammar.proofs.counting.drop_term.Goals as goal

pub loop-at-init : goal.loop-at-init
loop-at-init c = λ ns t. dropped-none c.args.order.now.order ns c.args.calls.now c.args.root (c.limit-limit.ensures.sound.first c.args.root.number ns t) (c.requires.counted ns t)

pub pass-label-requires : goal.pass-label-requires
pass-label-requires c =
    let s = some_of (term_at c.args.arena.now c.args.root.number) c.requires.root in
    let D = c.loop-at.invariant s.0 s.1 in
    record { root = c.args.root.number; nodes = s.0; place = c.loop-at.nodes; stands = s.1; there = sym D.next ∙ c.in-Some.is }

pub place_label-label-requires : goal.place_label-label-requires
place_label-label-requires c =
    let s = some_of (term_at c.args.arena.now c.args.root.number) c.requires.root in
    let D = c.loop-at.invariant s.0 s.1 in
    let x : At c.args.arena.now c.in-Some.key = record { root = c.args.root.number; nodes = s.0; place = c.loop-at.nodes; stands = s.1; there = sym D.next ∙ c.in-Some.is } in
    let n = c.pass-label.ensures.label x in
    known-node c.args.order.now.order s.0 c.loop-at.nodes (record { key = c.in-Some.key; label = c.pass-label.result.0; kids = n.0 }) n.1 (c.requires.known s.0 s.1)

pub drop_calls-requires-clause-there : goal.drop_calls-requires-clause-there
drop_calls-requires-clause-there c =
    let s = some_of (term_at c.args.arena.now c.args.root.number) c.requires.root in
    let D = c.loop-at.invariant s.0 s.1 in
    let x : At c.args.arena.now c.in-Some.key = record { root = c.args.root.number; nodes = s.0; place = c.loop-at.nodes; stands = s.1; there = sym D.next ∙ c.in-Some.is } in
    let n = c.pass-label.ensures.label x in
    let k = known-node c.args.order.now.order s.0 c.loop-at.nodes (record { key = c.in-Some.key; label = c.pass-label.result.0; kids = n.0 }) n.1 (c.requires.known s.0 s.1) in
    subst (λ (l : Label). CallsBelow (length c.loop-at.calls) (l ∷ [])) (sym c.place_label-label.ensures)
    (below-placed c.args.order.now.order (length c.loop-at.calls) c.pass-label.result.0 (omega (arith, c.requires.len, D.len)) k (place-within c.args.order.now.order))

pub drop_calls-requires-clause-counted : goal.drop_calls-requires-clause-counted
drop_calls-requires-clause-counted c = λ q h.
    let s = some_of (term_at c.args.arena.now c.args.root.number) c.requires.root in
    let D = c.loop-at.invariant s.0 s.1 in
    let x : At c.args.arena.now c.in-Some.key = record { root = c.args.root.number; nodes = s.0; place = c.loop-at.nodes; stands = s.1; there = sym D.next ∙ c.in-Some.is } in
    let n = c.pass-label.ensures.label x in
    let e = labels_past-next c.args.order.now.order s.0 c.loop-at.nodes (record { key = c.in-Some.key; label = c.pass-label.result.0; kids = n.0 }) n.1 in
    let o = calls-one q (placed_label c.args.order.now.order c.pass-label.result.0) (labels_past c.args.order.now.order s.0 (suc c.loop-at.nodes)) in
    omega (arith, D.counted q (omega (arith, D.len)), ap (calls_in q) e, o, ap (λ (l : Label). calls_in q (l ∷ [])) c.place_label-label.ensures)

more : goal.loop-at-preserved
more c = λ ns t.
    let D = c.loop-at.invariant ns t in
    let x : At c.args.arena.now c.in-Some.key = record { root = c.args.root.number; nodes = ns; place = c.loop-at.nodes; stands = t; there = sym D.next ∙ c.in-Some.is } in
    let n = c.pass-label.ensures.label x in
    dropped-more c.args.order.now.order ns c.args.calls.now c.loop-at.calls c.drop_calls.new.calls c.loop-at.at c.pass-label.result.1 c.loop-at.nodes c.loop-at.params (c.loop-at.params + c.count_params-params.result)
    (record { key = c.in-Some.key; label = c.pass-label.result.0; kids = n.0 }) c.place_label-label.result D n.1 c.place_label-label.ensures (c.pass-label.ensures.next x)
    (key_in-within ns c.loop-at.nodes c.in-Some.key (sym D.next ∙ c.in-Some.is)) c.drop_calls.auto.calls c.drop_calls.ensures (ap (λ (k : ℕ). c.loop-at.params + k) c.count_params-params.ensures)

pub overflow_add-params : goal.overflow_add-params
overflow_add-params c =
    let s = some_of (term_at c.args.arena.now c.args.root.number) c.requires.root in
    let D = c.loop-at.invariant s.0 s.1 in
    let x : At c.args.arena.now c.in-Some.key = record { root = c.args.root.number; nodes = s.0; place = c.loop-at.nodes; stands = s.1; there = sym D.next ∙ c.in-Some.is } in
    let n = c.pass-label.ensures.label x in
    let E = dropped-more c.args.order.now.order s.0 c.args.calls.now c.loop-at.calls c.drop_calls.new.calls c.loop-at.at c.pass-label.result.1 c.loop-at.nodes c.loop-at.params (c.loop-at.params + c.count_params-params.result)
    (record { key = c.in-Some.key; label = c.pass-label.result.0; kids = n.0 }) c.place_label-label.result D n.1 c.place_label-label.ensures (c.pass-label.ensures.next x)
    (key_in-within s.0 c.loop-at.nodes c.in-Some.key (sym D.next ∙ c.in-Some.is)) c.drop_calls.auto.calls c.drop_calls.ensures (ap (λ (k : ℕ). c.loop-at.params + k) c.count_params-params.ensures) in
    omega (arith, E.holes_are, params-few c.args.order.now.order s.0, term-within c.args.arena.now c.args.root.number s.0 s.1, c.limit-limit.ensures.few)

pub loop-at-preserved : goal.loop-at-preserved
loop-at-preserved c = more c

pub loop-at-smaller : goal.loop-at-smaller
loop-at-smaller c =
    let s = some_of (term_at c.args.arena.now c.args.root.number) c.requires.root in
    let D = c.loop-at.invariant s.0 s.1 in
    let l : length (or_nothing (term_at c.args.arena.now c.args.root.number)) ≡ length s.0 = ap (λ (o : Option (List Node)). length (or_nothing o)) s.1 in
    omega (arith, l, key_in-within s.0 c.loop-at.nodes c.in-Some.key (sym D.next ∙ c.in-Some.is))

none : (o : Option Key) → ((k : Key) → o ≡ Some k → ⊥) → o ≡ None
none None h = refl
none (Some k) h = absurd (h k refl)

pub overflow_sub-result : goal.overflow_sub-result
overflow_sub-result c =
    let s = some_of (term_at c.args.arena.now c.args.root.number) c.requires.root in
    let D = c.loop-at.invariant s.0 s.1 in
    dropped-fewer c.args.order.now.order s.0 c.args.calls.now c.loop-at.calls c.loop-at.at c.loop-at.nodes c.loop-at.params D (none c.loop-at.at c.in_default.not-Some)

pub returns-clause-calls : goal.returns-clause-calls
returns-clause-calls c = λ ns t.
    (dropped-all c.args.order.now.order ns c.args.calls.now c.loop-at.calls c.loop-at.at c.loop-at.nodes c.loop-at.params (c.loop-at.invariant ns t) (none c.loop-at.at c.in_default.not-Some)).0

pub returns-clause-real : goal.returns-clause-real
returns-clause-real c = λ ns t.
    (dropped-all c.args.order.now.order ns c.args.calls.now c.loop-at.calls c.loop-at.at c.loop-at.nodes c.loop-at.params (c.loop-at.invariant ns t) (none c.loop-at.at c.in_default.not-Some)).1
