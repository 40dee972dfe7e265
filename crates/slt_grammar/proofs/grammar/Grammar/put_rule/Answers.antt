use Rattle.std.proofs.Common.{◌≡◌, ◌∙◌, ◌+◌, ◌-◌, ◌<◌, ◌++◌, ℕ, List, length, get_or, insert, take, drop, ap, sym, subst, arith}
use Rattle.rule_arena.specs.Terms.{Node}
use Rattle.rule_arena.specs.declared.label.Label.{Label}
use Rattle.slt_grammar.specs.Bodies.{calls_in, CallsBelow}
use Rattle.slt_grammar.specs.Holding.{seen, terms_of}
use Rattle.slt_grammar.specs.Keyed.{Keyed}
use Rattle.slt_grammar.specs.Placing.{placed, AreKnown}
use Rattle.slt_grammar.specs.Wrapping.{nodes_of}
use Rattle.slt_grammar.proofs.CallCounts.{real_nodes-are}
use Rattle.slt_grammar.proofs.KeptAdds.{within, below-order, below-calls, length-shapes, shapes-term, shapes-shaped, shapes-linear, put-is, kept-put, value-put, values-put, size-put}
use Rattle.slt_grammar.proofs.KeptInlines.{kept-same}
use Rattle.slt_grammar.proofs.KeptLemmas.{calls-few, size-few, written-back}
use Rattle.slt_grammar.proofs.grammar.Grammar.put_rule.Goals as goal

pub prepare_body-requires-clause-below : goal.prepare_body-requires-clause-below
prepare_body-requires-clause-below c =
    let see : seen c.self.inside.order.order c.self.inside.ranks.items (terms_of c.self.inside.arena c.self.inside.roots.items) ≡ c.args.self.now.rules = ap (λ (k : Keyed). k.rules) c.self.view_is in
    subst (λ (ls : List Label). CallsBelow (length c.self.inside.order.order) ls) (sym c.as_slice-2.ensures) (below-order c.self.inside.arena c.self.inside.roots.items c.self.inside.ranks.items c.self.inside.calls.items c.self.inside.order.order c.self.inside.size c.args.self.now.rules c.self.invariant see c.args.place c.args.rank c.args.body.now c.requires.place c.requires.body)

pub invariant_of-self : goal.invariant_of-self
invariant_of-self c = (kept-same c.self.inside.arena c.prepare_body.new.arena c.self.inside.roots.items c.self.inside.ranks.items c.self.inside.calls.items c.self.inside.order.order c.self.inside.size c.prepare_body.ensures.terms c.self.invariant).0

pub add_calls-requires-clause-there : goal.add_calls-requires-clause-there
add_calls-requires-clause-there c =
    let see : seen c.self.inside.order.order c.self.inside.ranks.items (terms_of c.self.inside.arena c.self.inside.roots.items) ≡ c.args.self.now.rules = ap (λ (k : Keyed). k.rules) c.self.view_is in
    subst (λ (cs : List ℕ). CallsBelow (length cs) c.as_slice-3.result.now) (sym c.as_mut_slice.ensures.value) (subst (λ (ls : List Label). CallsBelow (length c.self.inside.calls.items) ls) (sym c.as_slice-3.ensures) (below-calls c.self.inside.arena c.self.inside.roots.items c.self.inside.ranks.items c.self.inside.calls.items c.self.inside.order.order c.self.inside.size c.args.self.now.rules c.self.invariant see c.args.place c.args.rank c.args.body.now c.requires.place c.requires.body))

pub add_calls-requires-clause-few : goal.add_calls-requires-clause-few
add_calls-requires-clause-few c = λ q h.
    let see : seen c.self.inside.order.order c.self.inside.ranks.items (terms_of c.self.inside.arena c.self.inside.roots.items) ≡ c.args.self.now.rules = ap (λ (k : Keyed). k.rules) c.self.view_is in
    omega (arith, calls-few c.self.inside.arena c.self.inside.roots.items c.self.inside.ranks.items c.self.inside.calls.items c.self.inside.order.order c.self.inside.size c.args.self.now.rules c.self.invariant see c.limit-limit.ensures.sound c.limit-limit.ensures.few q (omega (arith, h, ap length c.as_mut_slice.ensures.value)), ap (λ (cs : List ℕ). get_or cs q 0) c.as_mut_slice.ensures.value, ap length c.as_slice-3.ensures, ap length c.as_slice-2.ensures, c.in_ok-prepare_body.ensures.room.1, c.prepare_body.new.stack.ok, c.prepare_body.new.stack.small)

pub overflow_sub-self : goal.overflow_sub-self
overflow_sub-self c = omega (arith, c.requires.body.linear, real_nodes-are c.args.body.now, c.len.ensures)

pub overflow_add-self : goal.overflow_add-self
overflow_add-self c =
    let see : seen c.self.inside.order.order c.self.inside.ranks.items (terms_of c.self.inside.arena c.self.inside.roots.items) ≡ c.args.self.now.rules = ap (λ (k : Keyed). k.rules) c.self.view_is in
    omega (arith, size-few c.self.inside.arena c.self.inside.roots.items c.self.inside.ranks.items c.self.inside.calls.items c.self.inside.order.order c.self.inside.size c.args.self.now.rules c.self.invariant see c.limit-limit.ensures.sound c.limit-limit.ensures.few, c.len.ensures, ap length c.as_slice-2.ensures, c.in_ok-prepare_body.ensures.room.1, c.prepare_body.new.stack.ok, c.prepare_body.new.stack.small)

pub build_rule-root-requires-clause-term : goal.build_rule-root-requires-clause-term
build_rule-root-requires-clause-term c =
    let see : seen c.self.inside.order.order c.self.inside.ranks.items (terms_of c.self.inside.arena c.self.inside.roots.items) ≡ c.args.self.now.rules = ap (λ (k : Keyed). k.rules) c.self.view_is in
    let KS = kept-same c.self.inside.arena c.prepare_body.new.arena c.self.inside.roots.items c.self.inside.ranks.items c.self.inside.calls.items c.self.inside.order.order c.self.inside.size c.prepare_body.ensures.terms c.self.invariant in
    let seeb : seen c.self.inside.order.order c.self.inside.ranks.items (terms_of c.prepare_body.new.arena c.self.inside.roots.items) ≡ c.args.self.now.rules = ap (λ (bs : List (List Node)). seen c.self.inside.order.order c.self.inside.ranks.items bs) KS.1 ∙ see in
    let read : placed c.self.inside.order.order c.as_slice-4.result.now ≡ nodes_of c.self.inside.ranks.items c.default.result c.args.body.now =
    ap (placed c.self.inside.order.order) c.as_slice-4.ensures.value ∙ c.in_ok-prepare_body.ensures.shapes ∙ ap (λ (rs : List ℕ). nodes_of rs c.default.result c.as_slice-2.result.now) c.as_slice.ensures.value
    ∙ ap (λ (ls : List Label). nodes_of c.self.inside.ranks.items c.default.result ls) c.as_slice-2.ensures in
    let known : AreKnown c.self.inside.order.order c.as_slice-4.result.now = subst (λ (ns : List Node). AreKnown c.self.inside.order.order ns) (sym c.as_slice-4.ensures.value) c.in_ok-prepare_body.ensures.known in
    shapes-term c.prepare_body.new.arena c.self.inside.roots.items c.self.inside.ranks.items c.self.inside.calls.items c.self.inside.order.order c.self.inside.size c.args.self.now.rules KS.0 seeb c.args.place c.args.rank c.args.body.now c.requires.place c.requires.body c.default.result c.as_slice-4.result.now read known

pub build_rule-root-requires-clause-shapes : goal.build_rule-root-requires-clause-shapes
build_rule-root-requires-clause-shapes c =
    let see : seen c.self.inside.order.order c.self.inside.ranks.items (terms_of c.self.inside.arena c.self.inside.roots.items) ≡ c.args.self.now.rules = ap (λ (k : Keyed). k.rules) c.self.view_is in
    let KS = kept-same c.self.inside.arena c.prepare_body.new.arena c.self.inside.roots.items c.self.inside.ranks.items c.self.inside.calls.items c.self.inside.order.order c.self.inside.size c.prepare_body.ensures.terms c.self.invariant in
    let seeb : seen c.self.inside.order.order c.self.inside.ranks.items (terms_of c.prepare_body.new.arena c.self.inside.roots.items) ≡ c.args.self.now.rules = ap (λ (bs : List (List Node)). seen c.self.inside.order.order c.self.inside.ranks.items bs) KS.1 ∙ see in
    let read : placed c.self.inside.order.order c.as_slice-4.result.now ≡ nodes_of c.self.inside.ranks.items c.default.result c.args.body.now =
    ap (placed c.self.inside.order.order) c.as_slice-4.ensures.value ∙ c.in_ok-prepare_body.ensures.shapes ∙ ap (λ (rs : List ℕ). nodes_of rs c.default.result c.as_slice-2.result.now) c.as_slice.ensures.value
    ∙ ap (λ (ls : List Label). nodes_of c.self.inside.ranks.items c.default.result ls) c.as_slice-2.ensures in
    let known : AreKnown c.self.inside.order.order c.as_slice-4.result.now = subst (λ (ns : List Node). AreKnown c.self.inside.order.order ns) (sym c.as_slice-4.ensures.value) c.in_ok-prepare_body.ensures.known in
    shapes-shaped c.prepare_body.new.arena c.self.inside.roots.items c.self.inside.ranks.items c.self.inside.calls.items c.self.inside.order.order c.self.inside.size c.args.self.now.rules KS.0 seeb c.args.place c.args.rank c.args.body.now c.requires.place c.requires.body c.default.result c.as_slice-4.result.now read known

pub build_rule-root-requires-clause-linear : goal.build_rule-root-requires-clause-linear
build_rule-root-requires-clause-linear c =
    let see : seen c.self.inside.order.order c.self.inside.ranks.items (terms_of c.self.inside.arena c.self.inside.roots.items) ≡ c.args.self.now.rules = ap (λ (k : Keyed). k.rules) c.self.view_is in
    let KS = kept-same c.self.inside.arena c.prepare_body.new.arena c.self.inside.roots.items c.self.inside.ranks.items c.self.inside.calls.items c.self.inside.order.order c.self.inside.size c.prepare_body.ensures.terms c.self.invariant in
    let seeb : seen c.self.inside.order.order c.self.inside.ranks.items (terms_of c.prepare_body.new.arena c.self.inside.roots.items) ≡ c.args.self.now.rules = ap (λ (bs : List (List Node)). seen c.self.inside.order.order c.self.inside.ranks.items bs) KS.1 ∙ see in
    let read : placed c.self.inside.order.order c.as_slice-4.result.now ≡ nodes_of c.self.inside.ranks.items c.default.result c.args.body.now =
    ap (placed c.self.inside.order.order) c.as_slice-4.ensures.value ∙ c.in_ok-prepare_body.ensures.shapes ∙ ap (λ (rs : List ℕ). nodes_of rs c.default.result c.as_slice-2.result.now) c.as_slice.ensures.value
    ∙ ap (λ (ls : List Label). nodes_of c.self.inside.ranks.items c.default.result ls) c.as_slice-2.ensures in
    let known : AreKnown c.self.inside.order.order c.as_slice-4.result.now = subst (λ (ns : List Node). AreKnown c.self.inside.order.order ns) (sym c.as_slice-4.ensures.value) c.in_ok-prepare_body.ensures.known in
    shapes-linear c.prepare_body.new.arena c.self.inside.roots.items c.self.inside.ranks.items c.self.inside.calls.items c.self.inside.order.order c.self.inside.size c.args.self.now.rules KS.0 seeb c.args.place c.args.rank c.args.body.now c.requires.place c.requires.body c.default.result c.as_slice-4.result.now read known

pub insert-requires-clause-within : goal.insert-requires-clause-within
insert-requires-clause-within c =
    let see : seen c.self.inside.order.order c.self.inside.ranks.items (terms_of c.self.inside.arena c.self.inside.roots.items) ≡ c.args.self.now.rules = ap (λ (k : Keyed). k.rules) c.self.view_is in
    omega (arith, within c.self.inside.arena c.self.inside.roots.items c.self.inside.ranks.items c.self.inside.calls.items c.self.inside.order.order c.self.inside.size c.args.self.now.rules c.self.invariant see c.args.place c.args.rank c.args.body.now c.requires.place c.requires.body, c.self.invariant.rules.ordered)

pub insert-requires-2 : goal.insert-requires-2
insert-requires-2 c =
    let see : seen c.self.inside.order.order c.self.inside.ranks.items (terms_of c.self.inside.arena c.self.inside.roots.items) ≡ c.args.self.now.rules = ap (λ (k : Keyed). k.rules) c.self.view_is in
    omega (arith, within c.self.inside.arena c.self.inside.roots.items c.self.inside.ranks.items c.self.inside.calls.items c.self.inside.order.order c.self.inside.size c.args.self.now.rules c.self.invariant see c.args.place c.args.rank c.args.body.now c.requires.place c.requires.body, c.self.inside.roots.ok)

pub insert-requires-3 : goal.insert-requires-3
insert-requires-3 c =
    let see : seen c.self.inside.order.order c.self.inside.ranks.items (terms_of c.self.inside.arena c.self.inside.roots.items) ≡ c.args.self.now.rules = ap (λ (k : Keyed). k.rules) c.self.view_is in
    omega (arith, within c.self.inside.arena c.self.inside.roots.items c.self.inside.ranks.items c.self.inside.calls.items c.self.inside.order.order c.self.inside.size c.args.self.now.rules c.self.invariant see c.args.place c.args.rank c.args.body.now c.requires.place c.requires.body, c.self.invariant.rules.ranked, c.self.inside.ranks.ok)

pub invariant_of-self-2 : goal.invariant_of-self-2
invariant_of-self-2 c =
    let see : seen c.self.inside.order.order c.self.inside.ranks.items (terms_of c.self.inside.arena c.self.inside.roots.items) ≡ c.args.self.now.rules = ap (λ (k : Keyed). k.rules) c.self.view_is in
    let KS = kept-same c.self.inside.arena c.prepare_body.new.arena c.self.inside.roots.items c.self.inside.ranks.items c.self.inside.calls.items c.self.inside.order.order c.self.inside.size c.prepare_body.ensures.terms c.self.invariant in
    let seeb : seen c.self.inside.order.order c.self.inside.ranks.items (terms_of c.prepare_body.new.arena c.self.inside.roots.items) ≡ c.args.self.now.rules = ap (λ (bs : List (List Node)). seen c.self.inside.order.order c.self.inside.ranks.items bs) KS.1 ∙ see in
    let read : placed c.self.inside.order.order c.as_slice-4.result.now ≡ nodes_of c.self.inside.ranks.items c.default.result c.args.body.now =
    ap (placed c.self.inside.order.order) c.as_slice-4.ensures.value ∙ c.in_ok-prepare_body.ensures.shapes ∙ ap (λ (rs : List ℕ). nodes_of rs c.default.result c.as_slice-2.result.now) c.as_slice.ensures.value
    ∙ ap (λ (ls : List Label). nodes_of c.self.inside.ranks.items c.default.result ls) c.as_slice-2.ensures in
    let known : AreKnown c.self.inside.order.order c.as_slice-4.result.now = subst (λ (ns : List Node). AreKnown c.self.inside.order.order ns) (sym c.as_slice-4.ensures.value) c.in_ok-prepare_body.ensures.known in
    let lc : length c.add_calls.new.calls ≡ length c.self.inside.calls.items = c.add_calls.auto.calls ∙ ap length c.as_mut_slice.ensures.value in
    let wc = written-back c.self.inside.calls.len c.add_calls.new.calls c.self.inside.calls.items c.self.inside.calls.ok.0 lc in
    let er : c.insert-2.new.self.items ≡ insert c.self.inside.roots.items c.args.place c.build_rule-root.result = rw c.unwrap.ensures at c.insert-2.ensures.items in
    let ek : c.insert-3.new.self.items ≡ insert c.self.inside.ranks.items c.args.place c.args.rank = rw c.unwrap-2.ensures at c.insert-3.ensures.items in
    let i4 : c.insert-4.new.self.items ≡ insert (take c.self.inside.calls.len (c.add_calls.new.calls ++ drop (length c.add_calls.new.calls) c.self.inside.calls.items)) c.args.place 0 = rw c.unwrap-3.ensures at c.insert-4.ensures.items in
    let ec : c.insert-4.new.self.items ≡ insert c.add_calls.new.calls c.args.place 0 = i4 ∙ ap (λ (cs : List ℕ). insert cs c.args.place 0) wc in
    let moves : (q : ℕ) → q < length c.self.inside.calls.items → get_or c.add_calls.new.calls q 0 ≡ get_or c.self.inside.calls.items q 0 + calls_in q c.args.body.now =
    subst (λ (ls : List Label). (q : ℕ) → q < length c.self.inside.calls.items → get_or c.add_calls.new.calls q 0 ≡ get_or c.self.inside.calls.items q 0 + calls_in q ls) c.as_slice-3.ensures
    (subst (λ (cs : List ℕ). (q : ℕ) → q < length cs → get_or c.add_calls.new.calls q 0 ≡ get_or cs q 0 + calls_in q c.as_slice-3.result.now) c.as_mut_slice.ensures.value c.add_calls.ensures) in
    kept-put c.prepare_body.new.arena c.self.inside.roots.items c.self.inside.ranks.items c.self.inside.calls.items c.self.inside.order.order c.self.inside.size c.args.self.now.rules KS.0 seeb c.args.place c.args.rank c.args.body.now c.requires.place c.requires.body c.default.result c.as_slice-4.result.now read known c.build_rule-root.new.arena c.build_rule-root.result c.build_rule-root.ensures.laid c.insert.result c.insert.ensures.fresh c.insert-2.new.self.items c.insert-3.new.self.items c.add_calls.new.calls c.insert-4.new.self.items c.insert.new.self.order (c.len.result - c.args.rank) er ek ec c.insert.ensures.order lc moves (omega (arith, c.requires.body.linear, real_nodes-are c.args.body.now, c.len.ensures))

pub returns-clause-rules : goal.returns-clause-rules
returns-clause-rules c =
    let see : seen c.self.inside.order.order c.self.inside.ranks.items (terms_of c.self.inside.arena c.self.inside.roots.items) ≡ c.args.self.now.rules = ap (λ (k : Keyed). k.rules) c.self.view_is in
    let KS = kept-same c.self.inside.arena c.prepare_body.new.arena c.self.inside.roots.items c.self.inside.ranks.items c.self.inside.calls.items c.self.inside.order.order c.self.inside.size c.prepare_body.ensures.terms c.self.invariant in
    let seeb : seen c.self.inside.order.order c.self.inside.ranks.items (terms_of c.prepare_body.new.arena c.self.inside.roots.items) ≡ c.args.self.now.rules = ap (λ (bs : List (List Node)). seen c.self.inside.order.order c.self.inside.ranks.items bs) KS.1 ∙ see in
    let read : placed c.self.inside.order.order c.as_slice-4.result.now ≡ nodes_of c.self.inside.ranks.items c.default.result c.args.body.now =
    ap (placed c.self.inside.order.order) c.as_slice-4.ensures.value ∙ c.in_ok-prepare_body.ensures.shapes ∙ ap (λ (rs : List ℕ). nodes_of rs c.default.result c.as_slice-2.result.now) c.as_slice.ensures.value
    ∙ ap (λ (ls : List Label). nodes_of c.self.inside.ranks.items c.default.result ls) c.as_slice-2.ensures in
    let known : AreKnown c.self.inside.order.order c.as_slice-4.result.now = subst (λ (ns : List Node). AreKnown c.self.inside.order.order ns) (sym c.as_slice-4.ensures.value) c.in_ok-prepare_body.ensures.known in
    let lc : length c.add_calls.new.calls ≡ length c.self.inside.calls.items = c.add_calls.auto.calls ∙ ap length c.as_mut_slice.ensures.value in
    let wc = written-back c.self.inside.calls.len c.add_calls.new.calls c.self.inside.calls.items c.self.inside.calls.ok.0 lc in
    let er : c.insert-2.new.self.items ≡ insert c.self.inside.roots.items c.args.place c.build_rule-root.result = rw c.unwrap.ensures at c.insert-2.ensures.items in
    let ek : c.insert-3.new.self.items ≡ insert c.self.inside.ranks.items c.args.place c.args.rank = rw c.unwrap-2.ensures at c.insert-3.ensures.items in
    let i4 : c.insert-4.new.self.items ≡ insert (take c.self.inside.calls.len (c.add_calls.new.calls ++ drop (length c.add_calls.new.calls) c.self.inside.calls.items)) c.args.place 0 = rw c.unwrap-3.ensures at c.insert-4.ensures.items in
    let ec : c.insert-4.new.self.items ≡ insert c.add_calls.new.calls c.args.place 0 = i4 ∙ ap (λ (cs : List ℕ). insert cs c.args.place 0) wc in
    put-is c.prepare_body.new.arena c.self.inside.roots.items c.self.inside.ranks.items c.self.inside.calls.items c.self.inside.order.order c.self.inside.size c.args.self.now.rules KS.0 seeb c.args.place c.args.rank c.args.body.now c.requires.place c.requires.body c.default.result c.as_slice-4.result.now read known c.build_rule-root.new.arena c.build_rule-root.result c.build_rule-root.ensures.laid c.insert.result c.insert.ensures.fresh c.insert-2.new.self.items c.insert-3.new.self.items c.add_calls.new.calls c.insert-4.new.self.items c.insert.new.self.order (c.len.result - c.args.rank) er ek ec c.insert.ensures.order

pub returns-clause-value : goal.returns-clause-value
returns-clause-value c =
    let see : seen c.self.inside.order.order c.self.inside.ranks.items (terms_of c.self.inside.arena c.self.inside.roots.items) ≡ c.args.self.now.rules = ap (λ (k : Keyed). k.rules) c.self.view_is in
    let KS = kept-same c.self.inside.arena c.prepare_body.new.arena c.self.inside.roots.items c.self.inside.ranks.items c.self.inside.calls.items c.self.inside.order.order c.self.inside.size c.prepare_body.ensures.terms c.self.invariant in
    let seeb : seen c.self.inside.order.order c.self.inside.ranks.items (terms_of c.prepare_body.new.arena c.self.inside.roots.items) ≡ c.args.self.now.rules = ap (λ (bs : List (List Node)). seen c.self.inside.order.order c.self.inside.ranks.items bs) KS.1 ∙ see in
    let read : placed c.self.inside.order.order c.as_slice-4.result.now ≡ nodes_of c.self.inside.ranks.items c.default.result c.args.body.now =
    ap (placed c.self.inside.order.order) c.as_slice-4.ensures.value ∙ c.in_ok-prepare_body.ensures.shapes ∙ ap (λ (rs : List ℕ). nodes_of rs c.default.result c.as_slice-2.result.now) c.as_slice.ensures.value
    ∙ ap (λ (ls : List Label). nodes_of c.self.inside.ranks.items c.default.result ls) c.as_slice-2.ensures in
    let known : AreKnown c.self.inside.order.order c.as_slice-4.result.now = subst (λ (ns : List Node). AreKnown c.self.inside.order.order ns) (sym c.as_slice-4.ensures.value) c.in_ok-prepare_body.ensures.known in
    let lc : length c.add_calls.new.calls ≡ length c.self.inside.calls.items = c.add_calls.auto.calls ∙ ap length c.as_mut_slice.ensures.value in
    let wc = written-back c.self.inside.calls.len c.add_calls.new.calls c.self.inside.calls.items c.self.inside.calls.ok.0 lc in
    let er : c.insert-2.new.self.items ≡ insert c.self.inside.roots.items c.args.place c.build_rule-root.result = rw c.unwrap.ensures at c.insert-2.ensures.items in
    let ek : c.insert-3.new.self.items ≡ insert c.self.inside.ranks.items c.args.place c.args.rank = rw c.unwrap-2.ensures at c.insert-3.ensures.items in
    let i4 : c.insert-4.new.self.items ≡ insert (take c.self.inside.calls.len (c.add_calls.new.calls ++ drop (length c.add_calls.new.calls) c.self.inside.calls.items)) c.args.place 0 = rw c.unwrap-3.ensures at c.insert-4.ensures.items in
    let ec : c.insert-4.new.self.items ≡ insert c.add_calls.new.calls c.args.place 0 = i4 ∙ ap (λ (cs : List ℕ). insert cs c.args.place 0) wc in
    value-put c.prepare_body.new.arena c.self.inside.roots.items c.self.inside.ranks.items c.self.inside.calls.items c.self.inside.order.order c.self.inside.size c.args.self.now.rules KS.0 seeb c.args.place c.args.rank c.args.body.now c.requires.place c.requires.body c.default.result c.as_slice-4.result.now read known c.build_rule-root.new.arena c.build_rule-root.result c.build_rule-root.ensures.laid c.insert.result c.insert.ensures.fresh c.insert-2.new.self.items c.insert-3.new.self.items c.add_calls.new.calls c.insert-4.new.self.items c.insert.new.self.order (c.len.result - c.args.rank) er ek ec c.insert.ensures.order

pub returns-clause-values : goal.returns-clause-values
returns-clause-values c =
    let see : seen c.self.inside.order.order c.self.inside.ranks.items (terms_of c.self.inside.arena c.self.inside.roots.items) ≡ c.args.self.now.rules = ap (λ (k : Keyed). k.rules) c.self.view_is in
    let KS = kept-same c.self.inside.arena c.prepare_body.new.arena c.self.inside.roots.items c.self.inside.ranks.items c.self.inside.calls.items c.self.inside.order.order c.self.inside.size c.prepare_body.ensures.terms c.self.invariant in
    let seeb : seen c.self.inside.order.order c.self.inside.ranks.items (terms_of c.prepare_body.new.arena c.self.inside.roots.items) ≡ c.args.self.now.rules = ap (λ (bs : List (List Node)). seen c.self.inside.order.order c.self.inside.ranks.items bs) KS.1 ∙ see in
    let read : placed c.self.inside.order.order c.as_slice-4.result.now ≡ nodes_of c.self.inside.ranks.items c.default.result c.args.body.now =
    ap (placed c.self.inside.order.order) c.as_slice-4.ensures.value ∙ c.in_ok-prepare_body.ensures.shapes ∙ ap (λ (rs : List ℕ). nodes_of rs c.default.result c.as_slice-2.result.now) c.as_slice.ensures.value
    ∙ ap (λ (ls : List Label). nodes_of c.self.inside.ranks.items c.default.result ls) c.as_slice-2.ensures in
    let known : AreKnown c.self.inside.order.order c.as_slice-4.result.now = subst (λ (ns : List Node). AreKnown c.self.inside.order.order ns) (sym c.as_slice-4.ensures.value) c.in_ok-prepare_body.ensures.known in
    let lc : length c.add_calls.new.calls ≡ length c.self.inside.calls.items = c.add_calls.auto.calls ∙ ap length c.as_mut_slice.ensures.value in
    let wc = written-back c.self.inside.calls.len c.add_calls.new.calls c.self.inside.calls.items c.self.inside.calls.ok.0 lc in
    let er : c.insert-2.new.self.items ≡ insert c.self.inside.roots.items c.args.place c.build_rule-root.result = rw c.unwrap.ensures at c.insert-2.ensures.items in
    let ek : c.insert-3.new.self.items ≡ insert c.self.inside.ranks.items c.args.place c.args.rank = rw c.unwrap-2.ensures at c.insert-3.ensures.items in
    let i4 : c.insert-4.new.self.items ≡ insert (take c.self.inside.calls.len (c.add_calls.new.calls ++ drop (length c.add_calls.new.calls) c.self.inside.calls.items)) c.args.place 0 = rw c.unwrap-3.ensures at c.insert-4.ensures.items in
    let ec : c.insert-4.new.self.items ≡ insert c.add_calls.new.calls c.args.place 0 = i4 ∙ ap (λ (cs : List ℕ). insert cs c.args.place 0) wc in
    values-put c.prepare_body.new.arena c.self.inside.roots.items c.self.inside.ranks.items c.self.inside.calls.items c.self.inside.order.order c.self.inside.size c.args.self.now.rules KS.0 seeb c.args.place c.args.rank c.args.body.now c.requires.place c.requires.body c.default.result c.as_slice-4.result.now read known c.build_rule-root.new.arena c.build_rule-root.result c.build_rule-root.ensures.laid c.insert.result c.insert.ensures.fresh c.insert-2.new.self.items c.insert-3.new.self.items c.add_calls.new.calls c.insert-4.new.self.items c.insert.new.self.order (c.len.result - c.args.rank) er ek ec c.insert.ensures.order

pub returns-clause-size : goal.returns-clause-size
returns-clause-size c =
    let see : seen c.self.inside.order.order c.self.inside.ranks.items (terms_of c.self.inside.arena c.self.inside.roots.items) ≡ c.args.self.now.rules = ap (λ (k : Keyed). k.rules) c.self.view_is in
    let KS = kept-same c.self.inside.arena c.prepare_body.new.arena c.self.inside.roots.items c.self.inside.ranks.items c.self.inside.calls.items c.self.inside.order.order c.self.inside.size c.prepare_body.ensures.terms c.self.invariant in
    let seeb : seen c.self.inside.order.order c.self.inside.ranks.items (terms_of c.prepare_body.new.arena c.self.inside.roots.items) ≡ c.args.self.now.rules = ap (λ (bs : List (List Node)). seen c.self.inside.order.order c.self.inside.ranks.items bs) KS.1 ∙ see in
    let read : placed c.self.inside.order.order c.as_slice-4.result.now ≡ nodes_of c.self.inside.ranks.items c.default.result c.args.body.now =
    ap (placed c.self.inside.order.order) c.as_slice-4.ensures.value ∙ c.in_ok-prepare_body.ensures.shapes ∙ ap (λ (rs : List ℕ). nodes_of rs c.default.result c.as_slice-2.result.now) c.as_slice.ensures.value
    ∙ ap (λ (ls : List Label). nodes_of c.self.inside.ranks.items c.default.result ls) c.as_slice-2.ensures in
    let known : AreKnown c.self.inside.order.order c.as_slice-4.result.now = subst (λ (ns : List Node). AreKnown c.self.inside.order.order ns) (sym c.as_slice-4.ensures.value) c.in_ok-prepare_body.ensures.known in
    let lc : length c.add_calls.new.calls ≡ length c.self.inside.calls.items = c.add_calls.auto.calls ∙ ap length c.as_mut_slice.ensures.value in
    let wc = written-back c.self.inside.calls.len c.add_calls.new.calls c.self.inside.calls.items c.self.inside.calls.ok.0 lc in
    let er : c.insert-2.new.self.items ≡ insert c.self.inside.roots.items c.args.place c.build_rule-root.result = rw c.unwrap.ensures at c.insert-2.ensures.items in
    let ek : c.insert-3.new.self.items ≡ insert c.self.inside.ranks.items c.args.place c.args.rank = rw c.unwrap-2.ensures at c.insert-3.ensures.items in
    let i4 : c.insert-4.new.self.items ≡ insert (take c.self.inside.calls.len (c.add_calls.new.calls ++ drop (length c.add_calls.new.calls) c.self.inside.calls.items)) c.args.place 0 = rw c.unwrap-3.ensures at c.insert-4.ensures.items in
    let ec : c.insert-4.new.self.items ≡ insert c.add_calls.new.calls c.args.place 0 = i4 ∙ ap (λ (cs : List ℕ). insert cs c.args.place 0) wc in
    size-put c.prepare_body.new.arena c.self.inside.roots.items c.self.inside.ranks.items c.self.inside.calls.items c.self.inside.order.order c.self.inside.size c.args.self.now.rules KS.0 seeb c.args.place c.args.rank c.args.body.now c.requires.place c.requires.body c.default.result c.as_slice-4.result.now read known c.build_rule-root.new.arena c.build_rule-root.result c.build_rule-root.ensures.laid c.insert.result c.insert.ensures.fresh c.insert-2.new.self.items c.insert-3.new.self.items c.add_calls.new.calls c.insert-4.new.self.items c.insert.new.self.order (c.len.result - c.args.rank) er ek ec c.insert.ensures.order

pub returns-clause-spare_nodes : goal.returns-clause-spare_nodes
returns-clause-spare_nodes c =
    let see : seen c.self.inside.order.order c.self.inside.ranks.items (terms_of c.self.inside.arena c.self.inside.roots.items) ≡ c.args.self.now.rules = ap (λ (k : Keyed). k.rules) c.self.view_is in
    let KS = kept-same c.self.inside.arena c.prepare_body.new.arena c.self.inside.roots.items c.self.inside.ranks.items c.self.inside.calls.items c.self.inside.order.order c.self.inside.size c.prepare_body.ensures.terms c.self.invariant in
    let seeb : seen c.self.inside.order.order c.self.inside.ranks.items (terms_of c.prepare_body.new.arena c.self.inside.roots.items) ≡ c.args.self.now.rules = ap (λ (bs : List (List Node)). seen c.self.inside.order.order c.self.inside.ranks.items bs) KS.1 ∙ see in
    let read : placed c.self.inside.order.order c.as_slice-4.result.now ≡ nodes_of c.self.inside.ranks.items c.default.result c.args.body.now =
    ap (placed c.self.inside.order.order) c.as_slice-4.ensures.value ∙ c.in_ok-prepare_body.ensures.shapes ∙ ap (λ (rs : List ℕ). nodes_of rs c.default.result c.as_slice-2.result.now) c.as_slice.ensures.value
    ∙ ap (λ (ls : List Label). nodes_of c.self.inside.ranks.items c.default.result ls) c.as_slice-2.ensures in
    let known : AreKnown c.self.inside.order.order c.as_slice-4.result.now = subst (λ (ns : List Node). AreKnown c.self.inside.order.order ns) (sym c.as_slice-4.ensures.value) c.in_ok-prepare_body.ensures.known in
    let m = ap (λ (k : Keyed). k.spare_nodes) c.self.view_is in
    let ls : length c.build_rule-root.new.stack ≡ length c.prepare_body.new.stack.items = c.build_rule-root.ensures.len ∙ ap length c.as_mut_slice-2.ensures.value in
    let ws = ap length (written-back c.prepare_body.new.stack.len c.build_rule-root.new.stack c.prepare_body.new.stack.items c.prepare_body.new.stack.ok.0 ls) in
    omega (arith, m, length-shapes c.prepare_body.new.arena c.self.inside.roots.items c.self.inside.ranks.items c.self.inside.calls.items c.self.inside.order.order c.self.inside.size c.args.self.now.rules KS.0 seeb c.args.place c.args.rank c.args.body.now c.requires.place c.requires.body c.default.result c.as_slice-4.result.now read known, ws, ls, c.build_rule-root.ensures.spare, c.in_ok-prepare_body.ensures.kept, c.prepare_body.ensures.capacity, c.prepare_body.ensures.stack)
