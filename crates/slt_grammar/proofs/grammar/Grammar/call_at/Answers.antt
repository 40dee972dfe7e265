use Rattle.std.proofs.Common.{◌≡◌, ◌∙◌, ◌+◌, ◌-◌, ◌++◌, List, Option, Some, IsSome, slice_get, length, take, drop, ap, sym, refl, subst, arith}
use Rattle.std.proofs.lemmas.Option.{slice_get_read}
use Rattle.rule_arena.specs.Terms.{Node, term_at}
use Rattle.rule_arena.specs.declared.key.Key.{Key}
use Rattle.rule_arena.specs.declared.label.Label.TheVariants.{Call}
use Rattle.slt_grammar.specs.Bodies.{calls_in, real_nodes}
use Rattle.slt_grammar.specs.Calling.{called_nodes}
use Rattle.slt_grammar.specs.Copying.{inlined_nodes}
use Rattle.slt_grammar.specs.Grammars.{body_at, size, value_at}
use Rattle.slt_grammar.specs.Holding.{seen, terms_of, Changed, IsKept}
use Rattle.slt_grammar.specs.Keyed.{Keyed, labels_of, nodes_at, rules_of}
use Rattle.slt_grammar.specs.KeyedEdits.{with_nodes}
use Rattle.slt_grammar.specs.Placing.{placed, AreKnown}
use Rattle.slt_grammar.proofs.CalledRules.{few-args}
use Rattle.slt_grammar.proofs.Held.{root-at}
use Rattle.slt_grammar.proofs.KeptCalls.{raw, L, at-here, called-within, root-stands, given, args-given, laced, callee-known, body-counted, size-there, seen-called, back-called, values-called, kept-called, size-called}
use Rattle.slt_grammar.proofs.KeptLemmas.{many-order, many-calls, calls-few, size-few, written-back}
use Rattle.slt_grammar.proofs.grammar.Grammar.call_at.Goals as goal

same : (o : Option (List Node)) (ns ms : List Node) → o ≡ Some ns → o ≡ Some ms → ns ≡ ms
same o ns ms e f = cc

pub index-root-requires : goal.index-root-requires
index-root-requires c =
    let see : seen c.self.inside.order.order c.self.inside.ranks.items (terms_of c.self.inside.arena c.self.inside.roots.items) ≡ c.args.self.now.rules = ap (λ (k : Keyed). k.rules) c.self.view_is in
    omega (arith, called-within c.self.inside.arena c.self.inside.roots.items c.self.inside.ranks.items c.self.inside.calls.items c.self.inside.order.order c.self.inside.size c.args.self.now.rules c.self.invariant see c.limit-limit.ensures.sound c.args.at c.args.rule c.args.arguments.now c.requires.begins, c.self.inside.roots.ok)

pub count_call-gone-requires-clause-root : goal.count_call-gone-requires-clause-root
count_call-gone-requires-clause-root c =
    let see : seen c.self.inside.order.order c.self.inside.ranks.items (terms_of c.self.inside.arena c.self.inside.roots.items) ≡ c.args.self.now.rules = ap (λ (k : Keyed). k.rules) c.self.view_is in
    let g : slice_get c.self.inside.roots.items c.args.rule ≡ Some c.index-root.result.now = slice_get_read c.self.inside.roots.items (length c.self.inside.roots.items) c.args.rule c.index-root.result.now refl (called-within c.self.inside.arena c.self.inside.roots.items c.self.inside.ranks.items c.self.inside.calls.items c.self.inside.order.order c.self.inside.size c.args.self.now.rules c.self.invariant see c.limit-limit.ensures.sound c.args.at c.args.rule c.args.arguments.now c.requires.begins) c.index-root.ensures in
    let t = root-stands c.self.inside.arena c.self.inside.roots.items c.self.inside.ranks.items c.self.inside.calls.items c.self.inside.order.order c.self.inside.size c.args.self.now.rules c.self.invariant see c.limit-limit.ensures.sound c.args.at c.args.rule c.args.arguments.now c.requires.begins c.index-root.result.now g in
    subst (λ (o : Option (List Node)). IsSome o) (sym t) refl

pub count_call-gone-requires-clause-known : goal.count_call-gone-requires-clause-known
count_call-gone-requires-clause-known c = λ ns e.
    let see : seen c.self.inside.order.order c.self.inside.ranks.items (terms_of c.self.inside.arena c.self.inside.roots.items) ≡ c.args.self.now.rules = ap (λ (k : Keyed). k.rules) c.self.view_is in
    let g : slice_get c.self.inside.roots.items c.args.rule ≡ Some c.index-root.result.now = slice_get_read c.self.inside.roots.items (length c.self.inside.roots.items) c.args.rule c.index-root.result.now refl (called-within c.self.inside.arena c.self.inside.roots.items c.self.inside.ranks.items c.self.inside.calls.items c.self.inside.order.order c.self.inside.size c.args.self.now.rules c.self.invariant see c.limit-limit.ensures.sound c.args.at c.args.rule c.args.arguments.now c.requires.begins) c.index-root.ensures in
    let t = root-stands c.self.inside.arena c.self.inside.roots.items c.self.inside.ranks.items c.self.inside.calls.items c.self.inside.order.order c.self.inside.size c.args.self.now.rules c.self.invariant see c.limit-limit.ensures.sound c.args.at c.args.rule c.args.arguments.now c.requires.begins c.index-root.result.now g in
    subst (λ (zs : List Node). AreKnown c.self.inside.order.order zs) (same (term_at c.self.inside.arena c.index-root.result.now.number) (raw c.self.inside.arena c.self.inside.roots.items c.self.inside.ranks.items c.self.inside.calls.items c.self.inside.order.order c.self.inside.size c.args.self.now.rules c.self.invariant see c.limit-limit.ensures.sound c.args.at c.args.rule c.args.arguments.now c.requires.begins c.args.rule) ns t e) (callee-known c.self.inside.arena c.self.inside.roots.items c.self.inside.ranks.items c.self.inside.calls.items c.self.inside.order.order c.self.inside.size c.args.self.now.rules c.self.invariant see c.limit-limit.ensures.sound c.args.at c.args.rule c.args.arguments.now c.requires.begins)

pub count_call-gone-requires-clause-len : goal.count_call-gone-requires-clause-len
count_call-gone-requires-clause-len c =
    let see : seen c.self.inside.order.order c.self.inside.ranks.items (terms_of c.self.inside.arena c.self.inside.roots.items) ≡ c.args.self.now.rules = ap (λ (k : Keyed). k.rules) c.self.view_is in
    many-order c.self.inside.arena c.self.inside.roots.items c.self.inside.ranks.items c.self.inside.calls.items c.self.inside.order.order c.self.inside.size c.args.self.now.rules c.self.invariant see

pub count_call-gone-requires-clause-there : goal.count_call-gone-requires-clause-there
count_call-gone-requires-clause-there c =
    let see : seen c.self.inside.order.order c.self.inside.ranks.items (terms_of c.self.inside.arena c.self.inside.roots.items) ≡ c.args.self.now.rules = ap (λ (k : Keyed). k.rules) c.self.view_is in
    omega (arith, called-within c.self.inside.arena c.self.inside.roots.items c.self.inside.ranks.items c.self.inside.calls.items c.self.inside.order.order c.self.inside.size c.args.self.now.rules c.self.invariant see c.limit-limit.ensures.sound c.args.at c.args.rule c.args.arguments.now c.requires.begins, many-calls c.self.inside.arena c.self.inside.roots.items c.self.inside.ranks.items c.self.inside.calls.items c.self.inside.order.order c.self.inside.size c.args.self.now.rules c.self.invariant see)

pub count_call-gone-requires-clause-counted : goal.count_call-gone-requires-clause-counted
count_call-gone-requires-clause-counted c = λ ns e q h.
    let see : seen c.self.inside.order.order c.self.inside.ranks.items (terms_of c.self.inside.arena c.self.inside.roots.items) ≡ c.args.self.now.rules = ap (λ (k : Keyed). k.rules) c.self.view_is in
    let g : slice_get c.self.inside.roots.items c.args.rule ≡ Some c.index-root.result.now = slice_get_read c.self.inside.roots.items (length c.self.inside.roots.items) c.args.rule c.index-root.result.now refl (called-within c.self.inside.arena c.self.inside.roots.items c.self.inside.ranks.items c.self.inside.calls.items c.self.inside.order.order c.self.inside.size c.args.self.now.rules c.self.invariant see c.limit-limit.ensures.sound c.args.at c.args.rule c.args.arguments.now c.requires.begins) c.index-root.ensures in
    let t = root-stands c.self.inside.arena c.self.inside.roots.items c.self.inside.ranks.items c.self.inside.calls.items c.self.inside.order.order c.self.inside.size c.args.self.now.rules c.self.invariant see c.limit-limit.ensures.sound c.args.at c.args.rule c.args.arguments.now c.requires.begins c.index-root.result.now g in
    let z = same (term_at c.self.inside.arena c.index-root.result.now.number) (raw c.self.inside.arena c.self.inside.roots.items c.self.inside.ranks.items c.self.inside.calls.items c.self.inside.order.order c.self.inside.size c.args.self.now.rules c.self.invariant see c.limit-limit.ensures.sound c.args.at c.args.rule c.args.arguments.now c.requires.begins c.args.rule) ns t e in
    omega (arith, body-counted c.self.inside.arena c.self.inside.roots.items c.self.inside.ranks.items c.self.inside.calls.items c.self.inside.order.order c.self.inside.size c.args.self.now.rules c.self.invariant see c.limit-limit.ensures.sound c.args.at c.args.rule c.args.arguments.now c.requires.begins q h, ap (λ (zs : List Node). calls_in q (labels_of (placed c.self.inside.order.order zs))) z)

pub count_call-gone-requires-clause-few : goal.count_call-gone-requires-clause-few
count_call-gone-requires-clause-few c = λ q h.
    let see : seen c.self.inside.order.order c.self.inside.ranks.items (terms_of c.self.inside.arena c.self.inside.roots.items) ≡ c.args.self.now.rules = ap (λ (k : Keyed). k.rules) c.self.view_is in
    omega (arith, calls-few c.self.inside.arena c.self.inside.roots.items c.self.inside.ranks.items c.self.inside.calls.items c.self.inside.order.order c.self.inside.size c.args.self.now.rules c.self.invariant see c.limit-limit.ensures.sound c.limit-limit.ensures.few q h)

pub overflow_add-self : goal.overflow_add-self
overflow_add-self c =
    let see : seen c.self.inside.order.order c.self.inside.ranks.items (terms_of c.self.inside.arena c.self.inside.roots.items) ≡ c.args.self.now.rules = ap (λ (k : Keyed). k.rules) c.self.view_is in
    omega (arith, size-few c.self.inside.arena c.self.inside.roots.items c.self.inside.ranks.items c.self.inside.calls.items c.self.inside.order.order c.self.inside.size c.args.self.now.rules c.self.invariant see c.limit-limit.ensures.sound c.limit-limit.ensures.few)

pub overflow_sub-self : goal.overflow_sub-self
overflow_sub-self c =
    let see : seen c.self.inside.order.order c.self.inside.ranks.items (terms_of c.self.inside.arena c.self.inside.roots.items) ≡ c.args.self.now.rules = ap (λ (k : Keyed). k.rules) c.self.view_is in
    let g : slice_get c.self.inside.roots.items c.args.rule ≡ Some c.index-root.result.now = slice_get_read c.self.inside.roots.items (length c.self.inside.roots.items) c.args.rule c.index-root.result.now refl (called-within c.self.inside.arena c.self.inside.roots.items c.self.inside.ranks.items c.self.inside.calls.items c.self.inside.order.order c.self.inside.size c.args.self.now.rules c.self.invariant see c.limit-limit.ensures.sound c.args.at c.args.rule c.args.arguments.now c.requires.begins) c.index-root.ensures in
    let t = root-stands c.self.inside.arena c.self.inside.roots.items c.self.inside.ranks.items c.self.inside.calls.items c.self.inside.order.order c.self.inside.size c.args.self.now.rules c.self.invariant see c.limit-limit.ensures.sound c.args.at c.args.rule c.args.arguments.now c.requires.begins c.index-root.result.now g in
    omega (arith, size-there c.self.inside.arena c.self.inside.roots.items c.self.inside.ranks.items c.self.inside.calls.items c.self.inside.order.order c.self.inside.size c.args.self.now.rules c.self.invariant see c.limit-limit.ensures.sound c.args.at c.args.rule c.args.arguments.now c.requires.begins, c.count_call-gone.ensures.real (raw c.self.inside.arena c.self.inside.roots.items c.self.inside.ranks.items c.self.inside.calls.items c.self.inside.order.order c.self.inside.size c.args.self.now.rules c.self.invariant see c.limit-limit.ensures.sound c.args.at c.args.rule c.args.arguments.now c.requires.begins c.args.rule) t)

pub id-id-requires : goal.id-id-requires
id-id-requires c =
    let see : seen c.self.inside.order.order c.self.inside.ranks.items (terms_of c.self.inside.arena c.self.inside.roots.items) ≡ c.args.self.now.rules = ap (λ (k : Keyed). k.rules) c.self.view_is in
    omega (arith, called-within c.self.inside.arena c.self.inside.roots.items c.self.inside.ranks.items c.self.inside.calls.items c.self.inside.order.order c.self.inside.size c.args.self.now.rules c.self.invariant see c.limit-limit.ensures.sound c.args.at c.args.rule c.args.arguments.now c.requires.begins, many-calls c.self.inside.arena c.self.inside.roots.items c.self.inside.ranks.items c.self.inside.calls.items c.self.inside.order.order c.self.inside.size c.args.self.now.rules c.self.invariant see, many-order c.self.inside.arena c.self.inside.roots.items c.self.inside.ranks.items c.self.inside.calls.items c.self.inside.order.order c.self.inside.size c.args.self.now.rules c.self.invariant see)

pub call_over-requires-clause-few : goal.call_over-requires-clause-few
call_over-requires-clause-few c =
    let see : seen c.self.inside.order.order c.self.inside.ranks.items (terms_of c.self.inside.arena c.self.inside.roots.items) ≡ c.args.self.now.rules = ap (λ (k : Keyed). k.rules) c.self.view_is in
    few-args c.args.self.now.rules c.args.at c.args.rule c.args.arguments.now c.args.at (L c.self.inside.arena c.self.inside.roots.items c.self.inside.ranks.items c.self.inside.calls.items c.self.inside.order.order c.self.inside.size c.args.self.now.rules c.self.invariant see c.limit-limit.ensures.sound c.args.at c.args.rule c.args.arguments.now c.requires.begins) c.requires.begins

pub call_over-requires-clause-there : goal.call_over-requires-clause-there
call_over-requires-clause-there c =
    let see : seen c.self.inside.order.order c.self.inside.ranks.items (terms_of c.self.inside.arena c.self.inside.roots.items) ≡ c.args.self.now.rules = ap (λ (k : Keyed). k.rules) c.self.view_is in
    let k = root-at c.self.inside.arena c.self.inside.roots.items c.self.inside.ranks.items c.self.inside.order.order c.args.self.now.rules c.self.invariant.rules see c.requires.begins.here.rule c.requires.begins.here.place c.args.at c.requires.begins.here.there in
    (c.requires.begins.here.rule, k.0, at-here c.self.inside.arena c.self.inside.roots.items c.self.inside.ranks.items c.self.inside.calls.items c.self.inside.order.order c.self.inside.size c.args.self.now.rules c.self.invariant see c.limit-limit.ensures.sound c.args.at c.args.rule c.args.arguments.now c.requires.begins, given c.self.inside.arena c.self.inside.roots.items c.self.inside.ranks.items c.self.inside.calls.items c.self.inside.order.order c.self.inside.size c.args.self.now.rules c.self.invariant see c.limit-limit.ensures.sound c.args.at c.args.rule c.args.arguments.now c.requires.begins, ap (λ (ks : List Key). slice_get ks c.requires.begins.here.rule) c.as_mut_slice.ensures.value ∙ k.1, refl, laced c.self.inside.arena c.self.inside.roots.items c.self.inside.ranks.items c.self.inside.calls.items c.self.inside.order.order c.self.inside.size c.args.self.now.rules c.self.invariant see c.limit-limit.ensures.sound c.args.at c.args.rule c.args.arguments.now c.requires.begins, args-given c.self.inside.arena c.self.inside.roots.items c.self.inside.ranks.items c.self.inside.calls.items c.self.inside.order.order c.self.inside.size c.args.self.now.rules c.self.invariant see c.limit-limit.ensures.sound c.args.at c.args.rule c.args.arguments.now c.requires.begins)

pub invariant_of-self : goal.invariant_of-self
invariant_of-self c =
    let see : seen c.self.inside.order.order c.self.inside.ranks.items (terms_of c.self.inside.arena c.self.inside.roots.items) ≡ c.args.self.now.rules = ap (λ (k : Keyed). k.rules) c.self.view_is in
    let g : slice_get c.self.inside.roots.items c.args.rule ≡ Some c.index-root.result.now = slice_get_read c.self.inside.roots.items (length c.self.inside.roots.items) c.args.rule c.index-root.result.now refl (called-within c.self.inside.arena c.self.inside.roots.items c.self.inside.ranks.items c.self.inside.calls.items c.self.inside.order.order c.self.inside.size c.args.self.now.rules c.self.invariant see c.limit-limit.ensures.sound c.args.at c.args.rule c.args.arguments.now c.requires.begins) c.index-root.ensures in
    let t = root-stands c.self.inside.arena c.self.inside.roots.items c.self.inside.ranks.items c.self.inside.calls.items c.self.inside.order.order c.self.inside.size c.args.self.now.rules c.self.invariant see c.limit-limit.ensures.sound c.args.at c.args.rule c.args.arguments.now c.requires.begins c.index-root.result.now g in
    let k = root-at c.self.inside.arena c.self.inside.roots.items c.self.inside.ranks.items c.self.inside.order.order c.args.self.now.rules c.self.invariant.rules see c.requires.begins.here.rule c.requires.begins.here.place c.args.at c.requires.begins.here.there in
    let lr : length c.call_over.new.roots ≡ length c.self.inside.roots.items = c.call_over.auto.roots ∙ ap length c.as_mut_slice.ensures.value in
    let wr : take c.self.inside.roots.len (c.call_over.new.roots ++ drop (length c.call_over.new.roots) c.self.inside.roots.items) ≡ c.call_over.new.roots = written-back c.self.inside.roots.len c.call_over.new.roots c.self.inside.roots.items c.self.inside.roots.ok.0 lr in
    let ch : Changed c.self.inside.arena c.call_over.new.arena c.self.inside.roots.items c.call_over.new.roots c.requires.begins.here.rule (called_nodes (raw c.self.inside.arena c.self.inside.roots.items c.self.inside.ranks.items c.self.inside.calls.items c.self.inside.order.order c.self.inside.size c.args.self.now.rules c.self.invariant see c.limit-limit.ensures.sound c.args.at c.args.rule c.args.arguments.now c.requires.begins c.requires.begins.here.rule) c.requires.begins.here.place c.call_over.result (Call c.id-id.result) (given c.self.inside.arena c.self.inside.roots.items c.self.inside.ranks.items c.self.inside.calls.items c.self.inside.order.order c.self.inside.size c.args.self.now.rules c.self.invariant see c.limit-limit.ensures.sound c.args.at c.args.rule c.args.arguments.now c.requires.begins)) =
    subst (λ (ks : List Key). Changed c.self.inside.arena c.call_over.new.arena ks c.call_over.new.roots c.requires.begins.here.rule (called_nodes (raw c.self.inside.arena c.self.inside.roots.items c.self.inside.ranks.items c.self.inside.calls.items c.self.inside.order.order c.self.inside.size c.args.self.now.rules c.self.invariant see c.limit-limit.ensures.sound c.args.at c.args.rule c.args.arguments.now c.requires.begins c.requires.begins.here.rule) c.requires.begins.here.place c.call_over.result (Call c.id-id.result) (given c.self.inside.arena c.self.inside.roots.items c.self.inside.ranks.items c.self.inside.calls.items c.self.inside.order.order c.self.inside.size c.args.self.now.rules c.self.invariant see c.limit-limit.ensures.sound c.args.at c.args.rule c.args.arguments.now c.requires.begins))) c.as_mut_slice.ensures.value
    (c.call_over.ensures.changed c.requires.begins.here.rule k.0 (at-here c.self.inside.arena c.self.inside.roots.items c.self.inside.ranks.items c.self.inside.calls.items c.self.inside.order.order c.self.inside.size c.args.self.now.rules c.self.invariant see c.limit-limit.ensures.sound c.args.at c.args.rule c.args.arguments.now c.requires.begins) (given c.self.inside.arena c.self.inside.roots.items c.self.inside.ranks.items c.self.inside.calls.items c.self.inside.order.order c.self.inside.size c.args.self.now.rules c.self.invariant see c.limit-limit.ensures.sound c.args.at c.args.rule c.args.arguments.now c.requires.begins) (ap (λ (ks : List Key). slice_get ks c.requires.begins.here.rule) c.as_mut_slice.ensures.value ∙ k.1) refl (laced c.self.inside.arena c.self.inside.roots.items c.self.inside.ranks.items c.self.inside.calls.items c.self.inside.order.order c.self.inside.size c.args.self.now.rules c.self.invariant see c.limit-limit.ensures.sound c.args.at c.args.rule c.args.arguments.now c.requires.begins) (args-given c.self.inside.arena c.self.inside.roots.items c.self.inside.ranks.items c.self.inside.calls.items c.self.inside.order.order c.self.inside.size c.args.self.now.rules c.self.invariant see c.limit-limit.ensures.sound c.args.at c.args.rule c.args.arguments.now c.requires.begins)) in
    subst (λ (ks : List Key). IsKept c.call_over.new.arena ks c.self.inside.ranks.items c.count_call-gone.new.calls.items c.self.inside.order.order (c.self.inside.size + 1 - c.count_call-gone.result)) (sym wr)
    (kept-called c.self.inside.arena c.self.inside.roots.items c.self.inside.ranks.items c.self.inside.calls.items c.self.inside.order.order c.self.inside.size c.args.self.now.rules c.self.invariant see c.limit-limit.ensures.sound c.args.at c.args.rule c.args.arguments.now c.requires.begins c.call_over.new.arena c.call_over.new.roots c.count_call-gone.new.calls.items c.call_over.result c.id-id.result c.count_call-gone.result c.id-id.ensures.there c.id-id.ensures.place ch c.count_call-gone.ensures.len (c.count_call-gone.ensures.calls (raw c.self.inside.arena c.self.inside.roots.items c.self.inside.ranks.items c.self.inside.calls.items c.self.inside.order.order c.self.inside.size c.args.self.now.rules c.self.invariant see c.limit-limit.ensures.sound c.args.at c.args.rule c.args.arguments.now c.requires.begins c.args.rule) t) (c.count_call-gone.ensures.real (raw c.self.inside.arena c.self.inside.roots.items c.self.inside.ranks.items c.self.inside.calls.items c.self.inside.order.order c.self.inside.size c.args.self.now.rules c.self.invariant see c.limit-limit.ensures.sound c.args.at c.args.rule c.args.arguments.now c.requires.begins c.args.rule) t))

pub returns-clause-rules : goal.returns-clause-rules
returns-clause-rules c = λ B.
    let see : seen c.self.inside.order.order c.self.inside.ranks.items (terms_of c.self.inside.arena c.self.inside.roots.items) ≡ c.args.self.now.rules = ap (λ (k : Keyed). k.rules) c.self.view_is in
    let k = root-at c.self.inside.arena c.self.inside.roots.items c.self.inside.ranks.items c.self.inside.order.order c.args.self.now.rules c.self.invariant.rules see B.here.rule B.here.place c.args.at B.here.there in
    let lr : length c.call_over.new.roots ≡ length c.self.inside.roots.items = c.call_over.auto.roots ∙ ap length c.as_mut_slice.ensures.value in
    let wr : take c.self.inside.roots.len (c.call_over.new.roots ++ drop (length c.call_over.new.roots) c.self.inside.roots.items) ≡ c.call_over.new.roots = written-back c.self.inside.roots.len c.call_over.new.roots c.self.inside.roots.items c.self.inside.roots.ok.0 lr in
    let ch : Changed c.self.inside.arena c.call_over.new.arena c.self.inside.roots.items c.call_over.new.roots B.here.rule (called_nodes (raw c.self.inside.arena c.self.inside.roots.items c.self.inside.ranks.items c.self.inside.calls.items c.self.inside.order.order c.self.inside.size c.args.self.now.rules c.self.invariant see c.limit-limit.ensures.sound c.args.at c.args.rule c.args.arguments.now B B.here.rule) B.here.place c.call_over.result (Call c.id-id.result) (given c.self.inside.arena c.self.inside.roots.items c.self.inside.ranks.items c.self.inside.calls.items c.self.inside.order.order c.self.inside.size c.args.self.now.rules c.self.invariant see c.limit-limit.ensures.sound c.args.at c.args.rule c.args.arguments.now B)) =
    subst (λ (ks : List Key). Changed c.self.inside.arena c.call_over.new.arena ks c.call_over.new.roots B.here.rule (called_nodes (raw c.self.inside.arena c.self.inside.roots.items c.self.inside.ranks.items c.self.inside.calls.items c.self.inside.order.order c.self.inside.size c.args.self.now.rules c.self.invariant see c.limit-limit.ensures.sound c.args.at c.args.rule c.args.arguments.now B B.here.rule) B.here.place c.call_over.result (Call c.id-id.result) (given c.self.inside.arena c.self.inside.roots.items c.self.inside.ranks.items c.self.inside.calls.items c.self.inside.order.order c.self.inside.size c.args.self.now.rules c.self.invariant see c.limit-limit.ensures.sound c.args.at c.args.rule c.args.arguments.now B))) c.as_mut_slice.ensures.value
    (c.call_over.ensures.changed B.here.rule k.0 (at-here c.self.inside.arena c.self.inside.roots.items c.self.inside.ranks.items c.self.inside.calls.items c.self.inside.order.order c.self.inside.size c.args.self.now.rules c.self.invariant see c.limit-limit.ensures.sound c.args.at c.args.rule c.args.arguments.now B) (given c.self.inside.arena c.self.inside.roots.items c.self.inside.ranks.items c.self.inside.calls.items c.self.inside.order.order c.self.inside.size c.args.self.now.rules c.self.invariant see c.limit-limit.ensures.sound c.args.at c.args.rule c.args.arguments.now B) (ap (λ (ks : List Key). slice_get ks B.here.rule) c.as_mut_slice.ensures.value ∙ k.1) refl (laced c.self.inside.arena c.self.inside.roots.items c.self.inside.ranks.items c.self.inside.calls.items c.self.inside.order.order c.self.inside.size c.args.self.now.rules c.self.invariant see c.limit-limit.ensures.sound c.args.at c.args.rule c.args.arguments.now B) (args-given c.self.inside.arena c.self.inside.roots.items c.self.inside.ranks.items c.self.inside.calls.items c.self.inside.order.order c.self.inside.size c.args.self.now.rules c.self.invariant see c.limit-limit.ensures.sound c.args.at c.args.rule c.args.arguments.now B)) in
    subst (λ (ks : List Key). seen c.self.inside.order.order c.self.inside.ranks.items (terms_of c.call_over.new.arena ks) ≡ with_nodes c.args.self.now.rules B.here.rule (called_nodes (nodes_at c.args.self.now.rules B.here.rule) B.here.place c.call_over.result (Call c.args.rule) B.args)) (sym wr)
    (seen-called c.self.inside.arena c.self.inside.roots.items c.self.inside.ranks.items c.self.inside.calls.items c.self.inside.order.order c.self.inside.size c.args.self.now.rules c.self.invariant see c.limit-limit.ensures.sound c.args.at c.args.rule c.args.arguments.now B c.call_over.new.arena c.call_over.new.roots c.count_call-gone.new.calls.items c.call_over.result c.id-id.result c.count_call-gone.result c.id-id.ensures.there c.id-id.ensures.place ch)

pub returns-clause-inverse : goal.returns-clause-inverse
returns-clause-inverse c = λ B.
    let see : seen c.self.inside.order.order c.self.inside.ranks.items (terms_of c.self.inside.arena c.self.inside.roots.items) ≡ c.args.self.now.rules = ap (λ (k : Keyed). k.rules) c.self.view_is in
    let k = root-at c.self.inside.arena c.self.inside.roots.items c.self.inside.ranks.items c.self.inside.order.order c.args.self.now.rules c.self.invariant.rules see B.here.rule B.here.place c.args.at B.here.there in
    let lr : length c.call_over.new.roots ≡ length c.self.inside.roots.items = c.call_over.auto.roots ∙ ap length c.as_mut_slice.ensures.value in
    let wr : take c.self.inside.roots.len (c.call_over.new.roots ++ drop (length c.call_over.new.roots) c.self.inside.roots.items) ≡ c.call_over.new.roots = written-back c.self.inside.roots.len c.call_over.new.roots c.self.inside.roots.items c.self.inside.roots.ok.0 lr in
    let ch : Changed c.self.inside.arena c.call_over.new.arena c.self.inside.roots.items c.call_over.new.roots B.here.rule (called_nodes (raw c.self.inside.arena c.self.inside.roots.items c.self.inside.ranks.items c.self.inside.calls.items c.self.inside.order.order c.self.inside.size c.args.self.now.rules c.self.invariant see c.limit-limit.ensures.sound c.args.at c.args.rule c.args.arguments.now B B.here.rule) B.here.place c.call_over.result (Call c.id-id.result) (given c.self.inside.arena c.self.inside.roots.items c.self.inside.ranks.items c.self.inside.calls.items c.self.inside.order.order c.self.inside.size c.args.self.now.rules c.self.invariant see c.limit-limit.ensures.sound c.args.at c.args.rule c.args.arguments.now B)) =
    subst (λ (ks : List Key). Changed c.self.inside.arena c.call_over.new.arena ks c.call_over.new.roots B.here.rule (called_nodes (raw c.self.inside.arena c.self.inside.roots.items c.self.inside.ranks.items c.self.inside.calls.items c.self.inside.order.order c.self.inside.size c.args.self.now.rules c.self.invariant see c.limit-limit.ensures.sound c.args.at c.args.rule c.args.arguments.now B B.here.rule) B.here.place c.call_over.result (Call c.id-id.result) (given c.self.inside.arena c.self.inside.roots.items c.self.inside.ranks.items c.self.inside.calls.items c.self.inside.order.order c.self.inside.size c.args.self.now.rules c.self.invariant see c.limit-limit.ensures.sound c.args.at c.args.rule c.args.arguments.now B))) c.as_mut_slice.ensures.value
    (c.call_over.ensures.changed B.here.rule k.0 (at-here c.self.inside.arena c.self.inside.roots.items c.self.inside.ranks.items c.self.inside.calls.items c.self.inside.order.order c.self.inside.size c.args.self.now.rules c.self.invariant see c.limit-limit.ensures.sound c.args.at c.args.rule c.args.arguments.now B) (given c.self.inside.arena c.self.inside.roots.items c.self.inside.ranks.items c.self.inside.calls.items c.self.inside.order.order c.self.inside.size c.args.self.now.rules c.self.invariant see c.limit-limit.ensures.sound c.args.at c.args.rule c.args.arguments.now B) (ap (λ (ks : List Key). slice_get ks B.here.rule) c.as_mut_slice.ensures.value ∙ k.1) refl (laced c.self.inside.arena c.self.inside.roots.items c.self.inside.ranks.items c.self.inside.calls.items c.self.inside.order.order c.self.inside.size c.args.self.now.rules c.self.invariant see c.limit-limit.ensures.sound c.args.at c.args.rule c.args.arguments.now B) (args-given c.self.inside.arena c.self.inside.roots.items c.self.inside.ranks.items c.self.inside.calls.items c.self.inside.order.order c.self.inside.size c.args.self.now.rules c.self.invariant see c.limit-limit.ensures.sound c.args.at c.args.rule c.args.arguments.now B)) in
    subst (λ (ks : List Key). c.args.self.now.rules ≡ with_nodes (seen c.self.inside.order.order c.self.inside.ranks.items (terms_of c.call_over.new.arena ks)) B.here.rule (inlined_nodes (nodes_at (seen c.self.inside.order.order c.self.inside.ranks.items (terms_of c.call_over.new.arena ks)) B.here.rule) B.here.place (nodes_at (seen c.self.inside.order.order c.self.inside.ranks.items (terms_of c.call_over.new.arena ks)) c.args.rule) B.keys)) (sym wr)
    (back-called c.self.inside.arena c.self.inside.roots.items c.self.inside.ranks.items c.self.inside.calls.items c.self.inside.order.order c.self.inside.size c.args.self.now.rules c.self.invariant see c.limit-limit.ensures.sound c.args.at c.args.rule c.args.arguments.now B c.call_over.new.arena c.call_over.new.roots c.count_call-gone.new.calls.items c.call_over.result c.id-id.result c.count_call-gone.result c.id-id.ensures.there c.id-id.ensures.place ch)

pub returns-clause-values : goal.returns-clause-values
returns-clause-values c = λ s.
    let see : seen c.self.inside.order.order c.self.inside.ranks.items (terms_of c.self.inside.arena c.self.inside.roots.items) ≡ c.args.self.now.rules = ap (λ (k : Keyed). k.rules) c.self.view_is in
    let k = root-at c.self.inside.arena c.self.inside.roots.items c.self.inside.ranks.items c.self.inside.order.order c.args.self.now.rules c.self.invariant.rules see c.requires.begins.here.rule c.requires.begins.here.place c.args.at c.requires.begins.here.there in
    let lr : length c.call_over.new.roots ≡ length c.self.inside.roots.items = c.call_over.auto.roots ∙ ap length c.as_mut_slice.ensures.value in
    let wr : take c.self.inside.roots.len (c.call_over.new.roots ++ drop (length c.call_over.new.roots) c.self.inside.roots.items) ≡ c.call_over.new.roots = written-back c.self.inside.roots.len c.call_over.new.roots c.self.inside.roots.items c.self.inside.roots.ok.0 lr in
    let ch : Changed c.self.inside.arena c.call_over.new.arena c.self.inside.roots.items c.call_over.new.roots c.requires.begins.here.rule (called_nodes (raw c.self.inside.arena c.self.inside.roots.items c.self.inside.ranks.items c.self.inside.calls.items c.self.inside.order.order c.self.inside.size c.args.self.now.rules c.self.invariant see c.limit-limit.ensures.sound c.args.at c.args.rule c.args.arguments.now c.requires.begins c.requires.begins.here.rule) c.requires.begins.here.place c.call_over.result (Call c.id-id.result) (given c.self.inside.arena c.self.inside.roots.items c.self.inside.ranks.items c.self.inside.calls.items c.self.inside.order.order c.self.inside.size c.args.self.now.rules c.self.invariant see c.limit-limit.ensures.sound c.args.at c.args.rule c.args.arguments.now c.requires.begins)) =
    subst (λ (ks : List Key). Changed c.self.inside.arena c.call_over.new.arena ks c.call_over.new.roots c.requires.begins.here.rule (called_nodes (raw c.self.inside.arena c.self.inside.roots.items c.self.inside.ranks.items c.self.inside.calls.items c.self.inside.order.order c.self.inside.size c.args.self.now.rules c.self.invariant see c.limit-limit.ensures.sound c.args.at c.args.rule c.args.arguments.now c.requires.begins c.requires.begins.here.rule) c.requires.begins.here.place c.call_over.result (Call c.id-id.result) (given c.self.inside.arena c.self.inside.roots.items c.self.inside.ranks.items c.self.inside.calls.items c.self.inside.order.order c.self.inside.size c.args.self.now.rules c.self.invariant see c.limit-limit.ensures.sound c.args.at c.args.rule c.args.arguments.now c.requires.begins))) c.as_mut_slice.ensures.value
    (c.call_over.ensures.changed c.requires.begins.here.rule k.0 (at-here c.self.inside.arena c.self.inside.roots.items c.self.inside.ranks.items c.self.inside.calls.items c.self.inside.order.order c.self.inside.size c.args.self.now.rules c.self.invariant see c.limit-limit.ensures.sound c.args.at c.args.rule c.args.arguments.now c.requires.begins) (given c.self.inside.arena c.self.inside.roots.items c.self.inside.ranks.items c.self.inside.calls.items c.self.inside.order.order c.self.inside.size c.args.self.now.rules c.self.invariant see c.limit-limit.ensures.sound c.args.at c.args.rule c.args.arguments.now c.requires.begins) (ap (λ (ks : List Key). slice_get ks c.requires.begins.here.rule) c.as_mut_slice.ensures.value ∙ k.1) refl (laced c.self.inside.arena c.self.inside.roots.items c.self.inside.ranks.items c.self.inside.calls.items c.self.inside.order.order c.self.inside.size c.args.self.now.rules c.self.invariant see c.limit-limit.ensures.sound c.args.at c.args.rule c.args.arguments.now c.requires.begins) (args-given c.self.inside.arena c.self.inside.roots.items c.self.inside.ranks.items c.self.inside.calls.items c.self.inside.order.order c.self.inside.size c.args.self.now.rules c.self.invariant see c.limit-limit.ensures.sound c.args.at c.args.rule c.args.arguments.now c.requires.begins)) in
    subst (λ (ks : List Key). value_at (rules_of (seen c.self.inside.order.order c.self.inside.ranks.items (terms_of c.call_over.new.arena ks))) s ≡ value_at (rules_of c.args.self.now.rules) s) (sym wr)
    (values-called c.self.inside.arena c.self.inside.roots.items c.self.inside.ranks.items c.self.inside.calls.items c.self.inside.order.order c.self.inside.size c.args.self.now.rules c.self.invariant see c.limit-limit.ensures.sound c.args.at c.args.rule c.args.arguments.now c.requires.begins c.call_over.new.arena c.call_over.new.roots c.count_call-gone.new.calls.items c.call_over.result c.id-id.result c.count_call-gone.result c.id-id.ensures.there c.id-id.ensures.place ch s)

pub returns-clause-size : goal.returns-clause-size
returns-clause-size c =
    let see : seen c.self.inside.order.order c.self.inside.ranks.items (terms_of c.self.inside.arena c.self.inside.roots.items) ≡ c.args.self.now.rules = ap (λ (k : Keyed). k.rules) c.self.view_is in
    let g : slice_get c.self.inside.roots.items c.args.rule ≡ Some c.index-root.result.now = slice_get_read c.self.inside.roots.items (length c.self.inside.roots.items) c.args.rule c.index-root.result.now refl (called-within c.self.inside.arena c.self.inside.roots.items c.self.inside.ranks.items c.self.inside.calls.items c.self.inside.order.order c.self.inside.size c.args.self.now.rules c.self.invariant see c.limit-limit.ensures.sound c.args.at c.args.rule c.args.arguments.now c.requires.begins) c.index-root.ensures in
    let t = root-stands c.self.inside.arena c.self.inside.roots.items c.self.inside.ranks.items c.self.inside.calls.items c.self.inside.order.order c.self.inside.size c.args.self.now.rules c.self.invariant see c.limit-limit.ensures.sound c.args.at c.args.rule c.args.arguments.now c.requires.begins c.index-root.result.now g in
    let k = root-at c.self.inside.arena c.self.inside.roots.items c.self.inside.ranks.items c.self.inside.order.order c.args.self.now.rules c.self.invariant.rules see c.requires.begins.here.rule c.requires.begins.here.place c.args.at c.requires.begins.here.there in
    let lr : length c.call_over.new.roots ≡ length c.self.inside.roots.items = c.call_over.auto.roots ∙ ap length c.as_mut_slice.ensures.value in
    let wr : take c.self.inside.roots.len (c.call_over.new.roots ++ drop (length c.call_over.new.roots) c.self.inside.roots.items) ≡ c.call_over.new.roots = written-back c.self.inside.roots.len c.call_over.new.roots c.self.inside.roots.items c.self.inside.roots.ok.0 lr in
    let ch : Changed c.self.inside.arena c.call_over.new.arena c.self.inside.roots.items c.call_over.new.roots c.requires.begins.here.rule (called_nodes (raw c.self.inside.arena c.self.inside.roots.items c.self.inside.ranks.items c.self.inside.calls.items c.self.inside.order.order c.self.inside.size c.args.self.now.rules c.self.invariant see c.limit-limit.ensures.sound c.args.at c.args.rule c.args.arguments.now c.requires.begins c.requires.begins.here.rule) c.requires.begins.here.place c.call_over.result (Call c.id-id.result) (given c.self.inside.arena c.self.inside.roots.items c.self.inside.ranks.items c.self.inside.calls.items c.self.inside.order.order c.self.inside.size c.args.self.now.rules c.self.invariant see c.limit-limit.ensures.sound c.args.at c.args.rule c.args.arguments.now c.requires.begins)) =
    subst (λ (ks : List Key). Changed c.self.inside.arena c.call_over.new.arena ks c.call_over.new.roots c.requires.begins.here.rule (called_nodes (raw c.self.inside.arena c.self.inside.roots.items c.self.inside.ranks.items c.self.inside.calls.items c.self.inside.order.order c.self.inside.size c.args.self.now.rules c.self.invariant see c.limit-limit.ensures.sound c.args.at c.args.rule c.args.arguments.now c.requires.begins c.requires.begins.here.rule) c.requires.begins.here.place c.call_over.result (Call c.id-id.result) (given c.self.inside.arena c.self.inside.roots.items c.self.inside.ranks.items c.self.inside.calls.items c.self.inside.order.order c.self.inside.size c.args.self.now.rules c.self.invariant see c.limit-limit.ensures.sound c.args.at c.args.rule c.args.arguments.now c.requires.begins))) c.as_mut_slice.ensures.value
    (c.call_over.ensures.changed c.requires.begins.here.rule k.0 (at-here c.self.inside.arena c.self.inside.roots.items c.self.inside.ranks.items c.self.inside.calls.items c.self.inside.order.order c.self.inside.size c.args.self.now.rules c.self.invariant see c.limit-limit.ensures.sound c.args.at c.args.rule c.args.arguments.now c.requires.begins) (given c.self.inside.arena c.self.inside.roots.items c.self.inside.ranks.items c.self.inside.calls.items c.self.inside.order.order c.self.inside.size c.args.self.now.rules c.self.invariant see c.limit-limit.ensures.sound c.args.at c.args.rule c.args.arguments.now c.requires.begins) (ap (λ (ks : List Key). slice_get ks c.requires.begins.here.rule) c.as_mut_slice.ensures.value ∙ k.1) refl (laced c.self.inside.arena c.self.inside.roots.items c.self.inside.ranks.items c.self.inside.calls.items c.self.inside.order.order c.self.inside.size c.args.self.now.rules c.self.invariant see c.limit-limit.ensures.sound c.args.at c.args.rule c.args.arguments.now c.requires.begins) (args-given c.self.inside.arena c.self.inside.roots.items c.self.inside.ranks.items c.self.inside.calls.items c.self.inside.order.order c.self.inside.size c.args.self.now.rules c.self.invariant see c.limit-limit.ensures.sound c.args.at c.args.rule c.args.arguments.now c.requires.begins)) in
    subst (λ (ks : List Key). size (rules_of (seen c.self.inside.order.order c.self.inside.ranks.items (terms_of c.call_over.new.arena ks))) + real_nodes (body_at (rules_of c.args.self.now.rules) c.args.rule) ≡ size (rules_of c.args.self.now.rules) + 1) (sym wr)
    (size-called c.self.inside.arena c.self.inside.roots.items c.self.inside.ranks.items c.self.inside.calls.items c.self.inside.order.order c.self.inside.size c.args.self.now.rules c.self.invariant see c.limit-limit.ensures.sound c.args.at c.args.rule c.args.arguments.now c.requires.begins c.call_over.new.arena c.call_over.new.roots c.count_call-gone.new.calls.items c.call_over.result c.id-id.result c.count_call-gone.result c.id-id.ensures.there c.id-id.ensures.place ch c.count_call-gone.ensures.len (c.count_call-gone.ensures.calls (raw c.self.inside.arena c.self.inside.roots.items c.self.inside.ranks.items c.self.inside.calls.items c.self.inside.order.order c.self.inside.size c.args.self.now.rules c.self.invariant see c.limit-limit.ensures.sound c.args.at c.args.rule c.args.arguments.now c.requires.begins c.args.rule) t) (c.count_call-gone.ensures.real (raw c.self.inside.arena c.self.inside.roots.items c.self.inside.ranks.items c.self.inside.calls.items c.self.inside.order.order c.self.inside.size c.args.self.now.rules c.self.invariant see c.limit-limit.ensures.sound c.args.at c.args.rule c.args.arguments.now c.requires.begins c.args.rule) t))
