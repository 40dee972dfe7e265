use Rattle.std.proofs.Common.{◌≡◌, ◌∙◌, ◌+◌, ◌-◌, ◌<◌, ◌++◌, ℕ, List, slice_get, length, get_or, take, drop, ap, sym, refl, subst, arith}
use Rattle.rule_arena.specs.Terms.{Node}
use Rattle.rule_arena.specs.declared.key.Key.{Key}
use Rattle.rule_arena.specs.declared.label.Label.{Label}
use Rattle.slt_grammar.specs.Bodies.{calls_in, real_nodes, CallsBelow}
use Rattle.slt_grammar.specs.ChangedValues.{StandsWithin}
use Rattle.slt_grammar.specs.Grammars.{size}
use Rattle.slt_grammar.specs.Holding.{seen, terms_of, IsKept}
use Rattle.slt_grammar.specs.Keyed.{Keyed, rules_of}
use Rattle.slt_grammar.specs.Placing.{placed, AreKnown}
use Rattle.slt_grammar.specs.Wrapping.{IsWrapped, Wrapped, nodes_of}
use Rattle.slt_grammar.proofs.CallCounts.{real_nodes-are}
use Rattle.slt_grammar.proofs.Held.{root-at}
use Rattle.slt_grammar.proofs.KeptInlines.{kept-same}
use Rattle.slt_grammar.proofs.KeptLemmas.{calls-few, size-few, written-back}
use Rattle.slt_grammar.proofs.KeptWraps.{raw, at-here, below-order, below-calls, shapes-term, shapes-shaped, shapes-linear, shapes-keys, wrapped-is, value-wrapped, kept-wrapped, size-wrapped}
use Rattle.slt_grammar.proofs.OtherValues.{others-keep}
use Rattle.slt_grammar.proofs.grammar.Grammar.wrap.Goals as goal

pub prepare_body-requires-clause-below : goal.prepare_body-requires-clause-below
prepare_body-requires-clause-below c =
    let see : seen c.self.inside.order.order c.self.inside.ranks.items (terms_of c.self.inside.arena c.self.inside.roots.items) ≡ c.args.self.now.rules = ap (λ (k : Keyed). k.rules) c.self.view_is in
    subst (λ (ls : List Label). CallsBelow (length c.self.inside.order.order) ls) (sym c.as_slice-2.ensures) (below-order c.self.inside.arena c.self.inside.roots.items c.self.inside.ranks.items c.self.inside.calls.items c.self.inside.order.order c.self.inside.size c.args.self.now.rules c.self.invariant see c.args.at c.requires.there c.args.body.now c.requires.body)

pub invariant_of-self : goal.invariant_of-self
invariant_of-self c =
    (kept-same c.self.inside.arena c.prepare_body.new.arena c.self.inside.roots.items c.self.inside.ranks.items c.self.inside.calls.items c.self.inside.order.order c.self.inside.size c.prepare_body.ensures.terms c.self.invariant).0

pub add_calls-requires-clause-there : goal.add_calls-requires-clause-there
add_calls-requires-clause-there c =
    let see : seen c.self.inside.order.order c.self.inside.ranks.items (terms_of c.self.inside.arena c.self.inside.roots.items) ≡ c.args.self.now.rules = ap (λ (k : Keyed). k.rules) c.self.view_is in
    subst (λ (cs : List ℕ). CallsBelow (length cs) c.as_slice-3.result.now) (sym c.as_mut_slice.ensures.value) (subst (λ (ls : List Label). CallsBelow (length c.self.inside.calls.items) ls) (sym c.as_slice-3.ensures) (below-calls c.self.inside.arena c.self.inside.roots.items c.self.inside.ranks.items c.self.inside.calls.items c.self.inside.order.order c.self.inside.size c.args.self.now.rules c.self.invariant see c.args.at c.requires.there c.args.body.now c.requires.body))

pub add_calls-requires-clause-few : goal.add_calls-requires-clause-few
add_calls-requires-clause-few c = λ q h.
    let see : seen c.self.inside.order.order c.self.inside.ranks.items (terms_of c.self.inside.arena c.self.inside.roots.items) ≡ c.args.self.now.rules = ap (λ (k : Keyed). k.rules) c.self.view_is in
    omega (arith, calls-few c.self.inside.arena c.self.inside.roots.items c.self.inside.ranks.items c.self.inside.calls.items c.self.inside.order.order c.self.inside.size c.args.self.now.rules c.self.invariant see c.limit-limit.ensures.sound c.limit-limit.ensures.few q (omega (arith, h, ap length c.as_mut_slice.ensures.value)), ap (λ (cs : List ℕ). get_or cs q 0) c.as_mut_slice.ensures.value, ap length c.as_slice-3.ensures, ap length c.as_slice-2.ensures, c.in_ok-prepare_body.ensures.room.1, c.prepare_body.new.stack.ok, c.prepare_body.new.stack.small)

pub overflow_add-self : goal.overflow_add-self
overflow_add-self c =
    let see : seen c.self.inside.order.order c.self.inside.ranks.items (terms_of c.self.inside.arena c.self.inside.roots.items) ≡ c.args.self.now.rules = ap (λ (k : Keyed). k.rules) c.self.view_is in
    omega (arith, size-few c.self.inside.arena c.self.inside.roots.items c.self.inside.ranks.items c.self.inside.calls.items c.self.inside.order.order c.self.inside.size c.args.self.now.rules c.self.invariant see c.limit-limit.ensures.sound c.limit-limit.ensures.few, c.len.ensures, ap length c.as_slice-2.ensures, c.in_ok-prepare_body.ensures.room.1, c.prepare_body.new.stack.ok, c.prepare_body.new.stack.small)

pub wrap_at-requires-clause-term : goal.wrap_at-requires-clause-term
wrap_at-requires-clause-term c =
    let see : seen c.self.inside.order.order c.self.inside.ranks.items (terms_of c.self.inside.arena c.self.inside.roots.items) ≡ c.args.self.now.rules = ap (λ (k : Keyed). k.rules) c.self.view_is in
    let KS = kept-same c.self.inside.arena c.prepare_body.new.arena c.self.inside.roots.items c.self.inside.ranks.items c.self.inside.calls.items c.self.inside.order.order c.self.inside.size c.prepare_body.ensures.terms c.self.invariant in
    let seeb : seen c.self.inside.order.order c.self.inside.ranks.items (terms_of c.prepare_body.new.arena c.self.inside.roots.items) ≡ c.args.self.now.rules = ap (λ (bs : List (List Node)). seen c.self.inside.order.order c.self.inside.ranks.items bs) KS.1 ∙ see in
    let read : placed c.self.inside.order.order c.as_slice-4.result.now ≡ nodes_of c.self.inside.ranks.items c.args.at c.args.body.now =
    ap (placed c.self.inside.order.order) c.as_slice-4.ensures.value ∙ c.in_ok-prepare_body.ensures.shapes ∙ ap (λ (rs : List ℕ). nodes_of rs c.args.at c.as_slice-2.result.now) c.as_slice.ensures.value
    ∙ ap (λ (ls : List Label). nodes_of c.self.inside.ranks.items c.args.at ls) c.as_slice-2.ensures in
    let known : AreKnown c.self.inside.order.order c.as_slice-4.result.now = subst (λ (ns : List Node). AreKnown c.self.inside.order.order ns) (sym c.as_slice-4.ensures.value) c.in_ok-prepare_body.ensures.known in
    shapes-term c.prepare_body.new.arena c.self.inside.roots.items c.self.inside.ranks.items c.self.inside.calls.items c.self.inside.order.order c.self.inside.size c.args.self.now.rules KS.0 seeb c.args.at c.requires.there c.args.body.now c.requires.body c.as_slice-4.result.now read known

pub wrap_at-requires-clause-shapes : goal.wrap_at-requires-clause-shapes
wrap_at-requires-clause-shapes c =
    let see : seen c.self.inside.order.order c.self.inside.ranks.items (terms_of c.self.inside.arena c.self.inside.roots.items) ≡ c.args.self.now.rules = ap (λ (k : Keyed). k.rules) c.self.view_is in
    let KS = kept-same c.self.inside.arena c.prepare_body.new.arena c.self.inside.roots.items c.self.inside.ranks.items c.self.inside.calls.items c.self.inside.order.order c.self.inside.size c.prepare_body.ensures.terms c.self.invariant in
    let seeb : seen c.self.inside.order.order c.self.inside.ranks.items (terms_of c.prepare_body.new.arena c.self.inside.roots.items) ≡ c.args.self.now.rules = ap (λ (bs : List (List Node)). seen c.self.inside.order.order c.self.inside.ranks.items bs) KS.1 ∙ see in
    let read : placed c.self.inside.order.order c.as_slice-4.result.now ≡ nodes_of c.self.inside.ranks.items c.args.at c.args.body.now =
    ap (placed c.self.inside.order.order) c.as_slice-4.ensures.value ∙ c.in_ok-prepare_body.ensures.shapes ∙ ap (λ (rs : List ℕ). nodes_of rs c.args.at c.as_slice-2.result.now) c.as_slice.ensures.value
    ∙ ap (λ (ls : List Label). nodes_of c.self.inside.ranks.items c.args.at ls) c.as_slice-2.ensures in
    let known : AreKnown c.self.inside.order.order c.as_slice-4.result.now = subst (λ (ns : List Node). AreKnown c.self.inside.order.order ns) (sym c.as_slice-4.ensures.value) c.in_ok-prepare_body.ensures.known in
    shapes-shaped c.prepare_body.new.arena c.self.inside.roots.items c.self.inside.ranks.items c.self.inside.calls.items c.self.inside.order.order c.self.inside.size c.args.self.now.rules KS.0 seeb c.args.at c.requires.there c.args.body.now c.requires.body c.as_slice-4.result.now read known

pub wrap_at-requires-clause-linear : goal.wrap_at-requires-clause-linear
wrap_at-requires-clause-linear c =
    let see : seen c.self.inside.order.order c.self.inside.ranks.items (terms_of c.self.inside.arena c.self.inside.roots.items) ≡ c.args.self.now.rules = ap (λ (k : Keyed). k.rules) c.self.view_is in
    let KS = kept-same c.self.inside.arena c.prepare_body.new.arena c.self.inside.roots.items c.self.inside.ranks.items c.self.inside.calls.items c.self.inside.order.order c.self.inside.size c.prepare_body.ensures.terms c.self.invariant in
    let seeb : seen c.self.inside.order.order c.self.inside.ranks.items (terms_of c.prepare_body.new.arena c.self.inside.roots.items) ≡ c.args.self.now.rules = ap (λ (bs : List (List Node)). seen c.self.inside.order.order c.self.inside.ranks.items bs) KS.1 ∙ see in
    let read : placed c.self.inside.order.order c.as_slice-4.result.now ≡ nodes_of c.self.inside.ranks.items c.args.at c.args.body.now =
    ap (placed c.self.inside.order.order) c.as_slice-4.ensures.value ∙ c.in_ok-prepare_body.ensures.shapes ∙ ap (λ (rs : List ℕ). nodes_of rs c.args.at c.as_slice-2.result.now) c.as_slice.ensures.value
    ∙ ap (λ (ls : List Label). nodes_of c.self.inside.ranks.items c.args.at ls) c.as_slice-2.ensures in
    let known : AreKnown c.self.inside.order.order c.as_slice-4.result.now = subst (λ (ns : List Node). AreKnown c.self.inside.order.order ns) (sym c.as_slice-4.ensures.value) c.in_ok-prepare_body.ensures.known in
    shapes-linear c.prepare_body.new.arena c.self.inside.roots.items c.self.inside.ranks.items c.self.inside.calls.items c.self.inside.order.order c.self.inside.size c.args.self.now.rules KS.0 seeb c.args.at c.requires.there c.args.body.now c.requires.body c.as_slice-4.result.now read known

pub wrap_at-requires-clause-keys : goal.wrap_at-requires-clause-keys
wrap_at-requires-clause-keys c =
    let see : seen c.self.inside.order.order c.self.inside.ranks.items (terms_of c.self.inside.arena c.self.inside.roots.items) ≡ c.args.self.now.rules = ap (λ (k : Keyed). k.rules) c.self.view_is in
    let KS = kept-same c.self.inside.arena c.prepare_body.new.arena c.self.inside.roots.items c.self.inside.ranks.items c.self.inside.calls.items c.self.inside.order.order c.self.inside.size c.prepare_body.ensures.terms c.self.invariant in
    let seeb : seen c.self.inside.order.order c.self.inside.ranks.items (terms_of c.prepare_body.new.arena c.self.inside.roots.items) ≡ c.args.self.now.rules = ap (λ (bs : List (List Node)). seen c.self.inside.order.order c.self.inside.ranks.items bs) KS.1 ∙ see in
    let read : placed c.self.inside.order.order c.as_slice-4.result.now ≡ nodes_of c.self.inside.ranks.items c.args.at c.args.body.now =
    ap (placed c.self.inside.order.order) c.as_slice-4.ensures.value ∙ c.in_ok-prepare_body.ensures.shapes ∙ ap (λ (rs : List ℕ). nodes_of rs c.args.at c.as_slice-2.result.now) c.as_slice.ensures.value
    ∙ ap (λ (ls : List Label). nodes_of c.self.inside.ranks.items c.args.at ls) c.as_slice-2.ensures in
    let known : AreKnown c.self.inside.order.order c.as_slice-4.result.now = subst (λ (ns : List Node). AreKnown c.self.inside.order.order ns) (sym c.as_slice-4.ensures.value) c.in_ok-prepare_body.ensures.known in
    shapes-keys c.prepare_body.new.arena c.self.inside.roots.items c.self.inside.ranks.items c.self.inside.calls.items c.self.inside.order.order c.self.inside.size c.args.self.now.rules KS.0 seeb c.args.at c.requires.there c.args.body.now c.requires.body c.as_slice-4.result.now read known

pub wrap_at-requires-clause-there : goal.wrap_at-requires-clause-there
wrap_at-requires-clause-there c =
    let see : seen c.self.inside.order.order c.self.inside.ranks.items (terms_of c.self.inside.arena c.self.inside.roots.items) ≡ c.args.self.now.rules = ap (λ (k : Keyed). k.rules) c.self.view_is in
    let KS = kept-same c.self.inside.arena c.prepare_body.new.arena c.self.inside.roots.items c.self.inside.ranks.items c.self.inside.calls.items c.self.inside.order.order c.self.inside.size c.prepare_body.ensures.terms c.self.invariant in
    let seeb : seen c.self.inside.order.order c.self.inside.ranks.items (terms_of c.prepare_body.new.arena c.self.inside.roots.items) ≡ c.args.self.now.rules = ap (λ (bs : List (List Node)). seen c.self.inside.order.order c.self.inside.ranks.items bs) KS.1 ∙ see in
    let k = root-at c.prepare_body.new.arena c.self.inside.roots.items c.self.inside.ranks.items c.self.inside.order.order c.args.self.now.rules KS.0.rules seeb c.requires.there.here.rule c.requires.there.here.place c.args.at c.requires.there.here.there in
    (c.requires.there.here.rule, k.0, at-here c.prepare_body.new.arena c.self.inside.roots.items c.self.inside.ranks.items c.self.inside.calls.items c.self.inside.order.order c.self.inside.size c.args.self.now.rules KS.0 seeb c.args.at c.requires.there c.args.body.now c.requires.body, ap (λ (ks : List Key). slice_get ks c.requires.there.here.rule) c.as_mut_slice-2.ensures.value ∙ k.1, refl)

pub invariant_of-self-2 : goal.invariant_of-self-2
invariant_of-self-2 c =
    let see : seen c.self.inside.order.order c.self.inside.ranks.items (terms_of c.self.inside.arena c.self.inside.roots.items) ≡ c.args.self.now.rules = ap (λ (k : Keyed). k.rules) c.self.view_is in
    let KS = kept-same c.self.inside.arena c.prepare_body.new.arena c.self.inside.roots.items c.self.inside.ranks.items c.self.inside.calls.items c.self.inside.order.order c.self.inside.size c.prepare_body.ensures.terms c.self.invariant in
    let seeb : seen c.self.inside.order.order c.self.inside.ranks.items (terms_of c.prepare_body.new.arena c.self.inside.roots.items) ≡ c.args.self.now.rules = ap (λ (bs : List (List Node)). seen c.self.inside.order.order c.self.inside.ranks.items bs) KS.1 ∙ see in
    let read : placed c.self.inside.order.order c.as_slice-4.result.now ≡ nodes_of c.self.inside.ranks.items c.args.at c.args.body.now =
    ap (placed c.self.inside.order.order) c.as_slice-4.ensures.value ∙ c.in_ok-prepare_body.ensures.shapes ∙ ap (λ (rs : List ℕ). nodes_of rs c.args.at c.as_slice-2.result.now) c.as_slice.ensures.value
    ∙ ap (λ (ls : List Label). nodes_of c.self.inside.ranks.items c.args.at ls) c.as_slice-2.ensures in
    let known : AreKnown c.self.inside.order.order c.as_slice-4.result.now = subst (λ (ns : List Node). AreKnown c.self.inside.order.order ns) (sym c.as_slice-4.ensures.value) c.in_ok-prepare_body.ensures.known in
    let k = root-at c.prepare_body.new.arena c.self.inside.roots.items c.self.inside.ranks.items c.self.inside.order.order c.args.self.now.rules KS.0.rules seeb c.requires.there.here.rule c.requires.there.here.place c.args.at c.requires.there.here.there in
    let lr : length c.wrap_at.new.roots ≡ length c.self.inside.roots.items = c.wrap_at.auto.roots ∙ ap length c.as_mut_slice-2.ensures.value in
    let wr : take c.self.inside.roots.len (c.wrap_at.new.roots ++ drop (length c.wrap_at.new.roots) c.self.inside.roots.items) ≡ c.wrap_at.new.roots = written-back c.self.inside.roots.len c.wrap_at.new.roots c.self.inside.roots.items c.self.inside.roots.ok.0 lr in
    let V = subst (λ (ks : List Key). Wrapped c.prepare_body.new.arena c.wrap_at.new.arena ks c.wrap_at.new.roots c.requires.there.here.rule (raw c.prepare_body.new.arena c.self.inside.roots.items c.self.inside.ranks.items c.self.inside.calls.items c.self.inside.order.order c.self.inside.size c.args.self.now.rules KS.0 seeb c.args.at c.requires.there c.args.body.now c.requires.body) c.requires.there.here.place c.as_slice-4.result.now) c.as_mut_slice-2.ensures.value
    (c.wrap_at.ensures.wrapped c.requires.there.here.rule k.0 (at-here c.prepare_body.new.arena c.self.inside.roots.items c.self.inside.ranks.items c.self.inside.calls.items c.self.inside.order.order c.self.inside.size c.args.self.now.rules KS.0 seeb c.args.at c.requires.there c.args.body.now c.requires.body) (ap (λ (ks : List Key). slice_get ks c.requires.there.here.rule) c.as_mut_slice-2.ensures.value ∙ k.1) refl) in
    let lc : length c.add_calls.new.calls ≡ length c.self.inside.calls.items = c.add_calls.auto.calls ∙ ap length c.as_mut_slice.ensures.value in
    let moves : (q : ℕ) → q < length c.self.inside.calls.items → get_or c.add_calls.new.calls q 0 ≡ get_or c.self.inside.calls.items q 0 + calls_in q c.args.body.now =
    subst (λ (ls : List Label). (q : ℕ) → q < length c.self.inside.calls.items → get_or c.add_calls.new.calls q 0 ≡ get_or c.self.inside.calls.items q 0 + calls_in q ls) c.as_slice-3.ensures
    (subst (λ (cs : List ℕ). (q : ℕ) → q < length cs → get_or c.add_calls.new.calls q 0 ≡ get_or cs q 0 + calls_in q c.as_slice-3.result.now) c.as_mut_slice.ensures.value c.add_calls.ensures) in
    let real : c.len.result - 1 ≡ real_nodes c.args.body.now = omega (arith, c.len.ensures, real_nodes-are c.args.body.now, c.requires.body.linear) in
    let wc : take c.self.inside.calls.len (c.add_calls.new.calls ++ drop (length c.add_calls.new.calls) c.self.inside.calls.items) ≡ c.add_calls.new.calls = written-back c.self.inside.calls.len c.add_calls.new.calls c.self.inside.calls.items c.self.inside.calls.ok.0 lc in
    subst (λ (ks : List Key). IsKept c.wrap_at.new.arena ks c.self.inside.ranks.items (take c.self.inside.calls.len (c.add_calls.new.calls ++ drop (length c.add_calls.new.calls) c.self.inside.calls.items)) c.self.inside.order.order (c.self.inside.size + (c.len.result - 1))) (sym wr)
    (subst (λ (cs : List ℕ). IsKept c.wrap_at.new.arena c.wrap_at.new.roots c.self.inside.ranks.items cs c.self.inside.order.order (c.self.inside.size + (c.len.result - 1))) (sym wc)
    (kept-wrapped c.prepare_body.new.arena c.self.inside.roots.items c.self.inside.ranks.items c.self.inside.calls.items c.self.inside.order.order c.self.inside.size c.args.self.now.rules KS.0 seeb c.args.at c.requires.there c.args.body.now c.requires.body c.as_slice-4.result.now read known c.wrap_at.new.arena c.wrap_at.new.roots c.add_calls.new.calls (c.len.result - 1) V lc moves real))

pub returns-clause-rules : goal.returns-clause-rules
returns-clause-rules c = λ S.
    let see : seen c.self.inside.order.order c.self.inside.ranks.items (terms_of c.self.inside.arena c.self.inside.roots.items) ≡ c.args.self.now.rules = ap (λ (k : Keyed). k.rules) c.self.view_is in
    let KS = kept-same c.self.inside.arena c.prepare_body.new.arena c.self.inside.roots.items c.self.inside.ranks.items c.self.inside.calls.items c.self.inside.order.order c.self.inside.size c.prepare_body.ensures.terms c.self.invariant in
    let seeb : seen c.self.inside.order.order c.self.inside.ranks.items (terms_of c.prepare_body.new.arena c.self.inside.roots.items) ≡ c.args.self.now.rules = ap (λ (bs : List (List Node)). seen c.self.inside.order.order c.self.inside.ranks.items bs) KS.1 ∙ see in
    let read : placed c.self.inside.order.order c.as_slice-4.result.now ≡ nodes_of c.self.inside.ranks.items c.args.at c.args.body.now =
    ap (placed c.self.inside.order.order) c.as_slice-4.ensures.value ∙ c.in_ok-prepare_body.ensures.shapes ∙ ap (λ (rs : List ℕ). nodes_of rs c.args.at c.as_slice-2.result.now) c.as_slice.ensures.value
    ∙ ap (λ (ls : List Label). nodes_of c.self.inside.ranks.items c.args.at ls) c.as_slice-2.ensures in
    let known : AreKnown c.self.inside.order.order c.as_slice-4.result.now = subst (λ (ns : List Node). AreKnown c.self.inside.order.order ns) (sym c.as_slice-4.ensures.value) c.in_ok-prepare_body.ensures.known in
    let k = root-at c.prepare_body.new.arena c.self.inside.roots.items c.self.inside.ranks.items c.self.inside.order.order c.args.self.now.rules KS.0.rules seeb S.here.rule S.here.place c.args.at S.here.there in
    let lr : length c.wrap_at.new.roots ≡ length c.self.inside.roots.items = c.wrap_at.auto.roots ∙ ap length c.as_mut_slice-2.ensures.value in
    let wr : take c.self.inside.roots.len (c.wrap_at.new.roots ++ drop (length c.wrap_at.new.roots) c.self.inside.roots.items) ≡ c.wrap_at.new.roots = written-back c.self.inside.roots.len c.wrap_at.new.roots c.self.inside.roots.items c.self.inside.roots.ok.0 lr in
    let V = subst (λ (ks : List Key). Wrapped c.prepare_body.new.arena c.wrap_at.new.arena ks c.wrap_at.new.roots S.here.rule (raw c.prepare_body.new.arena c.self.inside.roots.items c.self.inside.ranks.items c.self.inside.calls.items c.self.inside.order.order c.self.inside.size c.args.self.now.rules KS.0 seeb c.args.at S c.args.body.now c.requires.body) S.here.place c.as_slice-4.result.now) c.as_mut_slice-2.ensures.value
    (c.wrap_at.ensures.wrapped S.here.rule k.0 (at-here c.prepare_body.new.arena c.self.inside.roots.items c.self.inside.ranks.items c.self.inside.calls.items c.self.inside.order.order c.self.inside.size c.args.self.now.rules KS.0 seeb c.args.at S c.args.body.now c.requires.body) (ap (λ (ks : List Key). slice_get ks S.here.rule) c.as_mut_slice-2.ensures.value ∙ k.1) refl) in
    subst (λ (ks : List Key). IsWrapped c.args.self.now.rules (seen c.self.inside.order.order c.self.inside.ranks.items (terms_of c.wrap_at.new.arena ks)) S.here.rule S.here.place c.args.at c.args.body.now) (sym wr)
    (wrapped-is c.prepare_body.new.arena c.self.inside.roots.items c.self.inside.ranks.items c.self.inside.calls.items c.self.inside.order.order c.self.inside.size c.args.self.now.rules KS.0 seeb c.args.at S c.args.body.now c.requires.body c.as_slice-4.result.now read known c.wrap_at.new.arena c.wrap_at.new.roots c.add_calls.new.calls (c.len.result - 1) V)

pub returns-clause-value : goal.returns-clause-value
returns-clause-value c = λ S.
    let see : seen c.self.inside.order.order c.self.inside.ranks.items (terms_of c.self.inside.arena c.self.inside.roots.items) ≡ c.args.self.now.rules = ap (λ (k : Keyed). k.rules) c.self.view_is in
    let KS = kept-same c.self.inside.arena c.prepare_body.new.arena c.self.inside.roots.items c.self.inside.ranks.items c.self.inside.calls.items c.self.inside.order.order c.self.inside.size c.prepare_body.ensures.terms c.self.invariant in
    let seeb : seen c.self.inside.order.order c.self.inside.ranks.items (terms_of c.prepare_body.new.arena c.self.inside.roots.items) ≡ c.args.self.now.rules = ap (λ (bs : List (List Node)). seen c.self.inside.order.order c.self.inside.ranks.items bs) KS.1 ∙ see in
    let read : placed c.self.inside.order.order c.as_slice-4.result.now ≡ nodes_of c.self.inside.ranks.items c.args.at c.args.body.now =
    ap (placed c.self.inside.order.order) c.as_slice-4.ensures.value ∙ c.in_ok-prepare_body.ensures.shapes ∙ ap (λ (rs : List ℕ). nodes_of rs c.args.at c.as_slice-2.result.now) c.as_slice.ensures.value
    ∙ ap (λ (ls : List Label). nodes_of c.self.inside.ranks.items c.args.at ls) c.as_slice-2.ensures in
    let known : AreKnown c.self.inside.order.order c.as_slice-4.result.now = subst (λ (ns : List Node). AreKnown c.self.inside.order.order ns) (sym c.as_slice-4.ensures.value) c.in_ok-prepare_body.ensures.known in
    let k = root-at c.prepare_body.new.arena c.self.inside.roots.items c.self.inside.ranks.items c.self.inside.order.order c.args.self.now.rules KS.0.rules seeb S.here.rule S.here.place c.args.at S.here.there in
    let lr : length c.wrap_at.new.roots ≡ length c.self.inside.roots.items = c.wrap_at.auto.roots ∙ ap length c.as_mut_slice-2.ensures.value in
    let wr : take c.self.inside.roots.len (c.wrap_at.new.roots ++ drop (length c.wrap_at.new.roots) c.self.inside.roots.items) ≡ c.wrap_at.new.roots = written-back c.self.inside.roots.len c.wrap_at.new.roots c.self.inside.roots.items c.self.inside.roots.ok.0 lr in
    let V = subst (λ (ks : List Key). Wrapped c.prepare_body.new.arena c.wrap_at.new.arena ks c.wrap_at.new.roots S.here.rule (raw c.prepare_body.new.arena c.self.inside.roots.items c.self.inside.ranks.items c.self.inside.calls.items c.self.inside.order.order c.self.inside.size c.args.self.now.rules KS.0 seeb c.args.at S c.args.body.now c.requires.body) S.here.place c.as_slice-4.result.now) c.as_mut_slice-2.ensures.value
    (c.wrap_at.ensures.wrapped S.here.rule k.0 (at-here c.prepare_body.new.arena c.self.inside.roots.items c.self.inside.ranks.items c.self.inside.calls.items c.self.inside.order.order c.self.inside.size c.args.self.now.rules KS.0 seeb c.args.at S c.args.body.now c.requires.body) (ap (λ (ks : List Key). slice_get ks S.here.rule) c.as_mut_slice-2.ensures.value ∙ k.1) refl) in
    subst (λ (ks : List Key). StandsWithin (rules_of c.args.self.now.rules) (rules_of (seen c.self.inside.order.order c.self.inside.ranks.items (terms_of c.wrap_at.new.arena ks))) S.here.place c.args.body.now) (sym wr)
    (value-wrapped c.prepare_body.new.arena c.self.inside.roots.items c.self.inside.ranks.items c.self.inside.calls.items c.self.inside.order.order c.self.inside.size c.args.self.now.rules KS.0 seeb c.args.at S c.args.body.now c.requires.body c.as_slice-4.result.now read known c.wrap_at.new.arena c.wrap_at.new.roots c.add_calls.new.calls (c.len.result - 1) V)

pub returns-clause-size : goal.returns-clause-size
returns-clause-size c =
    let see : seen c.self.inside.order.order c.self.inside.ranks.items (terms_of c.self.inside.arena c.self.inside.roots.items) ≡ c.args.self.now.rules = ap (λ (k : Keyed). k.rules) c.self.view_is in
    let KS = kept-same c.self.inside.arena c.prepare_body.new.arena c.self.inside.roots.items c.self.inside.ranks.items c.self.inside.calls.items c.self.inside.order.order c.self.inside.size c.prepare_body.ensures.terms c.self.invariant in
    let seeb : seen c.self.inside.order.order c.self.inside.ranks.items (terms_of c.prepare_body.new.arena c.self.inside.roots.items) ≡ c.args.self.now.rules = ap (λ (bs : List (List Node)). seen c.self.inside.order.order c.self.inside.ranks.items bs) KS.1 ∙ see in
    let read : placed c.self.inside.order.order c.as_slice-4.result.now ≡ nodes_of c.self.inside.ranks.items c.args.at c.args.body.now =
    ap (placed c.self.inside.order.order) c.as_slice-4.ensures.value ∙ c.in_ok-prepare_body.ensures.shapes ∙ ap (λ (rs : List ℕ). nodes_of rs c.args.at c.as_slice-2.result.now) c.as_slice.ensures.value
    ∙ ap (λ (ls : List Label). nodes_of c.self.inside.ranks.items c.args.at ls) c.as_slice-2.ensures in
    let known : AreKnown c.self.inside.order.order c.as_slice-4.result.now = subst (λ (ns : List Node). AreKnown c.self.inside.order.order ns) (sym c.as_slice-4.ensures.value) c.in_ok-prepare_body.ensures.known in
    let k = root-at c.prepare_body.new.arena c.self.inside.roots.items c.self.inside.ranks.items c.self.inside.order.order c.args.self.now.rules KS.0.rules seeb c.requires.there.here.rule c.requires.there.here.place c.args.at c.requires.there.here.there in
    let lr : length c.wrap_at.new.roots ≡ length c.self.inside.roots.items = c.wrap_at.auto.roots ∙ ap length c.as_mut_slice-2.ensures.value in
    let wr : take c.self.inside.roots.len (c.wrap_at.new.roots ++ drop (length c.wrap_at.new.roots) c.self.inside.roots.items) ≡ c.wrap_at.new.roots = written-back c.self.inside.roots.len c.wrap_at.new.roots c.self.inside.roots.items c.self.inside.roots.ok.0 lr in
    let V = subst (λ (ks : List Key). Wrapped c.prepare_body.new.arena c.wrap_at.new.arena ks c.wrap_at.new.roots c.requires.there.here.rule (raw c.prepare_body.new.arena c.self.inside.roots.items c.self.inside.ranks.items c.self.inside.calls.items c.self.inside.order.order c.self.inside.size c.args.self.now.rules KS.0 seeb c.args.at c.requires.there c.args.body.now c.requires.body) c.requires.there.here.place c.as_slice-4.result.now) c.as_mut_slice-2.ensures.value
    (c.wrap_at.ensures.wrapped c.requires.there.here.rule k.0 (at-here c.prepare_body.new.arena c.self.inside.roots.items c.self.inside.ranks.items c.self.inside.calls.items c.self.inside.order.order c.self.inside.size c.args.self.now.rules KS.0 seeb c.args.at c.requires.there c.args.body.now c.requires.body) (ap (λ (ks : List Key). slice_get ks c.requires.there.here.rule) c.as_mut_slice-2.ensures.value ∙ k.1) refl) in
    let lc : length c.add_calls.new.calls ≡ length c.self.inside.calls.items = c.add_calls.auto.calls ∙ ap length c.as_mut_slice.ensures.value in
    let moves : (q : ℕ) → q < length c.self.inside.calls.items → get_or c.add_calls.new.calls q 0 ≡ get_or c.self.inside.calls.items q 0 + calls_in q c.args.body.now =
    subst (λ (ls : List Label). (q : ℕ) → q < length c.self.inside.calls.items → get_or c.add_calls.new.calls q 0 ≡ get_or c.self.inside.calls.items q 0 + calls_in q ls) c.as_slice-3.ensures
    (subst (λ (cs : List ℕ). (q : ℕ) → q < length cs → get_or c.add_calls.new.calls q 0 ≡ get_or cs q 0 + calls_in q c.as_slice-3.result.now) c.as_mut_slice.ensures.value c.add_calls.ensures) in
    let real : c.len.result - 1 ≡ real_nodes c.args.body.now = omega (arith, c.len.ensures, real_nodes-are c.args.body.now, c.requires.body.linear) in
    subst (λ (ks : List Key). size (rules_of (seen c.self.inside.order.order c.self.inside.ranks.items (terms_of c.wrap_at.new.arena ks))) ≡ size (rules_of c.args.self.now.rules) + real_nodes c.args.body.now) (sym wr)
    (size-wrapped c.prepare_body.new.arena c.self.inside.roots.items c.self.inside.ranks.items c.self.inside.calls.items c.self.inside.order.order c.self.inside.size c.args.self.now.rules KS.0 seeb c.args.at c.requires.there c.args.body.now c.requires.body c.as_slice-4.result.now read known c.wrap_at.new.arena c.wrap_at.new.roots c.add_calls.new.calls (c.len.result - 1) V lc moves real)

pub returns-clause-values : goal.returns-clause-values
returns-clause-values c =
    let S = c.requires.there in
    others-keep c.args.self.now.rules _ S.here.rule _ S.start (returns-clause-rules c S).rules
