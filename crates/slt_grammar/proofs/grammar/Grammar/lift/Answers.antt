use Rattle.std.proofs.Common.{◌≡◌, ◌∙◌, ◌+◌, ◌-◌, ◌<◌, ◌++◌, ℕ, List, Option, Some, IsSome, slice_get, length, get_or, take, drop, ap, sym, refl, subst, arith}
use Rattle.rule_arena.specs.Terms.{Node, term_at}
use Rattle.rule_arena.specs.declared.key.Key.{Key}
use Rattle.slt_grammar.specs.Bodies.{calls_in, real_nodes}
use Rattle.slt_grammar.specs.Grammars.{size}
use Rattle.slt_grammar.specs.Holding.{seen, terms_of, AreHeld, Changed, IsKept}
use Rattle.slt_grammar.specs.Keyed.{Keyed, labels_of, nodes_at, rules_of}
use Rattle.slt_grammar.specs.KeyedEdits.{first_child_nodes, lifted_nodes, with_nodes}
use Rattle.slt_grammar.specs.Placing.{placed, AreKnown}
use Rattle.slt_grammar.proofs.ChangedValues.{lifting-changes}
use Rattle.slt_grammar.proofs.Held.{root-at}
use Rattle.slt_grammar.proofs.KeptLemmas.{lawful, many-order, once-both, written-back}
use Rattle.slt_grammar.proofs.KeptLifts.{at-here, raw-node, raw, p, two, raw-gone, gone-known, gone-counted, gone-size, seen-lifted, kept-lifted, size-lifted}
use Rattle.slt_grammar.proofs.OtherValues.{others-keep}
use Rattle.slt_grammar.proofs.grammar.Grammar.lift.Goals as goal

same : (o : Option (List Node)) (ns ms : List Node) → o ≡ Some ns → o ≡ Some ms → ns ≡ ms
same o ns ms e f = cc

pub lift_at-requires-clause-held : goal.lift_at-requires-clause-held
lift_at-requires-clause-held c = subst (λ (ks : List Key). AreHeld c.self.inside.arena ks) (sym c.as_mut_slice.ensures.value) c.self.invariant.rules.held

pub lift_at-requires-clause-there : goal.lift_at-requires-clause-there
lift_at-requires-clause-there c =
    let see : seen c.self.inside.order.order c.self.inside.ranks.items (terms_of c.self.inside.arena c.self.inside.roots.items) ≡ c.args.self.now.rules = ap (λ (k : Keyed). k.rules) c.self.view_is in
    let k = root-at c.self.inside.arena c.self.inside.roots.items c.self.inside.ranks.items c.self.inside.order.order c.args.self.now.rules c.self.invariant.rules see c.requires.node.here.rule c.requires.node.here.place c.args.at c.requires.node.here.there in
    (c.requires.node.here.rule, k.0, at-here c.self.inside.arena c.self.inside.roots.items c.self.inside.ranks.items c.self.inside.calls.items c.self.inside.order.order c.self.inside.size c.args.self.now.rules c.self.invariant see c.limit-limit.ensures.sound c.limit-limit.ensures.few c.args.at c.requires, (raw-node c.self.inside.arena c.self.inside.roots.items c.self.inside.ranks.items c.self.inside.calls.items c.self.inside.order.order c.self.inside.size c.args.self.now.rules c.self.invariant see c.limit-limit.ensures.sound c.limit-limit.ensures.few c.args.at c.requires).0, ap (λ (ks : List Key). slice_get ks c.requires.node.here.rule) c.as_mut_slice.ensures.value ∙ k.1, refl, (raw-node c.self.inside.arena c.self.inside.roots.items c.self.inside.ranks.items c.self.inside.calls.items c.self.inside.order.order c.self.inside.size c.args.self.now.rules c.self.invariant see c.limit-limit.ensures.sound c.limit-limit.ensures.few c.args.at c.requires).1, two c.self.inside.arena c.self.inside.roots.items c.self.inside.ranks.items c.self.inside.calls.items c.self.inside.order.order c.self.inside.size c.args.self.now.rules c.self.invariant see c.limit-limit.ensures.sound c.limit-limit.ensures.few c.args.at c.requires)

pub drop_term-gone-requires-clause-root : goal.drop_term-gone-requires-clause-root
drop_term-gone-requires-clause-root c =
    let see : seen c.self.inside.order.order c.self.inside.ranks.items (terms_of c.self.inside.arena c.self.inside.roots.items) ≡ c.args.self.now.rules = ap (λ (k : Keyed). k.rules) c.self.view_is in
    let t = c.lift_at.ensures.out (at-here c.self.inside.arena c.self.inside.roots.items c.self.inside.ranks.items c.self.inside.calls.items c.self.inside.order.order c.self.inside.size c.args.self.now.rules c.self.invariant see c.limit-limit.ensures.sound c.limit-limit.ensures.few c.args.at c.requires) (raw-node c.self.inside.arena c.self.inside.roots.items c.self.inside.ranks.items c.self.inside.calls.items c.self.inside.order.order c.self.inside.size c.args.self.now.rules c.self.invariant see c.limit-limit.ensures.sound c.limit-limit.ensures.few c.args.at c.requires).0 (raw-node c.self.inside.arena c.self.inside.roots.items c.self.inside.ranks.items c.self.inside.calls.items c.self.inside.order.order c.self.inside.size c.args.self.now.rules c.self.invariant see c.limit-limit.ensures.sound c.limit-limit.ensures.few c.args.at c.requires).1 in
    subst (λ (o : Option (List Node)). IsSome o) (sym t) refl

pub drop_term-gone-requires-clause-known : goal.drop_term-gone-requires-clause-known
drop_term-gone-requires-clause-known c = λ ns e.
    let see : seen c.self.inside.order.order c.self.inside.ranks.items (terms_of c.self.inside.arena c.self.inside.roots.items) ≡ c.args.self.now.rules = ap (λ (k : Keyed). k.rules) c.self.view_is in
    let t = c.lift_at.ensures.out (at-here c.self.inside.arena c.self.inside.roots.items c.self.inside.ranks.items c.self.inside.calls.items c.self.inside.order.order c.self.inside.size c.args.self.now.rules c.self.invariant see c.limit-limit.ensures.sound c.limit-limit.ensures.few c.args.at c.requires) (raw-node c.self.inside.arena c.self.inside.roots.items c.self.inside.ranks.items c.self.inside.calls.items c.self.inside.order.order c.self.inside.size c.args.self.now.rules c.self.invariant see c.limit-limit.ensures.sound c.limit-limit.ensures.few c.args.at c.requires).0 (raw-node c.self.inside.arena c.self.inside.roots.items c.self.inside.ranks.items c.self.inside.calls.items c.self.inside.order.order c.self.inside.size c.args.self.now.rules c.self.invariant see c.limit-limit.ensures.sound c.limit-limit.ensures.few c.args.at c.requires).1 in
    subst (λ (zs : List Node). AreKnown c.self.inside.order.order zs) (same (term_at c.lift_at.new.arena c.args.at.number) (raw-gone c.self.inside.arena c.self.inside.roots.items c.self.inside.ranks.items c.self.inside.calls.items c.self.inside.order.order c.self.inside.size c.args.self.now.rules c.self.invariant see c.limit-limit.ensures.sound c.limit-limit.ensures.few c.args.at c.requires) ns t e) (gone-known c.self.inside.arena c.self.inside.roots.items c.self.inside.ranks.items c.self.inside.calls.items c.self.inside.order.order c.self.inside.size c.args.self.now.rules c.self.invariant see c.limit-limit.ensures.sound c.limit-limit.ensures.few c.args.at c.requires)

pub drop_term-gone-requires-clause-len : goal.drop_term-gone-requires-clause-len
drop_term-gone-requires-clause-len c =
    let see : seen c.self.inside.order.order c.self.inside.ranks.items (terms_of c.self.inside.arena c.self.inside.roots.items) ≡ c.args.self.now.rules = ap (λ (k : Keyed). k.rules) c.self.view_is in
    many-order c.self.inside.arena c.self.inside.roots.items c.self.inside.ranks.items c.self.inside.calls.items c.self.inside.order.order c.self.inside.size c.args.self.now.rules c.self.invariant see ∙ sym (ap length c.as_mut_slice-2.ensures.value)

pub drop_term-gone-requires-clause-counted : goal.drop_term-gone-requires-clause-counted
drop_term-gone-requires-clause-counted c = λ ns e q h.
    let see : seen c.self.inside.order.order c.self.inside.ranks.items (terms_of c.self.inside.arena c.self.inside.roots.items) ≡ c.args.self.now.rules = ap (λ (k : Keyed). k.rules) c.self.view_is in
    let t = c.lift_at.ensures.out (at-here c.self.inside.arena c.self.inside.roots.items c.self.inside.ranks.items c.self.inside.calls.items c.self.inside.order.order c.self.inside.size c.args.self.now.rules c.self.invariant see c.limit-limit.ensures.sound c.limit-limit.ensures.few c.args.at c.requires) (raw-node c.self.inside.arena c.self.inside.roots.items c.self.inside.ranks.items c.self.inside.calls.items c.self.inside.order.order c.self.inside.size c.args.self.now.rules c.self.invariant see c.limit-limit.ensures.sound c.limit-limit.ensures.few c.args.at c.requires).0 (raw-node c.self.inside.arena c.self.inside.roots.items c.self.inside.ranks.items c.self.inside.calls.items c.self.inside.order.order c.self.inside.size c.args.self.now.rules c.self.invariant see c.limit-limit.ensures.sound c.limit-limit.ensures.few c.args.at c.requires).1 in
    let v : c.as_mut_slice-2.result.now ≡ c.self.inside.calls.items = c.as_mut_slice-2.ensures.value in
    let z = same (term_at c.lift_at.new.arena c.args.at.number) (raw-gone c.self.inside.arena c.self.inside.roots.items c.self.inside.ranks.items c.self.inside.calls.items c.self.inside.order.order c.self.inside.size c.args.self.now.rules c.self.invariant see c.limit-limit.ensures.sound c.limit-limit.ensures.few c.args.at c.requires) ns t e in
    omega (arith, gone-counted c.self.inside.arena c.self.inside.roots.items c.self.inside.ranks.items c.self.inside.calls.items c.self.inside.order.order c.self.inside.size c.args.self.now.rules c.self.invariant see c.limit-limit.ensures.sound c.limit-limit.ensures.few c.args.at c.requires q (omega (arith, ap length v)), ap (λ (zs : List Node). calls_in q (labels_of (placed c.self.inside.order.order zs))) z, ap (λ (xs : List ℕ). get_or xs q 0) v)

pub overflow_sub-self : goal.overflow_sub-self
overflow_sub-self c =
    let see : seen c.self.inside.order.order c.self.inside.ranks.items (terms_of c.self.inside.arena c.self.inside.roots.items) ≡ c.args.self.now.rules = ap (λ (k : Keyed). k.rules) c.self.view_is in
    let t = c.lift_at.ensures.out (at-here c.self.inside.arena c.self.inside.roots.items c.self.inside.ranks.items c.self.inside.calls.items c.self.inside.order.order c.self.inside.size c.args.self.now.rules c.self.invariant see c.limit-limit.ensures.sound c.limit-limit.ensures.few c.args.at c.requires) (raw-node c.self.inside.arena c.self.inside.roots.items c.self.inside.ranks.items c.self.inside.calls.items c.self.inside.order.order c.self.inside.size c.args.self.now.rules c.self.invariant see c.limit-limit.ensures.sound c.limit-limit.ensures.few c.args.at c.requires).0 (raw-node c.self.inside.arena c.self.inside.roots.items c.self.inside.ranks.items c.self.inside.calls.items c.self.inside.order.order c.self.inside.size c.args.self.now.rules c.self.invariant see c.limit-limit.ensures.sound c.limit-limit.ensures.few c.args.at c.requires).1 in
    omega (arith, gone-size c.self.inside.arena c.self.inside.roots.items c.self.inside.ranks.items c.self.inside.calls.items c.self.inside.order.order c.self.inside.size c.args.self.now.rules c.self.invariant see c.limit-limit.ensures.sound c.limit-limit.ensures.few c.args.at c.requires, c.drop_term-gone.ensures.real (raw-gone c.self.inside.arena c.self.inside.roots.items c.self.inside.ranks.items c.self.inside.calls.items c.self.inside.order.order c.self.inside.size c.args.self.now.rules c.self.invariant see c.limit-limit.ensures.sound c.limit-limit.ensures.few c.args.at c.requires) t)

pub cut-requires : goal.cut-requires
cut-requires c =
    let see : seen c.self.inside.order.order c.self.inside.ranks.items (terms_of c.self.inside.arena c.self.inside.roots.items) ≡ c.args.self.now.rules = ap (λ (k : Keyed). k.rules) c.self.view_is in
    let t = c.lift_at.ensures.out (at-here c.self.inside.arena c.self.inside.roots.items c.self.inside.ranks.items c.self.inside.calls.items c.self.inside.order.order c.self.inside.size c.args.self.now.rules c.self.invariant see c.limit-limit.ensures.sound c.limit-limit.ensures.few c.args.at c.requires) (raw-node c.self.inside.arena c.self.inside.roots.items c.self.inside.ranks.items c.self.inside.calls.items c.self.inside.order.order c.self.inside.size c.args.self.now.rules c.self.invariant see c.limit-limit.ensures.sound c.limit-limit.ensures.few c.args.at c.requires).0 (raw-node c.self.inside.arena c.self.inside.roots.items c.self.inside.ranks.items c.self.inside.calls.items c.self.inside.order.order c.self.inside.size c.args.self.now.rules c.self.invariant see c.limit-limit.ensures.sound c.limit-limit.ensures.few c.args.at c.requires).1 in
    subst (λ (o : Option (List Node)). IsSome o) (sym t) refl

pub invariant_of-self : goal.invariant_of-self
invariant_of-self c =
    let see : seen c.self.inside.order.order c.self.inside.ranks.items (terms_of c.self.inside.arena c.self.inside.roots.items) ≡ c.args.self.now.rules = ap (λ (k : Keyed). k.rules) c.self.view_is in
    let t = c.lift_at.ensures.out (at-here c.self.inside.arena c.self.inside.roots.items c.self.inside.ranks.items c.self.inside.calls.items c.self.inside.order.order c.self.inside.size c.args.self.now.rules c.self.invariant see c.limit-limit.ensures.sound c.limit-limit.ensures.few c.args.at c.requires) (raw-node c.self.inside.arena c.self.inside.roots.items c.self.inside.ranks.items c.self.inside.calls.items c.self.inside.order.order c.self.inside.size c.args.self.now.rules c.self.invariant see c.limit-limit.ensures.sound c.limit-limit.ensures.few c.args.at c.requires).0 (raw-node c.self.inside.arena c.self.inside.roots.items c.self.inside.ranks.items c.self.inside.calls.items c.self.inside.order.order c.self.inside.size c.args.self.now.rules c.self.invariant see c.limit-limit.ensures.sound c.limit-limit.ensures.few c.args.at c.requires).1 in
    let v : c.as_mut_slice-2.result.now ≡ c.self.inside.calls.items = c.as_mut_slice-2.ensures.value in
    let lr : length c.lift_at.new.roots ≡ length c.self.inside.roots.items = c.lift_at.auto.roots ∙ ap length c.as_mut_slice.ensures.value in
    let wr : take c.self.inside.roots.len (c.lift_at.new.roots ++ drop (length c.lift_at.new.roots) c.self.inside.roots.items) ≡ c.lift_at.new.roots = written-back c.self.inside.roots.len c.lift_at.new.roots c.self.inside.roots.items c.self.inside.roots.ok.0 lr in
    let k = root-at c.self.inside.arena c.self.inside.roots.items c.self.inside.ranks.items c.self.inside.order.order c.args.self.now.rules c.self.invariant.rules see c.requires.node.here.rule c.requires.node.here.place c.args.at c.requires.node.here.there in
    let ch = subst (λ (ks : List Key). Changed c.self.inside.arena c.lift_at.new.arena ks c.lift_at.new.roots c.requires.node.here.rule (lifted_nodes (raw c.self.inside.arena c.self.inside.roots.items c.self.inside.ranks.items c.self.inside.calls.items c.self.inside.order.order c.self.inside.size c.args.self.now.rules c.self.invariant see c.limit-limit.ensures.sound c.limit-limit.ensures.few c.args.at c.requires) (p c.self.inside.arena c.self.inside.roots.items c.self.inside.ranks.items c.self.inside.calls.items c.self.inside.order.order c.self.inside.size c.args.self.now.rules c.self.invariant see c.limit-limit.ensures.sound c.limit-limit.ensures.few c.args.at c.requires))) c.as_mut_slice.ensures.value
    (c.lift_at.ensures.changed c.requires.node.here.rule k.0 (at-here c.self.inside.arena c.self.inside.roots.items c.self.inside.ranks.items c.self.inside.calls.items c.self.inside.order.order c.self.inside.size c.args.self.now.rules c.self.invariant see c.limit-limit.ensures.sound c.limit-limit.ensures.few c.args.at c.requires) (ap (λ (ks : List Key). slice_get ks c.requires.node.here.rule) c.as_mut_slice.ensures.value ∙ k.1) refl) in
    let lc : length c.drop_term-gone.new.calls ≡ length c.self.inside.calls.items = c.drop_term-gone.auto.calls ∙ ap length v in
    let wc : take c.self.inside.calls.len (c.drop_term-gone.new.calls ++ drop (length c.drop_term-gone.new.calls) c.self.inside.calls.items) ≡ c.drop_term-gone.new.calls = written-back c.self.inside.calls.len c.drop_term-gone.new.calls c.self.inside.calls.items c.self.inside.calls.ok.0 lc in
    let moved = subst (λ (xs : List ℕ). (q : ℕ) → q < length xs → get_or c.drop_term-gone.new.calls q 0 + calls_in q (labels_of (placed c.self.inside.order.order (raw-gone c.self.inside.arena c.self.inside.roots.items c.self.inside.ranks.items c.self.inside.calls.items c.self.inside.order.order c.self.inside.size c.args.self.now.rules c.self.invariant see c.limit-limit.ensures.sound c.limit-limit.ensures.few c.args.at c.requires))) ≡ get_or xs q 0) v (c.drop_term-gone.ensures.calls (raw-gone c.self.inside.arena c.self.inside.roots.items c.self.inside.ranks.items c.self.inside.calls.items c.self.inside.order.order c.self.inside.size c.args.self.now.rules c.self.invariant see c.limit-limit.ensures.sound c.limit-limit.ensures.few c.args.at c.requires) t) in
    subst (λ (ks : List Key). IsKept c.cut.new.self ks c.self.inside.ranks.items (take c.self.inside.calls.len (c.drop_term-gone.new.calls ++ drop (length c.drop_term-gone.new.calls) c.self.inside.calls.items)) c.self.inside.order.order (c.self.inside.size - c.drop_term-gone.result)) (sym wr)
    (subst (λ (xs : List ℕ). IsKept c.cut.new.self c.lift_at.new.roots c.self.inside.ranks.items xs c.self.inside.order.order (c.self.inside.size - c.drop_term-gone.result)) (sym wc)
    (kept-lifted c.self.inside.arena c.self.inside.roots.items c.self.inside.ranks.items c.self.inside.calls.items c.self.inside.order.order c.self.inside.size c.args.self.now.rules c.self.invariant see c.limit-limit.ensures.sound c.limit-limit.ensures.few c.args.at c.requires c.lift_at.new.arena c.cut.new.self c.lift_at.new.roots c.drop_term-gone.new.calls c.drop_term-gone.result ch c.lift_at.ensures.apart c.cut.ensures.others lc moved (c.drop_term-gone.ensures.real (raw-gone c.self.inside.arena c.self.inside.roots.items c.self.inside.ranks.items c.self.inside.calls.items c.self.inside.order.order c.self.inside.size c.args.self.now.rules c.self.invariant see c.limit-limit.ensures.sound c.limit-limit.ensures.few c.args.at c.requires) t)))

pub returns-clause-rules : goal.returns-clause-rules
returns-clause-rules c = λ S.
    let see : seen c.self.inside.order.order c.self.inside.ranks.items (terms_of c.self.inside.arena c.self.inside.roots.items) ≡ c.args.self.now.rules = ap (λ (k : Keyed). k.rules) c.self.view_is in
    let t = c.lift_at.ensures.out (at-here c.self.inside.arena c.self.inside.roots.items c.self.inside.ranks.items c.self.inside.calls.items c.self.inside.order.order c.self.inside.size c.args.self.now.rules c.self.invariant see c.limit-limit.ensures.sound c.limit-limit.ensures.few c.args.at c.requires) (raw-node c.self.inside.arena c.self.inside.roots.items c.self.inside.ranks.items c.self.inside.calls.items c.self.inside.order.order c.self.inside.size c.args.self.now.rules c.self.invariant see c.limit-limit.ensures.sound c.limit-limit.ensures.few c.args.at c.requires).0 (raw-node c.self.inside.arena c.self.inside.roots.items c.self.inside.ranks.items c.self.inside.calls.items c.self.inside.order.order c.self.inside.size c.args.self.now.rules c.self.invariant see c.limit-limit.ensures.sound c.limit-limit.ensures.few c.args.at c.requires).1 in
    let lr : length c.lift_at.new.roots ≡ length c.self.inside.roots.items = c.lift_at.auto.roots ∙ ap length c.as_mut_slice.ensures.value in
    let wr : take c.self.inside.roots.len (c.lift_at.new.roots ++ drop (length c.lift_at.new.roots) c.self.inside.roots.items) ≡ c.lift_at.new.roots = written-back c.self.inside.roots.len c.lift_at.new.roots c.self.inside.roots.items c.self.inside.roots.ok.0 lr in
    let k = root-at c.self.inside.arena c.self.inside.roots.items c.self.inside.ranks.items c.self.inside.order.order c.args.self.now.rules c.self.invariant.rules see c.requires.node.here.rule c.requires.node.here.place c.args.at c.requires.node.here.there in
    let ch = subst (λ (ks : List Key). Changed c.self.inside.arena c.lift_at.new.arena ks c.lift_at.new.roots c.requires.node.here.rule (lifted_nodes (raw c.self.inside.arena c.self.inside.roots.items c.self.inside.ranks.items c.self.inside.calls.items c.self.inside.order.order c.self.inside.size c.args.self.now.rules c.self.invariant see c.limit-limit.ensures.sound c.limit-limit.ensures.few c.args.at c.requires) (p c.self.inside.arena c.self.inside.roots.items c.self.inside.ranks.items c.self.inside.calls.items c.self.inside.order.order c.self.inside.size c.args.self.now.rules c.self.invariant see c.limit-limit.ensures.sound c.limit-limit.ensures.few c.args.at c.requires))) c.as_mut_slice.ensures.value
    (c.lift_at.ensures.changed c.requires.node.here.rule k.0 (at-here c.self.inside.arena c.self.inside.roots.items c.self.inside.ranks.items c.self.inside.calls.items c.self.inside.order.order c.self.inside.size c.args.self.now.rules c.self.invariant see c.limit-limit.ensures.sound c.limit-limit.ensures.few c.args.at c.requires) (ap (λ (ks : List Key). slice_get ks c.requires.node.here.rule) c.as_mut_slice.ensures.value ∙ k.1) refl) in
    let o = once-both c.self.inside.arena c.self.inside.roots.items c.self.inside.ranks.items c.self.inside.calls.items c.self.inside.order.order c.self.inside.size c.args.self.now.rules c.self.invariant see c.limit-limit.ensures.sound c.limit-limit.ensures.few c.args.at c.requires.node.here.rule c.requires.node.here.place S.rule S.place c.requires.node.here.there S.there in
    ap (λ (ks : List Key). seen c.self.inside.order.order c.self.inside.ranks.items (terms_of c.cut.new.self ks)) wr
    ∙ seen-lifted c.self.inside.arena c.self.inside.roots.items c.self.inside.ranks.items c.self.inside.calls.items c.self.inside.order.order c.self.inside.size c.args.self.now.rules c.self.invariant see c.limit-limit.ensures.sound c.limit-limit.ensures.few c.args.at c.requires c.lift_at.new.arena c.cut.new.self c.lift_at.new.roots c.drop_term-gone.new.calls c.drop_term-gone.result ch c.lift_at.ensures.apart c.cut.ensures.others
    ∙ ap (λ (r : ℕ). with_nodes c.args.self.now.rules r (lifted_nodes (nodes_at c.args.self.now.rules r) c.requires.node.here.place)) o.0
    ∙ ap (λ (i : ℕ). with_nodes c.args.self.now.rules S.rule (lifted_nodes (nodes_at c.args.self.now.rules S.rule) i)) o.1

pub returns-clause-value : goal.returns-clause-value
returns-clause-value c = λ S.
    let see : seen c.self.inside.order.order c.self.inside.ranks.items (terms_of c.self.inside.arena c.self.inside.roots.items) ≡ c.args.self.now.rules = ap (λ (k : Keyed). k.rules) c.self.view_is in
    lifting-changes c.args.self.now.rules _ c.args.at
    (lawful c.self.inside.arena c.self.inside.roots.items c.self.inside.ranks.items c.self.inside.calls.items c.self.inside.order.order c.self.inside.size c.args.self.now.rules c.self.invariant see)
    S (returns-clause-rules c S.node.here)

pub returns-clause-size : goal.returns-clause-size
returns-clause-size c = λ S.
    let see : seen c.self.inside.order.order c.self.inside.ranks.items (terms_of c.self.inside.arena c.self.inside.roots.items) ≡ c.args.self.now.rules = ap (λ (k : Keyed). k.rules) c.self.view_is in
    let t = c.lift_at.ensures.out (at-here c.self.inside.arena c.self.inside.roots.items c.self.inside.ranks.items c.self.inside.calls.items c.self.inside.order.order c.self.inside.size c.args.self.now.rules c.self.invariant see c.limit-limit.ensures.sound c.limit-limit.ensures.few c.args.at c.requires) (raw-node c.self.inside.arena c.self.inside.roots.items c.self.inside.ranks.items c.self.inside.calls.items c.self.inside.order.order c.self.inside.size c.args.self.now.rules c.self.invariant see c.limit-limit.ensures.sound c.limit-limit.ensures.few c.args.at c.requires).0 (raw-node c.self.inside.arena c.self.inside.roots.items c.self.inside.ranks.items c.self.inside.calls.items c.self.inside.order.order c.self.inside.size c.args.self.now.rules c.self.invariant see c.limit-limit.ensures.sound c.limit-limit.ensures.few c.args.at c.requires).1 in
    let v : c.as_mut_slice-2.result.now ≡ c.self.inside.calls.items = c.as_mut_slice-2.ensures.value in
    let lr : length c.lift_at.new.roots ≡ length c.self.inside.roots.items = c.lift_at.auto.roots ∙ ap length c.as_mut_slice.ensures.value in
    let wr : take c.self.inside.roots.len (c.lift_at.new.roots ++ drop (length c.lift_at.new.roots) c.self.inside.roots.items) ≡ c.lift_at.new.roots = written-back c.self.inside.roots.len c.lift_at.new.roots c.self.inside.roots.items c.self.inside.roots.ok.0 lr in
    let k = root-at c.self.inside.arena c.self.inside.roots.items c.self.inside.ranks.items c.self.inside.order.order c.args.self.now.rules c.self.invariant.rules see c.requires.node.here.rule c.requires.node.here.place c.args.at c.requires.node.here.there in
    let ch = subst (λ (ks : List Key). Changed c.self.inside.arena c.lift_at.new.arena ks c.lift_at.new.roots c.requires.node.here.rule (lifted_nodes (raw c.self.inside.arena c.self.inside.roots.items c.self.inside.ranks.items c.self.inside.calls.items c.self.inside.order.order c.self.inside.size c.args.self.now.rules c.self.invariant see c.limit-limit.ensures.sound c.limit-limit.ensures.few c.args.at c.requires) (p c.self.inside.arena c.self.inside.roots.items c.self.inside.ranks.items c.self.inside.calls.items c.self.inside.order.order c.self.inside.size c.args.self.now.rules c.self.invariant see c.limit-limit.ensures.sound c.limit-limit.ensures.few c.args.at c.requires))) c.as_mut_slice.ensures.value
    (c.lift_at.ensures.changed c.requires.node.here.rule k.0 (at-here c.self.inside.arena c.self.inside.roots.items c.self.inside.ranks.items c.self.inside.calls.items c.self.inside.order.order c.self.inside.size c.args.self.now.rules c.self.invariant see c.limit-limit.ensures.sound c.limit-limit.ensures.few c.args.at c.requires) (ap (λ (ks : List Key). slice_get ks c.requires.node.here.rule) c.as_mut_slice.ensures.value ∙ k.1) refl) in
    let lc : length c.drop_term-gone.new.calls ≡ length c.self.inside.calls.items = c.drop_term-gone.auto.calls ∙ ap length v in
    let wc : take c.self.inside.calls.len (c.drop_term-gone.new.calls ++ drop (length c.drop_term-gone.new.calls) c.self.inside.calls.items) ≡ c.drop_term-gone.new.calls = written-back c.self.inside.calls.len c.drop_term-gone.new.calls c.self.inside.calls.items c.self.inside.calls.ok.0 lc in
    let moved = subst (λ (xs : List ℕ). (q : ℕ) → q < length xs → get_or c.drop_term-gone.new.calls q 0 + calls_in q (labels_of (placed c.self.inside.order.order (raw-gone c.self.inside.arena c.self.inside.roots.items c.self.inside.ranks.items c.self.inside.calls.items c.self.inside.order.order c.self.inside.size c.args.self.now.rules c.self.invariant see c.limit-limit.ensures.sound c.limit-limit.ensures.few c.args.at c.requires))) ≡ get_or xs q 0) v (c.drop_term-gone.ensures.calls (raw-gone c.self.inside.arena c.self.inside.roots.items c.self.inside.ranks.items c.self.inside.calls.items c.self.inside.order.order c.self.inside.size c.args.self.now.rules c.self.invariant see c.limit-limit.ensures.sound c.limit-limit.ensures.few c.args.at c.requires) t) in
    let o = once-both c.self.inside.arena c.self.inside.roots.items c.self.inside.ranks.items c.self.inside.calls.items c.self.inside.order.order c.self.inside.size c.args.self.now.rules c.self.invariant see c.limit-limit.ensures.sound c.limit-limit.ensures.few c.args.at c.requires.node.here.rule c.requires.node.here.place S.rule S.place c.requires.node.here.there S.there in
    omega (
      arith,
      ap (λ (ks : List Key). size (rules_of (seen c.self.inside.order.order c.self.inside.ranks.items (terms_of c.cut.new.self ks)))) wr,
      (size-lifted c.self.inside.arena c.self.inside.roots.items c.self.inside.ranks.items c.self.inside.calls.items c.self.inside.order.order c.self.inside.size c.args.self.now.rules c.self.invariant see c.limit-limit.ensures.sound c.limit-limit.ensures.few c.args.at c.requires c.lift_at.new.arena c.cut.new.self c.lift_at.new.roots c.drop_term-gone.new.calls c.drop_term-gone.result ch c.lift_at.ensures.apart c.cut.ensures.others lc moved (c.drop_term-gone.ensures.real (raw-gone c.self.inside.arena c.self.inside.roots.items c.self.inside.ranks.items c.self.inside.calls.items c.self.inside.order.order c.self.inside.size c.args.self.now.rules c.self.invariant see c.limit-limit.ensures.sound c.limit-limit.ensures.few c.args.at c.requires) t)),
      ap (λ (r : ℕ). real_nodes (labels_of (first_child_nodes (nodes_at c.args.self.now.rules r) c.requires.node.here.place))) o.0,
      ap (λ (i : ℕ). real_nodes (labels_of (first_child_nodes (nodes_at c.args.self.now.rules S.rule) i))) o.1,
    )

pub returns-clause-values : goal.returns-clause-values
returns-clause-values c = others-keep c.args.self.now.rules _ c.requires.node.here.rule _ c.requires.start (returns-clause-rules c c.requires.node.here)
