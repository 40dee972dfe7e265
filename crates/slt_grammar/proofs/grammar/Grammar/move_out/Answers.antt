use Rattle.std.proofs.Common.{◌≡◌, ◌↔◌, ◌∙◌, ◌-◌, ◌++◌, ◌∷◌, [], ℕ, List, Some, IsTrue, slice_get, length, insert, take, drop, ap, sym, refl, subst, arith}
use Rattle.rule_arena.specs.Preorder.{with_subterm}
use Rattle.rule_arena.specs.Terms.{At, Apart, kids_of}
use Rattle.rule_arena.specs.declared.key.Key.{Key}
use Rattle.rule_arena.specs.declared.label.Label.TheVariants.{Call}
use Rattle.slt_grammar.specs.Holding.{seen, terms_of, AreHeld, Changed}
use Rattle.slt_grammar.specs.Keyed.{Keyed}
use Rattle.slt_grammar.specs.KeyedEdits.{rule_shared}
use Rattle.slt_grammar.proofs.Held.{node-is, root-at}
use Rattle.slt_grammar.proofs.KeptLemmas.{many-calls, once-both, size-few, written-back}
use Rattle.slt_grammar.proofs.KeptShares.{raw, within, seen-shared, kept-shared, value-shared, values-shared, size-shared}
use Rattle.slt_grammar.proofs.Wrappings.{leaf-held, leaf-terms, leaf-apart, still-at}
use Rattle.slt_grammar.proofs.grammar.Grammar.move_out.Goals as goal

pub is_root-is_root-requires : goal.is_root-is_root-requires
is_root-is_root-requires c =
    let see : seen c.self.inside.order.order c.self.inside.ranks.items (terms_of c.self.inside.arena c.self.inside.roots.items) ≡ c.args.self.now.rules = ap (λ (k : Keyed). k.rules) c.self.view_is in
    node-is c.self.inside.arena c.self.inside.roots.items c.self.inside.ranks.items c.self.inside.order.order c.args.self.now.rules c.self.invariant.rules see c.requires.there.here.rule c.requires.there.here.place c.args.at c.requires.there.here.there

pub swap-requires-clause-held : goal.swap-requires-clause-held
swap-requires-clause-held c =
    subst (λ (ks : List Key). AreHeld c.add-call.new.self ks) (sym c.as_mut_slice.ensures.value) (leaf-held c.self.inside.arena c.add-call.new.self c.self.inside.roots.items c.args.at c.add-call.result c.self.invariant.rules.held c.add-call.ensures.vacant c.add-call.ensures.others)

pub swap-requires-clause-there : goal.swap-requires-clause-there
swap-requires-clause-there c =
    let see : seen c.self.inside.order.order c.self.inside.ranks.items (terms_of c.self.inside.arena c.self.inside.roots.items) ≡ c.args.self.now.rules = ap (λ (k : Keyed). k.rules) c.self.view_is in
    let k = root-at c.self.inside.arena c.self.inside.roots.items c.self.inside.ranks.items c.self.inside.order.order c.args.self.now.rules c.self.invariant.rules see c.requires.there.here.rule c.requires.there.here.place c.args.at c.requires.there.here.there in
    let x : At c.self.inside.arena c.args.at = node-is c.self.inside.arena c.self.inside.roots.items c.self.inside.ranks.items c.self.inside.order.order c.args.self.now.rules c.self.invariant.rules see c.requires.there.here.rule c.requires.there.here.place c.args.at c.requires.there.here.there in
    let y : At c.add-call.new.self c.args.at = still-at c.self.inside.arena c.add-call.new.self c.self.inside.roots.items c.args.at c.add-call.result c.self.invariant.rules.held c.add-call.ensures.vacant c.add-call.ensures.others x in
    (c.requires.there.here.rule, k.0, y, ap (λ (ks : List Key). slice_get ks c.requires.there.here.rule) c.as_mut_slice.ensures.value ∙ k.1, refl)

pub swap-requires-clause-root : goal.swap-requires-clause-root
swap-requires-clause-root c = λ z.
    let see : seen c.self.inside.order.order c.self.inside.ranks.items (terms_of c.self.inside.arena c.self.inside.roots.items) ≡ c.args.self.now.rules = ap (λ (k : Keyed). k.rules) c.self.view_is in
    let x : At c.self.inside.arena c.args.at = node-is c.self.inside.arena c.self.inside.roots.items c.self.inside.ranks.items c.self.inside.order.order c.args.self.now.rules c.self.invariant.rules see c.requires.there.here.rule c.requires.there.here.place c.args.at c.requires.there.here.there in
    let y : At c.add-call.new.self c.args.at = still-at c.self.inside.arena c.add-call.new.self c.self.inside.roots.items c.args.at c.add-call.result c.self.invariant.rules.held c.add-call.ensures.vacant c.add-call.ensures.others x in
    subst (λ (i : ℕ). IsTrue c.is_root-is_root.result ↔ (i ≡ 0)) (c.limit-after.ensures.sound.once c.args.at y z).1 (c.is_root-is_root.ensures x)

pub swap-requires-clause-apart : goal.swap-requires-clause-apart
swap-requires-clause-apart c =
    subst (λ (ks : List Key). Apart ks c.add-call.result.number) (sym c.as_mut_slice.ensures.value) (leaf-apart c.self.inside.arena c.add-call.new.self c.self.inside.roots.items c.args.at c.add-call.result c.self.invariant.rules.held c.add-call.ensures.vacant c.add-call.ensures.others)

pub insert-requires-3 : goal.insert-requires-3
insert-requires-3 c =
    let see : seen c.self.inside.order.order c.self.inside.ranks.items (terms_of c.self.inside.arena c.self.inside.roots.items) ≡ c.args.self.now.rules = ap (λ (k : Keyed). k.rules) c.self.view_is in
    omega (arith, c.len-start.ensures, c.self.inside.roots.ok, c.self.inside.calls.ok, many-calls c.self.inside.arena c.self.inside.roots.items c.self.inside.ranks.items c.self.inside.calls.items c.self.inside.order.order c.self.inside.size c.args.self.now.rules c.self.invariant see)

pub overflow_add-self : goal.overflow_add-self
overflow_add-self c =
    let see : seen c.self.inside.order.order c.self.inside.ranks.items (terms_of c.self.inside.arena c.self.inside.roots.items) ≡ c.args.self.now.rules = ap (λ (k : Keyed). k.rules) c.self.view_is in
    omega (arith, size-few c.self.inside.arena c.self.inside.roots.items c.self.inside.ranks.items c.self.inside.calls.items c.self.inside.order.order c.self.inside.size c.args.self.now.rules c.self.invariant see c.limit-before.ensures.sound c.limit-before.ensures.few)

pub invariant_of-self : goal.invariant_of-self
invariant_of-self c =
    let see : seen c.self.inside.order.order c.self.inside.ranks.items (terms_of c.self.inside.arena c.self.inside.roots.items) ≡ c.args.self.now.rules = ap (λ (k : Keyed). k.rules) c.self.view_is in
    let k = root-at c.self.inside.arena c.self.inside.roots.items c.self.inside.ranks.items c.self.inside.order.order c.args.self.now.rules c.self.invariant.rules see c.requires.there.here.rule c.requires.there.here.place c.args.at c.requires.there.here.there in
    let x : At c.self.inside.arena c.args.at = node-is c.self.inside.arena c.self.inside.roots.items c.self.inside.ranks.items c.self.inside.order.order c.args.self.now.rules c.self.invariant.rules see c.requires.there.here.rule c.requires.there.here.place c.args.at c.requires.there.here.there in
    let y : At c.add-call.new.self c.args.at = still-at c.self.inside.arena c.add-call.new.self c.self.inside.roots.items c.args.at c.add-call.result c.self.invariant.rules.held c.add-call.ensures.vacant c.add-call.ensures.others x in
    let e : slice_get c.as_mut_slice.result.now c.requires.there.here.rule ≡ Some k.0 = ap (λ (ks : List Key). slice_get ks c.requires.there.here.rule) c.as_mut_slice.ensures.value ∙ k.1 in
    let ch : Changed c.add-call.new.self c.swap.new.arena c.self.inside.roots.items c.swap.new.roots c.requires.there.here.rule (with_subterm kids_of (raw c.self.inside.arena c.self.inside.roots.items c.self.inside.ranks.items c.self.inside.calls.items c.self.inside.order.order c.self.inside.size c.args.self.now.rules c.self.invariant see c.requires.there.here.rule c.requires.there.here.place c.args.at c.requires.there.start c.requires.there.here.there) c.requires.there.here.place (record { key = c.add-call.result; label = Call c.insert-id.result; kids = 0 } ∷ [])) =
    subst (λ (ks : List Key). Changed c.add-call.new.self c.swap.new.arena ks c.swap.new.roots c.requires.there.here.rule (with_subterm kids_of (raw c.self.inside.arena c.self.inside.roots.items c.self.inside.ranks.items c.self.inside.calls.items c.self.inside.order.order c.self.inside.size c.args.self.now.rules c.self.invariant see c.requires.there.here.rule c.requires.there.here.place c.args.at c.requires.there.start c.requires.there.here.there) c.requires.there.here.place (record { key = c.add-call.result; label = Call c.insert-id.result; kids = 0 } ∷ []))) c.as_mut_slice.ensures.value
    (c.swap.ensures.changed c.requires.there.here.rule k.0 y (record { key = c.add-call.result; label = Call c.insert-id.result; kids = 0 } ∷ []) e refl c.add-call.ensures.term) in
    let out = c.swap.ensures.out c.requires.there.here.rule k.0 y e refl in
    let st : c.len-start.result - 1 ≡ c.requires.there.here.rule = omega (arith, c.len-start.ensures, c.self.inside.roots.ok, within c.self.inside.arena c.self.inside.roots.items c.self.inside.ranks.items c.self.inside.calls.items c.self.inside.order.order c.self.inside.size c.args.self.now.rules c.self.invariant see c.requires.there.here.rule c.requires.there.here.place c.args.at c.requires.there.start c.requires.there.here.there) in
    let lr : length c.swap.new.roots ≡ length c.self.inside.roots.items = c.swap.auto.roots ∙ ap length c.as_mut_slice.ensures.value in
    let wr = written-back c.self.inside.roots.len c.swap.new.roots c.self.inside.roots.items c.self.inside.roots.ok.0 lr in
    let i1 : c.insert.new.self.items ≡ insert (take c.self.inside.roots.len (c.swap.new.roots ++ drop (length c.swap.new.roots) c.self.inside.roots.items)) (c.len-start.result - 1) c.args.at = rw c.unwrap.ensures at c.insert.ensures.items in
    let i2 : c.insert-2.new.self.items ≡ insert c.self.inside.ranks.items (c.len-start.result - 1) 0 = rw c.unwrap-2.ensures at c.insert-2.ensures.items in
    let i3 : c.insert-3.new.self.items ≡ insert c.self.inside.calls.items (c.len-start.result - 1) 1 = rw c.unwrap-3.ensures at c.insert-3.ensures.items in
    let er : c.insert.new.self.items ≡ insert c.swap.new.roots c.requires.there.here.rule c.args.at = i1 ∙ ap (λ (ks : List Key). insert ks (c.len-start.result - 1) c.args.at) wr ∙ ap (λ (i : ℕ). insert c.swap.new.roots i c.args.at) st in
    let ek : c.insert-2.new.self.items ≡ insert c.self.inside.ranks.items c.requires.there.here.rule 0 = i2 ∙ ap (λ (i : ℕ). insert c.self.inside.ranks.items i 0) st in
    let ec : c.insert-3.new.self.items ≡ insert c.self.inside.calls.items c.requires.there.here.rule 1 = i3 ∙ ap (λ (i : ℕ). insert c.self.inside.calls.items i 1) st in
    let eo : c.insert-id.new.self.order ≡ insert c.self.inside.order.order c.requires.there.here.rule c.insert-id.result = c.insert-id.ensures.order ∙ ap (λ (i : ℕ). insert c.self.inside.order.order i c.insert-id.result) st in
    kept-shared c.self.inside.arena c.self.inside.roots.items c.self.inside.ranks.items c.self.inside.calls.items c.self.inside.order.order c.self.inside.size c.args.self.now.rules c.self.invariant see c.requires.there.here.rule c.requires.there.here.place c.args.at c.requires.there.start c.requires.there.here.there c.add-call.new.self c.swap.new.arena c.swap.new.roots c.insert.new.self.items c.insert-2.new.self.items c.insert-3.new.self.items c.insert-id.new.self.order c.insert-id.result c.add-call.result c.insert-id.ensures.fresh (leaf-terms c.self.inside.arena c.add-call.new.self c.self.inside.roots.items c.args.at c.add-call.result c.self.invariant.rules.held c.add-call.ensures.vacant c.add-call.ensures.others) ch out c.swap.ensures.apart er ek ec eo

pub returns-clause-rules : goal.returns-clause-rules
returns-clause-rules c = λ S.
    let see : seen c.self.inside.order.order c.self.inside.ranks.items (terms_of c.self.inside.arena c.self.inside.roots.items) ≡ c.args.self.now.rules = ap (λ (k : Keyed). k.rules) c.self.view_is in
    let k = root-at c.self.inside.arena c.self.inside.roots.items c.self.inside.ranks.items c.self.inside.order.order c.args.self.now.rules c.self.invariant.rules see c.requires.there.here.rule c.requires.there.here.place c.args.at c.requires.there.here.there in
    let x : At c.self.inside.arena c.args.at = node-is c.self.inside.arena c.self.inside.roots.items c.self.inside.ranks.items c.self.inside.order.order c.args.self.now.rules c.self.invariant.rules see c.requires.there.here.rule c.requires.there.here.place c.args.at c.requires.there.here.there in
    let y : At c.add-call.new.self c.args.at = still-at c.self.inside.arena c.add-call.new.self c.self.inside.roots.items c.args.at c.add-call.result c.self.invariant.rules.held c.add-call.ensures.vacant c.add-call.ensures.others x in
    let e : slice_get c.as_mut_slice.result.now c.requires.there.here.rule ≡ Some k.0 = ap (λ (ks : List Key). slice_get ks c.requires.there.here.rule) c.as_mut_slice.ensures.value ∙ k.1 in
    let ch : Changed c.add-call.new.self c.swap.new.arena c.self.inside.roots.items c.swap.new.roots c.requires.there.here.rule (with_subterm kids_of (raw c.self.inside.arena c.self.inside.roots.items c.self.inside.ranks.items c.self.inside.calls.items c.self.inside.order.order c.self.inside.size c.args.self.now.rules c.self.invariant see c.requires.there.here.rule c.requires.there.here.place c.args.at c.requires.there.start c.requires.there.here.there) c.requires.there.here.place (record { key = c.add-call.result; label = Call c.insert-id.result; kids = 0 } ∷ [])) =
    subst (λ (ks : List Key). Changed c.add-call.new.self c.swap.new.arena ks c.swap.new.roots c.requires.there.here.rule (with_subterm kids_of (raw c.self.inside.arena c.self.inside.roots.items c.self.inside.ranks.items c.self.inside.calls.items c.self.inside.order.order c.self.inside.size c.args.self.now.rules c.self.invariant see c.requires.there.here.rule c.requires.there.here.place c.args.at c.requires.there.start c.requires.there.here.there) c.requires.there.here.place (record { key = c.add-call.result; label = Call c.insert-id.result; kids = 0 } ∷ []))) c.as_mut_slice.ensures.value
    (c.swap.ensures.changed c.requires.there.here.rule k.0 y (record { key = c.add-call.result; label = Call c.insert-id.result; kids = 0 } ∷ []) e refl c.add-call.ensures.term) in
    let out = c.swap.ensures.out c.requires.there.here.rule k.0 y e refl in
    let st : c.len-start.result - 1 ≡ c.requires.there.here.rule = omega (arith, c.len-start.ensures, c.self.inside.roots.ok, within c.self.inside.arena c.self.inside.roots.items c.self.inside.ranks.items c.self.inside.calls.items c.self.inside.order.order c.self.inside.size c.args.self.now.rules c.self.invariant see c.requires.there.here.rule c.requires.there.here.place c.args.at c.requires.there.start c.requires.there.here.there) in
    let lr : length c.swap.new.roots ≡ length c.self.inside.roots.items = c.swap.auto.roots ∙ ap length c.as_mut_slice.ensures.value in
    let wr = written-back c.self.inside.roots.len c.swap.new.roots c.self.inside.roots.items c.self.inside.roots.ok.0 lr in
    let i1 : c.insert.new.self.items ≡ insert (take c.self.inside.roots.len (c.swap.new.roots ++ drop (length c.swap.new.roots) c.self.inside.roots.items)) (c.len-start.result - 1) c.args.at = rw c.unwrap.ensures at c.insert.ensures.items in
    let i2 : c.insert-2.new.self.items ≡ insert c.self.inside.ranks.items (c.len-start.result - 1) 0 = rw c.unwrap-2.ensures at c.insert-2.ensures.items in
    let i3 : c.insert-3.new.self.items ≡ insert c.self.inside.calls.items (c.len-start.result - 1) 1 = rw c.unwrap-3.ensures at c.insert-3.ensures.items in
    let er : c.insert.new.self.items ≡ insert c.swap.new.roots c.requires.there.here.rule c.args.at = i1 ∙ ap (λ (ks : List Key). insert ks (c.len-start.result - 1) c.args.at) wr ∙ ap (λ (i : ℕ). insert c.swap.new.roots i c.args.at) st in
    let ek : c.insert-2.new.self.items ≡ insert c.self.inside.ranks.items c.requires.there.here.rule 0 = i2 ∙ ap (λ (i : ℕ). insert c.self.inside.ranks.items i 0) st in
    let ec : c.insert-3.new.self.items ≡ insert c.self.inside.calls.items c.requires.there.here.rule 1 = i3 ∙ ap (λ (i : ℕ). insert c.self.inside.calls.items i 1) st in
    let eo : c.insert-id.new.self.order ≡ insert c.self.inside.order.order c.requires.there.here.rule c.insert-id.result = c.insert-id.ensures.order ∙ ap (λ (i : ℕ). insert c.self.inside.order.order i c.insert-id.result) st in
    let o = once-both c.self.inside.arena c.self.inside.roots.items c.self.inside.ranks.items c.self.inside.calls.items c.self.inside.order.order c.self.inside.size c.args.self.now.rules c.self.invariant see c.limit-before.ensures.sound c.limit-before.ensures.few c.args.at c.requires.there.here.rule c.requires.there.here.place S.rule S.place c.requires.there.here.there S.there in
    seen-shared c.self.inside.arena c.self.inside.roots.items c.self.inside.ranks.items c.self.inside.calls.items c.self.inside.order.order c.self.inside.size c.args.self.now.rules c.self.invariant see c.requires.there.here.rule c.requires.there.here.place c.args.at c.requires.there.start c.requires.there.here.there c.add-call.new.self c.swap.new.arena c.swap.new.roots c.insert.new.self.items c.insert-2.new.self.items c.insert-3.new.self.items c.insert-id.new.self.order c.insert-id.result c.add-call.result c.insert-id.ensures.fresh (leaf-terms c.self.inside.arena c.add-call.new.self c.self.inside.roots.items c.args.at c.add-call.result c.self.invariant.rules.held c.add-call.ensures.vacant c.add-call.ensures.others) ch out c.swap.ensures.apart er ek ec eo
    ∙ ap (λ (i : ℕ). rule_shared c.args.self.now.rules i c.requires.there.here.place c.add-call.result) o.0
    ∙ ap (λ (i : ℕ). rule_shared c.args.self.now.rules S.rule i c.add-call.result) o.1

pub returns-clause-value : goal.returns-clause-value
returns-clause-value c =
    let see : seen c.self.inside.order.order c.self.inside.ranks.items (terms_of c.self.inside.arena c.self.inside.roots.items) ≡ c.args.self.now.rules = ap (λ (k : Keyed). k.rules) c.self.view_is in
    let k = root-at c.self.inside.arena c.self.inside.roots.items c.self.inside.ranks.items c.self.inside.order.order c.args.self.now.rules c.self.invariant.rules see c.requires.there.here.rule c.requires.there.here.place c.args.at c.requires.there.here.there in
    let x : At c.self.inside.arena c.args.at = node-is c.self.inside.arena c.self.inside.roots.items c.self.inside.ranks.items c.self.inside.order.order c.args.self.now.rules c.self.invariant.rules see c.requires.there.here.rule c.requires.there.here.place c.args.at c.requires.there.here.there in
    let y : At c.add-call.new.self c.args.at = still-at c.self.inside.arena c.add-call.new.self c.self.inside.roots.items c.args.at c.add-call.result c.self.invariant.rules.held c.add-call.ensures.vacant c.add-call.ensures.others x in
    let e : slice_get c.as_mut_slice.result.now c.requires.there.here.rule ≡ Some k.0 = ap (λ (ks : List Key). slice_get ks c.requires.there.here.rule) c.as_mut_slice.ensures.value ∙ k.1 in
    let ch : Changed c.add-call.new.self c.swap.new.arena c.self.inside.roots.items c.swap.new.roots c.requires.there.here.rule (with_subterm kids_of (raw c.self.inside.arena c.self.inside.roots.items c.self.inside.ranks.items c.self.inside.calls.items c.self.inside.order.order c.self.inside.size c.args.self.now.rules c.self.invariant see c.requires.there.here.rule c.requires.there.here.place c.args.at c.requires.there.start c.requires.there.here.there) c.requires.there.here.place (record { key = c.add-call.result; label = Call c.insert-id.result; kids = 0 } ∷ [])) =
    subst (λ (ks : List Key). Changed c.add-call.new.self c.swap.new.arena ks c.swap.new.roots c.requires.there.here.rule (with_subterm kids_of (raw c.self.inside.arena c.self.inside.roots.items c.self.inside.ranks.items c.self.inside.calls.items c.self.inside.order.order c.self.inside.size c.args.self.now.rules c.self.invariant see c.requires.there.here.rule c.requires.there.here.place c.args.at c.requires.there.start c.requires.there.here.there) c.requires.there.here.place (record { key = c.add-call.result; label = Call c.insert-id.result; kids = 0 } ∷ []))) c.as_mut_slice.ensures.value
    (c.swap.ensures.changed c.requires.there.here.rule k.0 y (record { key = c.add-call.result; label = Call c.insert-id.result; kids = 0 } ∷ []) e refl c.add-call.ensures.term) in
    let out = c.swap.ensures.out c.requires.there.here.rule k.0 y e refl in
    let st : c.len-start.result - 1 ≡ c.requires.there.here.rule = omega (arith, c.len-start.ensures, c.self.inside.roots.ok, within c.self.inside.arena c.self.inside.roots.items c.self.inside.ranks.items c.self.inside.calls.items c.self.inside.order.order c.self.inside.size c.args.self.now.rules c.self.invariant see c.requires.there.here.rule c.requires.there.here.place c.args.at c.requires.there.start c.requires.there.here.there) in
    let lr : length c.swap.new.roots ≡ length c.self.inside.roots.items = c.swap.auto.roots ∙ ap length c.as_mut_slice.ensures.value in
    let wr = written-back c.self.inside.roots.len c.swap.new.roots c.self.inside.roots.items c.self.inside.roots.ok.0 lr in
    let i1 : c.insert.new.self.items ≡ insert (take c.self.inside.roots.len (c.swap.new.roots ++ drop (length c.swap.new.roots) c.self.inside.roots.items)) (c.len-start.result - 1) c.args.at = rw c.unwrap.ensures at c.insert.ensures.items in
    let i2 : c.insert-2.new.self.items ≡ insert c.self.inside.ranks.items (c.len-start.result - 1) 0 = rw c.unwrap-2.ensures at c.insert-2.ensures.items in
    let i3 : c.insert-3.new.self.items ≡ insert c.self.inside.calls.items (c.len-start.result - 1) 1 = rw c.unwrap-3.ensures at c.insert-3.ensures.items in
    let er : c.insert.new.self.items ≡ insert c.swap.new.roots c.requires.there.here.rule c.args.at = i1 ∙ ap (λ (ks : List Key). insert ks (c.len-start.result - 1) c.args.at) wr ∙ ap (λ (i : ℕ). insert c.swap.new.roots i c.args.at) st in
    let ek : c.insert-2.new.self.items ≡ insert c.self.inside.ranks.items c.requires.there.here.rule 0 = i2 ∙ ap (λ (i : ℕ). insert c.self.inside.ranks.items i 0) st in
    let ec : c.insert-3.new.self.items ≡ insert c.self.inside.calls.items c.requires.there.here.rule 1 = i3 ∙ ap (λ (i : ℕ). insert c.self.inside.calls.items i 1) st in
    let eo : c.insert-id.new.self.order ≡ insert c.self.inside.order.order c.requires.there.here.rule c.insert-id.result = c.insert-id.ensures.order ∙ ap (λ (i : ℕ). insert c.self.inside.order.order i c.insert-id.result) st in
    value-shared c.self.inside.arena c.self.inside.roots.items c.self.inside.ranks.items c.self.inside.calls.items c.self.inside.order.order c.self.inside.size c.args.self.now.rules c.self.invariant see c.requires.there.here.rule c.requires.there.here.place c.args.at c.requires.there.start c.requires.there.here.there c.add-call.new.self c.swap.new.arena c.swap.new.roots c.insert.new.self.items c.insert-2.new.self.items c.insert-3.new.self.items c.insert-id.new.self.order c.insert-id.result c.add-call.result c.insert-id.ensures.fresh (leaf-terms c.self.inside.arena c.add-call.new.self c.self.inside.roots.items c.args.at c.add-call.result c.self.invariant.rules.held c.add-call.ensures.vacant c.add-call.ensures.others) ch out c.swap.ensures.apart er ek ec eo

pub returns-clause-values : goal.returns-clause-values
returns-clause-values c =
    let see : seen c.self.inside.order.order c.self.inside.ranks.items (terms_of c.self.inside.arena c.self.inside.roots.items) ≡ c.args.self.now.rules = ap (λ (k : Keyed). k.rules) c.self.view_is in
    let k = root-at c.self.inside.arena c.self.inside.roots.items c.self.inside.ranks.items c.self.inside.order.order c.args.self.now.rules c.self.invariant.rules see c.requires.there.here.rule c.requires.there.here.place c.args.at c.requires.there.here.there in
    let x : At c.self.inside.arena c.args.at = node-is c.self.inside.arena c.self.inside.roots.items c.self.inside.ranks.items c.self.inside.order.order c.args.self.now.rules c.self.invariant.rules see c.requires.there.here.rule c.requires.there.here.place c.args.at c.requires.there.here.there in
    let y : At c.add-call.new.self c.args.at = still-at c.self.inside.arena c.add-call.new.self c.self.inside.roots.items c.args.at c.add-call.result c.self.invariant.rules.held c.add-call.ensures.vacant c.add-call.ensures.others x in
    let e : slice_get c.as_mut_slice.result.now c.requires.there.here.rule ≡ Some k.0 = ap (λ (ks : List Key). slice_get ks c.requires.there.here.rule) c.as_mut_slice.ensures.value ∙ k.1 in
    let ch : Changed c.add-call.new.self c.swap.new.arena c.self.inside.roots.items c.swap.new.roots c.requires.there.here.rule (with_subterm kids_of (raw c.self.inside.arena c.self.inside.roots.items c.self.inside.ranks.items c.self.inside.calls.items c.self.inside.order.order c.self.inside.size c.args.self.now.rules c.self.invariant see c.requires.there.here.rule c.requires.there.here.place c.args.at c.requires.there.start c.requires.there.here.there) c.requires.there.here.place (record { key = c.add-call.result; label = Call c.insert-id.result; kids = 0 } ∷ [])) =
    subst (λ (ks : List Key). Changed c.add-call.new.self c.swap.new.arena ks c.swap.new.roots c.requires.there.here.rule (with_subterm kids_of (raw c.self.inside.arena c.self.inside.roots.items c.self.inside.ranks.items c.self.inside.calls.items c.self.inside.order.order c.self.inside.size c.args.self.now.rules c.self.invariant see c.requires.there.here.rule c.requires.there.here.place c.args.at c.requires.there.start c.requires.there.here.there) c.requires.there.here.place (record { key = c.add-call.result; label = Call c.insert-id.result; kids = 0 } ∷ []))) c.as_mut_slice.ensures.value
    (c.swap.ensures.changed c.requires.there.here.rule k.0 y (record { key = c.add-call.result; label = Call c.insert-id.result; kids = 0 } ∷ []) e refl c.add-call.ensures.term) in
    let out = c.swap.ensures.out c.requires.there.here.rule k.0 y e refl in
    let st : c.len-start.result - 1 ≡ c.requires.there.here.rule = omega (arith, c.len-start.ensures, c.self.inside.roots.ok, within c.self.inside.arena c.self.inside.roots.items c.self.inside.ranks.items c.self.inside.calls.items c.self.inside.order.order c.self.inside.size c.args.self.now.rules c.self.invariant see c.requires.there.here.rule c.requires.there.here.place c.args.at c.requires.there.start c.requires.there.here.there) in
    let lr : length c.swap.new.roots ≡ length c.self.inside.roots.items = c.swap.auto.roots ∙ ap length c.as_mut_slice.ensures.value in
    let wr = written-back c.self.inside.roots.len c.swap.new.roots c.self.inside.roots.items c.self.inside.roots.ok.0 lr in
    let i1 : c.insert.new.self.items ≡ insert (take c.self.inside.roots.len (c.swap.new.roots ++ drop (length c.swap.new.roots) c.self.inside.roots.items)) (c.len-start.result - 1) c.args.at = rw c.unwrap.ensures at c.insert.ensures.items in
    let i2 : c.insert-2.new.self.items ≡ insert c.self.inside.ranks.items (c.len-start.result - 1) 0 = rw c.unwrap-2.ensures at c.insert-2.ensures.items in
    let i3 : c.insert-3.new.self.items ≡ insert c.self.inside.calls.items (c.len-start.result - 1) 1 = rw c.unwrap-3.ensures at c.insert-3.ensures.items in
    let er : c.insert.new.self.items ≡ insert c.swap.new.roots c.requires.there.here.rule c.args.at = i1 ∙ ap (λ (ks : List Key). insert ks (c.len-start.result - 1) c.args.at) wr ∙ ap (λ (i : ℕ). insert c.swap.new.roots i c.args.at) st in
    let ek : c.insert-2.new.self.items ≡ insert c.self.inside.ranks.items c.requires.there.here.rule 0 = i2 ∙ ap (λ (i : ℕ). insert c.self.inside.ranks.items i 0) st in
    let ec : c.insert-3.new.self.items ≡ insert c.self.inside.calls.items c.requires.there.here.rule 1 = i3 ∙ ap (λ (i : ℕ). insert c.self.inside.calls.items i 1) st in
    let eo : c.insert-id.new.self.order ≡ insert c.self.inside.order.order c.requires.there.here.rule c.insert-id.result = c.insert-id.ensures.order ∙ ap (λ (i : ℕ). insert c.self.inside.order.order i c.insert-id.result) st in
    values-shared c.self.inside.arena c.self.inside.roots.items c.self.inside.ranks.items c.self.inside.calls.items c.self.inside.order.order c.self.inside.size c.args.self.now.rules c.self.invariant see c.requires.there.here.rule c.requires.there.here.place c.args.at c.requires.there.start c.requires.there.here.there c.add-call.new.self c.swap.new.arena c.swap.new.roots c.insert.new.self.items c.insert-2.new.self.items c.insert-3.new.self.items c.insert-id.new.self.order c.insert-id.result c.add-call.result c.insert-id.ensures.fresh (leaf-terms c.self.inside.arena c.add-call.new.self c.self.inside.roots.items c.args.at c.add-call.result c.self.invariant.rules.held c.add-call.ensures.vacant c.add-call.ensures.others) ch out c.swap.ensures.apart er ek ec eo

pub returns-clause-size : goal.returns-clause-size
returns-clause-size c =
    let see : seen c.self.inside.order.order c.self.inside.ranks.items (terms_of c.self.inside.arena c.self.inside.roots.items) ≡ c.args.self.now.rules = ap (λ (k : Keyed). k.rules) c.self.view_is in
    let k = root-at c.self.inside.arena c.self.inside.roots.items c.self.inside.ranks.items c.self.inside.order.order c.args.self.now.rules c.self.invariant.rules see c.requires.there.here.rule c.requires.there.here.place c.args.at c.requires.there.here.there in
    let x : At c.self.inside.arena c.args.at = node-is c.self.inside.arena c.self.inside.roots.items c.self.inside.ranks.items c.self.inside.order.order c.args.self.now.rules c.self.invariant.rules see c.requires.there.here.rule c.requires.there.here.place c.args.at c.requires.there.here.there in
    let y : At c.add-call.new.self c.args.at = still-at c.self.inside.arena c.add-call.new.self c.self.inside.roots.items c.args.at c.add-call.result c.self.invariant.rules.held c.add-call.ensures.vacant c.add-call.ensures.others x in
    let e : slice_get c.as_mut_slice.result.now c.requires.there.here.rule ≡ Some k.0 = ap (λ (ks : List Key). slice_get ks c.requires.there.here.rule) c.as_mut_slice.ensures.value ∙ k.1 in
    let ch : Changed c.add-call.new.self c.swap.new.arena c.self.inside.roots.items c.swap.new.roots c.requires.there.here.rule (with_subterm kids_of (raw c.self.inside.arena c.self.inside.roots.items c.self.inside.ranks.items c.self.inside.calls.items c.self.inside.order.order c.self.inside.size c.args.self.now.rules c.self.invariant see c.requires.there.here.rule c.requires.there.here.place c.args.at c.requires.there.start c.requires.there.here.there) c.requires.there.here.place (record { key = c.add-call.result; label = Call c.insert-id.result; kids = 0 } ∷ [])) =
    subst (λ (ks : List Key). Changed c.add-call.new.self c.swap.new.arena ks c.swap.new.roots c.requires.there.here.rule (with_subterm kids_of (raw c.self.inside.arena c.self.inside.roots.items c.self.inside.ranks.items c.self.inside.calls.items c.self.inside.order.order c.self.inside.size c.args.self.now.rules c.self.invariant see c.requires.there.here.rule c.requires.there.here.place c.args.at c.requires.there.start c.requires.there.here.there) c.requires.there.here.place (record { key = c.add-call.result; label = Call c.insert-id.result; kids = 0 } ∷ []))) c.as_mut_slice.ensures.value
    (c.swap.ensures.changed c.requires.there.here.rule k.0 y (record { key = c.add-call.result; label = Call c.insert-id.result; kids = 0 } ∷ []) e refl c.add-call.ensures.term) in
    let out = c.swap.ensures.out c.requires.there.here.rule k.0 y e refl in
    let st : c.len-start.result - 1 ≡ c.requires.there.here.rule = omega (arith, c.len-start.ensures, c.self.inside.roots.ok, within c.self.inside.arena c.self.inside.roots.items c.self.inside.ranks.items c.self.inside.calls.items c.self.inside.order.order c.self.inside.size c.args.self.now.rules c.self.invariant see c.requires.there.here.rule c.requires.there.here.place c.args.at c.requires.there.start c.requires.there.here.there) in
    let lr : length c.swap.new.roots ≡ length c.self.inside.roots.items = c.swap.auto.roots ∙ ap length c.as_mut_slice.ensures.value in
    let wr = written-back c.self.inside.roots.len c.swap.new.roots c.self.inside.roots.items c.self.inside.roots.ok.0 lr in
    let i1 : c.insert.new.self.items ≡ insert (take c.self.inside.roots.len (c.swap.new.roots ++ drop (length c.swap.new.roots) c.self.inside.roots.items)) (c.len-start.result - 1) c.args.at = rw c.unwrap.ensures at c.insert.ensures.items in
    let i2 : c.insert-2.new.self.items ≡ insert c.self.inside.ranks.items (c.len-start.result - 1) 0 = rw c.unwrap-2.ensures at c.insert-2.ensures.items in
    let i3 : c.insert-3.new.self.items ≡ insert c.self.inside.calls.items (c.len-start.result - 1) 1 = rw c.unwrap-3.ensures at c.insert-3.ensures.items in
    let er : c.insert.new.self.items ≡ insert c.swap.new.roots c.requires.there.here.rule c.args.at = i1 ∙ ap (λ (ks : List Key). insert ks (c.len-start.result - 1) c.args.at) wr ∙ ap (λ (i : ℕ). insert c.swap.new.roots i c.args.at) st in
    let ek : c.insert-2.new.self.items ≡ insert c.self.inside.ranks.items c.requires.there.here.rule 0 = i2 ∙ ap (λ (i : ℕ). insert c.self.inside.ranks.items i 0) st in
    let ec : c.insert-3.new.self.items ≡ insert c.self.inside.calls.items c.requires.there.here.rule 1 = i3 ∙ ap (λ (i : ℕ). insert c.self.inside.calls.items i 1) st in
    let eo : c.insert-id.new.self.order ≡ insert c.self.inside.order.order c.requires.there.here.rule c.insert-id.result = c.insert-id.ensures.order ∙ ap (λ (i : ℕ). insert c.self.inside.order.order i c.insert-id.result) st in
    size-shared c.self.inside.arena c.self.inside.roots.items c.self.inside.ranks.items c.self.inside.calls.items c.self.inside.order.order c.self.inside.size c.args.self.now.rules c.self.invariant see c.requires.there.here.rule c.requires.there.here.place c.args.at c.requires.there.start c.requires.there.here.there c.add-call.new.self c.swap.new.arena c.swap.new.roots c.insert.new.self.items c.insert-2.new.self.items c.insert-3.new.self.items c.insert-id.new.self.order c.insert-id.result c.add-call.result c.insert-id.ensures.fresh (leaf-terms c.self.inside.arena c.add-call.new.self c.self.inside.roots.items c.args.at c.add-call.result c.self.invariant.rules.held c.add-call.ensures.vacant c.add-call.ensures.others) ch out c.swap.ensures.apart er ek ec eo
