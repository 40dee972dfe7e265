use Rattle.std.proofs.Common.{◌≡◌, ◌∙◌, ◌+◌, ◌<◌, ◌++◌, ℕ, List, Option, Some, IsSome, length, get_or, take, drop, ap, sym, refl, subst, arith}
use Rattle.rule_arena.specs.Terms.{Node, term_at}
use Rattle.slt_grammar.specs.Bodies.{calls_in}
use Rattle.slt_grammar.specs.Holding.{seen, terms_of}
use Rattle.slt_grammar.specs.Keyed.{Keyed, labels_of}
use Rattle.slt_grammar.specs.Placing.{placed, AreKnown}
use Rattle.slt_grammar.proofs.KeptDrops.{within, raw, gone-known, gone-counted, gone-size, root-stands, seen-dropped, kept-dropped, size-dropped, value-kept, values-kept}
use Rattle.slt_grammar.proofs.KeptLemmas.{many-order, written-back}
use Rattle.slt_grammar.proofs.grammar.Grammar.drop_rule.Goals as goal

same : (o : Option (List Node)) (ns ms : List Node) → o ≡ Some ns → o ≡ Some ms → ns ≡ ms
same o ns ms e f = cc

pub remove-root-requires : goal.remove-root-requires
remove-root-requires c =
    let see : seen c.self.inside.order.order c.self.inside.ranks.items (terms_of c.self.inside.arena c.self.inside.roots.items) ≡ c.args.self.now.rules = ap (λ (k : Keyed). k.rules) c.self.view_is in
    omega (arith, within c.self.inside.arena c.self.inside.roots.items c.self.inside.ranks.items c.self.inside.calls.items c.self.inside.order.order c.self.inside.size c.args.self.now.rules c.self.invariant see c.args.rule c.requires.there c.requires.uncalled, c.self.inside.roots.ok)

pub drop_term-gone-requires-clause-root : goal.drop_term-gone-requires-clause-root
drop_term-gone-requires-clause-root c =
    let see : seen c.self.inside.order.order c.self.inside.ranks.items (terms_of c.self.inside.arena c.self.inside.roots.items) ≡ c.args.self.now.rules = ap (λ (k : Keyed). k.rules) c.self.view_is in
    let t = root-stands c.self.inside.arena c.self.inside.roots.items c.self.inside.ranks.items c.self.inside.calls.items c.self.inside.order.order c.self.inside.size c.args.self.now.rules c.self.invariant see c.args.rule c.requires.there c.requires.uncalled c.remove-root.result c.remove-root.ensures.value in
    subst (λ (o : Option (List Node)). IsSome o) (sym t) refl

pub drop_term-gone-requires-clause-known : goal.drop_term-gone-requires-clause-known
drop_term-gone-requires-clause-known c = λ ns e.
    let see : seen c.self.inside.order.order c.self.inside.ranks.items (terms_of c.self.inside.arena c.self.inside.roots.items) ≡ c.args.self.now.rules = ap (λ (k : Keyed). k.rules) c.self.view_is in
    let t = root-stands c.self.inside.arena c.self.inside.roots.items c.self.inside.ranks.items c.self.inside.calls.items c.self.inside.order.order c.self.inside.size c.args.self.now.rules c.self.invariant see c.args.rule c.requires.there c.requires.uncalled c.remove-root.result c.remove-root.ensures.value in
    subst (λ (zs : List Node). AreKnown c.self.inside.order.order zs) (same (term_at c.self.inside.arena c.remove-root.result.number) (raw c.self.inside.arena c.self.inside.roots.items c.self.inside.ranks.items c.self.inside.calls.items c.self.inside.order.order c.self.inside.size c.args.self.now.rules c.self.invariant see c.args.rule c.requires.there c.requires.uncalled) ns t e) (gone-known c.self.inside.arena c.self.inside.roots.items c.self.inside.ranks.items c.self.inside.calls.items c.self.inside.order.order c.self.inside.size c.args.self.now.rules c.self.invariant see c.args.rule c.requires.there c.requires.uncalled)

pub drop_term-gone-requires-clause-len : goal.drop_term-gone-requires-clause-len
drop_term-gone-requires-clause-len c =
    let see : seen c.self.inside.order.order c.self.inside.ranks.items (terms_of c.self.inside.arena c.self.inside.roots.items) ≡ c.args.self.now.rules = ap (λ (k : Keyed). k.rules) c.self.view_is in
    many-order c.self.inside.arena c.self.inside.roots.items c.self.inside.ranks.items c.self.inside.calls.items c.self.inside.order.order c.self.inside.size c.args.self.now.rules c.self.invariant see ∙ sym (ap length c.as_mut_slice.ensures.value)

pub drop_term-gone-requires-clause-counted : goal.drop_term-gone-requires-clause-counted
drop_term-gone-requires-clause-counted c = λ ns e q h.
    let see : seen c.self.inside.order.order c.self.inside.ranks.items (terms_of c.self.inside.arena c.self.inside.roots.items) ≡ c.args.self.now.rules = ap (λ (k : Keyed). k.rules) c.self.view_is in
    let t = root-stands c.self.inside.arena c.self.inside.roots.items c.self.inside.ranks.items c.self.inside.calls.items c.self.inside.order.order c.self.inside.size c.args.self.now.rules c.self.invariant see c.args.rule c.requires.there c.requires.uncalled c.remove-root.result c.remove-root.ensures.value in
    let v : c.as_mut_slice.result.now ≡ c.self.inside.calls.items = c.as_mut_slice.ensures.value in
    let z = same (term_at c.self.inside.arena c.remove-root.result.number) (raw c.self.inside.arena c.self.inside.roots.items c.self.inside.ranks.items c.self.inside.calls.items c.self.inside.order.order c.self.inside.size c.args.self.now.rules c.self.invariant see c.args.rule c.requires.there c.requires.uncalled) ns t e in
    omega (arith, gone-counted c.self.inside.arena c.self.inside.roots.items c.self.inside.ranks.items c.self.inside.calls.items c.self.inside.order.order c.self.inside.size c.args.self.now.rules c.self.invariant see c.args.rule c.requires.there c.requires.uncalled q (omega (arith, ap length v)), ap (λ (zs : List Node). calls_in q (labels_of (placed c.self.inside.order.order zs))) z, ap (λ (xs : List ℕ). get_or xs q 0) v)

pub overflow_sub-self : goal.overflow_sub-self
overflow_sub-self c =
    let see : seen c.self.inside.order.order c.self.inside.ranks.items (terms_of c.self.inside.arena c.self.inside.roots.items) ≡ c.args.self.now.rules = ap (λ (k : Keyed). k.rules) c.self.view_is in
    let t = root-stands c.self.inside.arena c.self.inside.roots.items c.self.inside.ranks.items c.self.inside.calls.items c.self.inside.order.order c.self.inside.size c.args.self.now.rules c.self.invariant see c.args.rule c.requires.there c.requires.uncalled c.remove-root.result c.remove-root.ensures.value in
    omega (arith, gone-size c.self.inside.arena c.self.inside.roots.items c.self.inside.ranks.items c.self.inside.calls.items c.self.inside.order.order c.self.inside.size c.args.self.now.rules c.self.invariant see c.args.rule c.requires.there c.requires.uncalled, c.drop_term-gone.ensures.real (raw c.self.inside.arena c.self.inside.roots.items c.self.inside.ranks.items c.self.inside.calls.items c.self.inside.order.order c.self.inside.size c.args.self.now.rules c.self.invariant see c.args.rule c.requires.there c.requires.uncalled) t)

pub cut-requires : goal.cut-requires
cut-requires c =
    let see : seen c.self.inside.order.order c.self.inside.ranks.items (terms_of c.self.inside.arena c.self.inside.roots.items) ≡ c.args.self.now.rules = ap (λ (k : Keyed). k.rules) c.self.view_is in
    let t = root-stands c.self.inside.arena c.self.inside.roots.items c.self.inside.ranks.items c.self.inside.calls.items c.self.inside.order.order c.self.inside.size c.args.self.now.rules c.self.invariant see c.args.rule c.requires.there c.requires.uncalled c.remove-root.result c.remove-root.ensures.value in
    subst (λ (o : Option (List Node)). IsSome o) (sym t) refl

pub invariant_of-self : goal.invariant_of-self
invariant_of-self c =
    let see : seen c.self.inside.order.order c.self.inside.ranks.items (terms_of c.self.inside.arena c.self.inside.roots.items) ≡ c.args.self.now.rules = ap (λ (k : Keyed). k.rules) c.self.view_is in
    let t = root-stands c.self.inside.arena c.self.inside.roots.items c.self.inside.ranks.items c.self.inside.calls.items c.self.inside.order.order c.self.inside.size c.args.self.now.rules c.self.invariant see c.args.rule c.requires.there c.requires.uncalled c.remove-root.result c.remove-root.ensures.value in
    let v : c.as_mut_slice.result.now ≡ c.self.inside.calls.items = c.as_mut_slice.ensures.value in
    let lc : length c.drop_term-gone.new.calls ≡ length c.self.inside.calls.items = c.drop_term-gone.auto.calls ∙ ap length v in
    let wc : (take c.self.inside.calls.len (c.drop_term-gone.new.calls ++ drop (length c.drop_term-gone.new.calls) c.self.inside.calls.items)) ≡ c.drop_term-gone.new.calls = written-back c.self.inside.calls.len c.drop_term-gone.new.calls c.self.inside.calls.items c.self.inside.calls.ok.0 lc in
    let moved = subst (λ (xs : List ℕ). (q : ℕ) → q < length xs → get_or c.drop_term-gone.new.calls q 0 + calls_in q (labels_of (placed c.self.inside.order.order (raw c.self.inside.arena c.self.inside.roots.items c.self.inside.ranks.items c.self.inside.calls.items c.self.inside.order.order c.self.inside.size c.args.self.now.rules c.self.invariant see c.args.rule c.requires.there c.requires.uncalled))) ≡ get_or xs q 0) v (c.drop_term-gone.ensures.calls (raw c.self.inside.arena c.self.inside.roots.items c.self.inside.ranks.items c.self.inside.calls.items c.self.inside.order.order c.self.inside.size c.args.self.now.rules c.self.invariant see c.args.rule c.requires.there c.requires.uncalled) t) in
    let again = subst (λ (ys : List ℕ). (q : ℕ) → q < length c.self.inside.calls.items → get_or ys q 0 + calls_in q (labels_of (placed c.self.inside.order.order (raw c.self.inside.arena c.self.inside.roots.items c.self.inside.ranks.items c.self.inside.calls.items c.self.inside.order.order c.self.inside.size c.args.self.now.rules c.self.invariant see c.args.rule c.requires.there c.requires.uncalled))) ≡ get_or c.self.inside.calls.items q 0) (sym wc) moved in
    kept-dropped c.self.inside.arena c.self.inside.roots.items c.self.inside.ranks.items c.self.inside.calls.items c.self.inside.order.order c.self.inside.size c.args.self.now.rules c.self.invariant see c.args.rule c.requires.there c.requires.uncalled c.remove-root.result c.remove-root.ensures.value c.cut.new.self c.remove-root.new.self.items c.remove.new.self.items (take c.self.inside.calls.len (c.drop_term-gone.new.calls ++ drop (length c.drop_term-gone.new.calls) c.self.inside.calls.items)) c.remove-2.new.self.items c.remove-3.new.self.order c.drop_term-gone.result c.cut.ensures.others c.remove-root.ensures.items c.remove.ensures.items c.remove-2.ensures.items c.remove-3.ensures.order (ap length wc ∙ lc) again (c.drop_term-gone.ensures.real (raw c.self.inside.arena c.self.inside.roots.items c.self.inside.ranks.items c.self.inside.calls.items c.self.inside.order.order c.self.inside.size c.args.self.now.rules c.self.invariant see c.args.rule c.requires.there c.requires.uncalled) t)

pub returns-clause-rules : goal.returns-clause-rules
returns-clause-rules c =
    let see : seen c.self.inside.order.order c.self.inside.ranks.items (terms_of c.self.inside.arena c.self.inside.roots.items) ≡ c.args.self.now.rules = ap (λ (k : Keyed). k.rules) c.self.view_is in
    seen-dropped c.self.inside.arena c.self.inside.roots.items c.self.inside.ranks.items c.self.inside.calls.items c.self.inside.order.order c.self.inside.size c.args.self.now.rules c.self.invariant see c.args.rule c.requires.there c.requires.uncalled c.remove-root.result c.remove-root.ensures.value c.cut.new.self c.remove-root.new.self.items c.remove.new.self.items (take c.self.inside.calls.len (c.drop_term-gone.new.calls ++ drop (length c.drop_term-gone.new.calls) c.self.inside.calls.items)) c.remove-2.new.self.items c.remove-3.new.self.order c.drop_term-gone.result c.cut.ensures.others c.remove-root.ensures.items c.remove.ensures.items c.remove-2.ensures.items c.remove-3.ensures.order

pub returns-clause-value : goal.returns-clause-value
returns-clause-value c =
    let see : seen c.self.inside.order.order c.self.inside.ranks.items (terms_of c.self.inside.arena c.self.inside.roots.items) ≡ c.args.self.now.rules = ap (λ (k : Keyed). k.rules) c.self.view_is in
    value-kept c.self.inside.arena c.self.inside.roots.items c.self.inside.ranks.items c.self.inside.calls.items c.self.inside.order.order c.self.inside.size c.args.self.now.rules c.self.invariant see c.args.rule c.requires.there c.requires.uncalled c.remove-root.result c.remove-root.ensures.value c.cut.new.self c.remove-root.new.self.items c.remove.new.self.items (take c.self.inside.calls.len (c.drop_term-gone.new.calls ++ drop (length c.drop_term-gone.new.calls) c.self.inside.calls.items)) c.remove-2.new.self.items c.remove-3.new.self.order c.drop_term-gone.result c.cut.ensures.others c.remove-root.ensures.items c.remove.ensures.items c.remove-2.ensures.items c.remove-3.ensures.order

pub returns-clause-values : goal.returns-clause-values
returns-clause-values c =
    let see : seen c.self.inside.order.order c.self.inside.ranks.items (terms_of c.self.inside.arena c.self.inside.roots.items) ≡ c.args.self.now.rules = ap (λ (k : Keyed). k.rules) c.self.view_is in
    values-kept c.self.inside.arena c.self.inside.roots.items c.self.inside.ranks.items c.self.inside.calls.items c.self.inside.order.order c.self.inside.size c.args.self.now.rules c.self.invariant see c.args.rule c.requires.there c.requires.uncalled c.remove-root.result c.remove-root.ensures.value c.cut.new.self c.remove-root.new.self.items c.remove.new.self.items (take c.self.inside.calls.len (c.drop_term-gone.new.calls ++ drop (length c.drop_term-gone.new.calls) c.self.inside.calls.items)) c.remove-2.new.self.items c.remove-3.new.self.order c.drop_term-gone.result c.cut.ensures.others c.remove-root.ensures.items c.remove.ensures.items c.remove-2.ensures.items c.remove-3.ensures.order

pub returns-clause-size : goal.returns-clause-size
returns-clause-size c =
    let see : seen c.self.inside.order.order c.self.inside.ranks.items (terms_of c.self.inside.arena c.self.inside.roots.items) ≡ c.args.self.now.rules = ap (λ (k : Keyed). k.rules) c.self.view_is in
    let t = root-stands c.self.inside.arena c.self.inside.roots.items c.self.inside.ranks.items c.self.inside.calls.items c.self.inside.order.order c.self.inside.size c.args.self.now.rules c.self.invariant see c.args.rule c.requires.there c.requires.uncalled c.remove-root.result c.remove-root.ensures.value in
    let v : c.as_mut_slice.result.now ≡ c.self.inside.calls.items = c.as_mut_slice.ensures.value in
    let lc : length c.drop_term-gone.new.calls ≡ length c.self.inside.calls.items = c.drop_term-gone.auto.calls ∙ ap length v in
    let wc : (take c.self.inside.calls.len (c.drop_term-gone.new.calls ++ drop (length c.drop_term-gone.new.calls) c.self.inside.calls.items)) ≡ c.drop_term-gone.new.calls = written-back c.self.inside.calls.len c.drop_term-gone.new.calls c.self.inside.calls.items c.self.inside.calls.ok.0 lc in
    let moved = subst (λ (xs : List ℕ). (q : ℕ) → q < length xs → get_or c.drop_term-gone.new.calls q 0 + calls_in q (labels_of (placed c.self.inside.order.order (raw c.self.inside.arena c.self.inside.roots.items c.self.inside.ranks.items c.self.inside.calls.items c.self.inside.order.order c.self.inside.size c.args.self.now.rules c.self.invariant see c.args.rule c.requires.there c.requires.uncalled))) ≡ get_or xs q 0) v (c.drop_term-gone.ensures.calls (raw c.self.inside.arena c.self.inside.roots.items c.self.inside.ranks.items c.self.inside.calls.items c.self.inside.order.order c.self.inside.size c.args.self.now.rules c.self.invariant see c.args.rule c.requires.there c.requires.uncalled) t) in
    let again = subst (λ (ys : List ℕ). (q : ℕ) → q < length c.self.inside.calls.items → get_or ys q 0 + calls_in q (labels_of (placed c.self.inside.order.order (raw c.self.inside.arena c.self.inside.roots.items c.self.inside.ranks.items c.self.inside.calls.items c.self.inside.order.order c.self.inside.size c.args.self.now.rules c.self.invariant see c.args.rule c.requires.there c.requires.uncalled))) ≡ get_or c.self.inside.calls.items q 0) (sym wc) moved in
    size-dropped c.self.inside.arena c.self.inside.roots.items c.self.inside.ranks.items c.self.inside.calls.items c.self.inside.order.order c.self.inside.size c.args.self.now.rules c.self.invariant see c.args.rule c.requires.there c.requires.uncalled c.remove-root.result c.remove-root.ensures.value c.cut.new.self c.remove-root.new.self.items c.remove.new.self.items (take c.self.inside.calls.len (c.drop_term-gone.new.calls ++ drop (length c.drop_term-gone.new.calls) c.self.inside.calls.items)) c.remove-2.new.self.items c.remove-3.new.self.order c.drop_term-gone.result c.cut.ensures.others c.remove-root.ensures.items c.remove.ensures.items c.remove-2.ensures.items c.remove-3.ensures.order (ap length wc ∙ lc) again (c.drop_term-gone.ensures.real (raw c.self.inside.arena c.self.inside.roots.items c.self.inside.ranks.items c.self.inside.calls.items c.self.inside.order.order c.self.inside.size c.args.self.now.rules c.self.invariant see c.args.rule c.requires.there c.requires.uncalled) t)
