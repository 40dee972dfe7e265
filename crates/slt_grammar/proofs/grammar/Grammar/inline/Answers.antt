use Rattle.std.proofs.Common.{◌≡◌, ◌∙◌, ◌+◌, ◌-◌, ◌<◌, ◌++◌, ◌∷◌, [], All, ℕ, List, Option, Some, IsSome, IsOk, slice_get, length, get_or, take, drop, ap, sym, refl, subst, arith}
use Rattle.std.proofs.lemmas.Option.{slice_get_read}
use Rattle.rule_arena.specs.Preorder.{AreTerms}
use Rattle.rule_arena.specs.Terms.{Node, key_in, kids_of}
use Rattle.rule_arena.specs.declared.key.Key.{Key}
use Rattle.rule_arena.specs.declared.label.Label.TheVariants.{Call}
use Rattle.slt_grammar.specs.Bodies.{calls_in, real_nodes}
use Rattle.slt_grammar.specs.Copying.{InlinedAt, IsShape, holes_in}
use Rattle.slt_grammar.specs.Grammars.{body_at, size, value_at}
use Rattle.slt_grammar.specs.Holding.{seen, terms_of, AreHeld, IsKept}
use Rattle.slt_grammar.specs.Keyed.{Keyed, KeyedRule, key_at, labels_of, rules_of}
use Rattle.slt_grammar.specs.KeyedEdits.{IsInlined}
use Rattle.slt_grammar.specs.Placing.{placed, AreKnown}
use Rattle.slt_grammar.proofs.Dropped.{real-few}
use Rattle.slt_grammar.proofs.Folded.{keyed-term, one-place}
use Rattle.slt_grammar.proofs.Held.{root-at, term-within}
use Rattle.slt_grammar.proofs.KeptInlines.{kept-same, raw, call-at, called-node, callee-within, root-stands, callee-shapes, callee-kids, callee-known, call-known, length-callee, call-counted, size-there, inlined-is, kept-inlined, root-inlined, size-inlined, values-inlined}
use Rattle.slt_grammar.proofs.KeptLemmas.{many-order, many-calls, calls-few, size-few, written-back, on-any-error}
use Rattle.slt_grammar.proofs.grammar.Grammar.inline.Goals as goal

pub called_rule-rule-requires-clause-there : goal.called_rule-rule-requires-clause-there
called_rule-rule-requires-clause-there c =
    let see : seen c.self.inside.order.order c.self.inside.ranks.items (terms_of c.self.inside.arena c.self.inside.roots.items) ≡ c.args.self.now.rules = ap (λ (k : Keyed). k.rules) c.self.view_is in
    call-at c.self.inside.arena c.self.inside.roots.items c.self.inside.ranks.items c.self.inside.calls.items c.self.inside.order.order c.self.inside.size c.args.self.now.rules c.self.invariant see c.args.call c.requires

pub called_rule-rule-requires-clause-known : goal.called_rule-rule-requires-clause-known
called_rule-rule-requires-clause-known c = λ x.
    let see : seen c.self.inside.order.order c.self.inside.ranks.items (terms_of c.self.inside.arena c.self.inside.roots.items) ≡ c.args.self.now.rules = ap (λ (k : Keyed). k.rules) c.self.view_is in
    subst (λ (ns : List Node). AreKnown c.self.inside.order.order ns) (one-place c.self.inside.arena c.args.call (call-at c.self.inside.arena c.self.inside.roots.items c.self.inside.ranks.items c.self.inside.calls.items c.self.inside.order.order c.self.inside.size c.args.self.now.rules c.self.invariant see c.args.call c.requires) x c.limit-limit.ensures.sound).1.0 (call-known c.self.inside.arena c.self.inside.roots.items c.self.inside.ranks.items c.self.inside.calls.items c.self.inside.order.order c.self.inside.size c.args.self.now.rules c.self.invariant see c.args.call c.requires)

pub index-root-requires : goal.index-root-requires
index-root-requires c =
    let see : seen c.self.inside.order.order c.self.inside.ranks.items (terms_of c.self.inside.arena c.self.inside.roots.items) ≡ c.args.self.now.rules = ap (λ (k : Keyed). k.rules) c.self.view_is in
    let n = called-node c.self.inside.arena c.self.inside.roots.items c.self.inside.ranks.items c.self.inside.calls.items c.self.inside.order.order c.self.inside.size c.args.self.now.rules c.self.invariant see c.args.call c.requires in
    let e : c.called_rule-rule.result ≡ c.requires.called = c.called_rule-rule.ensures (call-at c.self.inside.arena c.self.inside.roots.items c.self.inside.ranks.items c.self.inside.calls.items c.self.inside.order.order c.self.inside.size c.args.self.now.rules c.self.invariant see c.args.call c.requires) n.0 c.requires.called n.1 n.2 in
    omega (arith, e, callee-within c.self.inside.arena c.self.inside.roots.items c.self.inside.ranks.items c.self.inside.calls.items c.self.inside.order.order c.self.inside.size c.args.self.now.rules c.self.invariant see c.args.call c.requires, c.self.inside.roots.ok)

pub prepare-requires : goal.prepare-requires
prepare-requires c =
    let see : seen c.self.inside.order.order c.self.inside.ranks.items (terms_of c.self.inside.arena c.self.inside.roots.items) ≡ c.args.self.now.rules = ap (λ (k : Keyed). k.rules) c.self.view_is in
    let n = called-node c.self.inside.arena c.self.inside.roots.items c.self.inside.ranks.items c.self.inside.calls.items c.self.inside.order.order c.self.inside.size c.args.self.now.rules c.self.invariant see c.args.call c.requires in
    let e : c.called_rule-rule.result ≡ c.requires.called = c.called_rule-rule.ensures (call-at c.self.inside.arena c.self.inside.roots.items c.self.inside.ranks.items c.self.inside.calls.items c.self.inside.order.order c.self.inside.size c.args.self.now.rules c.self.invariant see c.args.call c.requires) n.0 c.requires.called n.1 n.2 in
    let g : slice_get c.self.inside.roots.items c.requires.called ≡ Some c.index-root.result.now =
    ap (λ (i : ℕ). slice_get c.self.inside.roots.items i) (sym e) ∙ slice_get_read c.self.inside.roots.items (length c.self.inside.roots.items) c.called_rule-rule.result c.index-root.result.now refl (omega (arith, e, callee-within c.self.inside.arena c.self.inside.roots.items c.self.inside.ranks.items c.self.inside.calls.items c.self.inside.order.order c.self.inside.size c.args.self.now.rules c.self.invariant see c.args.call c.requires)) c.index-root.ensures in
    let t = root-stands c.self.inside.arena c.self.inside.roots.items c.self.inside.ranks.items c.self.inside.calls.items c.self.inside.order.order c.self.inside.size c.args.self.now.rules c.self.invariant see c.args.call c.requires c.index-root.result.now g in
    subst (λ (o : Option (List Node)). IsSome o) (sym t) refl

pub invariant_of-self : goal.invariant_of-self
invariant_of-self c =
    (kept-same c.self.inside.arena c.prepare.new.arena c.self.inside.roots.items c.self.inside.ranks.items c.self.inside.calls.items c.self.inside.order.order c.self.inside.size c.prepare.ensures.terms c.self.invariant).0

again : (a b : List (List Node)) (o rs : List ℕ) (G : List KeyedRule) → b ≡ a → seen o rs a ≡ G → seen o rs b ≡ G
again a b o rs G e f = ap (λ (bs : List (List Node)). seen o rs bs) e ∙ f

pub returns-in_err-prepare-clause-refused : goal.returns-in_err-prepare-clause-refused
returns-in_err-prepare-clause-refused c =
    let see : seen c.self.inside.order.order c.self.inside.ranks.items (terms_of c.self.inside.arena c.self.inside.roots.items) ≡ c.args.self.now.rules = ap (λ (k : Keyed). k.rules) c.self.view_is in
    let KS = kept-same c.self.inside.arena c.prepare.new.arena c.self.inside.roots.items c.self.inside.ranks.items c.self.inside.calls.items c.self.inside.order.order c.self.inside.size c.prepare.ensures.terms c.self.invariant in
    let seeb : seen c.self.inside.order.order c.self.inside.ranks.items (terms_of c.prepare.new.arena c.self.inside.roots.items) ≡ c.args.self.now.rules = ap (λ (bs : List (List Node)). seen c.self.inside.order.order c.self.inside.ranks.items bs) KS.1 ∙ see in
    on-any-error _ c.from_residual.result seeb

pub returns-in_err-prepare-clause-values : goal.returns-in_err-prepare-clause-values
returns-in_err-prepare-clause-values c = λ r.
    let see : seen c.self.inside.order.order c.self.inside.ranks.items (terms_of c.self.inside.arena c.self.inside.roots.items) ≡ c.args.self.now.rules = ap (λ (k : Keyed). k.rules) c.self.view_is in
    let KS = kept-same c.self.inside.arena c.prepare.new.arena c.self.inside.roots.items c.self.inside.ranks.items c.self.inside.calls.items c.self.inside.order.order c.self.inside.size c.prepare.ensures.terms c.self.invariant in
    let seeb : seen c.self.inside.order.order c.self.inside.ranks.items (terms_of c.prepare.new.arena c.self.inside.roots.items) ≡ c.args.self.now.rules = ap (λ (bs : List (List Node)). seen c.self.inside.order.order c.self.inside.ranks.items bs) KS.1 ∙ see in
    ap (λ (G : List KeyedRule). value_at (rules_of G) r) seeb

pub returns-in_err-prepare-clause-succeeds : goal.returns-in_err-prepare-clause-succeeds
returns-in_err-prepare-clause-succeeds c = λ C h.
    let see : seen c.self.inside.order.order c.self.inside.ranks.items (terms_of c.self.inside.arena c.self.inside.roots.items) ≡ c.args.self.now.rules = ap (λ (k : Keyed). k.rules) c.self.view_is in
    let n = called-node c.self.inside.arena c.self.inside.roots.items c.self.inside.ranks.items c.self.inside.calls.items c.self.inside.order.order c.self.inside.size c.args.self.now.rules c.self.invariant see c.args.call C in
    let e : c.called_rule-rule.result ≡ C.called = c.called_rule-rule.ensures (call-at c.self.inside.arena c.self.inside.roots.items c.self.inside.ranks.items c.self.inside.calls.items c.self.inside.order.order c.self.inside.size c.args.self.now.rules c.self.invariant see c.args.call C) n.0 C.called n.1 n.2 in
    let g : slice_get c.self.inside.roots.items C.called ≡ Some c.index-root.result.now =
    ap (λ (i : ℕ). slice_get c.self.inside.roots.items i) (sym e) ∙ slice_get_read c.self.inside.roots.items (length c.self.inside.roots.items) c.called_rule-rule.result c.index-root.result.now refl (omega (arith, e, callee-within c.self.inside.arena c.self.inside.roots.items c.self.inside.ranks.items c.self.inside.calls.items c.self.inside.order.order c.self.inside.size c.args.self.now.rules c.self.invariant see c.args.call C)) c.index-root.ensures in
    let t = root-stands c.self.inside.arena c.self.inside.roots.items c.self.inside.ranks.items c.self.inside.calls.items c.self.inside.order.order c.self.inside.size c.args.self.now.rules c.self.invariant see c.args.call C c.index-root.result.now g in
    let m = ap (λ (k : Keyed). k.spare_nodes) c.self.view_is in
    let l = length-callee c.self.inside.arena c.self.inside.roots.items c.self.inside.ranks.items c.self.inside.calls.items c.self.inside.order.order c.self.inside.size c.args.self.now.rules c.self.invariant see c.args.call C in
    absurd (fails (c.prepare.ensures.succeeds (raw c.self.inside.arena c.self.inside.roots.items c.self.inside.ranks.items c.self.inside.calls.items c.self.inside.order.order c.self.inside.size c.args.self.now.rules c.self.invariant see c.args.call C C.called) t (omega (arith, l, h, m)) (omega (arith, l, h, m)) (omega (arith, l, h, m))))
  where
    fails : IsOk c.prepare.result → ⊥
    fails i = let w = c.in_err-prepare.was in let j = rw w at i in cc

pub count_copy-come-requires-clause-known : goal.count_copy-come-requires-clause-known
count_copy-come-requires-clause-known c =
    let see : seen c.self.inside.order.order c.self.inside.ranks.items (terms_of c.self.inside.arena c.self.inside.roots.items) ≡ c.args.self.now.rules = ap (λ (k : Keyed). k.rules) c.self.view_is in
    let n = called-node c.self.inside.arena c.self.inside.roots.items c.self.inside.ranks.items c.self.inside.calls.items c.self.inside.order.order c.self.inside.size c.args.self.now.rules c.self.invariant see c.args.call c.requires in
    let e : c.called_rule-rule.result ≡ c.requires.called = c.called_rule-rule.ensures (call-at c.self.inside.arena c.self.inside.roots.items c.self.inside.ranks.items c.self.inside.calls.items c.self.inside.order.order c.self.inside.size c.args.self.now.rules c.self.invariant see c.args.call c.requires) n.0 c.requires.called n.1 n.2 in
    let g : slice_get c.self.inside.roots.items c.requires.called ≡ Some c.index-root.result.now =
    ap (λ (i : ℕ). slice_get c.self.inside.roots.items i) (sym e) ∙ slice_get_read c.self.inside.roots.items (length c.self.inside.roots.items) c.called_rule-rule.result c.index-root.result.now refl (omega (arith, e, callee-within c.self.inside.arena c.self.inside.roots.items c.self.inside.ranks.items c.self.inside.calls.items c.self.inside.order.order c.self.inside.size c.args.self.now.rules c.self.invariant see c.args.call c.requires)) c.index-root.ensures in
    let t = root-stands c.self.inside.arena c.self.inside.roots.items c.self.inside.ranks.items c.self.inside.calls.items c.self.inside.order.order c.self.inside.size c.args.self.now.rules c.self.invariant see c.args.call c.requires c.index-root.result.now g in
    let s : c.prepare.new.shapes.items ≡ raw c.self.inside.arena c.self.inside.roots.items c.self.inside.ranks.items c.self.inside.calls.items c.self.inside.order.order c.self.inside.size c.args.self.now.rules c.self.invariant see c.args.call c.requires c.requires.called = c.in_ok-prepare.ensures.shapes (raw c.self.inside.arena c.self.inside.roots.items c.self.inside.ranks.items c.self.inside.calls.items c.self.inside.order.order c.self.inside.size c.args.self.now.rules c.self.invariant see c.args.call c.requires c.requires.called) t in
    subst (λ (ns : List Node). AreKnown c.self.inside.order.order ns) (sym (c.as_slice.ensures.value ∙ s)) (callee-known c.self.inside.arena c.self.inside.roots.items c.self.inside.ranks.items c.self.inside.calls.items c.self.inside.order.order c.self.inside.size c.args.self.now.rules c.self.invariant see c.args.call c.requires)

pub count_copy-come-requires-clause-len : goal.count_copy-come-requires-clause-len
count_copy-come-requires-clause-len c =
    let see : seen c.self.inside.order.order c.self.inside.ranks.items (terms_of c.self.inside.arena c.self.inside.roots.items) ≡ c.args.self.now.rules = ap (λ (k : Keyed). k.rules) c.self.view_is in
    many-order c.self.inside.arena c.self.inside.roots.items c.self.inside.ranks.items c.self.inside.calls.items c.self.inside.order.order c.self.inside.size c.args.self.now.rules c.self.invariant see

pub count_copy-come-requires-clause-there : goal.count_copy-come-requires-clause-there
count_copy-come-requires-clause-there c =
    let see : seen c.self.inside.order.order c.self.inside.ranks.items (terms_of c.self.inside.arena c.self.inside.roots.items) ≡ c.args.self.now.rules = ap (λ (k : Keyed). k.rules) c.self.view_is in
    let n = called-node c.self.inside.arena c.self.inside.roots.items c.self.inside.ranks.items c.self.inside.calls.items c.self.inside.order.order c.self.inside.size c.args.self.now.rules c.self.invariant see c.args.call c.requires in
    let e : c.called_rule-rule.result ≡ c.requires.called = c.called_rule-rule.ensures (call-at c.self.inside.arena c.self.inside.roots.items c.self.inside.ranks.items c.self.inside.calls.items c.self.inside.order.order c.self.inside.size c.args.self.now.rules c.self.invariant see c.args.call c.requires) n.0 c.requires.called n.1 n.2 in
    omega (arith, e, callee-within c.self.inside.arena c.self.inside.roots.items c.self.inside.ranks.items c.self.inside.calls.items c.self.inside.order.order c.self.inside.size c.args.self.now.rules c.self.invariant see c.args.call c.requires, many-calls c.self.inside.arena c.self.inside.roots.items c.self.inside.ranks.items c.self.inside.calls.items c.self.inside.order.order c.self.inside.size c.args.self.now.rules c.self.invariant see)

pub count_copy-come-requires-clause-counted : goal.count_copy-come-requires-clause-counted
count_copy-come-requires-clause-counted c = λ q h.
    let see : seen c.self.inside.order.order c.self.inside.ranks.items (terms_of c.self.inside.arena c.self.inside.roots.items) ≡ c.args.self.now.rules = ap (λ (k : Keyed). k.rules) c.self.view_is in
    let n = called-node c.self.inside.arena c.self.inside.roots.items c.self.inside.ranks.items c.self.inside.calls.items c.self.inside.order.order c.self.inside.size c.args.self.now.rules c.self.invariant see c.args.call c.requires in
    let e : c.called_rule-rule.result ≡ c.requires.called = c.called_rule-rule.ensures (call-at c.self.inside.arena c.self.inside.roots.items c.self.inside.ranks.items c.self.inside.calls.items c.self.inside.order.order c.self.inside.size c.args.self.now.rules c.self.invariant see c.args.call c.requires) n.0 c.requires.called n.1 n.2 in
    omega (arith, call-counted c.self.inside.arena c.self.inside.roots.items c.self.inside.ranks.items c.self.inside.calls.items c.self.inside.order.order c.self.inside.size c.args.self.now.rules c.self.invariant see c.args.call c.requires q h, ap (λ (r : ℕ). calls_in q (Call r ∷ [])) e)

pub count_copy-come-requires-clause-few : goal.count_copy-come-requires-clause-few
count_copy-come-requires-clause-few c = λ q h.
    let see : seen c.self.inside.order.order c.self.inside.ranks.items (terms_of c.self.inside.arena c.self.inside.roots.items) ≡ c.args.self.now.rules = ap (λ (k : Keyed). k.rules) c.self.view_is in
    let n = called-node c.self.inside.arena c.self.inside.roots.items c.self.inside.ranks.items c.self.inside.calls.items c.self.inside.order.order c.self.inside.size c.args.self.now.rules c.self.invariant see c.args.call c.requires in
    let e : c.called_rule-rule.result ≡ c.requires.called = c.called_rule-rule.ensures (call-at c.self.inside.arena c.self.inside.roots.items c.self.inside.ranks.items c.self.inside.calls.items c.self.inside.order.order c.self.inside.size c.args.self.now.rules c.self.invariant see c.args.call c.requires) n.0 c.requires.called n.1 n.2 in
    let g : slice_get c.self.inside.roots.items c.requires.called ≡ Some c.index-root.result.now =
    ap (λ (i : ℕ). slice_get c.self.inside.roots.items i) (sym e) ∙ slice_get_read c.self.inside.roots.items (length c.self.inside.roots.items) c.called_rule-rule.result c.index-root.result.now refl (omega (arith, e, callee-within c.self.inside.arena c.self.inside.roots.items c.self.inside.ranks.items c.self.inside.calls.items c.self.inside.order.order c.self.inside.size c.args.self.now.rules c.self.invariant see c.args.call c.requires)) c.index-root.ensures in
    let t = root-stands c.self.inside.arena c.self.inside.roots.items c.self.inside.ranks.items c.self.inside.calls.items c.self.inside.order.order c.self.inside.size c.args.self.now.rules c.self.invariant see c.args.call c.requires c.index-root.result.now g in
    let s : c.prepare.new.shapes.items ≡ raw c.self.inside.arena c.self.inside.roots.items c.self.inside.ranks.items c.self.inside.calls.items c.self.inside.order.order c.self.inside.size c.args.self.now.rules c.self.invariant see c.args.call c.requires c.requires.called = c.in_ok-prepare.ensures.shapes (raw c.self.inside.arena c.self.inside.roots.items c.self.inside.ranks.items c.self.inside.calls.items c.self.inside.order.order c.self.inside.size c.args.self.now.rules c.self.invariant see c.args.call c.requires c.requires.called) t in
    omega (arith, calls-few c.self.inside.arena c.self.inside.roots.items c.self.inside.ranks.items c.self.inside.calls.items c.self.inside.order.order c.self.inside.size c.args.self.now.rules c.self.invariant see c.limit-limit.ensures.sound c.limit-limit.ensures.few q h, ap length (c.as_slice.ensures.value ∙ s), term-within c.self.inside.arena c.index-root.result.now.number (raw c.self.inside.arena c.self.inside.roots.items c.self.inside.ranks.items c.self.inside.calls.items c.self.inside.order.order c.self.inside.size c.args.self.now.rules c.self.invariant see c.args.call c.requires c.requires.called) t, c.limit-limit.ensures.few)

pub overflow_add-self : goal.overflow_add-self
overflow_add-self c =
    let see : seen c.self.inside.order.order c.self.inside.ranks.items (terms_of c.self.inside.arena c.self.inside.roots.items) ≡ c.args.self.now.rules = ap (λ (k : Keyed). k.rules) c.self.view_is in
    let n = called-node c.self.inside.arena c.self.inside.roots.items c.self.inside.ranks.items c.self.inside.calls.items c.self.inside.order.order c.self.inside.size c.args.self.now.rules c.self.invariant see c.args.call c.requires in
    let e : c.called_rule-rule.result ≡ c.requires.called = c.called_rule-rule.ensures (call-at c.self.inside.arena c.self.inside.roots.items c.self.inside.ranks.items c.self.inside.calls.items c.self.inside.order.order c.self.inside.size c.args.self.now.rules c.self.invariant see c.args.call c.requires) n.0 c.requires.called n.1 n.2 in
    let g : slice_get c.self.inside.roots.items c.requires.called ≡ Some c.index-root.result.now =
    ap (λ (i : ℕ). slice_get c.self.inside.roots.items i) (sym e) ∙ slice_get_read c.self.inside.roots.items (length c.self.inside.roots.items) c.called_rule-rule.result c.index-root.result.now refl (omega (arith, e, callee-within c.self.inside.arena c.self.inside.roots.items c.self.inside.ranks.items c.self.inside.calls.items c.self.inside.order.order c.self.inside.size c.args.self.now.rules c.self.invariant see c.args.call c.requires)) c.index-root.ensures in
    let t = root-stands c.self.inside.arena c.self.inside.roots.items c.self.inside.ranks.items c.self.inside.calls.items c.self.inside.order.order c.self.inside.size c.args.self.now.rules c.self.invariant see c.args.call c.requires c.index-root.result.now g in
    let s : c.prepare.new.shapes.items ≡ raw c.self.inside.arena c.self.inside.roots.items c.self.inside.ranks.items c.self.inside.calls.items c.self.inside.order.order c.self.inside.size c.args.self.now.rules c.self.invariant see c.args.call c.requires c.requires.called = c.in_ok-prepare.ensures.shapes (raw c.self.inside.arena c.self.inside.roots.items c.self.inside.ranks.items c.self.inside.calls.items c.self.inside.order.order c.self.inside.size c.args.self.now.rules c.self.invariant see c.args.call c.requires c.requires.called) t in
    omega (arith, size-few c.self.inside.arena c.self.inside.roots.items c.self.inside.ranks.items c.self.inside.calls.items c.self.inside.order.order c.self.inside.size c.args.self.now.rules c.self.invariant see c.limit-limit.ensures.sound c.limit-limit.ensures.few, c.count_copy-come.ensures.real, real-few c.self.inside.order.order c.as_slice.result.now, ap length (c.as_slice.ensures.value ∙ s), term-within c.self.inside.arena c.index-root.result.now.number (raw c.self.inside.arena c.self.inside.roots.items c.self.inside.ranks.items c.self.inside.calls.items c.self.inside.order.order c.self.inside.size c.args.self.now.rules c.self.invariant see c.args.call c.requires c.requires.called) t, c.limit-limit.ensures.few)

pub overflow_sub-self : goal.overflow_sub-self
overflow_sub-self c =
    let see : seen c.self.inside.order.order c.self.inside.ranks.items (terms_of c.self.inside.arena c.self.inside.roots.items) ≡ c.args.self.now.rules = ap (λ (k : Keyed). k.rules) c.self.view_is in
    omega (arith, size-there c.self.inside.arena c.self.inside.roots.items c.self.inside.ranks.items c.self.inside.calls.items c.self.inside.order.order c.self.inside.size c.args.self.now.rules c.self.invariant see c.args.call c.requires)

pub inline_at-requires-clause-term : goal.inline_at-requires-clause-term
inline_at-requires-clause-term c =
    let see : seen c.self.inside.order.order c.self.inside.ranks.items (terms_of c.self.inside.arena c.self.inside.roots.items) ≡ c.args.self.now.rules = ap (λ (k : Keyed). k.rules) c.self.view_is in
    let n = called-node c.self.inside.arena c.self.inside.roots.items c.self.inside.ranks.items c.self.inside.calls.items c.self.inside.order.order c.self.inside.size c.args.self.now.rules c.self.invariant see c.args.call c.requires in
    let e : c.called_rule-rule.result ≡ c.requires.called = c.called_rule-rule.ensures (call-at c.self.inside.arena c.self.inside.roots.items c.self.inside.ranks.items c.self.inside.calls.items c.self.inside.order.order c.self.inside.size c.args.self.now.rules c.self.invariant see c.args.call c.requires) n.0 c.requires.called n.1 n.2 in
    let g : slice_get c.self.inside.roots.items c.requires.called ≡ Some c.index-root.result.now =
    ap (λ (i : ℕ). slice_get c.self.inside.roots.items i) (sym e) ∙ slice_get_read c.self.inside.roots.items (length c.self.inside.roots.items) c.called_rule-rule.result c.index-root.result.now refl (omega (arith, e, callee-within c.self.inside.arena c.self.inside.roots.items c.self.inside.ranks.items c.self.inside.calls.items c.self.inside.order.order c.self.inside.size c.args.self.now.rules c.self.invariant see c.args.call c.requires)) c.index-root.ensures in
    let t = root-stands c.self.inside.arena c.self.inside.roots.items c.self.inside.ranks.items c.self.inside.calls.items c.self.inside.order.order c.self.inside.size c.args.self.now.rules c.self.invariant see c.args.call c.requires c.index-root.result.now g in
    let s : c.prepare.new.shapes.items ≡ raw c.self.inside.arena c.self.inside.roots.items c.self.inside.ranks.items c.self.inside.calls.items c.self.inside.order.order c.self.inside.size c.args.self.now.rules c.self.invariant see c.args.call c.requires c.requires.called = c.in_ok-prepare.ensures.shapes (raw c.self.inside.arena c.self.inside.roots.items c.self.inside.ranks.items c.self.inside.calls.items c.self.inside.order.order c.self.inside.size c.args.self.now.rules c.self.invariant see c.args.call c.requires c.requires.called) t in
    let KS = kept-same c.self.inside.arena c.prepare.new.arena c.self.inside.roots.items c.self.inside.ranks.items c.self.inside.calls.items c.self.inside.order.order c.self.inside.size c.prepare.ensures.terms c.self.invariant in
    let seeb : seen c.self.inside.order.order c.self.inside.ranks.items (terms_of c.prepare.new.arena c.self.inside.roots.items) ≡ c.args.self.now.rules = ap (λ (bs : List (List Node)). seen c.self.inside.order.order c.self.inside.ranks.items bs) KS.1 ∙ see in
    let rq : raw c.self.inside.arena c.self.inside.roots.items c.self.inside.ranks.items c.self.inside.calls.items c.self.inside.order.order c.self.inside.size c.args.self.now.rules c.self.invariant see c.args.call c.requires c.requires.called ≡ raw c.prepare.new.arena c.self.inside.roots.items c.self.inside.ranks.items c.self.inside.calls.items c.self.inside.order.order c.self.inside.size c.args.self.now.rules KS.0 seeb c.args.call c.requires c.requires.called = ap (λ (bs : List (List Node)). get_or bs c.requires.called []) (sym KS.1) in
    let s2 : c.as_slice-2.result.now ≡ raw c.prepare.new.arena c.self.inside.roots.items c.self.inside.ranks.items c.self.inside.calls.items c.self.inside.order.order c.self.inside.size c.args.self.now.rules KS.0 seeb c.args.call c.requires c.requires.called = c.as_slice-2.ensures.value ∙ s ∙ rq in
    subst (λ (ns : List Node). AreTerms kids_of 1 ns) (sym (s2 ∙ sym rq)) (c.limit-limit.ensures.sound.term c.index-root.result.now.number (raw c.self.inside.arena c.self.inside.roots.items c.self.inside.ranks.items c.self.inside.calls.items c.self.inside.order.order c.self.inside.size c.args.self.now.rules c.self.invariant see c.args.call c.requires c.requires.called) t)

pub inline_at-requires-clause-shapes : goal.inline_at-requires-clause-shapes
inline_at-requires-clause-shapes c =
    let see : seen c.self.inside.order.order c.self.inside.ranks.items (terms_of c.self.inside.arena c.self.inside.roots.items) ≡ c.args.self.now.rules = ap (λ (k : Keyed). k.rules) c.self.view_is in
    let n = called-node c.self.inside.arena c.self.inside.roots.items c.self.inside.ranks.items c.self.inside.calls.items c.self.inside.order.order c.self.inside.size c.args.self.now.rules c.self.invariant see c.args.call c.requires in
    let e : c.called_rule-rule.result ≡ c.requires.called = c.called_rule-rule.ensures (call-at c.self.inside.arena c.self.inside.roots.items c.self.inside.ranks.items c.self.inside.calls.items c.self.inside.order.order c.self.inside.size c.args.self.now.rules c.self.invariant see c.args.call c.requires) n.0 c.requires.called n.1 n.2 in
    let g : slice_get c.self.inside.roots.items c.requires.called ≡ Some c.index-root.result.now =
    ap (λ (i : ℕ). slice_get c.self.inside.roots.items i) (sym e) ∙ slice_get_read c.self.inside.roots.items (length c.self.inside.roots.items) c.called_rule-rule.result c.index-root.result.now refl (omega (arith, e, callee-within c.self.inside.arena c.self.inside.roots.items c.self.inside.ranks.items c.self.inside.calls.items c.self.inside.order.order c.self.inside.size c.args.self.now.rules c.self.invariant see c.args.call c.requires)) c.index-root.ensures in
    let t = root-stands c.self.inside.arena c.self.inside.roots.items c.self.inside.ranks.items c.self.inside.calls.items c.self.inside.order.order c.self.inside.size c.args.self.now.rules c.self.invariant see c.args.call c.requires c.index-root.result.now g in
    let s : c.prepare.new.shapes.items ≡ raw c.self.inside.arena c.self.inside.roots.items c.self.inside.ranks.items c.self.inside.calls.items c.self.inside.order.order c.self.inside.size c.args.self.now.rules c.self.invariant see c.args.call c.requires c.requires.called = c.in_ok-prepare.ensures.shapes (raw c.self.inside.arena c.self.inside.roots.items c.self.inside.ranks.items c.self.inside.calls.items c.self.inside.order.order c.self.inside.size c.args.self.now.rules c.self.invariant see c.args.call c.requires c.requires.called) t in
    let KS = kept-same c.self.inside.arena c.prepare.new.arena c.self.inside.roots.items c.self.inside.ranks.items c.self.inside.calls.items c.self.inside.order.order c.self.inside.size c.prepare.ensures.terms c.self.invariant in
    let seeb : seen c.self.inside.order.order c.self.inside.ranks.items (terms_of c.prepare.new.arena c.self.inside.roots.items) ≡ c.args.self.now.rules = ap (λ (bs : List (List Node)). seen c.self.inside.order.order c.self.inside.ranks.items bs) KS.1 ∙ see in
    let rq : raw c.self.inside.arena c.self.inside.roots.items c.self.inside.ranks.items c.self.inside.calls.items c.self.inside.order.order c.self.inside.size c.args.self.now.rules c.self.invariant see c.args.call c.requires c.requires.called ≡ raw c.prepare.new.arena c.self.inside.roots.items c.self.inside.ranks.items c.self.inside.calls.items c.self.inside.order.order c.self.inside.size c.args.self.now.rules KS.0 seeb c.args.call c.requires c.requires.called = ap (λ (bs : List (List Node)). get_or bs c.requires.called []) (sym KS.1) in
    let s2 : c.as_slice-2.result.now ≡ raw c.prepare.new.arena c.self.inside.roots.items c.self.inside.ranks.items c.self.inside.calls.items c.self.inside.order.order c.self.inside.size c.args.self.now.rules KS.0 seeb c.args.call c.requires c.requires.called = c.as_slice-2.ensures.value ∙ s ∙ rq in
    subst (λ (ns : List Node). All IsShape ns) (sym s2) (callee-shapes c.prepare.new.arena c.self.inside.roots.items c.self.inside.ranks.items c.self.inside.calls.items c.self.inside.order.order c.self.inside.size c.args.self.now.rules KS.0 seeb c.args.call c.requires)

pub inline_at-requires-clause-once : goal.inline_at-requires-clause-once
inline_at-requires-clause-once c = λ i j x y.
    let see : seen c.self.inside.order.order c.self.inside.ranks.items (terms_of c.self.inside.arena c.self.inside.roots.items) ≡ c.args.self.now.rules = ap (λ (k : Keyed). k.rules) c.self.view_is in
    let n = called-node c.self.inside.arena c.self.inside.roots.items c.self.inside.ranks.items c.self.inside.calls.items c.self.inside.order.order c.self.inside.size c.args.self.now.rules c.self.invariant see c.args.call c.requires in
    let e : c.called_rule-rule.result ≡ c.requires.called = c.called_rule-rule.ensures (call-at c.self.inside.arena c.self.inside.roots.items c.self.inside.ranks.items c.self.inside.calls.items c.self.inside.order.order c.self.inside.size c.args.self.now.rules c.self.invariant see c.args.call c.requires) n.0 c.requires.called n.1 n.2 in
    let g : slice_get c.self.inside.roots.items c.requires.called ≡ Some c.index-root.result.now =
    ap (λ (i : ℕ). slice_get c.self.inside.roots.items i) (sym e) ∙ slice_get_read c.self.inside.roots.items (length c.self.inside.roots.items) c.called_rule-rule.result c.index-root.result.now refl (omega (arith, e, callee-within c.self.inside.arena c.self.inside.roots.items c.self.inside.ranks.items c.self.inside.calls.items c.self.inside.order.order c.self.inside.size c.args.self.now.rules c.self.invariant see c.args.call c.requires)) c.index-root.ensures in
    let t = root-stands c.self.inside.arena c.self.inside.roots.items c.self.inside.ranks.items c.self.inside.calls.items c.self.inside.order.order c.self.inside.size c.args.self.now.rules c.self.invariant see c.args.call c.requires c.index-root.result.now g in
    let s : c.prepare.new.shapes.items ≡ raw c.self.inside.arena c.self.inside.roots.items c.self.inside.ranks.items c.self.inside.calls.items c.self.inside.order.order c.self.inside.size c.args.self.now.rules c.self.invariant see c.args.call c.requires c.requires.called = c.in_ok-prepare.ensures.shapes (raw c.self.inside.arena c.self.inside.roots.items c.self.inside.ranks.items c.self.inside.calls.items c.self.inside.order.order c.self.inside.size c.args.self.now.rules c.self.invariant see c.args.call c.requires c.requires.called) t in
    let KS = kept-same c.self.inside.arena c.prepare.new.arena c.self.inside.roots.items c.self.inside.ranks.items c.self.inside.calls.items c.self.inside.order.order c.self.inside.size c.prepare.ensures.terms c.self.invariant in
    let seeb : seen c.self.inside.order.order c.self.inside.ranks.items (terms_of c.prepare.new.arena c.self.inside.roots.items) ≡ c.args.self.now.rules = ap (λ (bs : List (List Node)). seen c.self.inside.order.order c.self.inside.ranks.items bs) KS.1 ∙ see in
    let rq : raw c.self.inside.arena c.self.inside.roots.items c.self.inside.ranks.items c.self.inside.calls.items c.self.inside.order.order c.self.inside.size c.args.self.now.rules c.self.invariant see c.args.call c.requires c.requires.called ≡ raw c.prepare.new.arena c.self.inside.roots.items c.self.inside.ranks.items c.self.inside.calls.items c.self.inside.order.order c.self.inside.size c.args.self.now.rules KS.0 seeb c.args.call c.requires c.requires.called = ap (λ (bs : List (List Node)). get_or bs c.requires.called []) (sym KS.1) in
    let s2 : c.as_slice-2.result.now ≡ raw c.prepare.new.arena c.self.inside.roots.items c.self.inside.ranks.items c.self.inside.calls.items c.self.inside.order.order c.self.inside.size c.args.self.now.rules KS.0 seeb c.args.call c.requires c.requires.called = c.as_slice-2.ensures.value ∙ s ∙ rq in
    (keyed-term c.self.inside.arena c.index-root.result.now.number (raw c.self.inside.arena c.self.inside.roots.items c.self.inside.ranks.items c.self.inside.calls.items c.self.inside.order.order c.self.inside.size c.args.self.now.rules c.self.invariant see c.args.call c.requires c.requires.called) c.limit-limit.ensures.sound t).once i j c.args.follow
    (ap (λ (ns : List Node). key_in ns i) (sym (s2 ∙ sym rq)) ∙ x) (ap (λ (ns : List Node). key_in ns j) (sym (s2 ∙ sym rq)) ∙ y)

pub inline_at-requires-clause-held : goal.inline_at-requires-clause-held
inline_at-requires-clause-held c =
    let see : seen c.self.inside.order.order c.self.inside.ranks.items (terms_of c.self.inside.arena c.self.inside.roots.items) ≡ c.args.self.now.rules = ap (λ (k : Keyed). k.rules) c.self.view_is in
    let KS = kept-same c.self.inside.arena c.prepare.new.arena c.self.inside.roots.items c.self.inside.ranks.items c.self.inside.calls.items c.self.inside.order.order c.self.inside.size c.prepare.ensures.terms c.self.invariant in
    let seeb : seen c.self.inside.order.order c.self.inside.ranks.items (terms_of c.prepare.new.arena c.self.inside.roots.items) ≡ c.args.self.now.rules = ap (λ (bs : List (List Node)). seen c.self.inside.order.order c.self.inside.ranks.items bs) KS.1 ∙ see in
    subst (λ (ks : List Key). AreHeld c.prepare.new.arena ks) (sym c.as_mut_slice.ensures.value) KS.0.rules.held

pub inline_at-requires-clause-there : goal.inline_at-requires-clause-there
inline_at-requires-clause-there c =
    let see : seen c.self.inside.order.order c.self.inside.ranks.items (terms_of c.self.inside.arena c.self.inside.roots.items) ≡ c.args.self.now.rules = ap (λ (k : Keyed). k.rules) c.self.view_is in
    let n = called-node c.self.inside.arena c.self.inside.roots.items c.self.inside.ranks.items c.self.inside.calls.items c.self.inside.order.order c.self.inside.size c.args.self.now.rules c.self.invariant see c.args.call c.requires in
    let e : c.called_rule-rule.result ≡ c.requires.called = c.called_rule-rule.ensures (call-at c.self.inside.arena c.self.inside.roots.items c.self.inside.ranks.items c.self.inside.calls.items c.self.inside.order.order c.self.inside.size c.args.self.now.rules c.self.invariant see c.args.call c.requires) n.0 c.requires.called n.1 n.2 in
    let g : slice_get c.self.inside.roots.items c.requires.called ≡ Some c.index-root.result.now =
    ap (λ (i : ℕ). slice_get c.self.inside.roots.items i) (sym e) ∙ slice_get_read c.self.inside.roots.items (length c.self.inside.roots.items) c.called_rule-rule.result c.index-root.result.now refl (omega (arith, e, callee-within c.self.inside.arena c.self.inside.roots.items c.self.inside.ranks.items c.self.inside.calls.items c.self.inside.order.order c.self.inside.size c.args.self.now.rules c.self.invariant see c.args.call c.requires)) c.index-root.ensures in
    let t = root-stands c.self.inside.arena c.self.inside.roots.items c.self.inside.ranks.items c.self.inside.calls.items c.self.inside.order.order c.self.inside.size c.args.self.now.rules c.self.invariant see c.args.call c.requires c.index-root.result.now g in
    let s : c.prepare.new.shapes.items ≡ raw c.self.inside.arena c.self.inside.roots.items c.self.inside.ranks.items c.self.inside.calls.items c.self.inside.order.order c.self.inside.size c.args.self.now.rules c.self.invariant see c.args.call c.requires c.requires.called = c.in_ok-prepare.ensures.shapes (raw c.self.inside.arena c.self.inside.roots.items c.self.inside.ranks.items c.self.inside.calls.items c.self.inside.order.order c.self.inside.size c.args.self.now.rules c.self.invariant see c.args.call c.requires c.requires.called) t in
    let KS = kept-same c.self.inside.arena c.prepare.new.arena c.self.inside.roots.items c.self.inside.ranks.items c.self.inside.calls.items c.self.inside.order.order c.self.inside.size c.prepare.ensures.terms c.self.invariant in
    let seeb : seen c.self.inside.order.order c.self.inside.ranks.items (terms_of c.prepare.new.arena c.self.inside.roots.items) ≡ c.args.self.now.rules = ap (λ (bs : List (List Node)). seen c.self.inside.order.order c.self.inside.ranks.items bs) KS.1 ∙ see in
    let rq : raw c.self.inside.arena c.self.inside.roots.items c.self.inside.ranks.items c.self.inside.calls.items c.self.inside.order.order c.self.inside.size c.args.self.now.rules c.self.invariant see c.args.call c.requires c.requires.called ≡ raw c.prepare.new.arena c.self.inside.roots.items c.self.inside.ranks.items c.self.inside.calls.items c.self.inside.order.order c.self.inside.size c.args.self.now.rules KS.0 seeb c.args.call c.requires c.requires.called = ap (λ (bs : List (List Node)). get_or bs c.requires.called []) (sym KS.1) in
    let s2 : c.as_slice-2.result.now ≡ raw c.prepare.new.arena c.self.inside.roots.items c.self.inside.ranks.items c.self.inside.calls.items c.self.inside.order.order c.self.inside.size c.args.self.now.rules KS.0 seeb c.args.call c.requires c.requires.called = c.as_slice-2.ensures.value ∙ s ∙ rq in
    let k = root-at c.prepare.new.arena c.self.inside.roots.items c.self.inside.ranks.items c.self.inside.order.order c.args.self.now.rules KS.0.rules seeb c.requires.here.rule c.requires.here.place c.args.call c.requires.here.there in
    (c.requires.here.rule, k.0, call-at c.prepare.new.arena c.self.inside.roots.items c.self.inside.ranks.items c.self.inside.calls.items c.self.inside.order.order c.self.inside.size c.args.self.now.rules KS.0 seeb c.args.call c.requires, ap (λ (ks : List Key). slice_get ks c.requires.here.rule) c.as_mut_slice.ensures.value ∙ k.1, refl, callee-kids c.prepare.new.arena c.self.inside.roots.items c.self.inside.ranks.items c.self.inside.calls.items c.self.inside.order.order c.self.inside.size c.args.self.now.rules KS.0 seeb c.args.call c.requires ∙ ap holes_in (sym s2))

pub invariant_of-self-2 : goal.invariant_of-self-2
invariant_of-self-2 c =
    let see : seen c.self.inside.order.order c.self.inside.ranks.items (terms_of c.self.inside.arena c.self.inside.roots.items) ≡ c.args.self.now.rules = ap (λ (k : Keyed). k.rules) c.self.view_is in
    let n = called-node c.self.inside.arena c.self.inside.roots.items c.self.inside.ranks.items c.self.inside.calls.items c.self.inside.order.order c.self.inside.size c.args.self.now.rules c.self.invariant see c.args.call c.requires in
    let e : c.called_rule-rule.result ≡ c.requires.called = c.called_rule-rule.ensures (call-at c.self.inside.arena c.self.inside.roots.items c.self.inside.ranks.items c.self.inside.calls.items c.self.inside.order.order c.self.inside.size c.args.self.now.rules c.self.invariant see c.args.call c.requires) n.0 c.requires.called n.1 n.2 in
    let g : slice_get c.self.inside.roots.items c.requires.called ≡ Some c.index-root.result.now =
    ap (λ (i : ℕ). slice_get c.self.inside.roots.items i) (sym e) ∙ slice_get_read c.self.inside.roots.items (length c.self.inside.roots.items) c.called_rule-rule.result c.index-root.result.now refl (omega (arith, e, callee-within c.self.inside.arena c.self.inside.roots.items c.self.inside.ranks.items c.self.inside.calls.items c.self.inside.order.order c.self.inside.size c.args.self.now.rules c.self.invariant see c.args.call c.requires)) c.index-root.ensures in
    let t = root-stands c.self.inside.arena c.self.inside.roots.items c.self.inside.ranks.items c.self.inside.calls.items c.self.inside.order.order c.self.inside.size c.args.self.now.rules c.self.invariant see c.args.call c.requires c.index-root.result.now g in
    let s : c.prepare.new.shapes.items ≡ raw c.self.inside.arena c.self.inside.roots.items c.self.inside.ranks.items c.self.inside.calls.items c.self.inside.order.order c.self.inside.size c.args.self.now.rules c.self.invariant see c.args.call c.requires c.requires.called = c.in_ok-prepare.ensures.shapes (raw c.self.inside.arena c.self.inside.roots.items c.self.inside.ranks.items c.self.inside.calls.items c.self.inside.order.order c.self.inside.size c.args.self.now.rules c.self.invariant see c.args.call c.requires c.requires.called) t in
    let KS = kept-same c.self.inside.arena c.prepare.new.arena c.self.inside.roots.items c.self.inside.ranks.items c.self.inside.calls.items c.self.inside.order.order c.self.inside.size c.prepare.ensures.terms c.self.invariant in
    let seeb : seen c.self.inside.order.order c.self.inside.ranks.items (terms_of c.prepare.new.arena c.self.inside.roots.items) ≡ c.args.self.now.rules = ap (λ (bs : List (List Node)). seen c.self.inside.order.order c.self.inside.ranks.items bs) KS.1 ∙ see in
    let rq : raw c.self.inside.arena c.self.inside.roots.items c.self.inside.ranks.items c.self.inside.calls.items c.self.inside.order.order c.self.inside.size c.args.self.now.rules c.self.invariant see c.args.call c.requires c.requires.called ≡ raw c.prepare.new.arena c.self.inside.roots.items c.self.inside.ranks.items c.self.inside.calls.items c.self.inside.order.order c.self.inside.size c.args.self.now.rules KS.0 seeb c.args.call c.requires c.requires.called = ap (λ (bs : List (List Node)). get_or bs c.requires.called []) (sym KS.1) in
    let s2 : c.as_slice-2.result.now ≡ raw c.prepare.new.arena c.self.inside.roots.items c.self.inside.ranks.items c.self.inside.calls.items c.self.inside.order.order c.self.inside.size c.args.self.now.rules KS.0 seeb c.args.call c.requires c.requires.called = c.as_slice-2.ensures.value ∙ s ∙ rq in
    let lr : length c.inline_at.new.roots ≡ length c.self.inside.roots.items = c.inline_at.auto.roots ∙ ap length c.as_mut_slice.ensures.value in
    let wr : take c.self.inside.roots.len (c.inline_at.new.roots ++ drop (length c.inline_at.new.roots) c.self.inside.roots.items) ≡ c.inline_at.new.roots = written-back c.self.inside.roots.len c.inline_at.new.roots c.self.inside.roots.items c.self.inside.roots.ok.0 lr in
    let k = root-at c.prepare.new.arena c.self.inside.roots.items c.self.inside.ranks.items c.self.inside.order.order c.args.self.now.rules KS.0.rules seeb c.requires.here.rule c.requires.here.place c.args.call c.requires.here.there in
    let i0 = c.inline_at.ensures.inlined c.requires.here.rule k.0 (call-at c.prepare.new.arena c.self.inside.roots.items c.self.inside.ranks.items c.self.inside.calls.items c.self.inside.order.order c.self.inside.size c.args.self.now.rules KS.0 seeb c.args.call c.requires) (ap (λ (ks : List Key). slice_get ks c.requires.here.rule) c.as_mut_slice.ensures.value ∙ k.1) refl in
    let i1 = subst (λ (ks : List Key). InlinedAt c.prepare.new.arena c.inline_at.new.arena ks c.inline_at.new.roots c.requires.here.rule (raw c.prepare.new.arena c.self.inside.roots.items c.self.inside.ranks.items c.self.inside.calls.items c.self.inside.order.order c.self.inside.size c.args.self.now.rules KS.0 seeb c.args.call c.requires c.requires.here.rule) c.requires.here.place c.as_slice-2.result.now c.args.follow c.inline_at.result.followed c.inline_at.result.root) c.as_mut_slice.ensures.value i0 in
    let i2 = subst (λ (ns : List Node). InlinedAt c.prepare.new.arena c.inline_at.new.arena c.self.inside.roots.items c.inline_at.new.roots c.requires.here.rule (raw c.prepare.new.arena c.self.inside.roots.items c.self.inside.ranks.items c.self.inside.calls.items c.self.inside.order.order c.self.inside.size c.args.self.now.rules KS.0 seeb c.args.call c.requires c.requires.here.rule) c.requires.here.place ns c.args.follow c.inline_at.result.followed c.inline_at.result.root) s2 i1 in
    let s1 : c.as_slice.result.now ≡ raw c.prepare.new.arena c.self.inside.roots.items c.self.inside.ranks.items c.self.inside.calls.items c.self.inside.order.order c.self.inside.size c.args.self.now.rules KS.0 seeb c.args.call c.requires c.requires.called = c.as_slice.ensures.value ∙ s ∙ rq in
    let mo = subst (λ (r : ℕ). (q : ℕ) → q < length c.self.inside.calls.items → get_or c.count_copy-come.new.calls.items q 0 + calls_in q (Call r ∷ []) ≡ get_or c.self.inside.calls.items q 0 + calls_in q (labels_of (placed c.self.inside.order.order (raw c.prepare.new.arena c.self.inside.roots.items c.self.inside.ranks.items c.self.inside.calls.items c.self.inside.order.order c.self.inside.size c.args.self.now.rules KS.0 seeb c.args.call c.requires c.requires.called)))) e
    (subst (λ (ns : List Node). (q : ℕ) → q < length c.self.inside.calls.items → get_or c.count_copy-come.new.calls.items q 0 + calls_in q (Call c.called_rule-rule.result ∷ []) ≡ get_or c.self.inside.calls.items q 0 + calls_in q (labels_of (placed c.self.inside.order.order ns))) s1 c.count_copy-come.ensures.calls) in
    subst (λ (ks : List Key). IsKept c.inline_at.new.arena ks c.self.inside.ranks.items c.count_copy-come.new.calls.items c.self.inside.order.order (c.self.inside.size + c.count_copy-come.result - 1)) (sym wr)
    (kept-inlined c.prepare.new.arena c.self.inside.roots.items c.self.inside.ranks.items c.self.inside.calls.items c.self.inside.order.order c.self.inside.size c.args.self.now.rules KS.0 seeb c.args.call c.requires c.inline_at.new.arena c.inline_at.new.roots c.count_copy-come.new.calls.items c.count_copy-come.result c.args.follow c.inline_at.result.followed c.inline_at.result.root i2 c.count_copy-come.ensures.len mo
    (c.count_copy-come.ensures.real ∙ ap (λ (ns : List Node). real_nodes (labels_of (placed c.self.inside.order.order ns))) s1))

pub returns-clause-rules : goal.returns-clause-rules
returns-clause-rules c = λ C.
    let see : seen c.self.inside.order.order c.self.inside.ranks.items (terms_of c.self.inside.arena c.self.inside.roots.items) ≡ c.args.self.now.rules = ap (λ (k : Keyed). k.rules) c.self.view_is in
    let n = called-node c.self.inside.arena c.self.inside.roots.items c.self.inside.ranks.items c.self.inside.calls.items c.self.inside.order.order c.self.inside.size c.args.self.now.rules c.self.invariant see c.args.call C in
    let e : c.called_rule-rule.result ≡ C.called = c.called_rule-rule.ensures (call-at c.self.inside.arena c.self.inside.roots.items c.self.inside.ranks.items c.self.inside.calls.items c.self.inside.order.order c.self.inside.size c.args.self.now.rules c.self.invariant see c.args.call C) n.0 C.called n.1 n.2 in
    let g : slice_get c.self.inside.roots.items C.called ≡ Some c.index-root.result.now =
    ap (λ (i : ℕ). slice_get c.self.inside.roots.items i) (sym e) ∙ slice_get_read c.self.inside.roots.items (length c.self.inside.roots.items) c.called_rule-rule.result c.index-root.result.now refl (omega (arith, e, callee-within c.self.inside.arena c.self.inside.roots.items c.self.inside.ranks.items c.self.inside.calls.items c.self.inside.order.order c.self.inside.size c.args.self.now.rules c.self.invariant see c.args.call C)) c.index-root.ensures in
    let t = root-stands c.self.inside.arena c.self.inside.roots.items c.self.inside.ranks.items c.self.inside.calls.items c.self.inside.order.order c.self.inside.size c.args.self.now.rules c.self.invariant see c.args.call C c.index-root.result.now g in
    let s : c.prepare.new.shapes.items ≡ raw c.self.inside.arena c.self.inside.roots.items c.self.inside.ranks.items c.self.inside.calls.items c.self.inside.order.order c.self.inside.size c.args.self.now.rules c.self.invariant see c.args.call C C.called = c.in_ok-prepare.ensures.shapes (raw c.self.inside.arena c.self.inside.roots.items c.self.inside.ranks.items c.self.inside.calls.items c.self.inside.order.order c.self.inside.size c.args.self.now.rules c.self.invariant see c.args.call C C.called) t in
    let KS = kept-same c.self.inside.arena c.prepare.new.arena c.self.inside.roots.items c.self.inside.ranks.items c.self.inside.calls.items c.self.inside.order.order c.self.inside.size c.prepare.ensures.terms c.self.invariant in
    let seeb : seen c.self.inside.order.order c.self.inside.ranks.items (terms_of c.prepare.new.arena c.self.inside.roots.items) ≡ c.args.self.now.rules = ap (λ (bs : List (List Node)). seen c.self.inside.order.order c.self.inside.ranks.items bs) KS.1 ∙ see in
    let rq : raw c.self.inside.arena c.self.inside.roots.items c.self.inside.ranks.items c.self.inside.calls.items c.self.inside.order.order c.self.inside.size c.args.self.now.rules c.self.invariant see c.args.call C C.called ≡ raw c.prepare.new.arena c.self.inside.roots.items c.self.inside.ranks.items c.self.inside.calls.items c.self.inside.order.order c.self.inside.size c.args.self.now.rules KS.0 seeb c.args.call C C.called = ap (λ (bs : List (List Node)). get_or bs C.called []) (sym KS.1) in
    let s2 : c.as_slice-2.result.now ≡ raw c.prepare.new.arena c.self.inside.roots.items c.self.inside.ranks.items c.self.inside.calls.items c.self.inside.order.order c.self.inside.size c.args.self.now.rules KS.0 seeb c.args.call C C.called = c.as_slice-2.ensures.value ∙ s ∙ rq in
    let lr : length c.inline_at.new.roots ≡ length c.self.inside.roots.items = c.inline_at.auto.roots ∙ ap length c.as_mut_slice.ensures.value in
    let wr : take c.self.inside.roots.len (c.inline_at.new.roots ++ drop (length c.inline_at.new.roots) c.self.inside.roots.items) ≡ c.inline_at.new.roots = written-back c.self.inside.roots.len c.inline_at.new.roots c.self.inside.roots.items c.self.inside.roots.ok.0 lr in
    let k = root-at c.prepare.new.arena c.self.inside.roots.items c.self.inside.ranks.items c.self.inside.order.order c.args.self.now.rules KS.0.rules seeb C.here.rule C.here.place c.args.call C.here.there in
    let i0 = c.inline_at.ensures.inlined C.here.rule k.0 (call-at c.prepare.new.arena c.self.inside.roots.items c.self.inside.ranks.items c.self.inside.calls.items c.self.inside.order.order c.self.inside.size c.args.self.now.rules KS.0 seeb c.args.call C) (ap (λ (ks : List Key). slice_get ks C.here.rule) c.as_mut_slice.ensures.value ∙ k.1) refl in
    let i1 = subst (λ (ks : List Key). InlinedAt c.prepare.new.arena c.inline_at.new.arena ks c.inline_at.new.roots C.here.rule (raw c.prepare.new.arena c.self.inside.roots.items c.self.inside.ranks.items c.self.inside.calls.items c.self.inside.order.order c.self.inside.size c.args.self.now.rules KS.0 seeb c.args.call C C.here.rule) C.here.place c.as_slice-2.result.now c.args.follow c.inline_at.result.followed c.inline_at.result.root) c.as_mut_slice.ensures.value i0 in
    let i2 = subst (λ (ns : List Node). InlinedAt c.prepare.new.arena c.inline_at.new.arena c.self.inside.roots.items c.inline_at.new.roots C.here.rule (raw c.prepare.new.arena c.self.inside.roots.items c.self.inside.ranks.items c.self.inside.calls.items c.self.inside.order.order c.self.inside.size c.args.self.now.rules KS.0 seeb c.args.call C C.here.rule) C.here.place ns c.args.follow c.inline_at.result.followed c.inline_at.result.root) s2 i1 in
    subst (λ (ks : List Key). IsInlined c.args.self.now.rules (seen c.self.inside.order.order c.self.inside.ranks.items (terms_of c.inline_at.new.arena ks)) C.here.rule C.here.place C.called c.args.follow c.inline_at.result.followed) (sym wr)
    (inlined-is c.prepare.new.arena c.self.inside.roots.items c.self.inside.ranks.items c.self.inside.calls.items c.self.inside.order.order c.self.inside.size c.args.self.now.rules KS.0 seeb c.args.call C c.inline_at.new.arena c.inline_at.new.roots c.count_copy-come.new.calls.items c.count_copy-come.result c.args.follow c.inline_at.result.followed c.inline_at.result.root i2)

pub returns-clause-root : goal.returns-clause-root
returns-clause-root c = λ C.
    let see : seen c.self.inside.order.order c.self.inside.ranks.items (terms_of c.self.inside.arena c.self.inside.roots.items) ≡ c.args.self.now.rules = ap (λ (k : Keyed). k.rules) c.self.view_is in
    let n = called-node c.self.inside.arena c.self.inside.roots.items c.self.inside.ranks.items c.self.inside.calls.items c.self.inside.order.order c.self.inside.size c.args.self.now.rules c.self.invariant see c.args.call C in
    let e : c.called_rule-rule.result ≡ C.called = c.called_rule-rule.ensures (call-at c.self.inside.arena c.self.inside.roots.items c.self.inside.ranks.items c.self.inside.calls.items c.self.inside.order.order c.self.inside.size c.args.self.now.rules c.self.invariant see c.args.call C) n.0 C.called n.1 n.2 in
    let g : slice_get c.self.inside.roots.items C.called ≡ Some c.index-root.result.now =
    ap (λ (i : ℕ). slice_get c.self.inside.roots.items i) (sym e) ∙ slice_get_read c.self.inside.roots.items (length c.self.inside.roots.items) c.called_rule-rule.result c.index-root.result.now refl (omega (arith, e, callee-within c.self.inside.arena c.self.inside.roots.items c.self.inside.ranks.items c.self.inside.calls.items c.self.inside.order.order c.self.inside.size c.args.self.now.rules c.self.invariant see c.args.call C)) c.index-root.ensures in
    let t = root-stands c.self.inside.arena c.self.inside.roots.items c.self.inside.ranks.items c.self.inside.calls.items c.self.inside.order.order c.self.inside.size c.args.self.now.rules c.self.invariant see c.args.call C c.index-root.result.now g in
    let s : c.prepare.new.shapes.items ≡ raw c.self.inside.arena c.self.inside.roots.items c.self.inside.ranks.items c.self.inside.calls.items c.self.inside.order.order c.self.inside.size c.args.self.now.rules c.self.invariant see c.args.call C C.called = c.in_ok-prepare.ensures.shapes (raw c.self.inside.arena c.self.inside.roots.items c.self.inside.ranks.items c.self.inside.calls.items c.self.inside.order.order c.self.inside.size c.args.self.now.rules c.self.invariant see c.args.call C C.called) t in
    let KS = kept-same c.self.inside.arena c.prepare.new.arena c.self.inside.roots.items c.self.inside.ranks.items c.self.inside.calls.items c.self.inside.order.order c.self.inside.size c.prepare.ensures.terms c.self.invariant in
    let seeb : seen c.self.inside.order.order c.self.inside.ranks.items (terms_of c.prepare.new.arena c.self.inside.roots.items) ≡ c.args.self.now.rules = ap (λ (bs : List (List Node)). seen c.self.inside.order.order c.self.inside.ranks.items bs) KS.1 ∙ see in
    let rq : raw c.self.inside.arena c.self.inside.roots.items c.self.inside.ranks.items c.self.inside.calls.items c.self.inside.order.order c.self.inside.size c.args.self.now.rules c.self.invariant see c.args.call C C.called ≡ raw c.prepare.new.arena c.self.inside.roots.items c.self.inside.ranks.items c.self.inside.calls.items c.self.inside.order.order c.self.inside.size c.args.self.now.rules KS.0 seeb c.args.call C C.called = ap (λ (bs : List (List Node)). get_or bs C.called []) (sym KS.1) in
    let s2 : c.as_slice-2.result.now ≡ raw c.prepare.new.arena c.self.inside.roots.items c.self.inside.ranks.items c.self.inside.calls.items c.self.inside.order.order c.self.inside.size c.args.self.now.rules KS.0 seeb c.args.call C C.called = c.as_slice-2.ensures.value ∙ s ∙ rq in
    let lr : length c.inline_at.new.roots ≡ length c.self.inside.roots.items = c.inline_at.auto.roots ∙ ap length c.as_mut_slice.ensures.value in
    let wr : take c.self.inside.roots.len (c.inline_at.new.roots ++ drop (length c.inline_at.new.roots) c.self.inside.roots.items) ≡ c.inline_at.new.roots = written-back c.self.inside.roots.len c.inline_at.new.roots c.self.inside.roots.items c.self.inside.roots.ok.0 lr in
    let k = root-at c.prepare.new.arena c.self.inside.roots.items c.self.inside.ranks.items c.self.inside.order.order c.args.self.now.rules KS.0.rules seeb C.here.rule C.here.place c.args.call C.here.there in
    let i0 = c.inline_at.ensures.inlined C.here.rule k.0 (call-at c.prepare.new.arena c.self.inside.roots.items c.self.inside.ranks.items c.self.inside.calls.items c.self.inside.order.order c.self.inside.size c.args.self.now.rules KS.0 seeb c.args.call C) (ap (λ (ks : List Key). slice_get ks C.here.rule) c.as_mut_slice.ensures.value ∙ k.1) refl in
    let i1 = subst (λ (ks : List Key). InlinedAt c.prepare.new.arena c.inline_at.new.arena ks c.inline_at.new.roots C.here.rule (raw c.prepare.new.arena c.self.inside.roots.items c.self.inside.ranks.items c.self.inside.calls.items c.self.inside.order.order c.self.inside.size c.args.self.now.rules KS.0 seeb c.args.call C C.here.rule) C.here.place c.as_slice-2.result.now c.args.follow c.inline_at.result.followed c.inline_at.result.root) c.as_mut_slice.ensures.value i0 in
    let i2 = subst (λ (ns : List Node). InlinedAt c.prepare.new.arena c.inline_at.new.arena c.self.inside.roots.items c.inline_at.new.roots C.here.rule (raw c.prepare.new.arena c.self.inside.roots.items c.self.inside.ranks.items c.self.inside.calls.items c.self.inside.order.order c.self.inside.size c.args.self.now.rules KS.0 seeb c.args.call C C.here.rule) C.here.place ns c.args.follow c.inline_at.result.followed c.inline_at.result.root) s2 i1 in
    ap (λ (ks : List Key). key_at (seen c.self.inside.order.order c.self.inside.ranks.items (terms_of c.inline_at.new.arena ks)) C.here.rule C.here.place) wr
    ∙ root-inlined c.prepare.new.arena c.self.inside.roots.items c.self.inside.ranks.items c.self.inside.calls.items c.self.inside.order.order c.self.inside.size c.args.self.now.rules KS.0 seeb c.args.call C c.inline_at.new.arena c.inline_at.new.roots c.count_copy-come.new.calls.items c.count_copy-come.result c.args.follow c.inline_at.result.followed c.inline_at.result.root i2

pub returns-clause-values : goal.returns-clause-values
returns-clause-values c = λ r.
    let see : seen c.self.inside.order.order c.self.inside.ranks.items (terms_of c.self.inside.arena c.self.inside.roots.items) ≡ c.args.self.now.rules = ap (λ (k : Keyed). k.rules) c.self.view_is in
    let n = called-node c.self.inside.arena c.self.inside.roots.items c.self.inside.ranks.items c.self.inside.calls.items c.self.inside.order.order c.self.inside.size c.args.self.now.rules c.self.invariant see c.args.call c.requires in
    let e : c.called_rule-rule.result ≡ c.requires.called = c.called_rule-rule.ensures (call-at c.self.inside.arena c.self.inside.roots.items c.self.inside.ranks.items c.self.inside.calls.items c.self.inside.order.order c.self.inside.size c.args.self.now.rules c.self.invariant see c.args.call c.requires) n.0 c.requires.called n.1 n.2 in
    let g : slice_get c.self.inside.roots.items c.requires.called ≡ Some c.index-root.result.now =
    ap (λ (i : ℕ). slice_get c.self.inside.roots.items i) (sym e) ∙ slice_get_read c.self.inside.roots.items (length c.self.inside.roots.items) c.called_rule-rule.result c.index-root.result.now refl (omega (arith, e, callee-within c.self.inside.arena c.self.inside.roots.items c.self.inside.ranks.items c.self.inside.calls.items c.self.inside.order.order c.self.inside.size c.args.self.now.rules c.self.invariant see c.args.call c.requires)) c.index-root.ensures in
    let t = root-stands c.self.inside.arena c.self.inside.roots.items c.self.inside.ranks.items c.self.inside.calls.items c.self.inside.order.order c.self.inside.size c.args.self.now.rules c.self.invariant see c.args.call c.requires c.index-root.result.now g in
    let s : c.prepare.new.shapes.items ≡ raw c.self.inside.arena c.self.inside.roots.items c.self.inside.ranks.items c.self.inside.calls.items c.self.inside.order.order c.self.inside.size c.args.self.now.rules c.self.invariant see c.args.call c.requires c.requires.called = c.in_ok-prepare.ensures.shapes (raw c.self.inside.arena c.self.inside.roots.items c.self.inside.ranks.items c.self.inside.calls.items c.self.inside.order.order c.self.inside.size c.args.self.now.rules c.self.invariant see c.args.call c.requires c.requires.called) t in
    let KS = kept-same c.self.inside.arena c.prepare.new.arena c.self.inside.roots.items c.self.inside.ranks.items c.self.inside.calls.items c.self.inside.order.order c.self.inside.size c.prepare.ensures.terms c.self.invariant in
    let seeb : seen c.self.inside.order.order c.self.inside.ranks.items (terms_of c.prepare.new.arena c.self.inside.roots.items) ≡ c.args.self.now.rules = ap (λ (bs : List (List Node)). seen c.self.inside.order.order c.self.inside.ranks.items bs) KS.1 ∙ see in
    let rq : raw c.self.inside.arena c.self.inside.roots.items c.self.inside.ranks.items c.self.inside.calls.items c.self.inside.order.order c.self.inside.size c.args.self.now.rules c.self.invariant see c.args.call c.requires c.requires.called ≡ raw c.prepare.new.arena c.self.inside.roots.items c.self.inside.ranks.items c.self.inside.calls.items c.self.inside.order.order c.self.inside.size c.args.self.now.rules KS.0 seeb c.args.call c.requires c.requires.called = ap (λ (bs : List (List Node)). get_or bs c.requires.called []) (sym KS.1) in
    let s2 : c.as_slice-2.result.now ≡ raw c.prepare.new.arena c.self.inside.roots.items c.self.inside.ranks.items c.self.inside.calls.items c.self.inside.order.order c.self.inside.size c.args.self.now.rules KS.0 seeb c.args.call c.requires c.requires.called = c.as_slice-2.ensures.value ∙ s ∙ rq in
    let lr : length c.inline_at.new.roots ≡ length c.self.inside.roots.items = c.inline_at.auto.roots ∙ ap length c.as_mut_slice.ensures.value in
    let wr : take c.self.inside.roots.len (c.inline_at.new.roots ++ drop (length c.inline_at.new.roots) c.self.inside.roots.items) ≡ c.inline_at.new.roots = written-back c.self.inside.roots.len c.inline_at.new.roots c.self.inside.roots.items c.self.inside.roots.ok.0 lr in
    let k = root-at c.prepare.new.arena c.self.inside.roots.items c.self.inside.ranks.items c.self.inside.order.order c.args.self.now.rules KS.0.rules seeb c.requires.here.rule c.requires.here.place c.args.call c.requires.here.there in
    let i0 = c.inline_at.ensures.inlined c.requires.here.rule k.0 (call-at c.prepare.new.arena c.self.inside.roots.items c.self.inside.ranks.items c.self.inside.calls.items c.self.inside.order.order c.self.inside.size c.args.self.now.rules KS.0 seeb c.args.call c.requires) (ap (λ (ks : List Key). slice_get ks c.requires.here.rule) c.as_mut_slice.ensures.value ∙ k.1) refl in
    let i1 = subst (λ (ks : List Key). InlinedAt c.prepare.new.arena c.inline_at.new.arena ks c.inline_at.new.roots c.requires.here.rule (raw c.prepare.new.arena c.self.inside.roots.items c.self.inside.ranks.items c.self.inside.calls.items c.self.inside.order.order c.self.inside.size c.args.self.now.rules KS.0 seeb c.args.call c.requires c.requires.here.rule) c.requires.here.place c.as_slice-2.result.now c.args.follow c.inline_at.result.followed c.inline_at.result.root) c.as_mut_slice.ensures.value i0 in
    let i2 = subst (λ (ns : List Node). InlinedAt c.prepare.new.arena c.inline_at.new.arena c.self.inside.roots.items c.inline_at.new.roots c.requires.here.rule (raw c.prepare.new.arena c.self.inside.roots.items c.self.inside.ranks.items c.self.inside.calls.items c.self.inside.order.order c.self.inside.size c.args.self.now.rules KS.0 seeb c.args.call c.requires c.requires.here.rule) c.requires.here.place ns c.args.follow c.inline_at.result.followed c.inline_at.result.root) s2 i1 in
    ap (λ (ks : List Key). value_at (rules_of (seen c.self.inside.order.order c.self.inside.ranks.items (terms_of c.inline_at.new.arena ks))) r) wr
    ∙ values-inlined c.prepare.new.arena c.self.inside.roots.items c.self.inside.ranks.items c.self.inside.calls.items c.self.inside.order.order c.self.inside.size c.args.self.now.rules KS.0 seeb c.args.call c.requires c.inline_at.new.arena c.inline_at.new.roots c.count_copy-come.new.calls.items c.count_copy-come.result c.args.follow c.inline_at.result.followed c.inline_at.result.root i2 r

pub returns-clause-spare_nodes : goal.returns-clause-spare_nodes
returns-clause-spare_nodes c = λ C.
    let see : seen c.self.inside.order.order c.self.inside.ranks.items (terms_of c.self.inside.arena c.self.inside.roots.items) ≡ c.args.self.now.rules = ap (λ (k : Keyed). k.rules) c.self.view_is in
    let n = called-node c.self.inside.arena c.self.inside.roots.items c.self.inside.ranks.items c.self.inside.calls.items c.self.inside.order.order c.self.inside.size c.args.self.now.rules c.self.invariant see c.args.call C in
    let e : c.called_rule-rule.result ≡ C.called = c.called_rule-rule.ensures (call-at c.self.inside.arena c.self.inside.roots.items c.self.inside.ranks.items c.self.inside.calls.items c.self.inside.order.order c.self.inside.size c.args.self.now.rules c.self.invariant see c.args.call C) n.0 C.called n.1 n.2 in
    let g : slice_get c.self.inside.roots.items C.called ≡ Some c.index-root.result.now =
    ap (λ (i : ℕ). slice_get c.self.inside.roots.items i) (sym e) ∙ slice_get_read c.self.inside.roots.items (length c.self.inside.roots.items) c.called_rule-rule.result c.index-root.result.now refl (omega (arith, e, callee-within c.self.inside.arena c.self.inside.roots.items c.self.inside.ranks.items c.self.inside.calls.items c.self.inside.order.order c.self.inside.size c.args.self.now.rules c.self.invariant see c.args.call C)) c.index-root.ensures in
    let t = root-stands c.self.inside.arena c.self.inside.roots.items c.self.inside.ranks.items c.self.inside.calls.items c.self.inside.order.order c.self.inside.size c.args.self.now.rules c.self.invariant see c.args.call C c.index-root.result.now g in
    let s : c.prepare.new.shapes.items ≡ raw c.self.inside.arena c.self.inside.roots.items c.self.inside.ranks.items c.self.inside.calls.items c.self.inside.order.order c.self.inside.size c.args.self.now.rules c.self.invariant see c.args.call C C.called = c.in_ok-prepare.ensures.shapes (raw c.self.inside.arena c.self.inside.roots.items c.self.inside.ranks.items c.self.inside.calls.items c.self.inside.order.order c.self.inside.size c.args.self.now.rules c.self.invariant see c.args.call C C.called) t in
    let m = ap (λ (k : Keyed). k.spare_nodes) c.self.view_is in
    let l = length-callee c.self.inside.arena c.self.inside.roots.items c.self.inside.ranks.items c.self.inside.calls.items c.self.inside.order.order c.self.inside.size c.args.self.now.rules c.self.invariant see c.args.call C in
    let ls : length c.inline_at.new.stack ≡ length c.prepare.new.stack.items = c.inline_at.auto.stack ∙ ap length c.as_mut_slice-2.ensures.value in
    let ws = ap length (written-back c.prepare.new.stack.len c.inline_at.new.stack c.prepare.new.stack.items c.prepare.new.stack.ok.0 ls) in
    omega (arith, m, l, ws, ls, ap length (c.as_slice-2.ensures.value ∙ s), c.inline_at.ensures.spare, c.in_ok-prepare.ensures.kept, c.prepare.ensures.capacity, c.prepare.ensures.stack)

pub returns-clause-size : goal.returns-clause-size
returns-clause-size c = λ C.
    let see : seen c.self.inside.order.order c.self.inside.ranks.items (terms_of c.self.inside.arena c.self.inside.roots.items) ≡ c.args.self.now.rules = ap (λ (k : Keyed). k.rules) c.self.view_is in
    let n = called-node c.self.inside.arena c.self.inside.roots.items c.self.inside.ranks.items c.self.inside.calls.items c.self.inside.order.order c.self.inside.size c.args.self.now.rules c.self.invariant see c.args.call C in
    let e : c.called_rule-rule.result ≡ C.called = c.called_rule-rule.ensures (call-at c.self.inside.arena c.self.inside.roots.items c.self.inside.ranks.items c.self.inside.calls.items c.self.inside.order.order c.self.inside.size c.args.self.now.rules c.self.invariant see c.args.call C) n.0 C.called n.1 n.2 in
    let g : slice_get c.self.inside.roots.items C.called ≡ Some c.index-root.result.now =
    ap (λ (i : ℕ). slice_get c.self.inside.roots.items i) (sym e) ∙ slice_get_read c.self.inside.roots.items (length c.self.inside.roots.items) c.called_rule-rule.result c.index-root.result.now refl (omega (arith, e, callee-within c.self.inside.arena c.self.inside.roots.items c.self.inside.ranks.items c.self.inside.calls.items c.self.inside.order.order c.self.inside.size c.args.self.now.rules c.self.invariant see c.args.call C)) c.index-root.ensures in
    let t = root-stands c.self.inside.arena c.self.inside.roots.items c.self.inside.ranks.items c.self.inside.calls.items c.self.inside.order.order c.self.inside.size c.args.self.now.rules c.self.invariant see c.args.call C c.index-root.result.now g in
    let s : c.prepare.new.shapes.items ≡ raw c.self.inside.arena c.self.inside.roots.items c.self.inside.ranks.items c.self.inside.calls.items c.self.inside.order.order c.self.inside.size c.args.self.now.rules c.self.invariant see c.args.call C C.called = c.in_ok-prepare.ensures.shapes (raw c.self.inside.arena c.self.inside.roots.items c.self.inside.ranks.items c.self.inside.calls.items c.self.inside.order.order c.self.inside.size c.args.self.now.rules c.self.invariant see c.args.call C C.called) t in
    let KS = kept-same c.self.inside.arena c.prepare.new.arena c.self.inside.roots.items c.self.inside.ranks.items c.self.inside.calls.items c.self.inside.order.order c.self.inside.size c.prepare.ensures.terms c.self.invariant in
    let seeb : seen c.self.inside.order.order c.self.inside.ranks.items (terms_of c.prepare.new.arena c.self.inside.roots.items) ≡ c.args.self.now.rules = ap (λ (bs : List (List Node)). seen c.self.inside.order.order c.self.inside.ranks.items bs) KS.1 ∙ see in
    let rq : raw c.self.inside.arena c.self.inside.roots.items c.self.inside.ranks.items c.self.inside.calls.items c.self.inside.order.order c.self.inside.size c.args.self.now.rules c.self.invariant see c.args.call C C.called ≡ raw c.prepare.new.arena c.self.inside.roots.items c.self.inside.ranks.items c.self.inside.calls.items c.self.inside.order.order c.self.inside.size c.args.self.now.rules KS.0 seeb c.args.call C C.called = ap (λ (bs : List (List Node)). get_or bs C.called []) (sym KS.1) in
    let s2 : c.as_slice-2.result.now ≡ raw c.prepare.new.arena c.self.inside.roots.items c.self.inside.ranks.items c.self.inside.calls.items c.self.inside.order.order c.self.inside.size c.args.self.now.rules KS.0 seeb c.args.call C C.called = c.as_slice-2.ensures.value ∙ s ∙ rq in
    let lr : length c.inline_at.new.roots ≡ length c.self.inside.roots.items = c.inline_at.auto.roots ∙ ap length c.as_mut_slice.ensures.value in
    let wr : take c.self.inside.roots.len (c.inline_at.new.roots ++ drop (length c.inline_at.new.roots) c.self.inside.roots.items) ≡ c.inline_at.new.roots = written-back c.self.inside.roots.len c.inline_at.new.roots c.self.inside.roots.items c.self.inside.roots.ok.0 lr in
    let k = root-at c.prepare.new.arena c.self.inside.roots.items c.self.inside.ranks.items c.self.inside.order.order c.args.self.now.rules KS.0.rules seeb C.here.rule C.here.place c.args.call C.here.there in
    let i0 = c.inline_at.ensures.inlined C.here.rule k.0 (call-at c.prepare.new.arena c.self.inside.roots.items c.self.inside.ranks.items c.self.inside.calls.items c.self.inside.order.order c.self.inside.size c.args.self.now.rules KS.0 seeb c.args.call C) (ap (λ (ks : List Key). slice_get ks C.here.rule) c.as_mut_slice.ensures.value ∙ k.1) refl in
    let i1 = subst (λ (ks : List Key). InlinedAt c.prepare.new.arena c.inline_at.new.arena ks c.inline_at.new.roots C.here.rule (raw c.prepare.new.arena c.self.inside.roots.items c.self.inside.ranks.items c.self.inside.calls.items c.self.inside.order.order c.self.inside.size c.args.self.now.rules KS.0 seeb c.args.call C C.here.rule) C.here.place c.as_slice-2.result.now c.args.follow c.inline_at.result.followed c.inline_at.result.root) c.as_mut_slice.ensures.value i0 in
    let i2 = subst (λ (ns : List Node). InlinedAt c.prepare.new.arena c.inline_at.new.arena c.self.inside.roots.items c.inline_at.new.roots C.here.rule (raw c.prepare.new.arena c.self.inside.roots.items c.self.inside.ranks.items c.self.inside.calls.items c.self.inside.order.order c.self.inside.size c.args.self.now.rules KS.0 seeb c.args.call C C.here.rule) C.here.place ns c.args.follow c.inline_at.result.followed c.inline_at.result.root) s2 i1 in
    let s1 : c.as_slice.result.now ≡ raw c.prepare.new.arena c.self.inside.roots.items c.self.inside.ranks.items c.self.inside.calls.items c.self.inside.order.order c.self.inside.size c.args.self.now.rules KS.0 seeb c.args.call C C.called = c.as_slice.ensures.value ∙ s ∙ rq in
    let mo = subst (λ (r : ℕ). (q : ℕ) → q < length c.self.inside.calls.items → get_or c.count_copy-come.new.calls.items q 0 + calls_in q (Call r ∷ []) ≡ get_or c.self.inside.calls.items q 0 + calls_in q (labels_of (placed c.self.inside.order.order (raw c.prepare.new.arena c.self.inside.roots.items c.self.inside.ranks.items c.self.inside.calls.items c.self.inside.order.order c.self.inside.size c.args.self.now.rules KS.0 seeb c.args.call C C.called)))) e
    (subst (λ (ns : List Node). (q : ℕ) → q < length c.self.inside.calls.items → get_or c.count_copy-come.new.calls.items q 0 + calls_in q (Call c.called_rule-rule.result ∷ []) ≡ get_or c.self.inside.calls.items q 0 + calls_in q (labels_of (placed c.self.inside.order.order ns))) s1 c.count_copy-come.ensures.calls) in
    subst (λ (ks : List Key). size (rules_of (seen c.self.inside.order.order c.self.inside.ranks.items (terms_of c.inline_at.new.arena ks))) + 1 ≡ size (rules_of c.args.self.now.rules) + real_nodes (body_at (rules_of c.args.self.now.rules) C.called)) (sym wr)
    (size-inlined c.prepare.new.arena c.self.inside.roots.items c.self.inside.ranks.items c.self.inside.calls.items c.self.inside.order.order c.self.inside.size c.args.self.now.rules KS.0 seeb c.args.call C c.inline_at.new.arena c.inline_at.new.roots c.count_copy-come.new.calls.items c.count_copy-come.result c.args.follow c.inline_at.result.followed c.inline_at.result.root i2 c.count_copy-come.ensures.len mo
    (c.count_copy-come.ensures.real ∙ ap (λ (ns : List Node). real_nodes (labels_of (placed c.self.inside.order.order ns))) s1))

pub returns-in_err-prepare-clause-stays : goal.returns-in_err-prepare-clause-stays
returns-in_err-prepare-clause-stays c = λ C h.
    let see : seen c.self.inside.order.order c.self.inside.ranks.items (terms_of c.self.inside.arena c.self.inside.roots.items) ≡ c.args.self.now.rules = ap (λ (k : Keyed). k.rules) c.self.view_is in
    let n = called-node c.self.inside.arena c.self.inside.roots.items c.self.inside.ranks.items c.self.inside.calls.items c.self.inside.order.order c.self.inside.size c.args.self.now.rules c.self.invariant see c.args.call C in
    let e : c.called_rule-rule.result ≡ C.called = c.called_rule-rule.ensures (call-at c.self.inside.arena c.self.inside.roots.items c.self.inside.ranks.items c.self.inside.calls.items c.self.inside.order.order c.self.inside.size c.args.self.now.rules c.self.invariant see c.args.call C) n.0 C.called n.1 n.2 in
    let g : slice_get c.self.inside.roots.items C.called ≡ Some c.index-root.result.now =
    ap (λ (i : ℕ). slice_get c.self.inside.roots.items i) (sym e) ∙ slice_get_read c.self.inside.roots.items (length c.self.inside.roots.items) c.called_rule-rule.result c.index-root.result.now refl (omega (arith, e, callee-within c.self.inside.arena c.self.inside.roots.items c.self.inside.ranks.items c.self.inside.calls.items c.self.inside.order.order c.self.inside.size c.args.self.now.rules c.self.invariant see c.args.call C)) c.index-root.ensures in
    let t = root-stands c.self.inside.arena c.self.inside.roots.items c.self.inside.ranks.items c.self.inside.calls.items c.self.inside.order.order c.self.inside.size c.args.self.now.rules c.self.invariant see c.args.call C c.index-root.result.now g in
    let m = ap (λ (k : Keyed). k.spare_nodes) c.self.view_is in
    let v = ap (λ (k : Keyed). k.limit) c.self.view_is in
    let l = length-callee c.self.inside.arena c.self.inside.roots.items c.self.inside.ranks.items c.self.inside.calls.items c.self.inside.order.order c.self.inside.size c.args.self.now.rules c.self.invariant see c.args.call C in
    c.prepare.ensures.stays (raw c.self.inside.arena c.self.inside.roots.items c.self.inside.ranks.items c.self.inside.calls.items c.self.inside.order.order c.self.inside.size c.args.self.now.rules c.self.invariant see c.args.call C C.called) t (omega (arith, l, h, m)) ∙ v

pub returns-clause-stays : goal.returns-clause-stays
returns-clause-stays c = λ C h.
    let see : seen c.self.inside.order.order c.self.inside.ranks.items (terms_of c.self.inside.arena c.self.inside.roots.items) ≡ c.args.self.now.rules = ap (λ (k : Keyed). k.rules) c.self.view_is in
    let n = called-node c.self.inside.arena c.self.inside.roots.items c.self.inside.ranks.items c.self.inside.calls.items c.self.inside.order.order c.self.inside.size c.args.self.now.rules c.self.invariant see c.args.call C in
    let e : c.called_rule-rule.result ≡ C.called = c.called_rule-rule.ensures (call-at c.self.inside.arena c.self.inside.roots.items c.self.inside.ranks.items c.self.inside.calls.items c.self.inside.order.order c.self.inside.size c.args.self.now.rules c.self.invariant see c.args.call C) n.0 C.called n.1 n.2 in
    let g : slice_get c.self.inside.roots.items C.called ≡ Some c.index-root.result.now =
    ap (λ (i : ℕ). slice_get c.self.inside.roots.items i) (sym e) ∙ slice_get_read c.self.inside.roots.items (length c.self.inside.roots.items) c.called_rule-rule.result c.index-root.result.now refl (omega (arith, e, callee-within c.self.inside.arena c.self.inside.roots.items c.self.inside.ranks.items c.self.inside.calls.items c.self.inside.order.order c.self.inside.size c.args.self.now.rules c.self.invariant see c.args.call C)) c.index-root.ensures in
    let t = root-stands c.self.inside.arena c.self.inside.roots.items c.self.inside.ranks.items c.self.inside.calls.items c.self.inside.order.order c.self.inside.size c.args.self.now.rules c.self.invariant see c.args.call C c.index-root.result.now g in
    let m = ap (λ (k : Keyed). k.spare_nodes) c.self.view_is in
    let v = ap (λ (k : Keyed). k.limit) c.self.view_is in
    let l = length-callee c.self.inside.arena c.self.inside.roots.items c.self.inside.ranks.items c.self.inside.calls.items c.self.inside.order.order c.self.inside.size c.args.self.now.rules c.self.invariant see c.args.call C in
    c.inline_at.ensures.limit ∙ c.prepare.ensures.stays (raw c.self.inside.arena c.self.inside.roots.items c.self.inside.ranks.items c.self.inside.calls.items c.self.inside.order.order c.self.inside.size c.args.self.now.rules c.self.invariant see c.args.call C C.called) t (omega (arith, l, h, m)) ∙ v
