use Rattle.std.proofs.Common.{◌≡◌, ◌∙◌, ◌+◌, ◌<◌, ◌∷◌, [], ℕ, suc, List, Some, slice_get, length, get_or, ap, sym, subst, arith}
use Rattle.rule_arena.specs.Terms.{Node, At, term_at, key_in}
use Rattle.rule_arena.specs.declared.key.Key.{Key}
use Rattle.rule_arena.specs.declared.label.Label.{Label}
use Rattle.rule_arena.specs.declared.label.Label.TheVariants.{Call}
use Rattle.slt_grammar.specs.Bodies.{calls_in, CallsBelow}
use Rattle.slt_grammar.specs.Holding.{seen, terms_of, IsFoldable}
use Rattle.slt_grammar.specs.Keyed.{Keyed}
use Rattle.slt_grammar.specs.KeyedEdits.{folded_nodes}
use Rattle.slt_grammar.specs.Placing.{placed_label, AreKnown}
use Rattle.slt_grammar.proofs.Folded.{one-place}
use Rattle.slt_grammar.proofs.KeptFolds.{foldable, parent, upper-read, lower-read, low-at, high-at, gone, upper-node, gone-there, gone-counted, called-there, size-there, seen-folded, kept-folded, values-folded, size-folded}
use Rattle.slt_grammar.proofs.KeptLemmas.{many-order, calls-few, known-body}
use Rattle.slt_grammar.proofs.grammar.Grammar.fold.Goals as goal

pub parent_of-upper-requires : goal.parent_of-upper-requires
parent_of-upper-requires c =
    let see : seen c.self.inside.order.order c.self.inside.ranks.items (terms_of c.self.inside.arena c.self.inside.roots.items) ≡ c.args.self.now.rules = ap (λ (k : Keyed). k.rules) c.self.view_is in
    (low-at c.self.inside.arena c.self.inside.roots.items c.self.inside.ranks.items c.self.inside.calls.items c.self.inside.order.order c.self.inside.size c.args.self.now.rules c.self.invariant see c.limit-limit.ensures.sound c.limit-limit.ensures.few c.args.lower c.args.rule c.requires, c.requires.upper, suc c.requires.child, parent c.self.inside.arena c.self.inside.roots.items c.self.inside.ranks.items c.self.inside.calls.items c.self.inside.order.order c.self.inside.size c.args.self.now.rules c.self.invariant see c.limit-limit.ensures.sound c.limit-limit.ensures.few c.args.lower c.args.rule c.requires)

pub label_in-requires-clause-there : goal.label_in-requires-clause-there
label_in-requires-clause-there c =
    let see : seen c.self.inside.order.order c.self.inside.ranks.items (terms_of c.self.inside.arena c.self.inside.roots.items) ≡ c.args.self.now.rules = ap (λ (k : Keyed). k.rules) c.self.view_is in
    let e = c.parent_of-upper.ensures (low-at c.self.inside.arena c.self.inside.roots.items c.self.inside.ranks.items c.self.inside.calls.items c.self.inside.order.order c.self.inside.size c.args.self.now.rules c.self.invariant see c.limit-limit.ensures.sound c.limit-limit.ensures.few c.args.lower c.args.rule c.requires) c.requires.upper (suc c.requires.child) (parent c.self.inside.arena c.self.inside.roots.items c.self.inside.ranks.items c.self.inside.calls.items c.self.inside.order.order c.self.inside.size c.args.self.now.rules c.self.invariant see c.limit-limit.ensures.sound c.limit-limit.ensures.few c.args.lower c.args.rule c.requires) in
    subst (λ (k : Key). At c.self.inside.arena k) (sym e) (high-at c.self.inside.arena c.self.inside.roots.items c.self.inside.ranks.items c.self.inside.calls.items c.self.inside.order.order c.self.inside.size c.args.self.now.rules c.self.invariant see c.limit-limit.ensures.sound c.limit-limit.ensures.few c.args.lower c.args.rule c.requires)

known-here : (order : List ℕ) (ns ms : List Node) → ns ≡ ms → AreKnown order ns → AreKnown order ms
known-here order ns ms e k = subst (λ (zs : List Node). AreKnown order zs) e k

pub label_in-requires-clause-known : goal.label_in-requires-clause-known
label_in-requires-clause-known c = λ x.
    let see : seen c.self.inside.order.order c.self.inside.ranks.items (terms_of c.self.inside.arena c.self.inside.roots.items) ≡ c.args.self.now.rules = ap (λ (k : Keyed). k.rules) c.self.view_is in
    let e = c.parent_of-upper.ensures (low-at c.self.inside.arena c.self.inside.roots.items c.self.inside.ranks.items c.self.inside.calls.items c.self.inside.order.order c.self.inside.size c.args.self.now.rules c.self.invariant see c.limit-limit.ensures.sound c.limit-limit.ensures.few c.args.lower c.args.rule c.requires) c.requires.upper (suc c.requires.child) (parent c.self.inside.arena c.self.inside.roots.items c.self.inside.ranks.items c.self.inside.calls.items c.self.inside.order.order c.self.inside.size c.args.self.now.rules c.self.invariant see c.limit-limit.ensures.sound c.limit-limit.ensures.few c.args.lower c.args.rule c.requires) in
    let y : At c.self.inside.arena c.parent_of-upper.result = subst (λ (k : Key). At c.self.inside.arena k) (sym e) (high-at c.self.inside.arena c.self.inside.roots.items c.self.inside.ranks.items c.self.inside.calls.items c.self.inside.order.order c.self.inside.size c.args.self.now.rules c.self.invariant see c.limit-limit.ensures.sound c.limit-limit.ensures.few c.args.lower c.args.rule c.requires) in
    at x (high-at c.self.inside.arena c.self.inside.roots.items c.self.inside.ranks.items c.self.inside.calls.items c.self.inside.order.order c.self.inside.size c.args.self.now.rules c.self.invariant see c.limit-limit.ensures.sound c.limit-limit.ensures.few c.args.lower c.args.rule c.requires) e (known-body c.self.inside.arena c.self.inside.roots.items c.self.inside.ranks.items c.self.inside.calls.items c.self.inside.order.order c.self.inside.size c.args.self.now.rules c.self.invariant see c.requires.here.rule)
  where
    at : (x : At c.self.inside.arena c.parent_of-upper.result) (z : At c.self.inside.arena c.requires.upper) → c.parent_of-upper.result ≡ c.requires.upper → AreKnown c.self.inside.order.order z.nodes → AreKnown c.self.inside.order.order x.nodes
    at x z e k =
        let w : At c.self.inside.arena c.requires.upper = record { root = x.root; nodes = x.nodes; place = x.place; stands = x.stands; there = x.there ∙ ap (λ (u : Key). Some u) e } in
        known-here c.self.inside.order.order z.nodes x.nodes (one-place c.self.inside.arena c.requires.upper z w c.limit-limit.ensures.sound).1.0 k

pub label_in-requires-2-clause-there : goal.label_in-requires-2-clause-there
label_in-requires-2-clause-there c =
    let see : seen c.self.inside.order.order c.self.inside.ranks.items (terms_of c.self.inside.arena c.self.inside.roots.items) ≡ c.args.self.now.rules = ap (λ (k : Keyed). k.rules) c.self.view_is in
    low-at c.self.inside.arena c.self.inside.roots.items c.self.inside.ranks.items c.self.inside.calls.items c.self.inside.order.order c.self.inside.size c.args.self.now.rules c.self.invariant see c.limit-limit.ensures.sound c.limit-limit.ensures.few c.args.lower c.args.rule c.requires

pub label_in-requires-2-clause-known : goal.label_in-requires-2-clause-known
label_in-requires-2-clause-known c = λ x.
    let see : seen c.self.inside.order.order c.self.inside.ranks.items (terms_of c.self.inside.arena c.self.inside.roots.items) ≡ c.args.self.now.rules = ap (λ (k : Keyed). k.rules) c.self.view_is in
    known-here c.self.inside.order.order (low-at c.self.inside.arena c.self.inside.roots.items c.self.inside.ranks.items c.self.inside.calls.items c.self.inside.order.order c.self.inside.size c.args.self.now.rules c.self.invariant see c.limit-limit.ensures.sound c.limit-limit.ensures.few c.args.lower c.args.rule c.requires).nodes x.nodes (one-place c.self.inside.arena c.args.lower (low-at c.self.inside.arena c.self.inside.roots.items c.self.inside.ranks.items c.self.inside.calls.items c.self.inside.order.order c.self.inside.size c.args.self.now.rules c.self.invariant see c.limit-limit.ensures.sound c.limit-limit.ensures.few c.args.lower c.args.rule c.requires) x c.limit-limit.ensures.sound).1.0 (known-body c.self.inside.arena c.self.inside.roots.items c.self.inside.ranks.items c.self.inside.calls.items c.self.inside.order.order c.self.inside.size c.args.self.now.rules c.self.invariant see c.requires.here.rule)

pub recount-requires-clause-gone_there : goal.recount-requires-clause-gone_there
recount-requires-clause-gone_there c =
    let see : seen c.self.inside.order.order c.self.inside.ranks.items (terms_of c.self.inside.arena c.self.inside.roots.items) ≡ c.args.self.now.rules = ap (λ (k : Keyed). k.rules) c.self.view_is in
    let e = c.parent_of-upper.ensures (low-at c.self.inside.arena c.self.inside.roots.items c.self.inside.ranks.items c.self.inside.calls.items c.self.inside.order.order c.self.inside.size c.args.self.now.rules c.self.invariant see c.limit-limit.ensures.sound c.limit-limit.ensures.few c.args.lower c.args.rule c.requires) c.requires.upper (suc c.requires.child) (parent c.self.inside.arena c.self.inside.roots.items c.self.inside.ranks.items c.self.inside.calls.items c.self.inside.order.order c.self.inside.size c.args.self.now.rules c.self.invariant see c.limit-limit.ensures.sound c.limit-limit.ensures.few c.args.lower c.args.rule c.requires) in
    let u = upper-read c.self.inside.arena c.self.inside.roots.items c.self.inside.ranks.items c.self.inside.calls.items c.self.inside.order.order c.self.inside.size c.args.self.now.rules c.self.invariant see c.limit-limit.ensures.sound c.limit-limit.ensures.few c.args.lower c.args.rule c.requires c.label_in.result (subst (λ (k : Key). (x : At c.self.inside.arena k) (n : Node) → slice_get x.nodes x.place ≡ Some n → c.label_in.result ≡ placed_label c.self.inside.order.order n.label) e c.label_in.ensures) in
    let v = lower-read c.self.inside.arena c.self.inside.roots.items c.self.inside.ranks.items c.self.inside.calls.items c.self.inside.order.order c.self.inside.size c.args.self.now.rules c.self.invariant see c.limit-limit.ensures.sound c.limit-limit.ensures.few c.args.lower c.args.rule c.requires c.label_in-2.result c.label_in-2.ensures in
    let g : (c.label_in.result ∷ c.label_in-2.result ∷ []) ≡ gone c.self.inside.arena c.self.inside.roots.items c.self.inside.ranks.items c.self.inside.calls.items c.self.inside.order.order c.self.inside.size c.args.self.now.rules c.self.invariant see c.limit-limit.ensures.sound c.limit-limit.ensures.few c.args.lower c.args.rule c.requires = ap (λ (x : Label). x ∷ c.label_in-2.result ∷ []) u ∙ ap (λ (x : Label). (upper-node c.self.inside.arena c.self.inside.roots.items c.self.inside.ranks.items c.self.inside.calls.items c.self.inside.order.order c.self.inside.size c.args.self.now.rules c.self.invariant see c.limit-limit.ensures.sound c.limit-limit.ensures.few c.args.lower c.args.rule c.requires).label ∷ x ∷ []) v in
    subst (λ (ls : List Label). CallsBelow (length c.self.inside.calls.items) ls) (sym g) (gone-there c.self.inside.arena c.self.inside.roots.items c.self.inside.ranks.items c.self.inside.calls.items c.self.inside.order.order c.self.inside.size c.args.self.now.rules c.self.invariant see c.limit-limit.ensures.sound c.limit-limit.ensures.few c.args.lower c.args.rule c.requires)

pub recount-requires-clause-come_there : goal.recount-requires-clause-come_there
recount-requires-clause-come_there c =
    let see : seen c.self.inside.order.order c.self.inside.ranks.items (terms_of c.self.inside.arena c.self.inside.roots.items) ≡ c.args.self.now.rules = ap (λ (k : Keyed). k.rules) c.self.view_is in
    (called-there c.self.inside.arena c.self.inside.roots.items c.self.inside.ranks.items c.self.inside.calls.items c.self.inside.order.order c.self.inside.size c.args.self.now.rules c.self.invariant see c.limit-limit.ensures.sound c.limit-limit.ensures.few c.args.lower c.args.rule c.requires, tt)

pub recount-requires-clause-counted : goal.recount-requires-clause-counted
recount-requires-clause-counted c = λ q h.
    let see : seen c.self.inside.order.order c.self.inside.ranks.items (terms_of c.self.inside.arena c.self.inside.roots.items) ≡ c.args.self.now.rules = ap (λ (k : Keyed). k.rules) c.self.view_is in
    let e = c.parent_of-upper.ensures (low-at c.self.inside.arena c.self.inside.roots.items c.self.inside.ranks.items c.self.inside.calls.items c.self.inside.order.order c.self.inside.size c.args.self.now.rules c.self.invariant see c.limit-limit.ensures.sound c.limit-limit.ensures.few c.args.lower c.args.rule c.requires) c.requires.upper (suc c.requires.child) (parent c.self.inside.arena c.self.inside.roots.items c.self.inside.ranks.items c.self.inside.calls.items c.self.inside.order.order c.self.inside.size c.args.self.now.rules c.self.invariant see c.limit-limit.ensures.sound c.limit-limit.ensures.few c.args.lower c.args.rule c.requires) in
    let u = upper-read c.self.inside.arena c.self.inside.roots.items c.self.inside.ranks.items c.self.inside.calls.items c.self.inside.order.order c.self.inside.size c.args.self.now.rules c.self.invariant see c.limit-limit.ensures.sound c.limit-limit.ensures.few c.args.lower c.args.rule c.requires c.label_in.result (subst (λ (k : Key). (x : At c.self.inside.arena k) (n : Node) → slice_get x.nodes x.place ≡ Some n → c.label_in.result ≡ placed_label c.self.inside.order.order n.label) e c.label_in.ensures) in
    let v = lower-read c.self.inside.arena c.self.inside.roots.items c.self.inside.ranks.items c.self.inside.calls.items c.self.inside.order.order c.self.inside.size c.args.self.now.rules c.self.invariant see c.limit-limit.ensures.sound c.limit-limit.ensures.few c.args.lower c.args.rule c.requires c.label_in-2.result c.label_in-2.ensures in
    let g : (c.label_in.result ∷ c.label_in-2.result ∷ []) ≡ gone c.self.inside.arena c.self.inside.roots.items c.self.inside.ranks.items c.self.inside.calls.items c.self.inside.order.order c.self.inside.size c.args.self.now.rules c.self.invariant see c.limit-limit.ensures.sound c.limit-limit.ensures.few c.args.lower c.args.rule c.requires = ap (λ (x : Label). x ∷ c.label_in-2.result ∷ []) u ∙ ap (λ (x : Label). (upper-node c.self.inside.arena c.self.inside.roots.items c.self.inside.ranks.items c.self.inside.calls.items c.self.inside.order.order c.self.inside.size c.args.self.now.rules c.self.invariant see c.limit-limit.ensures.sound c.limit-limit.ensures.few c.args.lower c.args.rule c.requires).label ∷ x ∷ []) v in
    omega (arith, ap (λ (ls : List Label). calls_in q ls) g, gone-counted c.self.inside.arena c.self.inside.roots.items c.self.inside.ranks.items c.self.inside.calls.items c.self.inside.order.order c.self.inside.size c.args.self.now.rules c.self.invariant see c.limit-limit.ensures.sound c.limit-limit.ensures.few c.args.lower c.args.rule c.requires q h)

pub recount-requires-clause-few : goal.recount-requires-clause-few
recount-requires-clause-few c = λ q h.
    let see : seen c.self.inside.order.order c.self.inside.ranks.items (terms_of c.self.inside.arena c.self.inside.roots.items) ≡ c.args.self.now.rules = ap (λ (k : Keyed). k.rules) c.self.view_is in
    omega (arith, calls-few c.self.inside.arena c.self.inside.roots.items c.self.inside.ranks.items c.self.inside.calls.items c.self.inside.order.order c.self.inside.size c.args.self.now.rules c.self.invariant see c.limit-limit.ensures.sound c.limit-limit.ensures.few q h)

pub overflow_sub-self : goal.overflow_sub-self
overflow_sub-self c =
    let see : seen c.self.inside.order.order c.self.inside.ranks.items (terms_of c.self.inside.arena c.self.inside.roots.items) ≡ c.args.self.now.rules = ap (λ (k : Keyed). k.rules) c.self.view_is in
    omega (arith, size-there c.self.inside.arena c.self.inside.roots.items c.self.inside.ranks.items c.self.inside.calls.items c.self.inside.order.order c.self.inside.size c.args.self.now.rules c.self.invariant see c.limit-limit.ensures.sound c.limit-limit.ensures.few c.args.lower c.args.rule c.requires)

pub id-id-requires : goal.id-id-requires
id-id-requires c =
    let see : seen c.self.inside.order.order c.self.inside.ranks.items (terms_of c.self.inside.arena c.self.inside.roots.items) ≡ c.args.self.now.rules = ap (λ (k : Keyed). k.rules) c.self.view_is in
    omega (arith, called-there c.self.inside.arena c.self.inside.roots.items c.self.inside.ranks.items c.self.inside.calls.items c.self.inside.order.order c.self.inside.size c.args.self.now.rules c.self.invariant see c.limit-limit.ensures.sound c.limit-limit.ensures.few c.args.lower c.args.rule c.requires, many-order c.self.inside.arena c.self.inside.roots.items c.self.inside.ranks.items c.self.inside.calls.items c.self.inside.order.order c.self.inside.size c.args.self.now.rules c.self.invariant see)

pub fold_at-requires : goal.fold_at-requires
fold_at-requires c =
    let see : seen c.self.inside.order.order c.self.inside.ranks.items (terms_of c.self.inside.arena c.self.inside.roots.items) ≡ c.args.self.now.rules = ap (λ (k : Keyed). k.rules) c.self.view_is in
    let e = c.parent_of-upper.ensures (low-at c.self.inside.arena c.self.inside.roots.items c.self.inside.ranks.items c.self.inside.calls.items c.self.inside.order.order c.self.inside.size c.args.self.now.rules c.self.invariant see c.limit-limit.ensures.sound c.limit-limit.ensures.few c.args.lower c.args.rule c.requires) c.requires.upper (suc c.requires.child) (parent c.self.inside.arena c.self.inside.roots.items c.self.inside.ranks.items c.self.inside.calls.items c.self.inside.order.order c.self.inside.size c.args.self.now.rules c.self.invariant see c.limit-limit.ensures.sound c.limit-limit.ensures.few c.args.lower c.args.rule c.requires) in
    subst (λ (k : Key). IsFoldable c.self.inside.arena k c.args.lower) (sym e) (foldable c.self.inside.arena c.self.inside.roots.items c.self.inside.ranks.items c.self.inside.calls.items c.self.inside.order.order c.self.inside.size c.args.self.now.rules c.self.invariant see c.limit-limit.ensures.sound c.limit-limit.ensures.few c.args.lower c.args.rule c.requires)

pub invariant_of-self : goal.invariant_of-self
invariant_of-self c =
    let see : seen c.self.inside.order.order c.self.inside.ranks.items (terms_of c.self.inside.arena c.self.inside.roots.items) ≡ c.args.self.now.rules = ap (λ (k : Keyed). k.rules) c.self.view_is in
    let e = c.parent_of-upper.ensures (low-at c.self.inside.arena c.self.inside.roots.items c.self.inside.ranks.items c.self.inside.calls.items c.self.inside.order.order c.self.inside.size c.args.self.now.rules c.self.invariant see c.limit-limit.ensures.sound c.limit-limit.ensures.few c.args.lower c.args.rule c.requires) c.requires.upper (suc c.requires.child) (parent c.self.inside.arena c.self.inside.roots.items c.self.inside.ranks.items c.self.inside.calls.items c.self.inside.order.order c.self.inside.size c.args.self.now.rules c.self.invariant see c.limit-limit.ensures.sound c.limit-limit.ensures.few c.args.lower c.args.rule c.requires) in
    let u = upper-read c.self.inside.arena c.self.inside.roots.items c.self.inside.ranks.items c.self.inside.calls.items c.self.inside.order.order c.self.inside.size c.args.self.now.rules c.self.invariant see c.limit-limit.ensures.sound c.limit-limit.ensures.few c.args.lower c.args.rule c.requires c.label_in.result (subst (λ (k : Key). (x : At c.self.inside.arena k) (n : Node) → slice_get x.nodes x.place ≡ Some n → c.label_in.result ≡ placed_label c.self.inside.order.order n.label) e c.label_in.ensures) in
    let v = lower-read c.self.inside.arena c.self.inside.roots.items c.self.inside.ranks.items c.self.inside.calls.items c.self.inside.order.order c.self.inside.size c.args.self.now.rules c.self.invariant see c.limit-limit.ensures.sound c.limit-limit.ensures.few c.args.lower c.args.rule c.requires c.label_in-2.result c.label_in-2.ensures in
    let g : (c.label_in.result ∷ c.label_in-2.result ∷ []) ≡ gone c.self.inside.arena c.self.inside.roots.items c.self.inside.ranks.items c.self.inside.calls.items c.self.inside.order.order c.self.inside.size c.args.self.now.rules c.self.invariant see c.limit-limit.ensures.sound c.limit-limit.ensures.few c.args.lower c.args.rule c.requires = ap (λ (x : Label). x ∷ c.label_in-2.result ∷ []) u ∙ ap (λ (x : Label). (upper-node c.self.inside.arena c.self.inside.roots.items c.self.inside.ranks.items c.self.inside.calls.items c.self.inside.order.order c.self.inside.size c.args.self.now.rules c.self.invariant see c.limit-limit.ensures.sound c.limit-limit.ensures.few c.args.lower c.args.rule c.requires).label ∷ x ∷ []) v in
    let fo = subst (λ (k : Key). (x : At c.self.inside.arena c.args.lower) (p : ℕ) → key_in x.nodes p ≡ Some k → term_at c.fold_at.new.arena x.root ≡ Some (folded_nodes x.nodes p k x.place (Call c.id-id.result))) e c.fold_at.ensures.folded in
    let mo = subst (λ (ls : List Label). (q : ℕ) → q < length c.self.inside.calls.items → get_or c.recount.new.calls.items q 0 + calls_in q ls ≡ get_or c.self.inside.calls.items q 0 + calls_in q (Call c.args.rule ∷ [])) g c.recount.ensures.calls in
    kept-folded c.self.inside.arena c.self.inside.roots.items c.self.inside.ranks.items c.self.inside.calls.items c.self.inside.order.order c.self.inside.size c.args.self.now.rules c.self.invariant see c.limit-limit.ensures.sound c.limit-limit.ensures.few c.args.lower c.args.rule c.requires c.fold_at.new.arena c.id-id.result c.recount.new.calls.items c.id-id.ensures.there c.id-id.ensures.place fo c.fold_at.ensures.others c.recount.ensures.len mo

pub returns-clause-rules : goal.returns-clause-rules
returns-clause-rules c = λ F.
    let see : seen c.self.inside.order.order c.self.inside.ranks.items (terms_of c.self.inside.arena c.self.inside.roots.items) ≡ c.args.self.now.rules = ap (λ (k : Keyed). k.rules) c.self.view_is in
    let e = c.parent_of-upper.ensures (low-at c.self.inside.arena c.self.inside.roots.items c.self.inside.ranks.items c.self.inside.calls.items c.self.inside.order.order c.self.inside.size c.args.self.now.rules c.self.invariant see c.limit-limit.ensures.sound c.limit-limit.ensures.few c.args.lower c.args.rule F) F.upper (suc F.child) (parent c.self.inside.arena c.self.inside.roots.items c.self.inside.ranks.items c.self.inside.calls.items c.self.inside.order.order c.self.inside.size c.args.self.now.rules c.self.invariant see c.limit-limit.ensures.sound c.limit-limit.ensures.few c.args.lower c.args.rule F) in
    let u = upper-read c.self.inside.arena c.self.inside.roots.items c.self.inside.ranks.items c.self.inside.calls.items c.self.inside.order.order c.self.inside.size c.args.self.now.rules c.self.invariant see c.limit-limit.ensures.sound c.limit-limit.ensures.few c.args.lower c.args.rule F c.label_in.result (subst (λ (k : Key). (x : At c.self.inside.arena k) (n : Node) → slice_get x.nodes x.place ≡ Some n → c.label_in.result ≡ placed_label c.self.inside.order.order n.label) e c.label_in.ensures) in
    let v = lower-read c.self.inside.arena c.self.inside.roots.items c.self.inside.ranks.items c.self.inside.calls.items c.self.inside.order.order c.self.inside.size c.args.self.now.rules c.self.invariant see c.limit-limit.ensures.sound c.limit-limit.ensures.few c.args.lower c.args.rule F c.label_in-2.result c.label_in-2.ensures in
    let g : (c.label_in.result ∷ c.label_in-2.result ∷ []) ≡ gone c.self.inside.arena c.self.inside.roots.items c.self.inside.ranks.items c.self.inside.calls.items c.self.inside.order.order c.self.inside.size c.args.self.now.rules c.self.invariant see c.limit-limit.ensures.sound c.limit-limit.ensures.few c.args.lower c.args.rule F = ap (λ (x : Label). x ∷ c.label_in-2.result ∷ []) u ∙ ap (λ (x : Label). (upper-node c.self.inside.arena c.self.inside.roots.items c.self.inside.ranks.items c.self.inside.calls.items c.self.inside.order.order c.self.inside.size c.args.self.now.rules c.self.invariant see c.limit-limit.ensures.sound c.limit-limit.ensures.few c.args.lower c.args.rule F).label ∷ x ∷ []) v in
    let fo = subst (λ (k : Key). (x : At c.self.inside.arena c.args.lower) (p : ℕ) → key_in x.nodes p ≡ Some k → term_at c.fold_at.new.arena x.root ≡ Some (folded_nodes x.nodes p k x.place (Call c.id-id.result))) e c.fold_at.ensures.folded in
    let mo = subst (λ (ls : List Label). (q : ℕ) → q < length c.self.inside.calls.items → get_or c.recount.new.calls.items q 0 + calls_in q ls ≡ get_or c.self.inside.calls.items q 0 + calls_in q (Call c.args.rule ∷ [])) g c.recount.ensures.calls in
    seen-folded c.self.inside.arena c.self.inside.roots.items c.self.inside.ranks.items c.self.inside.calls.items c.self.inside.order.order c.self.inside.size c.args.self.now.rules c.self.invariant see c.limit-limit.ensures.sound c.limit-limit.ensures.few c.args.lower c.args.rule F c.fold_at.new.arena c.id-id.result c.recount.new.calls.items c.id-id.ensures.there c.id-id.ensures.place fo c.fold_at.ensures.others c.recount.ensures.len mo

pub returns-clause-call : goal.returns-clause-call
returns-clause-call c = λ F.
    let see : seen c.self.inside.order.order c.self.inside.ranks.items (terms_of c.self.inside.arena c.self.inside.roots.items) ≡ c.args.self.now.rules = ap (λ (k : Keyed). k.rules) c.self.view_is in
    c.parent_of-upper.ensures (low-at c.self.inside.arena c.self.inside.roots.items c.self.inside.ranks.items c.self.inside.calls.items c.self.inside.order.order c.self.inside.size c.args.self.now.rules c.self.invariant see c.limit-limit.ensures.sound c.limit-limit.ensures.few c.args.lower c.args.rule F) F.upper (suc F.child) (parent c.self.inside.arena c.self.inside.roots.items c.self.inside.ranks.items c.self.inside.calls.items c.self.inside.order.order c.self.inside.size c.args.self.now.rules c.self.invariant see c.limit-limit.ensures.sound c.limit-limit.ensures.few c.args.lower c.args.rule F)

pub returns-clause-values : goal.returns-clause-values
returns-clause-values c =
    let see : seen c.self.inside.order.order c.self.inside.ranks.items (terms_of c.self.inside.arena c.self.inside.roots.items) ≡ c.args.self.now.rules = ap (λ (k : Keyed). k.rules) c.self.view_is in
    let e = c.parent_of-upper.ensures (low-at c.self.inside.arena c.self.inside.roots.items c.self.inside.ranks.items c.self.inside.calls.items c.self.inside.order.order c.self.inside.size c.args.self.now.rules c.self.invariant see c.limit-limit.ensures.sound c.limit-limit.ensures.few c.args.lower c.args.rule c.requires) c.requires.upper (suc c.requires.child) (parent c.self.inside.arena c.self.inside.roots.items c.self.inside.ranks.items c.self.inside.calls.items c.self.inside.order.order c.self.inside.size c.args.self.now.rules c.self.invariant see c.limit-limit.ensures.sound c.limit-limit.ensures.few c.args.lower c.args.rule c.requires) in
    let u = upper-read c.self.inside.arena c.self.inside.roots.items c.self.inside.ranks.items c.self.inside.calls.items c.self.inside.order.order c.self.inside.size c.args.self.now.rules c.self.invariant see c.limit-limit.ensures.sound c.limit-limit.ensures.few c.args.lower c.args.rule c.requires c.label_in.result (subst (λ (k : Key). (x : At c.self.inside.arena k) (n : Node) → slice_get x.nodes x.place ≡ Some n → c.label_in.result ≡ placed_label c.self.inside.order.order n.label) e c.label_in.ensures) in
    let v = lower-read c.self.inside.arena c.self.inside.roots.items c.self.inside.ranks.items c.self.inside.calls.items c.self.inside.order.order c.self.inside.size c.args.self.now.rules c.self.invariant see c.limit-limit.ensures.sound c.limit-limit.ensures.few c.args.lower c.args.rule c.requires c.label_in-2.result c.label_in-2.ensures in
    let g : (c.label_in.result ∷ c.label_in-2.result ∷ []) ≡ gone c.self.inside.arena c.self.inside.roots.items c.self.inside.ranks.items c.self.inside.calls.items c.self.inside.order.order c.self.inside.size c.args.self.now.rules c.self.invariant see c.limit-limit.ensures.sound c.limit-limit.ensures.few c.args.lower c.args.rule c.requires = ap (λ (x : Label). x ∷ c.label_in-2.result ∷ []) u ∙ ap (λ (x : Label). (upper-node c.self.inside.arena c.self.inside.roots.items c.self.inside.ranks.items c.self.inside.calls.items c.self.inside.order.order c.self.inside.size c.args.self.now.rules c.self.invariant see c.limit-limit.ensures.sound c.limit-limit.ensures.few c.args.lower c.args.rule c.requires).label ∷ x ∷ []) v in
    let fo = subst (λ (k : Key). (x : At c.self.inside.arena c.args.lower) (p : ℕ) → key_in x.nodes p ≡ Some k → term_at c.fold_at.new.arena x.root ≡ Some (folded_nodes x.nodes p k x.place (Call c.id-id.result))) e c.fold_at.ensures.folded in
    let mo = subst (λ (ls : List Label). (q : ℕ) → q < length c.self.inside.calls.items → get_or c.recount.new.calls.items q 0 + calls_in q ls ≡ get_or c.self.inside.calls.items q 0 + calls_in q (Call c.args.rule ∷ [])) g c.recount.ensures.calls in
    values-folded c.self.inside.arena c.self.inside.roots.items c.self.inside.ranks.items c.self.inside.calls.items c.self.inside.order.order c.self.inside.size c.args.self.now.rules c.self.invariant see c.limit-limit.ensures.sound c.limit-limit.ensures.few c.args.lower c.args.rule c.requires c.fold_at.new.arena c.id-id.result c.recount.new.calls.items c.id-id.ensures.there c.id-id.ensures.place fo c.fold_at.ensures.others c.recount.ensures.len mo

pub returns-clause-size : goal.returns-clause-size
returns-clause-size c =
    let see : seen c.self.inside.order.order c.self.inside.ranks.items (terms_of c.self.inside.arena c.self.inside.roots.items) ≡ c.args.self.now.rules = ap (λ (k : Keyed). k.rules) c.self.view_is in
    let e = c.parent_of-upper.ensures (low-at c.self.inside.arena c.self.inside.roots.items c.self.inside.ranks.items c.self.inside.calls.items c.self.inside.order.order c.self.inside.size c.args.self.now.rules c.self.invariant see c.limit-limit.ensures.sound c.limit-limit.ensures.few c.args.lower c.args.rule c.requires) c.requires.upper (suc c.requires.child) (parent c.self.inside.arena c.self.inside.roots.items c.self.inside.ranks.items c.self.inside.calls.items c.self.inside.order.order c.self.inside.size c.args.self.now.rules c.self.invariant see c.limit-limit.ensures.sound c.limit-limit.ensures.few c.args.lower c.args.rule c.requires) in
    let u = upper-read c.self.inside.arena c.self.inside.roots.items c.self.inside.ranks.items c.self.inside.calls.items c.self.inside.order.order c.self.inside.size c.args.self.now.rules c.self.invariant see c.limit-limit.ensures.sound c.limit-limit.ensures.few c.args.lower c.args.rule c.requires c.label_in.result (subst (λ (k : Key). (x : At c.self.inside.arena k) (n : Node) → slice_get x.nodes x.place ≡ Some n → c.label_in.result ≡ placed_label c.self.inside.order.order n.label) e c.label_in.ensures) in
    let v = lower-read c.self.inside.arena c.self.inside.roots.items c.self.inside.ranks.items c.self.inside.calls.items c.self.inside.order.order c.self.inside.size c.args.self.now.rules c.self.invariant see c.limit-limit.ensures.sound c.limit-limit.ensures.few c.args.lower c.args.rule c.requires c.label_in-2.result c.label_in-2.ensures in
    let g : (c.label_in.result ∷ c.label_in-2.result ∷ []) ≡ gone c.self.inside.arena c.self.inside.roots.items c.self.inside.ranks.items c.self.inside.calls.items c.self.inside.order.order c.self.inside.size c.args.self.now.rules c.self.invariant see c.limit-limit.ensures.sound c.limit-limit.ensures.few c.args.lower c.args.rule c.requires = ap (λ (x : Label). x ∷ c.label_in-2.result ∷ []) u ∙ ap (λ (x : Label). (upper-node c.self.inside.arena c.self.inside.roots.items c.self.inside.ranks.items c.self.inside.calls.items c.self.inside.order.order c.self.inside.size c.args.self.now.rules c.self.invariant see c.limit-limit.ensures.sound c.limit-limit.ensures.few c.args.lower c.args.rule c.requires).label ∷ x ∷ []) v in
    let fo = subst (λ (k : Key). (x : At c.self.inside.arena c.args.lower) (p : ℕ) → key_in x.nodes p ≡ Some k → term_at c.fold_at.new.arena x.root ≡ Some (folded_nodes x.nodes p k x.place (Call c.id-id.result))) e c.fold_at.ensures.folded in
    let mo = subst (λ (ls : List Label). (q : ℕ) → q < length c.self.inside.calls.items → get_or c.recount.new.calls.items q 0 + calls_in q ls ≡ get_or c.self.inside.calls.items q 0 + calls_in q (Call c.args.rule ∷ [])) g c.recount.ensures.calls in
    size-folded c.self.inside.arena c.self.inside.roots.items c.self.inside.ranks.items c.self.inside.calls.items c.self.inside.order.order c.self.inside.size c.args.self.now.rules c.self.invariant see c.limit-limit.ensures.sound c.limit-limit.ensures.few c.args.lower c.args.rule c.requires c.fold_at.new.arena c.id-id.result c.recount.new.calls.items c.id-id.ensures.there c.id-id.ensures.place fo c.fold_at.ensures.others c.recount.ensures.len mo
