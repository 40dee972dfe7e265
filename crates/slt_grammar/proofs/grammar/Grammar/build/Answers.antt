use Rattle.std.proofs.Common.{◌≡◌, ◌∷◌, ◌++◌, [], ◌+◌, ◌<◌, ◌≤◌, ℕ, suc, zero, List, length, take, get_or, ap, refl, sym, subst, arith}
use Rattle.std.proofs.lemmas.List.Sums.{sum_by-cons}
use Rattle.rule_arena.specs.declared.label.Label.{Label}
use Rattle.rule_arena.specs.declared.key.Key.{Key}
use Rattle.slt_grammar.specs.Algebras.{ranks_of}
use Rattle.slt_grammar.specs.Building.{AreBuilt}
use Rattle.slt_grammar.specs.Grammars.{body_at, whole}
use Rattle.slt_grammar.specs.Ordering.{Ordered, IsThere, place_of}
use Rattle.slt_grammar.specs.Holding.{IsKept}
use Rattle.slt_grammar.specs.declared.rules.Rule.{Rule}
use Rattle.slt_grammar.proofs.CallCounts.{sum-more}
use Rattle.slt_grammar.proofs.Storing.{AreOwn, AreStored, ranks-small, stored-more, all-kept}
use Rattle.slt_grammar.proofs.grammar.Grammar.build.Goals as goal

whole-room : (rules : List Rule) (r : ℕ) → r < length rules → whole (take r rules) + length (body_at rules r) ≤ whole rules
whole-room [] r h = absurd (omega arith)
whole-room (R ∷ Rs) zero h = omega (arith, sum_by-cons (λ (S : Rule). length S.body) R Rs)
whole-room (R ∷ Rs) (suc r) h =
    omega (arith, whole-room Rs r (omega arith), sum_by-cons (λ (S : Rule). length S.body) R Rs, sum_by-cons (λ (S : Rule). length S.body) R (take r Rs))

own-of : (o rules : List ℕ) (n : ℕ) → o ≡ rules → length rules ≡ n → ((q : ℕ) → q < n → IsThere rules q) → ((q : ℕ) → q < n → place_of rules q ≡ q) → AreOwn o n
own-of o rules n e m t p = subst (λ (x : List ℕ). AreOwn x n) (sym e) (record { many = m; there = t; places = p })

pub build_body-root-requires-clause-room : goal.build_body-root-requires-clause-room
build_body-root-requires-clause-room c =
    let n : length c.body_of-body.result.now ≡ length (body_at c.args.rules.now c.loop-rule.rule) = ap length c.body_of-body.ensures in
    omega (arith, c.loop-rule.invariant.room, n, whole-room c.args.rules.now c.loop-rule.rule c.loop-rule-test.true)

pub build_body-root-requires-clause-small : goal.build_body-root-requires-clause-small
build_body-root-requires-clause-small c = ranks-small c.args.rules.now c.requires.grammar

pub loop-rule-preserved : goal.loop-rule-preserved
loop-rule-preserved c =
    let I = c.loop-rule.invariant in
    let n : length c.body_of-body.result.now ≡ length (body_at c.args.rules.now c.loop-rule.rule) = ap length c.body_of-body.ensures in
    let o : List ℕ = take c.order.inside.used c.order.inside.ids.items in
    let own = own-of o c.in_ok-order.order.order (length c.args.rules.now) (ap (λ (x : Ordered). x.order) c.order.view_is) c.in_ok-order.ensures.len c.in_ok-order.ensures.there c.in_ok-order.ensures.places in
    let M = stored-more c.args.rules.now c.args.calls.now o c.loop-rule.rule c.loop-rule.arena c.build_body-root.new.arena c.loop-rule.roots.items c.loop-rule.ranks.items c.loop-rule.counts.items
    c.build_body-root.result c.rank_of.result (get_or c.args.calls.now c.loop-rule.rule 0) own I.stored c.loop-rule-test.true c.requires.grammar c.build_body-root.ensures.keeps c.build_body-root.ensures.vacant
    (subst (λ (ls : List Label). AreBuilt (ranks_of c.args.rules.now) c.build_body-root.new.arena (c.build_body-root.result ∷ []) ls) c.body_of-body.ensures c.build_body-root.ensures.built)
    c.rank_of.ensures refl in
    record {
      stored = subst (λ (ks : List Key). AreStored c.args.rules.now c.args.calls.now o (c.loop-rule.rule + 1) c.build_body-root.new.arena ks c.push-in-loop-rule.new.self.items c.push-in-loop-rule-2.new.self.items) (sym c.in_ok-push.ensures.items)
          (subst (λ (rs : List ℕ). AreStored c.args.rules.now c.args.calls.now o (c.loop-rule.rule + 1) c.build_body-root.new.arena (c.loop-rule.roots.items ++ c.build_body-root.result ∷ []) rs c.push-in-loop-rule-2.new.self.items) (sym c.in_ok-push-2.ensures.items)
          (subst (λ (cs : List ℕ). AreStored c.args.rules.now c.args.calls.now o (c.loop-rule.rule + 1) c.build_body-root.new.arena (c.loop-rule.roots.items ++ c.build_body-root.result ∷ []) (c.loop-rule.ranks.items ++ c.rank_of.result ∷ []) cs) (sym c.in_ok-push-3.ensures.items) M));
      room = omega (arith, I.room, n, c.build_body-root.ensures.spare, sum-more (λ (R : Rule). length R.body) c.args.rules.now c.loop-rule.rule c.loop-rule-test.true);
      stack = I.stack;
    }

pub invariant_of-result : goal.invariant_of-result
invariant_of-result c =
    let o : List ℕ = take c.order.inside.used c.order.inside.ids.items in
    let e = ap (λ (x : Ordered). x.order) c.order.view_is in
    let own = own-of o c.in_ok-order.order.order (length c.args.rules.now) e c.in_ok-order.ensures.len c.in_ok-order.ensures.there c.in_ok-order.ensures.places in
    subst (λ (x : List ℕ). IsKept c.loop-rule.arena c.loop-rule.roots.items c.loop-rule.ranks.items c.loop-rule.counts.items x c.count_nodes.result) e
    (all-kept c.args.rules.now c.args.calls.now o c.loop-rule.rule c.loop-rule.arena c.loop-rule.roots.items c.loop-rule.ranks.items c.loop-rule.counts.items c.count_nodes.result own c.loop-rule.invariant.stored (omega arith) c.requires.grammar c.requires.calls c.count_nodes.ensures).0
