use Rattle.std.proofs.Common.{◌≡◌, ◌∙◌, true, false, Option, Some, sym, ap}
use Rattle.std.specs.Cmp.Lexicographic.{pointwise}
use Rattle.rule_runs.specs.Reached.{RuleStates}
use Rattle.rule_runs.proofs.Entries.{pointwise-same, pointwise-refl}
use Rattle.rule_runs.proofs.memo.Memo.state_under.Goals.{else-rule-pair-via-then-rule-pair+else-eq, else-rule-pair-via-else-rule-pair}
use Rattle.rule_runs.proofs.memo.Memo.state_under.Goals as goal

-- two entries that stand at one place are one
same-entry : {S : Type 0} (k q : RuleStates S) (x y : S) (at : Option (RuleStates S × S)) → at ≡ Some (k, x) → at ≡ Some (q, y) → k ≡ q
same-entry {S} k q x y at e f = let same : (k, x) ≡ (q, y) = cc in ap (λ (e : RuleStates S × S). e.0) same

pub returns-then-eq-clause-found : goal.returns-then-eq-clause-found
returns-then-eq-clause-found g c =
    let pair = c.args.pair.now in
    let states : c.in_ok-rule.states.now ≡ pair.states.items = pointwise-same g.S.PartialEq.eq g.met.S.RunState.identical c.in_ok-rule.states.now c.as_slice.result.now (sym c.if-eq.ensures) ∙ c.as_slice.ensures.value in
    c.in_ok-rule.ensures.there ∙ ap (λ rule. Some ((rule, c.in_ok-rule.states.now), c.in_ok-rule.state.now)) c.if-rule-pair.true ∙ ap (λ xs. Some ((pair.rule, xs), c.in_ok-rule.state.now)) states

pub returns-else-rule-pair-clause-other : goal.returns-else-rule-pair-clause-other
returns-else-rule-pair-clause-other g c = λ state h.
    let pair = c.args.pair.now in
    let same : (c.in_ok-rule.rule, c.in_ok-rule.states.now) ≡ (pair.rule, pair.states.items) = same-entry (c.in_ok-rule.rule, c.in_ok-rule.states.now) (pair.rule, pair.states.items) c.in_ok-rule.state.now state _ c.in_ok-rule.ensures.there h in
    elim c.else-rule-pair.branch [
      | else-rule-pair-via-then-rule-pair+else-eq w ↦
          let states : c.in_ok-rule.states.now ≡ w.as_slice.result.now = ap (λ (k : RuleStates g.row.S.Denot). k.1) same ∙ sym w.as_slice.ensures.value in
          let equal : w.eq.result ≡ true = w.eq.ensures ∙ ap (λ xs. pointwise g.S.PartialEq.eq xs w.as_slice.result.now) states ∙ pointwise-refl g.S.PartialEq.eq g.met.S.Eq.laws.refl w.as_slice.result.now in
          let other : w.eq.result ≡ false = w.if-eq.false in
          absurd (cc (equal, other))
      | else-rule-pair-via-else-rule-pair w ↦ w.if-rule-pair.false (ap (λ (k : RuleStates g.row.S.Denot). k.0) same)
    ]
