use Rattle.std.proofs.Common.{◌≡◌, ℕ, ◌+◌, ◌-◌, List, [], ◌∷◌, length, arith, ap, sym, ◌∙◌, subst, length-append}
use Rattle.slt_grammar.specs.Keyed.{rules_of}
use Rattle.slt_grammar.proofs.KeyedLemmas.{length-rules_of}
use Rattle.value_cursor.specs.Rises.{AreRises, risen}
use Rattle.value_cursor.proofs.CursorRises.{cursor-rise}
use Rattle.value_cursor.proofs.RuleRises.{rise-whole, rises-more}
use Rattle.value_cursor.proofs.rises.most_open.Goals as goal

pub rises_of-row-requires-clause-rows : goal.rises_of-row-requires-clause-rows
rises_of-row-requires-clause-rows g c = rw c.as_slice.ensures.value c.loop-rule.invariant.rises

pub loop-rule-preserved : goal.loop-rule-preserved
loop-rule-preserved g c =
    let G = rules_of c.args.grammar.now.rules in
    let i = c.loop-rule.invariant in
    let p = c.in_ok-push.ensures in
    record {
      rises = subst (λ (rows : List (List ℕ)). AreRises (c.loop-rule.rule + 1) G rows) (sym p.items) (rises-more c.loop-rule.rule G c.loop-rule.rows.items c.rises_of-row.result i.len i.rises c.rises_of-row.ensures);
      len = omega (arith, ap length p.items, length-append c.loop-rule.rows.items (c.rises_of-row.result ∷ []), i.len);
      room = omega (arith, i.room, p.capacity);
    }

pub returns-clause-bound : goal.returns-clause-bound
returns-clause-bound g c =
    let rules = c.args.grammar.now.rules in
    let rows = c.loop-rule.rows.items in
    let n : length (rules_of rules) ≡ c.rules-rules.result = length-rules_of rules ∙ sym c.rules-rules.ensures.value in
    let last : c.rise_at.result ≡ risen rows (c.rules-rules.result - 1) 0 = c.rise_at.ensures ∙ ap (λ r. risen r (c.rules-rules.result - 1) 0) c.as_slice-2.ensures.value in
    (rise-whole (rules_of rules) c.rules-rules.ensures.grammar c.loop-rule.rule rows (omega (arith, n, c.loop-rule-test.false)) c.loop-rule.invariant.rises c.rise_at.result (last ∙ sym (ap (λ k. risen rows (k - 1) 0) n))).bound

pub returns-clause-least : goal.returns-clause-least
returns-clause-least g c =
    let rules = c.args.grammar.now.rules in
    let rows = c.loop-rule.rows.items in
    let n : length (rules_of rules) ≡ c.rules-rules.result = length-rules_of rules ∙ sym c.rules-rules.ensures.value in
    let last : c.rise_at.result ≡ risen rows (c.rules-rules.result - 1) 0 = c.rise_at.ensures ∙ ap (λ r. risen r (c.rules-rules.result - 1) 0) c.as_slice-2.ensures.value in
    (rise-whole (rules_of rules) c.rules-rules.ensures.grammar c.loop-rule.rule rows (omega (arith, n, c.loop-rule-test.false)) c.loop-rule.invariant.rises c.rise_at.result (last ∙ sym (ap (λ k. risen rows (k - 1) 0) n))).least

pub returns-clause-cursors : goal.returns-clause-cursors
returns-clause-cursors g c = cursor-rise c.args.grammar.now.rules c.rise_at.result (returns-clause-bound g c)
