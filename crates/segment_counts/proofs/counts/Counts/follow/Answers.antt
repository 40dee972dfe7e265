use Rattle.std.proofs.Common.{◌≡◌, ◌-◌, [], ◌∷◌, sym, drop, length, set, subst, List, arith, refl}
use Rattle.slt_grammar.specs.Keyed.{rules_of}
use Rattle.slt_grammar.proofs.KeyedLemmas.{length-rules_of}
use Rattle.segment_counts.specs.Changes.{start_weights}
use Rattle.segment_counts.specs.Counting.{AreCountsBelow}
use Rattle.segment_counts.specs.declared.counts.Weights.{Weights}
use Rattle.segment_counts.proofs.Changed.{start-kept}
use Rattle.segment_counts.proofs.Followed.{below-padded, few-each, rows-by-number}
use Rattle.segment_counts.proofs.counts.Counts.follow.Goals as goal

pub append_rows-requires-clause-rows : goal.append_rows-requires-clause-rows
append_rows-requires-clause-rows c =
    let s = c.requires.same in
    rows-by-number c.args.names.now s.0 (rules_of c.args.grammar.now.rules) c.args.self.now s.2 c.args.before.now c.args.now.now s.3 s.5

pub append_rows-requires-clause-few : goal.append_rows-requires-clause-few
append_rows-requires-clause-few c = λ q h.
    let s = c.requires.same in
    let K = c.args.grammar.now.rules in
    few-each c.args.names.now s.0 (rules_of K) c.args.self.now s.2 s.1 s.4 c.limit-limit.ensures.keyed.grammar c.requires.swept q (omega (arith, h, length-rules_of K))

pub returns-clause-counts : goal.returns-clause-counts
returns-clause-counts c =
    let names = c.args.names.now in
    let K = c.args.grammar.now.rules in
    let H = rules_of K in
    let C = c.args.self.now in
    let X = c.append_rows.new.counts.rows in
    let D = c.forget_first.new.self in
    let b = length c.args.before.now in
    let s = c.requires.same in
    let n = length-rules_of K in
    let last = length c.args.now.now - 1 in
    let below : AreCountsBelow names last H D.rows = subst (λ (Y : List (List Weights)). AreCountsBelow names last H Y) (sym c.forget_first.ensures.rows) (below-padded names last H (drop b X) b c.append_rows.ensures.counts) in
    let e : c.push.new.self.rows ≡ set D.rows D.rules (start_weights C ∷ []) = rw (c.push.ensures.rows, c.at-start.ensures, c.rules.ensures) refl in
    start-kept names s.0 H C s.2 s.1 s.4 last D c.push.new.self (omega (arith, n, c.requires.numbered, c.limit-limit.ensures.keyed.grammar.some)) below
    (omega (arith, c.forget_first.ensures.rules, c.append_rows.ensures.rules)) (omega (arith, n, c.requires.numbered, c.requires.room, c.forget_first.ensures.room, c.append_rows.ensures.room)) e c.push.ensures.rules
