use Rattle.std.proofs.Common.{◌+◌, ◌<◌, ℕ, List, length, ap, arith}
use Rattle.std.specs.List.{sum_by}
use Rattle.std.proofs.lemmas.List.{take_all}
use Rattle.std.proofs.lemmas.List.Sums.{sum_by-take-le}
use Rattle.slt_grammar.specs.Keyed.{rules_of}
use Rattle.slt_grammar.specs.declared.rules.Rule.{Rule}
use Rattle.slt_grammar.proofs.CallCounts.{sum-more}
use Rattle.slt_grammar.proofs.KeyedLemmas.{length-rules_of}
use Rattle.path_isolation.proofs.Copied.{whole-is}
use Rattle.path_isolation.proofs.measuring.count_nodes.Goals as goal

pub overflow_add-nodes : goal.overflow_add-nodes
overflow_add-nodes c =
    let R : List Rule = rules_of c.args.grammar.now.rules in
    let f : Rule → ℕ = λ Q. Q.rank in
    let K = c.limit-limit.ensures.keyed in
    let n = length-rules_of c.args.grammar.now.rules in
    let few = K.few in
    let h : c.loop-rule.rule < length R = omega (arith, n, c.loop-rule-test.true) in
    omega (
      arith,
      few,
      whole-is R (λ r k. (K.grammar.each r k).linear),
      sum-more f R c.loop-rule.rule h,
      sum_by-take-le f R (c.loop-rule.rule + 1),
      c.rank-nodes.ensures,
      c.loop-rule.invariant,
    )

pub returns : goal.returns
returns c =
    let R : List Rule = rules_of c.args.grammar.now.rules in
    let f : Rule → ℕ = λ Q. Q.rank in
    let K = c.limit-limit.ensures.keyed in
    let n = length-rules_of c.args.grammar.now.rules in
    omega (
      arith,
      whole-is R (λ r k. (K.grammar.each r k).linear),
      ap (sum_by f) (take_all c.loop-rule.rule R (omega (arith, n))),
      c.loop-rule.invariant,
    )
