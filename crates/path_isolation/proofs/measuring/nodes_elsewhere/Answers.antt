use Rattle.std.proofs.Common.{◌≡◌, ◌+◌, ◌-◌, ◌<◌, ℕ, List, ap, arith, length, take}
use Rattle.std.specs.List.{sum_by}
use Rattle.std.proofs.lemmas.List.{take_all}
use Rattle.std.proofs.lemmas.List.Sums.{sum_by-take-le}
use Rattle.slt_grammar.specs.Keyed.{KeyedRule, rules_of}
use Rattle.slt_grammar.specs.declared.rules.Rule.{Rule}
use Rattle.slt_grammar.proofs.CallCounts.{sum-more}
use Rattle.slt_grammar.proofs.KeyedLemmas.{length-rules_of}
use Rattle.path_isolation.proofs.Elsewhere.{room-elsewhere}
use Rattle.path_isolation.proofs.Walks.{length-body}
use Rattle.path_isolation.proofs.measuring.nodes_elsewhere.Goals as goal

pub body_length-nodes-requires : goal.body_length-nodes-requires
body_length-nodes-requires g c = omega (arith, c.loop-rule-test.true, c.rules-start.ensures.value)

pub overflow_add-nodes : goal.overflow_add-nodes
overflow_add-nodes g c =
    let G : List KeyedRule = c.args.grammar.now.rules in
    let f : Rule → ℕ = λ R. length R.body in
    let h : c.loop-rule.rule < length (rules_of G) = omega (arith, length-rules_of G, c.loop-rule-test.true, c.rules-start.ensures.value) in
    omega (
      arith,
      c.limit-limit.ensures.keyed.few,
      sum-more f (rules_of G) c.loop-rule.rule h,
      sum_by-take-le f (rules_of G) (c.loop-rule.rule + 1),
      length-body G c.loop-rule.rule,
      c.body_length-nodes.ensures.value,
      c.loop-rule.invariant.sum,
    )

pub loop-rule-preserved : goal.loop-rule-preserved
loop-rule-preserved g c =
    let G : List KeyedRule = c.args.grammar.now.rules in
    let f : Rule → ℕ = λ R. length R.body in
    let h : c.loop-rule.rule < length (rules_of G) = omega (arith, length-rules_of G, c.loop-rule-test.true, c.rules-start.ensures.value) in
    record {
      sum = omega (arith, sum-more f (rules_of G) c.loop-rule.rule h, length-body G c.loop-rule.rule, c.body_length-nodes.ensures.value, c.loop-rule.invariant.sum);
      steps = omega (arith, c.body_length-nodes.ensures.steps, c.loop-rule.invariant.steps);
    }

pub returns-clause-value : goal.returns-clause-value
returns-clause-value g c =
    let G : List KeyedRule = c.args.grammar.now.rules in
    let f : Rule → ℕ = λ R. length R.body in
    let some = c.limit-limit.ensures.keyed.grammar.some in
    let n = length-rules_of G in
    let last : c.loop-rule.rule ≡ length G - 1 = omega (arith, c.rules-start.ensures.value) in
    omega (
      arith,
      sum-more f (rules_of G) (length G - 1) (omega (arith, some, n)),
      ap (sum_by f) (take_all (length G - 1 + 1) (rules_of G) (omega (arith, some, n))),
      ap (λ (k : ℕ). sum_by f (take k (rules_of G))) last,
      length-body G (length G - 1),
      c.loop-rule.invariant.sum,
    )

pub returns-clause-enough : goal.returns-clause-enough
returns-clause-enough g c = λ H levels ps D L C.
    let G : List KeyedRule = c.args.grammar.now.rules in
    let f : Rule → ℕ = λ R. length R.body in
    let some = c.limit-limit.ensures.keyed.grammar.some in
    let n = length-rules_of G in
    let last : c.loop-rule.rule ≡ length G - 1 = omega (arith, c.rules-start.ensures.value) in
    omega (
      arith,
      ap (λ (k : ℕ). sum_by f (take k (rules_of G))) last,
      room-elsewhere G H levels ps D L C,
      sum-more f (rules_of G) (length G - 1) (omega (arith, some, n)),
      ap (sum_by f) (take_all (length G - 1 + 1) (rules_of G) (omega (arith, some, n))),
      length-body G (length G - 1),
      c.loop-rule.invariant.sum,
    )

pub returns-clause-steps : goal.returns-clause-steps
returns-clause-steps g c =
    let G : List KeyedRule = c.args.grammar.now.rules in
    let f : Rule → ℕ = λ R. length R.body in
    omega (arith, sum_by-take-le f (rules_of G) c.loop-rule.rule, c.loop-rule.invariant.sum, c.loop-rule.invariant.steps)
