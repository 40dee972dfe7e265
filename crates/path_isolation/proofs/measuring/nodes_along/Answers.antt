use Rattle.std.proofs.Common.{◌≡◌, ◌∷◌, List, length, sym, ap, subst, arith}
use Rattle.slt_grammar.specs.Holding.{IsLawful}
use Rattle.slt_grammar.specs.Keyed.{KeyedRule}
use Rattle.slt_grammar.specs.declared.level.Level.{Level}
use Rattle.path_isolation.specs.Chains.{weight_of}
use Rattle.path_isolation.specs.Isolations.{room_along}
use Rattle.path_isolation.proofs.Lengths.{AreOfRules, levels-in}
use Rattle.path_isolation.proofs.Walks.{first-level, length-body, room-few}
use Rattle.path_isolation.proofs.measuring.nodes_along.Goals as goal

pub first_key-start-requires-clause-some : goal.first_key-start-requires-clause-some
first_key-start-requires-clause-some g c = first-level c.args.grammar.now.rules (g.W.Way.levels c.args.way c.args.grammar.now.rules) c.requires.chain.0 c.requires.chain.1

pub loop-level-init : goal.loop-level-init
loop-level-init g c =
    let G : List KeyedRule = c.args.grammar.now.rules in
    let lv : List Level = g.W.Way.levels c.args.way G in
    let K = c.limit-limit.ensures.keyed in
    let s = first-level G lv c.requires.chain.0 c.requires.chain.1 in
    let k = c.first_key-start.ensures.key s.0 s.1 s.2 in
    record {
      ready = c.first_key-start.ensures.ready;
      rules = subst (λ (ls : List Level). AreOfRules G ls) (sym k.1) (levels-in G lv c.requires.chain.0 s.0 s.1 K.grammar c.requires.chain.1 s.2);
      sum = omega (arith, ap (weight_of length G) k.1, ap (λ (ls : List Level). room_along G ls) s.2);
      steps = omega (arith, c.first_key-start.ensures.steps);
    }

pub body_length-nodes-requires : goal.body_length-nodes-requires
body_length-nodes-requires g c =
    let G : List KeyedRule = c.args.grammar.now.rules in
    (subst (λ (ls : List Level). AreOfRules G ls) c.in-Some.ensures.levels c.loop-level.invariant.rules).0

pub overflow_add-nodes : goal.overflow_add-nodes
overflow_add-nodes g c =
    let G : List KeyedRule = c.args.grammar.now.rules in
    let K = c.limit-limit.ensures.keyed in
    let L : IsLawful G = record { grammar = K.grammar; arities = K.arities } in
    let e : g.W.Way.levels c.loop-level.way G ≡ c.in-Some.level ∷ g.W.Way.levels c.next.new.self G = c.in-Some.ensures.levels in
    omega (
      arith,
      c.loop-level.invariant.sum,
      ap (weight_of length G) e,
      length-body G c.in-Some.level.rule,
      c.body_length-nodes.ensures.value,
      room-few G (g.W.Way.levels c.args.way G) c.requires.chain.0 L c.requires.chain.1,
      K.few,
    )

pub loop-level-preserved : goal.loop-level-preserved
loop-level-preserved g c =
    let G : List KeyedRule = c.args.grammar.now.rules in
    let e : g.W.Way.levels c.loop-level.way G ≡ c.in-Some.level ∷ g.W.Way.levels c.next.new.self G = c.in-Some.ensures.levels in
    record {
      ready = c.next.ensures.ready;
      rules = (subst (λ (ls : List Level). AreOfRules G ls) e c.loop-level.invariant.rules).1;
      sum = omega (arith, c.loop-level.invariant.sum, ap (weight_of length G) e, length-body G c.in-Some.level.rule, c.body_length-nodes.ensures.value);
      steps = omega (arith, c.loop-level.invariant.steps, c.next.ensures.steps, c.body_length-nodes.ensures.steps);
    }

pub returns-clause-value : goal.returns-clause-value
returns-clause-value g c =
    let G : List KeyedRule = c.args.grammar.now.rules in
    omega (arith, c.loop-level.invariant.sum, ap (weight_of length G) c.in_default.ensures.levels.0)

pub returns-clause-steps : goal.returns-clause-steps
returns-clause-steps g c = omega (arith, c.loop-level.invariant.steps, c.next.ensures.steps)
