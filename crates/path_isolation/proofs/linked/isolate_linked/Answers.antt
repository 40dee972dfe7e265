use Rattle.std.proofs.Common.{◌≡◌, ◌∷◌, ◌+◌, ℕ, List, length, refl, sym, ap, ◌∙◌, subst, arith}
use Rattle.rule_arena.specs.declared.key.Key.{Key}
use Rattle.slt_grammar.specs.Holding.{IsLawful}
use Rattle.slt_grammar.specs.Keyed.{KeyedRule, nodes_at}
use Rattle.slt_grammar.specs.Ways.{HaveSameRules}
use Rattle.slt_grammar.specs.declared.level.Level.{Level}
use Rattle.start_fronts.specs.Isolating.{KeepsButFirst}
use Rattle.start_fronts.proofs.Isolated.{begins}
use Rattle.path_isolation.specs.Chains.{IsChain, weight_of}
use Rattle.path_isolation.specs.Isolations.{Walk, room_along}
use Rattle.path_isolation.proofs.ChainLemmas.{as-before, weight-same}
use Rattle.path_isolation.proofs.Walks.{walk-begin, walk-end, walk-front, first-level, isolated-size, restated-values, length-body}
use Rattle.path_isolation.proofs.linked.isolate_linked.Goals as goal

pub loop-level-init : goal.loop-level-init
loop-level-init g c =
    let G : List KeyedRule = c.args.grammar.now.rules in
    let lv : List Level = g.W.Way.levels c.args.way G in
    let rest : List Level = g.W.Way.levels c.first_key-here.new.way G in
    let K = c.limit-limit.ensures.keyed in
    let L : IsLawful G = record { grammar = K.grammar; arities = K.arities } in
    let s = first-level G lv c.requires.chain.0 c.requires.chain.1 in
    let k = c.first_key-here.ensures.key s.0 s.1 s.2 in
    let w : (ps : List ℕ) → IsChain G lv ps → Walk G lv ps G c.first_key-here.result rest =
    λ ps h. walk-begin G lv s.0 s.1 rest c.first_key-here.result ps L s.2 k.0 k.1 h in
    record {
      ready = c.first_key-here.ensures.ready;
      walk = w;
      before = λ x xs e. subst (λ (k : Key). KeepsButFirst G G x.key k) (sym (c.first_key-here.ensures.key x xs e).0) (begins G x.key);
      spare = omega (arith, ap (weight_of length G) k.1, ap (λ (ls : List Level). room_along G ls) s.2);
      index = c.requires.index;
      links = omega (arith, ap (weight_of length G) k.1, ap (λ (ls : List Level). room_along G ls) s.2);
      numbers = refl;
      cells = omega arith;
      limit = refl;
      spare_rules = refl;
      steps = c.first_key-here.ensures.steps;
    }

pub loop-level-preserved : goal.loop-level-preserved
loop-level-preserved g c =
    let G : List KeyedRule = c.args.grammar.now.rules in
    let lv : List Level = g.W.Way.levels c.args.way G in
    let H : List KeyedRule = c.loop-level.grammar.rules in
    let K : List KeyedRule = c.follow_linked-here.new.grammar.rules in
    let rest : List Level = g.W.Way.levels c.next.new.self H in
    let e : g.W.Way.levels c.loop-level.way H ≡ c.in-Some.level ∷ rest = c.in-Some.ensures.levels in
    let before : (ps : List ℕ) → IsChain G lv ps → Walk G lv ps H c.loop-level.here (c.in-Some.level ∷ rest) =
    λ ps h. subst (λ ls. Walk G lv ps H c.loop-level.here ls) e (c.loop-level.invariant.walk ps h) in
    let qs = c.requires.chain.0 in
    let kept : HaveSameRules rest H K = c.follow_linked-here.ensures.kept G lv qs rest (before qs c.requires.chain.1) in
    let same = g.met.W.Way.levels_stay c.next.new.self H K c.next.ensures.ready kept in
    let most = g.met.W.Way.most_stays c.next.new.self H K c.next.ensures.ready kept in
    let now : List Level = g.W.Way.levels c.next.new.self K in
    let weights : weight_of length K now ≡ weight_of length H rest = ap (weight_of length K) same ∙ weight-same length H K rest (as-before H K rest kept) in
    let spent : weight_of length H (g.W.Way.levels c.loop-level.way H) ≡ length (nodes_at H c.in-Some.level.rule) + weight_of length H rest =
    omega (arith, ap (weight_of length H) e, length-body H c.in-Some.level.rule) in
    record {
      ready = g.met.W.Way.ready_stays c.next.new.self H K c.next.ensures.ready kept;
      walk = λ ps h. subst (λ ls. Walk G lv ps K c.follow_linked-here.result ls) (sym same) (c.follow_linked-here.ensures.walk G lv ps rest (before ps h));
      before = λ x xs e. c.follow_linked-here.ensures.before G x.key (c.loop-level.invariant.before x xs e);
      spare = omega (arith, weights, spent, c.loop-level.invariant.spare, c.follow_linked-here.ensures.spare_nodes);
      index = c.follow_linked-here.ensures.index;
      links = omega (arith, weights, spent, c.loop-level.invariant.links, c.follow_linked-here.ensures.links);
      numbers = c.follow_linked-here.ensures.numbers ∙ c.loop-level.invariant.numbers;
      cells = omega (arith, c.loop-level.invariant.cells, c.follow_linked-here.ensures.cells);
      limit = c.follow_linked-here.ensures.limit ∙ c.loop-level.invariant.limit;
      spare_rules = c.follow_linked-here.ensures.spare_rules ∙ c.loop-level.invariant.spare_rules;
      steps = omega (arith, most, c.next.ensures.steps, c.loop-level.invariant.steps);
    }

pub follow_linked-here-requires-clause-room : goal.follow_linked-here-requires-clause-room
follow_linked-here-requires-clause-room g c =
    let G : List KeyedRule = c.args.grammar.now.rules in
    let H : List KeyedRule = c.loop-level.grammar.rules in
    let rest : List Level = g.W.Way.levels c.next.new.self H in
    let e : g.W.Way.levels c.loop-level.way H ≡ c.in-Some.level ∷ rest = c.in-Some.ensures.levels in
    omega (arith, ap (weight_of length H) e, length-body H c.in-Some.level.rule, c.loop-level.invariant.spare, c.requires.room)

pub returns-clause-values : goal.returns-clause-values
returns-clause-values g c =
    let G : List KeyedRule = c.args.grammar.now.rules in
    let w = c.loop-level.invariant.walk c.requires.chain.0 c.requires.chain.1 in
    restated-values G c.loop-level.grammar.rules w.restated

pub returns-clause-node : goal.returns-clause-node
returns-clause-node g c = λ ps h.
    let G : List KeyedRule = c.args.grammar.now.rules in
    let lv : List Level = g.W.Way.levels c.args.way G in
    let H : List KeyedRule = c.loop-level.grammar.rules in
    walk-end G lv ps H c.loop-level.here (subst (λ ls. Walk G lv ps H c.loop-level.here ls) c.in_default.ensures.levels.0 (c.loop-level.invariant.walk ps h))

pub returns-clause-most : goal.returns-clause-most
returns-clause-most g c =
    let G : List KeyedRule = c.args.grammar.now.rules in
    let lv : List Level = g.W.Way.levels c.args.way G in
    let H : List KeyedRule = c.loop-level.grammar.rules in
    let K = c.limit-limit.ensures.keyed in
    let L : IsLawful G = record { grammar = K.grammar; arities = K.arities } in
    let w = subst (λ ls. Walk G lv c.requires.chain.0 H c.loop-level.here ls) c.in_default.ensures.levels.0 (c.loop-level.invariant.walk c.requires.chain.0 c.requires.chain.1) in
    isolated-size G lv c.requires.chain.0 H c.loop-level.here L c.requires.chain.1 w

pub follow_linked-here-requires-clause-links : goal.follow_linked-here-requires-clause-links
follow_linked-here-requires-clause-links g c =
    let G : List KeyedRule = c.args.grammar.now.rules in
    let H : List KeyedRule = c.loop-level.grammar.rules in
    let rest : List Level = g.W.Way.levels c.next.new.self H in
    let e : g.W.Way.levels c.loop-level.way H ≡ c.in-Some.level ∷ rest = c.in-Some.ensures.levels in
    omega (arith, ap (weight_of length H) e, length-body H c.in-Some.level.rule, c.loop-level.invariant.links, c.requires.links)

pub returns-clause-front : goal.returns-clause-front
returns-clause-front g c = λ ps h.
    let G : List KeyedRule = c.args.grammar.now.rules in
    let lv : List Level = g.W.Way.levels c.args.way G in
    let H : List KeyedRule = c.loop-level.grammar.rules in
    walk-front G lv (g.W.Way.levels c.loop-level.way H) ps H c.loop-level.here (c.loop-level.invariant.walk ps h)

pub returns-clause-before : goal.returns-clause-before
returns-clause-before g c = λ l ls e. (c.loop-level.invariant.before l ls e).keeps
