use Rattle.std.proofs.Common.{◌-◌, ℕ, length, ap, sym, subst, arith}
use Rattle.slt_grammar.specs.Grammars.{size, value_at}
use Rattle.slt_grammar.specs.Keyed.{Keyed, rules_of}
use Rattle.slt_grammar.specs.RuleValues.{HasRuleMore}
use Rattle.segment_counts.specs.Changes.{IsWeighed}
use Rattle.tree_updates.proofs.NodeExtents.{extent-fits, extent-low}
use Rattle.tree_updates.proofs.UncountedCopies.{whole-uncounted}
use Rattle.tree_updates.specs.Fronts.{IsSameBeforeFirst}
use Rattle.tree_updates.proofs.copying.put_whole.Goals as goal

pub wrap_shared-requires-clause-body : goal.wrap_shared-requires-clause-body
wrap_shared-requires-clause-body g c = (c.args.spot.now.symbol, c.requires.body)

pub insert_leaf-requires-clause-few : goal.insert_leaf-requires-clause-few
insert_leaf-requires-clause-few g c =
    let r = c.requires.store in
    let M = r.2 in
    omega (arith, r.1.small, M.extent.nodes, extent-fits r.0 c.args.number (extent-low r.0 c.args.number c.args.extent M.extent) M.extent.here M.extent.behind M.extent.from_is)

pub count_copy-requires-clause-store : goal.count_copy-requires-clause-store
count_copy-requires-clause-store g c =
    let a = c.args.store.now in
    let r = c.requires.store in
    let n = c.args.number in
    let s = c.args.spot.now in
    let x = c.args.extent in
    let X = c.wrap_shared.ensures.value a.names n s.symbol c.requires.spot c.requires.body in
    let same = ap (λ (k : ℕ). k - 1) c.rules-rule.ensures.value in (
      r.0,
      whole-uncounted a r.0 r.1 n x r.2 s c.requires.spot c.wrap_shared.new.grammar c.wrap_shared.new.index c.wrap_shared.ensures.index (length a.grammar.rules - 1) X c.requires.some c.insert_leaf.new.self
          (λ w.
          c.insert_leaf.ensures.counts a.names (rules_of a.grammar.rules) X.shared r.1.counts (subst (λ (k : ℕ). HasRuleMore k (rules_of a.grammar.rules) X.shared) (sym same) X.more)
          (subst (λ (k : ℕ). IsWeighed a.names (value_at X.shared k) (x.nodes - 1) x.texts) (sym same) w)),
    )

pub returns-clause-store : goal.returns-clause-store
returns-clause-store g c = λ t u M.
    let a = c.args.store.now in
    let n = c.args.number in
    let s = c.args.spot.now in
    let x = c.args.extent in
    let X = c.wrap_shared.ensures.value a.names n s.symbol c.requires.spot c.requires.body in
    let same = ap (λ (k : ℕ). k - 1) c.rules-rule.ensures.value in
    c.count_copy.ensures.store t
    (whole-uncounted a t u n x M s c.requires.spot c.wrap_shared.new.grammar c.wrap_shared.new.index c.wrap_shared.ensures.index (length a.grammar.rules - 1) X c.requires.some c.insert_leaf.new.self
    (λ w.
    c.insert_leaf.ensures.counts a.names (rules_of a.grammar.rules) X.shared u.counts (subst (λ (k : ℕ). HasRuleMore k (rules_of a.grammar.rules) X.shared) (sym same) X.more)
    (subst (λ (k : ℕ). IsWeighed a.names (value_at X.shared k) (x.nodes - 1) x.texts) (sym same) w)))

pub returns-clause-size : goal.returns-clause-size
returns-clause-size g c = omega (arith, c.wrap_shared.ensures.size, ap (λ (k : Keyed). size (rules_of k.rules)) c.count_copy.ensures.grammar)

pub returns-clause-front : goal.returns-clause-front
returns-clause-front g c =
    subst (λ (k : Keyed). IsSameBeforeFirst c.args.spot.now.levels.items c.args.store.now.grammar.rules k.rules) (sym c.count_copy.ensures.grammar) c.wrap_shared.ensures.front
