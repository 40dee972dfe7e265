use Rattle.std.proofs.Common.{arith}
use Rattle.rule_arena.specs.Terms.{Node}
use Rattle.rule_pruning.proofs.SavingLemmas.{root-tells}
use Rattle.rule_pruning.proofs.savings.has_nodes.Goals as goal

pub returns-then-saturating_sub-least : goal.returns-then-saturating_sub-least
returns-then-saturating_sub-least g c =
    let root : Node = record { key = c.root.result; label = c.site-kids.result.label; kids = c.site-kids.result.arity } in
    omega (
      arith,
      root-tells c.args.grammar.now c.limit-limit.ensures.keyed c.args.rule c.requires.there root (c.site-kids.ensures.node c.args.rule 0 c.root.ensures),
      c.rank.ensures,
      c.saturating_sub.ensures,
      c.if-saturating_sub-least.true,
      c.requires.least,
    )
