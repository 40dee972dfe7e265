use Rattle.std.proofs.Common.{List, [], IsTrue, subst, sym, arith}
use Rattle.slt_grammar.specs.Keyed.{KeyedRule}
use Rattle.start_fronts.proofs.Renumbered.{keeps-dropping}
use Rattle.start_fronts.specs.Before.{KeepsBefore}
use Rattle.rule_arena.specs.declared.key.Key.{Key}
use Rattle.digram_index.specs.Linked.{is_marked}
use Rattle.digram_index.specs.Building.{IsNumberIn}
use Rattle.digram_index.proofs.KeptRules.{drop-kept, drop-lacks, unlinked-but}
use Rattle.digram_index.proofs.Marks.{all-none, keeps-by}
use Rattle.digram_index.proofs.Numbered.{less-behind, rules-less}
use Rattle.digram_index.proofs.dropping.drop_linked.Goals as goal

pub remove_rule-requires-clause-there : goal.remove_rule-requires-clause-there
remove_rule-requires-clause-there c = omega (arith, c.requires.there, c.requires.index.rules, c.unlink_nodes.ensures.rules)

pub remove_rule-requires-clause-lacks : goal.remove_rule-requires-clause-lacks
remove_rule-requires-clause-lacks c =
    let U = c.unlink_nodes.ensures in
    drop-lacks c.args.grammar.now c.args.rule c.requires.uncalled c.unlink_nodes.new.index (IsNumberIn c.args.grammar.now.rules c.args.rule)
    (unlinked-but c.args.grammar.now c.args.rule c.args.index.now c.unlink_nodes.new.index c.requires.index U.rules U.free U.others)

pub returns-clause-index : goal.returns-clause-index
returns-clause-index c =
    let U = c.unlink_nodes.ensures in
    let R = c.remove_rule.ensures in
    drop-kept c.args.grammar.now c.drop_rule.new.self c.limit-limit.ensures.keyed c.args.rule (omega (arith, c.requires.there)) c.requires.uncalled c.drop_rule.ensures.rules c.unlink_nodes.new.index c.remove_rule.new.self
    (unlinked-but c.args.grammar.now c.args.rule c.args.index.now c.unlink_nodes.new.index c.requires.index U.rules U.free U.others) R.rules R.cells

pub returns-clause-marks : goal.returns-clause-marks
returns-clause-marks c =
    keeps-by [] c.args.grammar.now.rules c.drop_rule.new.self.rules c.args.index.now c.remove_rule.new.self
    (subst (λ (H : List KeyedRule). KeepsBefore [] c.args.grammar.now.rules H) (sym c.drop_rule.ensures.rules) (keeps-dropping c.args.grammar.now c.limit-limit.ensures.keyed c.args.rule c.requires.there c.requires.uncalled))
    (λ k m. c.unlink_nodes.ensures.marks.fewer k (c.remove_rule.ensures.marks k m)) (all-none (λ (k : Key). IsTrue (is_marked c.remove_rule.new.self k.number) → ⊥))
    (rules-less c.args.rule c.args.grammar.now.rules c.drop_rule.new.self.rules c.args.index.now c.remove_rule.new.self c.drop_rule.ensures.values
    (less-behind c.args.rule c.args.index.now c.unlink_nodes.new.index c.remove_rule.new.self c.unlink_nodes.ensures.marks c.remove_rule.ensures.numbers))
