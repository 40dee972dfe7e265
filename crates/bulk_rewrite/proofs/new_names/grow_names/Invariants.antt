use Rattle.std.proofs.Common.{◌+◌, ◌*◌, ◌≤◌}
use Rattle.plain_tree.specs.Tree.{Tree, none, more}
use Rattle.slt_grammar.specs.Automata.{hits}
use Rattle.slt_grammar.specs.Coding.{Codes}
use Rattle.slt_grammar.specs.Grammars.{value}
use Rattle.slt_grammar.specs.Keyed.{rules_of}
use Rattle.bulk_rewrite.specs.RenamedAll.{MayRename, renamed_pairs}
use Rattle.bulk_rewrite.proofs.FewReads.{nodes_met}
use Rattle.bulk_rewrite.proofs.GrowingNames.{HasGrown}
use Rattle.bulk_rewrite.proofs.LackingKinds.{lack_count, named_lacks}
use Rattle.bulk_rewrite.proofs.new_names.grow_names.Given as goal

abbrev pub decreases-kinds : goal.decreases-kinds
decreases-kinds g l = lack_count l.names l.name

abbrev pub invariant-kinds : goal.invariant-kinds
invariant-kinds g l =
    let v = value (rules_of l.grammar.rules) in
    let hit = hits (g.A.Rising.algebra l.automaton) (g.A.Falling.downward l.automaton) v in
    let each = 2 * nodes_met (rules_of l.grammar.rules) l.risen.known in
    record {
      grown : (t : Tree) → Codes l.fn.names (more t none) v → HasGrown l.fn.names (renamed_pairs hit l.name t) l.names;
      paid : (t : Tree) → Codes l.fn.names (more t none) v → MayRename hit l.name t → l.steps + named_lacks l.names l.name * each ≤ l.fn.steps + 3 * each;
      counted : l.fn.steps ≤ l.steps;
    }
