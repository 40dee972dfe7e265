use Rattle.std.proofs.Common.{◌≡◌, ◌≤◌, ◌+◌, ◌*◌, max, take, ◌++◌, List}
use Rattle.slt_grammar.specs.Grammars.{size}
use Rattle.slt_grammar.specs.Keyed.{rules_of}
use Rattle.slt_grammar.specs.Ranks.{greatest_rank}
use Rattle.slt_grammar.specs.declared.rules.Rule.{Rule}
use Rattle.border_repair.specs.Expanding.{IsExposing, AreClean}
use Rattle.border_repair.specs.Sizes.{AreSmall}
use Rattle.border_repair.proofs.replacing.add_exposed.Given as goal

abbrev pub invariant-rules : goal.invariant-rules
invariant-rules g l = record {
  exposing : IsExposing (rules_of l.grammar.rules) l.rule l.rules l.outsides.items;
  clean : AreClean l.digram l.rule l.rules l.outsides.items;
  small : AreSmall l.outsides.items;
  few : size l.rules ≤ size l.initial.rules + 28 * size (take l.rule (rules_of l.grammar.rules));
  ranks : greatest_rank l.rules ≤ max (max 1 (greatest_rank l.initial.rules)) (greatest_rank (rules_of l.grammar.rules));
  grown : (more : List Rule) × (l.rules ≡ l.initial.rules ++ more);
}
