use Rattle.std.proofs.Common.{◌≡◌, ◌⊎◌, ◌≤◌, ◌<◌, ◌+◌, ◌*◌, max, reverse, drop}
use Rattle.slt_grammar.specs.Bodies.{params, real_nodes}
use Rattle.slt_grammar.specs.Grammars.{size}
use Rattle.slt_grammar.specs.Ranks.{greatest_rank}
use Rattle.border_repair.specs.PartRanks.{IsTopBare}
use Rattle.border_repair.specs.Sizes.{free}
use Rattle.border_repair.proofs.Suffixes.{IsReading}
use Rattle.border_repair.proofs.cutting.Cutter.cut.Given as goal

abbrev pub invariant-labels : goal.invariant-labels
invariant-labels l = record {
  reading : IsReading l.digram l.initial.rules l.body l.left l.rules (reverse l.self.marks.items) (reverse l.self.parts.items) (reverse l.self.args.items);
  parts : size l.rules + real_nodes l.self.parts.items ≤ size l.initial.rules + real_nodes (drop l.left l.body);
  any : real_nodes l.self.args.items + 3 * free (reverse l.self.marks.items) ≤ 3 * params (drop l.left l.body) + 3;
  ranks : greatest_rank l.rules ≤ max (params l.body) (greatest_rank l.initial.rules);
  held : (params l.self.parts.items ≤ params (drop l.left l.body)) ⊎ ((l.left ≡ 0) × IsTopBare (reverse l.self.marks.items));
  others : 0 < l.left → real_nodes l.self.args.items + 3 * free (reverse l.self.marks.items) ≤ 3 * params (drop l.left l.body);
}

abbrev pub decreases-labels : goal.decreases-labels
decreases-labels l = l.left
