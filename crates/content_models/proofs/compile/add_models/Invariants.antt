use Rattle.std.proofs.Common.{◌≡◌, take, map, length}
use Rattle.content_models.specs.Compiled.{AddsAll}
use Rattle.content_models.specs.Rules.{rule_of}
use Rattle.content_models.specs.Ways.{to_end, way_of}
use Rattle.content_models.proofs.compile.add_models.Given as goal

abbrev pub invariant-models : goal.invariant-models
invariant-models l = record {
  fronts : l.fronts.items ≡ map (λ pair. way_of 0 pair.1 to_end) (map rule_of (take l.model l.declarations));
  added : AddsAll l.names (map rule_of (take l.model l.declarations)) l.initial.rows.items l.rows.items;
  rows : length l.rows.items ≡ length l.names;
}
