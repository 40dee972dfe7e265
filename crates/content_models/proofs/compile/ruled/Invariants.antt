use Rattle.std.proofs.Common.{◌≡◌, drop, map}
use Rattle.content_models.specs.Compiled.{ruled_from}
use Rattle.content_models.specs.Rules.{rule_of}
use Rattle.content_models.proofs.compile.ruled.Given as goal

abbrev pub invariant-models : goal.invariant-models
invariant-models l = ruled_from l.model (map rule_of (drop l.model l.declarations)) l.name ≡ ruled_from 0 (map rule_of l.declarations) l.name
