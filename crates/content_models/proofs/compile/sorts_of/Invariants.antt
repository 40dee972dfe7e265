use Rattle.std.proofs.Common.{◌≡◌, take, map}
use Rattle.content_models.specs.Compiled.{sort_of}
use Rattle.content_models.specs.Rules.{rule_of}
use Rattle.content_models.proofs.compile.sorts_of.Given as goal

abbrev pub invariant-names : goal.invariant-names
invariant-names l = l.sorts.items ≡ map (λ pair. sort_of (map rule_of l.declarations) pair.0 pair.1) (take l.place l.names)
