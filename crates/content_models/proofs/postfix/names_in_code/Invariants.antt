use Rattle.std.proofs.Common.{◌≡◌, ◌≤◌, ◌+◌, drop}
use Rattle.content_models.specs.Postfix.{names_in_code}
use Rattle.content_models.proofs.postfix.names_in_code.Given as goal

abbrev pub invariant-ops : goal.invariant-ops
invariant-ops l = (l.count + names_in_code (drop l.op-index l.code) ≡ names_in_code l.code) × (l.count ≤ l.op-index)
