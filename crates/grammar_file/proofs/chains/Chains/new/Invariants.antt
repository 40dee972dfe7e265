use Rattle.std.proofs.Common.{◌≡◌, ◌-◌, ◌++◌, length, drop}
use Rattle.grammar_file.specs.Chains.{kinds_of}
use Rattle.grammar_file.proofs.chains.Chains.new.Given as goal

abbrev pub invariant-names : goal.invariant-names
invariant-names l = l.kinds.items ++ kinds_of (drop l.place l.names) ≡ kinds_of l.names

abbrev pub decreases-names : goal.decreases-names
decreases-names l = length l.names - l.place
