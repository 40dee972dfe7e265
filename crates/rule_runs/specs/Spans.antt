-- Parts of lists.
use Rattle.std.specs.Prelude.{ℕ, ◌≤◌}
use Rattle.rule_runs.specs.declared.span.Span.{Span}

-- a part stands among so many items
abbrev pub LiesWithin : ℕ → Span → Type 0
LiesWithin count span = (span.begin ≤ span.end) × (span.end ≤ count)
