-- The numbers of upper nodes.
use Rattle.std.specs.Prelude.{ℕ, List, map}
use Rattle.rule_arena.specs.declared.key.Key.{Key}

-- the numbers of these keys
abbrev pub numbers_of : List Key → List ℕ
numbers_of = map (λ k. k.number)
