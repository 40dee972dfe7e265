-- What is told of a node by its number.
use Rattle.std.specs.Prelude.{ℕ, Bool, true, false, Option, Some, option_map}
use Rattle.plain_tree.specs.declared.kind.Kind.{Kind}
use Rattle.plain_tree.specs.declared.kind.Kind.TheVariants.{Text}
use Rattle.plain_tree.specs.Places.{place_at}
use Rattle.plain_tree.specs.Tree.{Tree}

-- whether a node of this kind, if there is one, is a text
abbrev pub is_text : Option Kind → Bool
is_text (Some Text) = true
is_text kind = false

-- the kind of the node under which node n stands, if it stands under one
abbrev pub above_at : Tree → ℕ → Option (Option Kind)
above_at t n = option_map (λ p. p.above) (place_at t n)
