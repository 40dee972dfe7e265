-- The words of the arena that this crate passes on.
use Rattle.rule_arena.specs.declared.label.Label.{Label as ArenaLabel}
pub use Rattle.rule_arena.specs.declared.label.Label.TheVariants.{Bottom, Symbol, Call, Param}

abbrev pub NodeLabel : Type 0
NodeLabel = ArenaLabel
