-- How a pattern is kept in twenty-four bytes.
use Rattle.std.specs.Prelude.{◌<◌, ℕ}
use Rattle.digram_index.specs.declared.patterns.Mark.{Mark}
use Rattle.digram_index.specs.declared.patterns.Mark.TheVariants.{Bottom, Symbol, Call, Param}
use Rattle.digram_index.specs.declared.patterns.Pattern.{Pattern}
use Rattle.digram_index.specs.declared.packed_pattern.MarkKind.{MarkKind}
use Rattle.digram_index.specs.declared.packed_pattern.MarkKind.TheVariants.{Bottom as BottomKind, Symbol as SymbolKind, Call as CallKind, Param as ParamKind}

-- a mark from its kind and its number
abbrev pub mark_from : MarkKind → ℕ → Mark
mark_from BottomKind n = Bottom
mark_from SymbolKind n = Symbol n
mark_from CallKind n = Call n
mark_from ParamKind n = Param

-- a pattern whose place and rank have a byte each
pub record IsNarrow (p : Pattern) : Type 0 where
  pub place : p.place < 256
  pub rank : p.rank < 256
