-- What a store of the program holds.
use Rattle.slt_grammar.specs.Keyed.{rules_of}
use Rattle.digram_index.specs.Linked.{IsIndexOf}
use Rattle.segment_counts.specs.Counting.{AreCounts}
use Rattle.tree_updates.specs.Stores.{HasMarks}
use Rattle.tree_updates.specs.declared.store.Store.{Store}
use Rattle.store_core.specs.Worlds.{Parts, Held}
use Rattle.store_core.specs.declared.loaded.Loaded.{Loaded}

abbrev pub parts_of : Store → Parts
parts_of s = record { names = s.names; rules = rules_of s.grammar.rules; texts = s.texts.texts }

-- its counts are those of its rules and names, its index is its grammar's, and its marks are those of its start
pub record IsCounted (s : Store) : Type 0 where
  pub counts : AreCounts s.names (rules_of s.grammar.rules) s.counts
  pub index : IsIndexOf s.grammar s.index
  pub marks : HasMarks s

-- what a session holds of a document that is loaded
abbrev pub held_of : Loaded → Held
held_of loaded = record { parts = parts_of loaded.store; edits = loaded.edits }
