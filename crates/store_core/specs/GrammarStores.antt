-- Stores that are made of grammar files.
use Rattle.std.specs.Prelude.{◌<◌, ◌^◌, ℕ, List}
use Rattle.plain_tree.specs.Tree.{Tree, node_count}
use Rattle.store_core.specs.GrammarFiles.{IsFileOfDocument, IsNoFile, IsFileOfMany}
use Rattle.store_core.specs.StoreOf.{IsCounted, parts_of}
use Rattle.store_core.specs.declared.answer.Refusal.{Refusal}
use Rattle.store_core.specs.declared.answer.Refusal.TheVariants as no
use Rattle.tree_updates.specs.declared.store.Store.{Store}

-- the bytes are the store's file, and its document has fewer than 2^63 nodes
pub record IsStoreOf (bytes : List ℕ) (s : Store) : Type 0 where
  pub tree : Tree
  pub file : IsFileOfDocument bytes (parts_of s) tree
  pub small : node_count tree < 2 ^ 63
  pub counted : IsCounted s

-- why no store is made of them
abbrev pub IsNoStore : Refusal → List ℕ → Type 0
IsNoStore no.BadGrammar bytes = IsNoFile bytes
IsNoStore no.TooMany bytes = IsFileOfMany bytes
IsNoStore no.Memory bytes = Unit {0}
IsNoStore _ bytes = ⊥
