-- What an edit of all nodes that a selector hits makes of a store.
use Rattle.std.specs.Prelude.{◌≡◌, ◌≤◌, ◌⊎◌, ℕ, List, take, Result, MatchResult}
use Rattle.plain_tree.specs.NodePairs.{Pair}
use Rattle.plain_tree.specs.Tree.{Tree}
use Rattle.slt_grammar.specs.Automata.{hits}
use Rattle.slt_grammar.specs.Grammars.{value}
use Rattle.slt_grammar.specs.Keyed.{rules_of}
use Rattle.slt_grammar.specs.Ranks.{greatest_rank}
use Rattle.fcns_encoding.specs.Interning.{Interns}
use Rattle.selecting_automaton.specs.Words.{Selection, word_algebra, word_downward}
use Rattle.bulk_rewrite.specs.declared.renaming_all.BulkError.{BulkError}
use Rattle.bulk_rewrite.specs.declared.renaming_all.BulkError.TheVariants.{NotAllowed, Memory}
use Rattle.tree_updates.specs.Stores.{IsStoreFor}
use Rattle.tree_updates.specs.declared.store.Store.{Store}
use Rattle.store_core.specs.BulkEditing.{BulkEdit, AreFewFor, MayEditAll, edited_all, pairs_brought}

-- the numbers of the nodes that the selector hits
abbrev pub hits_in : Selection → Store → List ℕ
hits_in selector s = hits (word_algebra selector) (word_downward selector) (value (rules_of s.grammar.rules))

-- The store for a document became one for the document with the edit of all these nodes. Its names grew by those that the edit brings, its
-- rules are as few as the edit's run makes, and none has a rank that is greater than all there were.
pub record IsEditedAll (edit : BulkEdit) (selector : Selection) (t : Tree) (old new : Store) : Type 0 where
  pub allowed : MayEditAll edit (hits_in selector old) t
  pub store : IsStoreFor new (edited_all edit (hits_in selector old) t)
  pub names : Interns old.names (pairs_brought edit (hits_in selector old) t) new.names
  pub few : AreFewFor edit selector old.names (rules_of old.grammar.rules) (rules_of new.grammar.rules)
  pub ranks : greatest_rank (rules_of new.grammar.rules) ≤ greatest_rank (rules_of old.grammar.rules)

-- Why the edit is not made, and what becomes of the names then: where memory was wanting they are as before, or the edit may be made and some
-- first ones of those that it brings have come.
abbrev pub IsRefusedForAll : BulkError → BulkEdit → List ℕ → Tree → List Pair → List Pair → Type 0
IsRefusedForAll NotAllowed edit numbers t old new = (MayEditAll edit numbers t → ⊥) × (new ≡ old)
IsRefusedForAll Memory edit numbers t old new = (new ≡ old) ⊎ (MayEditAll edit numbers t × ((k : ℕ) × Interns old (take k (pairs_brought edit numbers t)) new))

-- the store stands for the document as before, under the same rules
pub record IsLeftByAll (edit : BulkEdit) (selector : Selection) (t : Tree) (error : BulkError) (old new : Store) : Type 0 where
  pub cause : IsRefusedForAll error edit (hits_in selector old) t old.names new.names
  pub store : IsStoreFor new t
  pub rules : rules_of new.grammar.rules ≡ rules_of old.grammar.rules
  pub texts : new.texts.texts ≡ old.texts.texts

-- the edit was made of all nodes that the selector hits, or it is refused
abbrev pub AppliesToAll : BulkEdit → Selection → Tree → Store → Result (Unit {0}) BulkError → Store → Type 0
AppliesToAll edit selector t old result new = MatchResult result (λ _. IsEditedAll edit selector t old new) (λ error. IsLeftByAll edit selector t error old new)
