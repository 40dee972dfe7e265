-- Stores of documents, and what an edit makes of one.
use Rattle.std.specs.Prelude.{◌≡◌, ◌⊎◌, ℕ, ◌+◌, ◌*◌, ◌<◌, ◌≤◌, ◌^◌, List, take, Some, Result, MatchResult}
use Rattle.plain_tree.specs.declared.edit.Edit.{Edit}
use Rattle.plain_tree.specs.Additions.{added, new_pairs}
use Rattle.plain_tree.specs.Allowed.{IsAllowed}
use Rattle.plain_tree.specs.Edits.{edited, merged, number_of}
use Rattle.plain_tree.specs.NodePairs.{Pair}
use Rattle.plain_tree.specs.Tree.{Tree, node_count}
use Rattle.slt_grammar.specs.Grammars.{size, IsSwept}
use Rattle.slt_grammar.specs.Keyed.{rules_of}
use Rattle.slt_grammar.specs.Ranks.{greatest_rank}
use Rattle.slt_grammar.specs.Standing.{StandsFor}
use Rattle.digram_index.specs.Linked.{IsIndexOf}
use Rattle.fcns_encoding.specs.Interning.{Interns}
use Rattle.segment_counts.specs.Counting.{AreCounts}
use Rattle.preorder_address.specs.Marks.{AreMarks}
use Rattle.preorder_address.specs.TreeNumbers.{kind_at}
use Rattle.tree_updates.specs.declared.store.Store.{Store}
use Rattle.tree_updates.specs.declared.store.EditError.{EditError}
use Rattle.tree_updates.specs.declared.store.EditError.TheVariants as error

-- The store's grammar, names and texts stand for the document, which has fewer than 2^63 nodes. Each rule but the start is called, and the
-- counts and the index are those of the grammar.
pub record IsStoreFor (s : Store) (t : Tree) : Type 0 where
  pub stand : StandsFor (rules_of s.grammar.rules) s.names s.texts.texts t
  pub small : node_count t < 2 ^ 63
  pub swept : IsSwept (rules_of s.grammar.rules)
  pub counts : AreCounts s.names (rules_of s.grammar.rules) s.counts
  pub index : IsIndexOf s.grammar s.index

-- the store's marks are marks of its start
abbrev pub HasMarks : Store → Type 0
HasMarks s = AreMarks s.names s.grammar.rules s.marks

-- The store for a document became one for the edited document. Its names grew by those that the edit brings, and its grammar by no more than
-- twice what it was, once more for each text that was merged, and what the edit adds. No rule has a rank that is greater than all there were.
pub record IsEdited (t : Tree) (e : Edit) (old new : Store) : Type 0 where
  pub allowed : IsAllowed t e
  pub store : IsStoreFor new (edited t e)
  pub names : Interns old.names (new_pairs t e) new.names
  pub size : size (rules_of new.grammar.rules) ≤ (2 + merged t e) * size (rules_of old.grammar.rules) + added e
  pub ranks : greatest_rank (rules_of new.grammar.rules) ≤ greatest_rank (rules_of old.grammar.rules)

-- why the document is not edited
abbrev pub IsRefusedFor : EditError → Tree → Edit → Type 0
IsRefusedFor (error.NoNode count) t e = (count ≡ node_count t) × (node_count t ≤ number_of e)
IsRefusedFor (error.NotAllowed kind) t e = (kind_at t (number_of e) ≡ Some kind) × (IsAllowed t e → ⊥)
IsRefusedFor error.TooMany t e = IsAllowed t e × (2 ^ 63 ≤ node_count (edited t e))
IsRefusedFor error.Memory t e = Unit {0}

-- what becomes of the names then: where memory was wanting and the edit is allowed, some first ones of those that it brings may have come
abbrev pub NamesAfter : EditError → Tree → Edit → List Pair → List Pair → Type 0
NamesAfter error.Memory t e old new = (new ≡ old) ⊎ (IsAllowed t e × ((k : ℕ) × Interns old (take k (new_pairs t e)) new))
NamesAfter error t e old new = new ≡ old

-- the edit is refused for this cause: the store stands for the document as before, under the same rules
pub record IsRefused (t : Tree) (e : Edit) (error : EditError) (old new : Store) : Type 0 where
  pub cause : IsRefusedFor error t e
  pub store : IsStoreFor new t
  pub rules : rules_of new.grammar.rules ≡ rules_of old.grammar.rules
  pub texts : new.texts.texts ≡ old.texts.texts
  pub names : NamesAfter error t e old.names new.names

-- an edit of the document was made, or it is refused
abbrev pub Applies : Tree → Edit → Store → Result (Unit {0}) EditError → Store → Type 0
Applies t e old result new = MatchResult result (λ _. IsEdited t e old new) (λ error. IsRefused t e error old new)
