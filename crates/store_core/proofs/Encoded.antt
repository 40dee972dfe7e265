-- A document's rules, settled, and a store that takes them over.
use Rattle.std.proofs.Common.{◌≡◌, ℕ, List, sym, subst}
use Rattle.std.specs.Prelude.{Result, Ok, Err, OnOk, OnErr}
use Rattle.plain_tree.specs.Tree.{Tree, none, more}
use Rattle.slt_grammar.specs.Terms.{Term}
use Rattle.slt_grammar.specs.Coding.{Codes}
use Rattle.slt_grammar.specs.Grammars.{IsSwept, value}
use Rattle.slt_grammar.specs.Keyed.{rules_of}
use Rattle.slt_grammar.specs.Standing.{StandsFor}
use Rattle.slt_grammar.specs.declared.rules.Rule.{Rule}
use Rattle.fcns_encoding.specs.Interning.{Pair}
use Rattle.tree_updates.specs.Stores.{IsStoreFor}
use Rattle.tree_updates.specs.declared.store.Store.{Store}
use Rattle.store_core.specs.StoreOf.{IsCounted, parts_of}
use Rattle.store_core.specs.Worlds.{Parts, PartsStandFor, with_rules}

-- rules of the same value stand for the same document
pub stands-same : (G H : List Rule) (names : List Pair) (values : List (List ℕ)) (t : Tree) → value H ≡ value G → StandsFor G names values t → StandsFor H names values t
stands-same G H names values t same stands = record {
  document = stands.document;
  distinct = stands.distinct;
  lawful = stands.lawful;
  code = subst (λ (term : Term). Codes names (more t none) term) (sym same) stands.code;
  texts = stands.texts;
}

-- a store that holds them is one for the same document
pub store-with : (old new : Store) (t : Tree) (H : List Rule) → IsStoreFor old t → value H ≡ value (rules_of old.grammar.rules) → IsSwept H → parts_of new ≡ with_rules (parts_of old) H → IsCounted new → IsStoreFor new t
store-with old new t H i same swept parts counted = record {
  stand = subst (λ (p : Parts). PartsStandFor p t) (sym parts) (stands-same (rules_of old.grammar.rules) H old.names old.texts.texts t same i.stand);
  small = i.small;
  swept = subst (λ (p : Parts). IsSwept p.rules) (sym parts) swept;
  counts = counted.counts;
  index = counted.index;
}

-- what is the case whether there was memory or not
pub either-way : {E P Q R : Type 0} (result : Result (Unit {0}) E) → OnOk result P → OnErr result Q → (P → R) → (Q → R) → R
either-way (Ok done) ok err f g = f ok
either-way (Err e) ok err f g = g err
