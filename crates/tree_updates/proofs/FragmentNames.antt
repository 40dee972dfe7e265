-- Stores whose names grew by those of a fragment, or by some first ones of them.
use Rattle.std.proofs.Common.{◌≡◌, ℕ, zero, suc, List, [], ◌∷◌, take, Some, Result, Ok, Err}
use Rattle.std.specs.Prelude.{OnErr, OnOk, slice_get}
use Rattle.plain_tree.specs.NodePairs.{Pair}
use Rattle.plain_tree.specs.Tree.{Tree}
use Rattle.slt_grammar.specs.Grammars.{IsGrammar}
use Rattle.slt_grammar.specs.Keyed.{rules_of}
use Rattle.fcns_encoding.specs.Interning.{Interns}
use Rattle.fcns_encoding.specs.Laws.{AreLawful}
use Rattle.tree_updates.specs.Stores.{IsStoreFor}
use Rattle.tree_updates.specs.declared.store.Store.{Store}
use Rattle.tree_updates.proofs.GrownNames.{stands-grown}
use Rattle.tree_updates.proofs.RegrownNames.{counts-grown}

front-there : (k i : ℕ) (ps : List Pair) (p : Pair) → slice_get (take k ps) i ≡ Some p → slice_get ps i ≡ Some p
front-there zero i ps p e = absurd cc
front-there (suc k) i [] p e = absurd cc
front-there (suc k) zero (q ∷ ps) p e = e
front-there (suc k) (suc i) (q ∷ ps) p e = front-there k i ps p e

-- the pairs that came, whether all of them did or not
pub some-came : {X E : Type 0} (r : Result X E) (old pairs new : List Pair) → AreLawful pairs → OnOk r (Interns old pairs new) → OnErr r ((k : ℕ) × Interns old (take k pairs) new) → (ps : List Pair) × Interns old ps new × AreLawful ps
some-came (Ok x) old pairs new l a b = (pairs, a, l)
some-came (Err e) old pairs new l a b = (take b.0 pairs, b.1, λ i kind name e. l i kind name (front-there b.0 i pairs (kind, name) e))

pub grown-store : (s : Store) (t : Tree) → IsStoreFor s t → IsGrammar (rules_of s.grammar.rules) → (ps new : List Pair) → Interns s.names ps new → AreLawful ps
    → IsStoreFor (record { grammar = s.grammar; names = new; texts = s.texts; counts = s.counts; index = s.index; marks = s.marks }) t
grown-store s t i g ps new grown lawful = record {
  stand = stands-grown (rules_of s.grammar.rules) s.names ps new s.texts.texts t i.stand grown lawful;
  small = i.small;
  swept = i.swept;
  counts = counts-grown (rules_of s.grammar.rules) s.names ps new t s.counts g i.swept i.stand.code grown i.counts;
  index = i.index;
}
