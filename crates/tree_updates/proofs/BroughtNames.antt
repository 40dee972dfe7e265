-- Stores whose names have grown by those that an edit brings: what is true of them where the edit is refused, and where it is made.
use Rattle.std.proofs.Common.{◌≡◌, ℕ, zero, suc, ◌+◌, ◌*◌, ◌≤◌, List, [], ◌∷◌, length, take, refl, ap, inr, sym, subst, arith}
use Rattle.std.proofs.lemmas.List.{take_all}
use Rattle.std.proofs.lemmas.Nat.{mul-le}
use Rattle.plain_tree.specs.declared.edit.Edit.{Edit}
use Rattle.plain_tree.specs.Additions.{added, new_pairs}
use Rattle.plain_tree.specs.EditLaws.{IsEditOf}
use Rattle.plain_tree.specs.Edits.{edited, merged}
use Rattle.plain_tree.specs.NodePairs.{Pair}
use Rattle.plain_tree.specs.Tree.{Tree}
use Rattle.slt_grammar.specs.Grammars.{IsGrammar, size}
use Rattle.slt_grammar.specs.Keyed.{rules_of}
use Rattle.slt_grammar.specs.Ranks.{greatest_rank}
use Rattle.fcns_encoding.specs.Interning.{Interns}
use Rattle.fcns_encoding.specs.Laws.{AreLawful}
use Rattle.fcns_encoding.proofs.LawfulLemmas.{none-lawful, lawful-cons}
use Rattle.tree_updates.specs.Stores.{IsEdited, IsRefused, IsStoreFor}
use Rattle.tree_updates.specs.declared.store.EditError.TheVariants.{Memory}
use Rattle.tree_updates.specs.declared.store.Store.{Store}
use Rattle.tree_updates.proofs.GrownNames.{new-pairs-lawful}
use Rattle.tree_updates.proofs.GrownStores.{with-names}

lawful-take : (ps : List Pair) (k : ℕ) → AreLawful ps → AreLawful (take k ps)
lawful-take ps zero a = none-lawful
lawful-take [] (suc k) a = none-lawful
lawful-take (p ∷ ps) (suc k) a = lawful-cons p (take k ps) (a 0 p.0 p.1 refl) (lawful-take ps k (λ i. a (suc i)))

-- the store with other names
abbrev pub named : Store → List Pair → Store
named s names = record { grammar = s.grammar; names = names; texts = s.texts; counts = s.counts; index = s.index; marks = s.marks }

module _ (old : Store) (t : Tree) (i : IsStoreFor old t) (e : Edit) (edit : IsEditOf t e) (lawful : IsGrammar (rules_of old.grammar.rules)) where
  few-named : (k : ℕ) (names : List Pair) → Interns old.names (take k (new_pairs t e)) names → IsStoreFor (named old names) t
  few-named k names grown = with-names old t i (take k (new_pairs t e)) names grown (lawful-take (new_pairs t e) k (new-pairs-lawful t e edit)) lawful

  -- all of them have come
  pub all-named : (names : List Pair) → Interns old.names (new_pairs t e) names → IsStoreFor (named old names) t
  all-named names grown = with-names old t i (new_pairs t e) names grown (new-pairs-lawful t e edit) lawful

  -- memory was wanting once some first ones had come
  pub refused-named : (k : ℕ) (names : List Pair) → Interns old.names (take k (new_pairs t e)) names → IsRefused t e Memory old (named old names)
  refused-named k names grown = record { cause = tt; store = few-named k names grown; rules = refl; texts = refl; names = inr (edit.allowed, (k, grown)) }

  module _ (new : Store) (grown : Interns old.names (new_pairs t e) new.names) where
    -- or once all had
    pub refused-later : IsStoreFor new t → new.grammar.rules ≡ old.grammar.rules → new.texts.texts ≡ old.texts.texts → IsRefused t e Memory old new
    refused-later s rules texts = record {
      cause = tt;
      store = s;
      rules = ap rules_of rules;
      texts = texts;
      names = inr (edit.allowed, (length (new_pairs t e), subst (λ (ps : List Pair). Interns old.names ps new.names) (sym (take_all (length (new_pairs t e)) (new_pairs t e) (omega arith))) grown));
    }

    pub edited-named : IsStoreFor new (edited t e) → size (rules_of new.grammar.rules) ≤ 2 * size (rules_of old.grammar.rules) + added e
        → greatest_rank (rules_of new.grammar.rules) ≤ greatest_rank (rules_of old.grammar.rules) → IsEdited t e old new
    edited-named s few ranks = record {
      allowed = edit.allowed;
      store = s;
      names = grown;
      ranks = ranks;
      size =
          let S : ℕ = size (rules_of old.grammar.rules) in
          omega (arith, few, mul-le 2 S (2 + merged t e) S (omega arith) (omega arith));
    }
