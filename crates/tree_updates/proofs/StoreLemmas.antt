-- Stores after an edit that is refused, or changes no count of nodes.
use Rattle.std.proofs.Common.{◌≡◌, ◌-◌, [], inl, refl, ap, sym, subst, arith, Option, Some, None}
use Rattle.std.specs.Prelude.{IsSome}
use Rattle.plain_tree.specs.declared.edit.Edit.{Edit}
use Rattle.plain_tree.specs.Tree.{Tree, none, more, node_count}
use Rattle.slt_grammar.specs.Grammars.{value, IsGrammar, IsSwept}
use Rattle.slt_grammar.specs.Keyed.{rules_of, Keyed}
use Rattle.slt_grammar.specs.Standing.{StandsFor}
use Rattle.digram_index.specs.Linked.{IsIndexOf}
use Rattle.segment_counts.specs.Counting.{AreCounts, told}
use Rattle.segment_counts.specs.declared.counts.Measure.TheVariants.{Nodes}
use Rattle.segment_counts.proofs.Coded.{nodes-coded}
use Rattle.segment_counts.proofs.Telling.{total-told}
use Rattle.tree_updates.specs.Stores.{IsRefused, IsRefusedFor, IsStoreFor, NamesAfter}
use Rattle.tree_updates.specs.declared.store.Store.{Store}
use Rattle.tree_updates.specs.declared.store.EditError.{EditError}
use Rattle.tree_updates.specs.declared.store.EditError.TheVariants.{NoNode, NotAllowed, TooMany, Memory}

-- an edit that is refused before it changes anything
pub refused-there : (t : Tree) (e : Edit) (cause : EditError) (s : Store) → IsRefusedFor cause t e → IsStoreFor s t → IsRefused t e cause s s
refused-there t e cause s c i = record { cause = c; store = i; rules = refl; texts = refl; names = names-same cause }
  where
    names-same : (cause : EditError) → NamesAfter cause t e s.names s.names
    names-same (NoNode count) = refl
    names-same (NotAllowed kind) = refl
    names-same TooMany = refl
    names-same Memory = inl refl

-- the counts tell how many nodes there are
pub total-is : (s : Store) (t : Tree) → IsStoreFor s t → IsGrammar (rules_of s.grammar.rules) → told Nodes s.counts.rows (s.counts.rules - 1) 0 ≡ node_count t
total-is s t i g =
    omega (
      arith,
      total-told s.names (rules_of s.grammar.rules) s.counts i.counts g Nodes,
      nodes-coded s.names (more t none) (value (rules_of s.grammar.rules)) i.stand.code [],
    )

-- memory was wanting, and nothing changed but the room of the texts
pub refused-texts : (t : Tree) (e : Edit) (old new : Store) → IsStoreFor old t → new.grammar ≡ old.grammar → new.names ≡ old.names → new.counts ≡ old.counts → new.index ≡ old.index → new.texts.texts ≡ old.texts.texts → IsRefused t e Memory old new
refused-texts t e old new i grammar names counts index texts = record {
  cause = tt;
  store = record {
    stand = subst (λ (g : Keyed). StandsFor (rules_of g.rules) new.names new.texts.texts t) (sym grammar)
        (subst (λ ps. StandsFor (rules_of old.grammar.rules) ps new.texts.texts t) (sym names) (subst (λ vs. StandsFor (rules_of old.grammar.rules) old.names vs t) (sym texts) i.stand));
    small = i.small;
    swept = subst (λ (g : Keyed). IsSwept (rules_of g.rules)) (sym grammar) i.swept;
    counts = subst (λ (g : Keyed). AreCounts new.names (rules_of g.rules) new.counts) (sym grammar)
        (subst (λ ps. AreCounts ps (rules_of old.grammar.rules) new.counts) (sym names) (subst (λ cs. AreCounts old.names (rules_of old.grammar.rules) cs) (sym counts) i.counts));
    index = subst (λ (g : Keyed). IsIndexOf g new.index) (sym grammar) (subst (λ x. IsIndexOf old.grammar x) (sym index) i.index);
  };
  rules = ap (λ (g : Keyed). rules_of g.rules) grammar;
  texts = texts;
  names = inl names;
}

-- what a call told by whether it gave something
pub some-told : {X P : Type 0} (o : Option X) (x : X) → o ≡ Some x → (IsSome o → P) → P
some-told None x e h = cc
some-told (Some y) x e h = h refl

pub none-told : {X P : Type 0} (o : Option X) → o ≡ None → (P → IsSome o) → P → ⊥
none-told None e h p = let f = h p in absurd cc
none-told (Some y) e h p = absurd cc
