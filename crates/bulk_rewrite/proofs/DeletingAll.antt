-- All nodes that are hit are taken out.
use Rattle.std.proofs.Common.{◌≡◌, ℕ, zero, suc, ◌+◌, List, [], ◌∷◌, ◌++◌, map, take, Some, slice_get, slice_index_or, refl, ap, ◌∙◌, add-one}
use Rattle.plain_tree.specs.declared.kind.Kind.{Kind}
use Rattle.plain_tree.specs.declared.kind.Kind.TheVariants.{Document}
use Rattle.plain_tree.specs.NodePairs.{Pair}
use Rattle.plain_tree.specs.Numbers.{has_value}
use Rattle.plain_tree.specs.Tree.{Tree}
use Rattle.slt_grammar.specs.Algebras.{Algebra}
use Rattle.slt_grammar.specs.Automata.{Downward, hits}
use Rattle.slt_grammar.specs.Grammars.{value}
use Rattle.slt_grammar.specs.Standing.{StandsFor}
use Rattle.slt_grammar.specs.declared.rules.Rule.{Rule}
use Rattle.bulk_rewrite.specs.DeletedAll.{AreDeleted}
use Rattle.bulk_rewrite.specs.Fates.{fates, redone}
use Rattle.bulk_rewrite.specs.Joining.{NoText, At, MayDelete, elements_in, is_element, is_text, joining, joining_run, sparing_run, texts_in, valued_in}
use Rattle.bulk_rewrite.specs.Numbered.{has}
use Rattle.bulk_rewrite.specs.Rewriting.{rewritten}
use Rattle.bulk_rewrite.proofs.Spared.{spares-none, none-where-stays}
use Rattle.bulk_rewrite.proofs.Standings.{stands-deleted}

at-kind : (names : List Pair) (f : ℕ) (p : Pair) → slice_get names f ≡ Some p → slice_index_or (map (λ q. q.0) names) f Document ≡ p.0
at-kind [] f p e = absurd (cc)
at-kind (q ∷ names) zero p e = let same : q ≡ p = cc in ap (λ r. r.0) same
at-kind (q ∷ names) (suc f) p e = at-kind names f p e

-- the kind of one more name
kinds-next : (names : List Pair) (kinds : List Kind) (i : ℕ) (p : Pair) → kinds ≡ map (λ q. q.0) (take i names) → slice_get names i ≡ Some p → kinds ++ p.0 ∷ [] ≡ map (λ q. q.0) (take (suc i) names)
kinds-next [] kinds i p e g = absurd (cc)
kinds-next (q ∷ names) kinds zero p e g = let same : q ≡ p = cc in rw (e, same) refl
kinds-next (q ∷ names) kinds (suc i) p e g = rw e (ap (λ ks. q.0 ∷ ks) (kinds-next names (map (λ q. q.0) (take i names)) i p refl g))

pub kinds-push : (names : List Pair) (kinds new : List Kind) (i : ℕ) (p : Pair) → kinds ≡ map (λ q. q.0) (take i names) → slice_get names i ≡ Some p → new ≡ kinds ++ p.0 ∷ [] → new ≡ map (λ q. q.0) (take (i + 1) names)
kinds-push names kinds new i p e g n = rw (n, add-one i) (kinds-next names kinds i p e g)

module _ {S D : Type 0} (A : Algebra S) (W : Downward S D) (G : List Rule) (names : List Pair) (values : List (List ℕ)) (t : Tree) (st : StandsFor G names values t) (kinds : List Kind) (are : kinds ≡ map (λ p. p.0) names) where
  kind-at : (f : ℕ) (kind : Kind) (name : List ℕ) → slice_get names f ≡ Some (kind, name) → slice_index_or kinds f Document ≡ kind
  kind-at f kind name at = ap (λ ks. slice_index_or ks f Document) are ∙ at-kind names f (kind, name) at

  -- the run that spares hits nothing exactly where the nodes may be taken out
  pub spared-may : hits A (sparing_run W (elements_in kinds)) (value G) ≡ [] → MayDelete (has (hits A W (value G))) t
  spared-may e = spares-none A W names (value G) t st.code st.document (elements_in kinds) (λ f kind name at. ap is_element (kind-at f kind name at)) e

  pub may-spared : MayDelete (has (hits A W (value G))) t → hits A (sparing_run W (elements_in kinds)) (value G) ≡ []
  may-spared m = none-where-stays A W names (value G) t st.code st.document (elements_in kinds) (λ f kind name at. ap is_element (kind-at f kind name at)) m

  -- rules of what becomes of the value stand for what is left, with what becomes of the texts
  pub all-deleted : (H : List Rule) (new : List (List ℕ)) → MayDelete (has (hits A W (value G))) t → value H ≡ rewritten A (joining_run W (texts_in kinds)) (joining (texts_in kinds)) (value G) [] (At W.start NoText)
      → new ≡ (redone (fates A W (valued_in kinds) (texts_in kinds) (value G) [] (At W.start NoText)) values).values → AreDeleted (hits A W (value G)) names H new t
  all-deleted H new may made texts =
      let s = stands-deleted A W G H names values t st (valued_in kinds) (texts_in kinds) (λ f kind name at. ap has_value (kind-at f kind name at)) (λ f kind name at. ap is_text (kind-at f kind name at)) may made in
      record { allowed = may; stand = rw texts s }
