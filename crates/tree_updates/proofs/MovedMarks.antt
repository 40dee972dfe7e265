-- Nodes that change, and the marks around them.
use Rattle.std.proofs.Common.{refl, ◌≡◌, ◌≢◌, ◌≤◌, ℕ, ◌-◌, Some, List, [], ◌∷◌, length, ap, sym, ◌∙◌, subst, append-nil, sum_by}
use Rattle.std.proofs.lemmas.List.Elements.{All-nil, All-weaker}
use Rattle.plain_tree.specs.Additions.{new_pairs}
use Rattle.plain_tree.specs.NodePairs.{Pair}
use Rattle.plain_tree.specs.Tree.{Tree}
use Rattle.plain_tree.specs.declared.edit.Edit.{Edit}
use Rattle.plain_tree.specs.declared.kind.Kind.{Kind}
use Rattle.rule_arena.specs.Terms.{labelled}
use Rattle.rule_arena.specs.declared.key.Key.{Key}
use Rattle.rule_arena.specs.declared.label.Label.{Label}
use Rattle.rule_arena.specs.declared.label.Label.TheVariants.{Symbol}
use Rattle.slt_grammar.specs.Algebras.{ranks_of}
use Rattle.slt_grammar.specs.Bodies.{CallsBelow}
use Rattle.slt_grammar.specs.ChangedValues.{term_around}
use Rattle.slt_grammar.specs.Grammars.{value}
use Rattle.slt_grammar.specs.Keyed.{IsKeyed, Keyed, KeyedRule, key_at, nodes_at, rules_of}
use Rattle.slt_grammar.specs.KeyedEdits.{lifted_nodes, with_nodes}
use Rattle.slt_grammar.specs.Wrapping.{IsWrapped, IsWrapper}
use Rattle.slt_grammar.specs.declared.level.Level.{Level}
use Rattle.slt_grammar.proofs.KeyedLemmas.{key_at-within}
use Rattle.segment_counts.specs.Counting.{AreCounts}
use Rattle.segment_counts.specs.Weights.{all_weight, node_weight}
use Rattle.start_fronts.specs.Before.{KeepsBefore}
use Rattle.start_fronts.specs.Moved.{MovesBefore, weight_before}
use Rattle.start_fronts.proofs.Holes.{hole-behind}
use Rattle.start_fronts.proofs.Lifted.{moves-lifted}
use Rattle.start_fronts.proofs.Moving.{kept-then-moved, moved-then-kept}
use Rattle.start_fronts.proofs.Relabelled.{moves-relabelled}
use Rattle.start_fronts.proofs.Wrapped.{moves-wrapped, plain-leaves}
use Rattle.linked_edits.specs.Endings.{EndsInParam}
use Rattle.preorder_address.specs.Marks.{AreMarks, IsMark}
use Rattle.preorder_address.specs.declared.marks.Mark.{Mark}
use Rattle.start_marks.proofs.Weights.{mark-stays}
use Rattle.path_isolation.specs.Chains.{IsChain}
use Rattle.tree_updates.specs.Fronts.{first_keys}
use Rattle.tree_updates.specs.CodePlaces.{IsPlaceIsolated}
use Rattle.tree_updates.specs.Differences.{hole_at}
use Rattle.tree_updates.specs.Numbered.{IsNodeIsolated}
use Rattle.tree_updates.specs.Stores.{IsEdited}
use Rattle.tree_updates.specs.declared.store.Store.{Store}
use Rattle.tree_updates.proofs.AppliedMarks.{names-same}
use Rattle.tree_updates.proofs.IsolatedPlaces.{place-in-start}
use Rattle.tree_updates.proofs.InStart.{in-start}
use Rattle.tree_updates.proofs.WrappedNodes.{in-start-rule}

-- the chain's first key is the first level's
pub first-kept : (G H : List KeyedRule) (levels : List Level) (ps : List ℕ) → IsChain G levels ps → ((l : Level) (ls : List Level) → levels ≡ l ∷ ls → KeepsBefore (l.key ∷ []) G H) → KeepsBefore (first_keys levels) G H
first-kept G H [] ps c f = absurd c
first-kept G H (l ∷ ls) ps c f = f l ls refl

module _ (w : Label → ℕ) (G : List KeyedRule) (gone : List Key) (h : Keyed) (k : IsKeyed h) (place n : ℕ) (key : Key) (there : key_at h.rules (length h.rules - 1) place ≡ Some key) (number : hole_at w (term_around (rules_of h.rules) place) ≡ n)
    (same : value (rules_of h.rules) ≡ value (rules_of G)) (keeps : KeepsBefore gone G h.rules) where
  -- as much stands before the isolated node as its number says
  number-before : weight_before w h.rules place ≡ n
  number-before =
      let within = (key_at-within h.rules (length h.rules - 1) place key there).1 in
      ap (sum_by w) (sym (hole-behind h k place within)) ∙ number

  -- a change there is one of the value before
  pub moves-at : (L : List KeyedRule) → MovesBefore w [] (weight_before w h.rules place) h.rules L → MovesBefore w gone n G L
  moves-at L m =
      subst (λ (ks : List Key). MovesBefore w ks n G L) (append-nil gone)
      (kept-then-moved w gone [] n G h.rules L same keeps (subst (λ (i : ℕ). MovesBefore w [] i h.rules L) number-before m))

module _ (G : List KeyedRule) (gone : List Key) (h : Keyed) (k : IsKeyed h) (n : ℕ) (key : Key) (I : IsNodeIsolated h.rules n key) (same : value (rules_of h.rules) ≡ value (rules_of G)) (keeps : KeepsBefore gone G h.rules) where
  moves-there : (L : List KeyedRule) → MovesBefore node_weight [] (weight_before node_weight h.rules I.place) h.rules L → MovesBefore node_weight gone n G L
  moves-there = moves-at node_weight G gone h k I.place n key I.there I.before same keeps

  pub moves-renamed : (new : Keyed) → IsKeyed new → (f : ℕ) → new.rules ≡ with_nodes h.rules (length h.rules - 1) (labelled (nodes_at h.rules (length h.rules - 1)) I.place (Symbol f)) → MovesBefore node_weight gone n G new.rules
  moves-renamed new K f is = moves-there new.rules (moves-relabelled h new k K key f (in-start h.rules n key I) is node_weight)

  pub moves-lifted-out : (new : Keyed) → IsKeyed new → new.rules ≡ with_nodes h.rules (length h.rules - 1) (lifted_nodes (nodes_at h.rules (length h.rules - 1)) I.place) → MovesBefore node_weight gone n G new.rules
  moves-lifted-out new K is = moves-there new.rules (moves-lifted h new k K key (in-start h.rules n key I) is node_weight)

  pub moves-wrapped-around : (new : Keyed) → IsKeyed new → (body : List Label) → IsWrapper (rules_of h.rules) body → EndsInParam body → CallsBelow 0 body → IsWrapped h.rules new.rules (length h.rules - 1) I.place key body
      → MovesBefore node_weight gone n G new.rules
  moves-wrapped-around new K body W E plain is =
      moves-there new.rules (moves-wrapped h new k K key E.front body (in-start-rule h.rules n key I) W E.is (plain-leaves (ranks_of (rules_of h.rules)) body plain) is node_weight)

pub moves-place : (G : List KeyedRule) (gone : List Key) (h : Keyed) (k : IsKeyed h) (n : ℕ) (key : Key) (I : IsPlaceIsolated h.rules n key) → value (rules_of h.rules) ≡ value (rules_of G) → KeepsBefore gone G h.rules
    → (new : Keyed) → IsKeyed new → (body : List Label) → IsWrapper (rules_of h.rules) body → EndsInParam body → CallsBelow 0 body → IsWrapped h.rules new.rules (length h.rules - 1) I.position key body → MovesBefore all_weight gone n G new.rules
moves-place G gone h k n key I same keeps new K body W E plain is =
    moves-at all_weight G gone h k I.position n key I.there I.before same keeps new.rules
    (moves-wrapped h new k K key E.front body (place-in-start h.rules n key I) W E.is (plain-leaves (ranks_of (rules_of h.rules)) body plain) is all_weight)

-- marks stay where what stands before the start's nodes was kept
pub marks-kept : (names : List (Kind × List ℕ)) (G H : List KeyedRule) (marks : List Mark) → KeepsBefore [] G H → AreMarks names G marks → AreMarks names H marks
marks-kept names G H marks keeps are = All-weaker (IsMark names G) (IsMark names H) (λ mark m. mark-stays names [] G H mark keeps m (All-nil (λ k. k ≢ mark.key))) marks are

-- rules go behind a change that nobody calls any more
pub moves-swept : (w : Label → ℕ) (gone : List Key) (n : ℕ) (G H K : List KeyedRule) → value (rules_of K) ≡ value (rules_of H) → MovesBefore w gone n G H → KeepsBefore [] H K → MovesBefore w gone n G K
moves-swept w gone n G H K same moves keeps = subst (λ (ks : List Key). MovesBefore w ks n G K) (append-nil gone) (moved-then-kept w gone [] n G H K same moves keeps)

-- the counts of a store that was edited are by the names that were there, where there are no more
pub edited-counts : (t : Tree) (e : Edit) (old new : Store) → IsEdited t e old new → length new.names ≤ length old.names → AreCounts old.names (rules_of new.grammar.rules) new.counts
edited-counts t e old new E few =
    subst (λ (ns : List Pair). AreCounts ns (rules_of new.grammar.rules) new.counts) (names-same old.names (new_pairs t e) new.names E.names few) E.store.counts
