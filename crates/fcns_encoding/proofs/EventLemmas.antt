-- Calls one after the other, and the names and texts that they tell.
use Rattle.std.proofs.Common.{◌≡◌, ℕ, true, List, [], ◌∷◌, ◌++◌, map, refl, ap, sym, ◌∙◌, append_assoc}
use Rattle.std.proofs.lemmas.List.{map-append}
use Rattle.plain_tree.specs.declared.kind.Kind.{Kind}
use Rattle.plain_tree.specs.declared.kind.Kind.TheVariants as kind
use Rattle.plain_tree.specs.Tree.{Tree, node, Trees, none, more}
use Rattle.plain_tree.specs.Numbers.{nodes, nodes_all, values_of, has_value}
use Rattle.slt_grammar.proofs.Standing.{values_of-append}
use Rattle.xml_nodes.proofs.Trees.{events-next, all-next}
use Rattle.xml_nodes.specs.Machine.{Event, Opened, Leaf, Closed, events, events_all, IsShaped, AreShaped}
use Rattle.fcns_encoding.specs.Calls.{event_pairs, event_texts, begun_pairs, started_pairs}
use Rattle.fcns_encoding.specs.Interning.{tree_pair}

pub events-append : (t : Tree) (a b : List Event) → events t a ++ b ≡ events t (a ++ b)
events-append t a b = ap (λ es. es ++ b) (events-next t a) ∙ append_assoc (events t []) a b ∙ sym (events-next t (a ++ b))

pub events_all-append : (ts : Trees) (a b : List Event) → events_all ts a ++ b ≡ events_all ts (a ++ b)
events_all-append ts a b = ap (λ es. es ++ b) (all-next ts a) ∙ append_assoc (events_all ts []) a b ∙ sym (all-next ts (a ++ b))

pub pairs-append : (a b : List Event) → event_pairs (a ++ b) ≡ event_pairs a ++ event_pairs b
pairs-append [] b = refl
pairs-append (Opened n ∷ es) b = ap (λ ps. (kind.Element, n) ∷ ps) (pairs-append es b)
pairs-append (Leaf k n v ∷ es) b = ap (λ ps. (k, n) ∷ ps) (pairs-append es b)
pairs-append (Closed ∷ es) b = pairs-append es b

pub texts-append : (a b : List Event) → event_texts (a ++ b) ≡ event_texts a ++ event_texts b
texts-append [] b = refl
texts-append (Opened n ∷ es) b = texts-append es b
texts-append (Leaf k n v ∷ es) b = ap (λ ts. v ∷ ts) (texts-append es b)
texts-append (Closed ∷ es) b = texts-append es b

pub begun-push : (log : List Event) (e : Event) → begun_pairs (log ++ e ∷ []) ≡ started_pairs log ++ event_pairs (e ∷ [])
begun-push [] e = refl
begun-push (f ∷ es) e = ap (λ ps. (kind.Document, []) ∷ ps) (pairs-append (f ∷ es) (e ∷ []))

-- a leaf's calls and shape
pub leaf-events : (k : Kind) (n v : List ℕ) (next : List Event) → has_value k ≡ true → events (node k n v none) next ≡ Leaf k n v ∷ next
leaf-events kind.Element n v next l = cc
leaf-events kind.Document n v next l = cc
leaf-events kind.Attribute n v next l = refl
leaf-events kind.Text n v next l = refl
leaf-events kind.Comment n v next l = refl
leaf-events kind.Instruction n v next l = refl

pub leaf-shaped : (k : Kind) (n v : List ℕ) → has_value k ≡ true → IsShaped (node k n v none)
leaf-shaped kind.Element n v l = cc
leaf-shaped kind.Document n v l = cc
leaf-shaped kind.Attribute n v l = refl
leaf-shaped kind.Text n v l = refl
leaf-shaped kind.Comment n v l = refl
leaf-shaped kind.Instruction n v l = refl

mutual
  pub tree-texts : (t : Tree) (next : List Event) → IsShaped t → event_texts (events t next) ≡ values_of (nodes t) ++ event_texts next
  tree-texts (node kind.Element n v ks) next s = trees-texts ks (Closed ∷ next) s.1
  tree-texts (node kind.Document n v ks) next s = absurd s
  tree-texts (node kind.Attribute n v ks) next s = ap (λ us. v ∷ (values_of (nodes_all us) ++ event_texts next)) (sym s)
  tree-texts (node kind.Text n v ks) next s = ap (λ us. v ∷ (values_of (nodes_all us) ++ event_texts next)) (sym s)
  tree-texts (node kind.Comment n v ks) next s = ap (λ us. v ∷ (values_of (nodes_all us) ++ event_texts next)) (sym s)
  tree-texts (node kind.Instruction n v ks) next s = ap (λ us. v ∷ (values_of (nodes_all us) ++ event_texts next)) (sym s)

  pub trees-texts : (ts : Trees) (next : List Event) → AreShaped ts → event_texts (events_all ts next) ≡ values_of (nodes_all ts) ++ event_texts next
  trees-texts none next s = refl
  trees-texts (more t ts) next s =
      tree-texts t (events_all ts next) s.0 ∙ ap (λ xs. values_of (nodes t) ++ xs) (trees-texts ts next s.1)
      ∙ sym (append_assoc (values_of (nodes t)) (values_of (nodes_all ts)) (event_texts next))
      ∙ ap (λ xs. xs ++ event_texts next) (sym (values_of-append (nodes t) (nodes_all ts)))

mutual
  pub tree-pairs : (t : Tree) (next : List Event) → IsShaped t → event_pairs (events t next) ≡ map tree_pair (nodes t) ++ event_pairs next
  tree-pairs (node kind.Element n v ks) next s = ap (λ ps. (kind.Element, n) ∷ ps) (trees-pairs ks (Closed ∷ next) s.1)
  tree-pairs (node kind.Document n v ks) next s = absurd s
  tree-pairs (node kind.Attribute n v ks) next s = ap (λ us. (kind.Attribute, n) ∷ (map tree_pair (nodes_all us) ++ event_pairs next)) (sym s)
  tree-pairs (node kind.Text n v ks) next s = ap (λ us. (kind.Text, n) ∷ (map tree_pair (nodes_all us) ++ event_pairs next)) (sym s)
  tree-pairs (node kind.Comment n v ks) next s = ap (λ us. (kind.Comment, n) ∷ (map tree_pair (nodes_all us) ++ event_pairs next)) (sym s)
  tree-pairs (node kind.Instruction n v ks) next s = ap (λ us. (kind.Instruction, n) ∷ (map tree_pair (nodes_all us) ++ event_pairs next)) (sym s)

  pub trees-pairs : (ts : Trees) (next : List Event) → AreShaped ts → event_pairs (events_all ts next) ≡ map tree_pair (nodes_all ts) ++ event_pairs next
  trees-pairs none next s = refl
  trees-pairs (more t ts) next s =
      tree-pairs t (events_all ts next) s.0 ∙ ap (λ xs. map tree_pair (nodes t) ++ xs) (trees-pairs ts next s.1)
      ∙ sym (append_assoc (map tree_pair (nodes t)) (map tree_pair (nodes_all ts)) (event_pairs next))
      ∙ ap (λ xs. xs ++ event_pairs next) (sym (map-append tree_pair (nodes t) (nodes_all ts)))
