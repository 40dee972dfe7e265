-- A code that grows with the nodes of a list.
use Rattle.std.proofs.Common.{◌≡◌, ℕ, zero, suc, ◌+◌, ◌<◌, List, [], ◌∷◌, ◌++◌, length, map, take, get_or, refl, ap, sym, ◌∙◌, append_assoc, append-nil, arith}
use Rattle.std.proofs.lemmas.List.{map-append, take_more}
use Rattle.rule_arena.specs.declared.label.Label.{Label}
use Rattle.plain_tree.specs.declared.nodes.Node.{Node}
use Rattle.plain_tree.specs.Tree.{Tree, node, Trees, none, more, trees}
use Rattle.plain_tree.specs.NodeTree.{tree_of, trees_of}
use Rattle.plain_tree.specs.Numbers.{nodes, nodes_all, values_of, texts, texts_all}
use Rattle.plain_tree.specs.Visits.{TreeVisit, Opened, Closed, visits, visits_then, all_visits_then}
use Rattle.slt_grammar.proofs.Standing.{values_of-append}
use Rattle.fcns_encoding.specs.Interning.{Pair, Interns, tree_pair, pairs_of_tree, pairs_of_trees}
use Rattle.fcns_encoding.specs.Visiting.{Spelled, Grows, list_visits}
use Rattle.fcns_encoding.proofs.InternLemmas.{Interns-keeps, Interns-append}
use Rattle.fcns_encoding.proofs.VisitLemmas.{Spelled-keeps, Spelled-append, interned-front}

mutual
  visits_then-append : (t : Tree) (vs ws : List TreeVisit) → visits_then t (vs ++ ws) ≡ visits_then t vs ++ ws
  visits_then-append (node k n v ks) vs ws = ap (λ us. Opened (node k n v ks) ∷ us) (all_visits_then-append ks (Closed (node k n v ks) ∷ vs) ws)

  all_visits_then-append : (ts : Trees) (vs ws : List TreeVisit) → all_visits_then ts (vs ++ ws) ≡ all_visits_then ts vs ++ ws
  all_visits_then-append none vs ws = refl
  all_visits_then-append (more t ts) vs ws = ap (visits_then t) (all_visits_then-append ts vs ws) ∙ visits_then-append t (all_visits_then ts vs) ws

all_visits_then-push : (ts : List Tree) (t : Tree) (after : List TreeVisit) → all_visits_then (trees (ts ++ t ∷ [])) after ≡ all_visits_then (trees ts) (visits_then t after)
all_visits_then-push [] t after = refl
all_visits_then-push (s ∷ ts) t after = ap (visits_then s) (all_visits_then-push ts t after)

-- the visits of a list with one more tree
visits-push : (ts : List Tree) (t : Tree) → list_visits (trees (ts ++ t ∷ [])) ≡ list_visits (trees ts) ++ visits t
visits-push ts t = all_visits_then-push ts t [] ∙ all_visits_then-append (trees ts) [] (visits t)

nodes-append : (ts us : List Tree) → nodes_all (trees (ts ++ us)) ≡ nodes_all (trees ts) ++ nodes_all (trees us)
nodes-append [] us = refl
nodes-append (t ∷ ts) us = ap (λ ns. nodes t ++ ns) (nodes-append ts us) ∙ sym (append_assoc (nodes t) (nodes_all (trees ts)) (nodes_all (trees us)))

nodes-push : (ts : List Tree) (t : Tree) → nodes_all (trees (ts ++ t ∷ [])) ≡ nodes_all (trees ts) ++ nodes t
nodes-push ts t = nodes-append ts (t ∷ []) ∙ ap (λ ns. nodes_all (trees ts) ++ ns) (append-nil (nodes t))

pairs-push : (ts : List Tree) (t : Tree) → pairs_of_trees (trees (ts ++ t ∷ [])) ≡ pairs_of_trees (trees ts) ++ pairs_of_tree t
pairs-push ts t = ap (map tree_pair) (nodes-push ts t) ∙ map-append tree_pair (nodes_all (trees ts)) (nodes t)

-- the pairs of a list by those of its first trees, of the next one and of the others
pairs-parts : (ts : List Tree) (t : Tree) (us : List Tree) → pairs_of_trees (trees (ts ++ t ∷ us)) ≡ pairs_of_trees (trees ts) ++ (pairs_of_tree t ++ pairs_of_trees (trees us))
pairs-parts ts t us =
    ap (map tree_pair) (nodes-append ts (t ∷ us)) ∙ map-append tree_pair (nodes_all (trees ts)) (nodes t ++ nodes_all (trees us))
    ∙ ap (λ ps. pairs_of_trees (trees ts) ++ ps) (map-append tree_pair (nodes t) (nodes_all (trees us)))

-- the list of one tree has the pairs of the tree
pub pairs-one : (t : Tree) → pairs_of_trees (more t none) ≡ pairs_of_tree t
pairs-one t = ap (map tree_pair) (append-nil (nodes t))

-- The trees up to here made these names, labels and texts.
pub record AreEncoded (ts : List Tree) (old now : List Pair) (body : List Label) (values : List (List ℕ)) : Type 0 where
  pub spelled : Spelled now (list_visits (trees ts)) body
  pub texts : values ≡ texts_all (trees ts)
  pub names : Interns old (pairs_of_trees (trees ts)) now

module _ (ts : List Tree) (old mid : List Pair) (body : List Label) (values : List (List ℕ)) (w : AreEncoded ts old mid body values) (t : Tree) where
  -- one tree more
  pub list-goes : (now : List Pair) (body' : List Label) (values' : List (List ℕ)) → Grows now (visits t) body body' → values' ≡ values ++ texts t → Interns mid (pairs_of_tree t) now
      → AreEncoded (ts ++ t ∷ []) old now body' values'
  list-goes now body' values' (added, s, b) x i =
      let spelled = Spelled-keeps mid now (Interns-keeps mid (pairs_of_tree t) now i) (list_visits (trees ts)) body w.spelled in record {
        spelled = rw (visits-push ts t, b) (Spelled-append now (list_visits (trees ts)) (visits t) body added spelled s);
        texts = x ∙ ap (λ xs. xs ++ texts t) w.texts ∙ sym (ap values_of (nodes-push ts t) ∙ values_of-append (nodes_all (trees ts)) (nodes t));
        names = rw (pairs-push ts t) (Interns-append old mid now (pairs_of_trees (trees ts)) (pairs_of_tree t) w.names i);
      }

  -- a refusal in the midst of a tree
  pub list-fails : (us : List Tree) (now : List Pair) → ((k : ℕ) × Interns mid (take k (pairs_of_tree t)) now) → (k : ℕ) × Interns old (take k (pairs_of_trees (trees (ts ++ t ∷ us)))) now
  list-fails us now i =
      interned-front (pairs_of_trees (trees (ts ++ t ∷ us))) (pairs_of_trees (trees ts)) (pairs_of_tree t) (pairs_of_trees (trees us)) old mid now (pairs-parts ts t us) w.names i

-- the node at a place stands behind the nodes before it, and before others
nodes-around : (xs : List Node) (i : ℕ) (x : Node) → i < length xs → x ≡ get_or xs i x → (us : List Tree) × (trees_of xs ≡ trees_of (take i xs) ++ tree_of x ∷ us)
nodes-around [] i x h is = absurd (omega arith)
nodes-around (y ∷ ys) zero x h is = (trees_of ys, ap (λ z. tree_of z ∷ trees_of ys) (sym is))
nodes-around (y ∷ ys) (suc i) x h is = let w = nodes-around ys i x (omega arith) is in (w.0, ap (λ ts. tree_of y ∷ ts) w.1)

module _ (xs : List Node) (i : ℕ) (x : Node) (h : i < length xs) (is : x ≡ get_or xs i x) (old mid now : List Pair) (body : List Label) (values : List (List ℕ))
    (w : AreEncoded (trees_of (take i xs)) old mid body values) where
  -- the node at the place was encoded too
  pub nodes-go : (body' : List Label) (values' : List (List ℕ)) → Grows now (visits (tree_of x)) body body' → values' ≡ values ++ texts (tree_of x) → Interns mid (pairs_of_tree (tree_of x)) now
      → AreEncoded (trees_of (take (i + 1) xs)) old now body' values'
  nodes-go body' values' g e k =
      let more : trees_of (take (i + 1) xs) ≡ trees_of (take i xs) ++ tree_of x ∷ [] =
      ap trees_of (take_more xs i x h ∙ ap (λ z. take i xs ++ z ∷ []) (sym is)) ∙ map-append tree_of (take i xs) (x ∷ []) in
      rw more (list-goes (trees_of (take i xs)) old mid body values w (tree_of x) now body' values' g e k)

  -- a refusal in the midst of it
  pub nodes-fail : ((k : ℕ) × Interns mid (take k (pairs_of_tree (tree_of x))) now) → (k : ℕ) × Interns old (take k (pairs_of_trees (trees (trees_of xs)))) now
  nodes-fail k =
      let around = nodes-around xs i x h is in
      rw around.1 (list-fails (trees_of (take i xs)) old mid body values w (tree_of x) around.0 now k)
