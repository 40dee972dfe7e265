-- The symbols of a term, for the crates above: each is the pair of the tree's node with its number.
use Rattle.std.proofs.Common.{◌≡◌, ℕ, zero, suc, ◌<◌, List, [], ◌∷◌, ◌++◌, length, Some, slice_get, refl, arith, subst, append-nil, length-append}
use Rattle.plain_tree.specs.declared.kind.Kind.{Kind}
use Rattle.plain_tree.specs.Tree.{Tree, node, Trees, none, more}
use Rattle.plain_tree.specs.Numbers.{nodes, nodes_all}
use Rattle.slt_grammar.specs.Automata.{nodes_in}
use Rattle.slt_grammar.specs.Coding.{Codes}
use Rattle.slt_grammar.specs.Grammars.{value}
use Rattle.slt_grammar.specs.Standing.{StandsFor}
use Rattle.slt_grammar.specs.Terms.{Term, Leaf, Node, Hole}
use Rattle.slt_grammar.specs.declared.rules.Rule.{Rule}
use Rattle.rule_runs.specs.Hits.{symbols_in}
use Rattle.rule_runs.proofs.Lists.{slice_get-at}

-- a term has a symbol for each of its nodes
pub length-symbols : (t : Term) → length (symbols_in t) ≡ nodes_in t
length-symbols Leaf = refl
length-symbols (Hole i) = refl
length-symbols (Node f a b) = omega (arith, length-append (symbols_in a) (symbols_in b), length-symbols a, length-symbols b)

-- what has a symbol is the number of a node
pub symbol-below : (t : Term) (n f : ℕ) → slice_get (symbols_in t) n ≡ Some f → n < nodes_in t
symbol-below t n f e = let k = (slice_get-at (symbols_in t) n f 0 e).0 in omega (arith, length-symbols t)

module _ (names : List (Kind × List ℕ)) where
  -- the node with a number, whose kind and name are those of a symbol
  pub record NodeAt (ns : List Tree) (n f : ℕ) : Type 0 where
    pub kind : Kind
    pub name : List ℕ
    pub value : List ℕ
    pub kids : Trees
    pub there : slice_get ns n ≡ Some (node kind name value kids)
    pub pair : slice_get names f ≡ Some (kind, name)

  -- symbols are those of nodes, one by one
  abbrev AreOf : List ℕ → List Tree → Type 0
  AreOf [] [] = Unit {0}
  AreOf [] (t ∷ ts) = ⊥
  AreOf (f ∷ fs) [] = ⊥
  AreOf (f ∷ fs) (node kind name value kids ∷ ts) = (slice_get names f ≡ Some (kind, name)) × AreOf fs ts

  of-append : (fs gs : List ℕ) (xs ys : List Tree) → AreOf fs xs → AreOf gs ys → AreOf (fs ++ gs) (xs ++ ys)
  of-append [] gs [] ys a b = b
  of-append [] gs (x ∷ xs) ys a b = absurd a
  of-append (f ∷ fs) gs [] ys a b = absurd a
  of-append (f ∷ fs) gs (node k n v ks ∷ xs) ys a b = (a.0, of-append fs gs xs ys a.1 b)

  of-at : (fs : List ℕ) (ts : List Tree) (n f : ℕ) → AreOf fs ts → slice_get fs n ≡ Some f → NodeAt ts n f
  of-at [] ts n f a e = absurd (cc)
  of-at (g ∷ fs) [] n f a e = absurd a
  of-at (g ∷ fs) (node k m v ks ∷ ts) zero f a e =
      let same : g ≡ f = cc in
      record { kind = k; name = m; value = v; kids = ks; there = refl; pair = rw same at a.0 }
  of-at (g ∷ fs) (node k m v ks ∷ ts) (suc n) f a e =
      let t = of-at fs ts n f a.1 e in
      record { kind = t.kind; name = t.name; value = t.value; kids = t.kids; there = t.there; pair = t.pair }

  symbols-coded : (ts : Trees) (term : Term) → Codes names ts term → AreOf (symbols_in term) (nodes_all ts)
  symbols-coded none term c = rw c tt
  symbols-coded (more (node kind n v ks) ts) term c =
      rw c.6 (c.3, of-append (symbols_in c.1) (symbols_in c.2) (nodes_all ks) (nodes_all ts) (symbols-coded ks c.1 c.4) (symbols-coded ts c.2 c.5))

  -- a symbol in the code of trees is that of their node with the same number
  pub symbol-node : (ts : Trees) (term : Term) → Codes names ts term → (n f : ℕ) → slice_get (symbols_in term) n ≡ Some f → NodeAt (nodes_all ts) n f
  symbol-node ts term c n f e = of-at (symbols_in term) (nodes_all ts) n f (symbols-coded ts term c) e

  -- and a symbol in what stands for a document is that of the document's node
  pub document-symbol : (G : List Rule) (values : List (List ℕ)) (t : Tree) → StandsFor G names values t → (n f : ℕ) → slice_get (symbols_in (value G)) n ≡ Some f → NodeAt (nodes t) n f
  document-symbol G values t s n f e = subst (λ (ns : List Tree). NodeAt ns n f) (append-nil (nodes t)) (symbol-node (more t none) (value G) s.code n f e)
