-- Rules, names and texts stand for at most one document: the code gives kinds, names and shape, the texts in document order the values.
use Rattle.std.proofs.Common.{◌≡◌, ℕ, false, List, [], ◌∷◌, ◌++◌, map, filter, Some, slice_get, refl, ap, sym, ◌∙◌, subst, append_assoc, append-nil}
use Rattle.std.proofs.lemmas.List.{map-append}
use Rattle.std.proofs.lemmas.List.Elements.{filter-append}
use Rattle.plain_tree.specs.declared.kind.Kind.{Kind}
use Rattle.plain_tree.specs.declared.kind.Kind.TheVariants.{Document, Element, Attribute, Text, Comment, Instruction}
use Rattle.plain_tree.specs.Tree.{Tree, node, Trees, none, more}
use Rattle.plain_tree.specs.Numbers.{nodes, nodes_all, has_value, kind_of, value_of, values_of, texts, texts_all}
use Rattle.plain_tree.specs.NameTable.{AreDistinct}
use Rattle.plain_tree.specs.Lawful.{IsDocument, IsLawfulTree, AreLawfulTrees, IsLawfulValue}
use Rattle.slt_grammar.specs.Terms.{Term, Leaf, Node}
use Rattle.slt_grammar.specs.Coding.{Codes}
use Rattle.slt_grammar.specs.Standing.{StandsFor}
use Rattle.slt_grammar.specs.Grammars.{value}
use Rattle.slt_grammar.specs.declared.rules.Rule.{Rule}

-- only nodes whose kind has a value have one
abbrev mutual
  pub IsValued : Tree → Type 0
  IsValued (node kind name value kids) = (has_value kind ≡ false → value ≡ []) × AreValued kids

  pub AreValued : Trees → Type 0
  AreValued none = Unit {0}
  AreValued (more t ts) = IsValued t × AreValued ts

-- a node's own value, if its kind has one
abbrev pub own : Kind → List ℕ → List (List ℕ)
own Document v = []
own Element v = []
own Attribute v = v ∷ []
own Text v = v ∷ []
own Comment v = v ∷ []
own Instruction v = v ∷ []

pub values_of-append : (xs ys : List Tree) → values_of (xs ++ ys) ≡ values_of xs ++ values_of ys
values_of-append xs ys = ap (map value_of) (filter-append (λ s. has_value (kind_of s)) xs ys) ∙ map-append value_of (filter (λ s. has_value (kind_of s)) xs) (filter (λ s. has_value (kind_of s)) ys)

-- the texts of trees begin with the first node's own value, and go on with those below it and behind it
pub texts_all-more : (k : Kind) (n v : List ℕ) (ks ts : Trees) → texts_all (more (node k n v ks) ts) ≡ own k v ++ (texts_all ks ++ texts_all ts)
texts_all-more Document n v ks ts = values_of-append (nodes_all ks) (nodes_all ts)
texts_all-more Element n v ks ts = values_of-append (nodes_all ks) (nodes_all ts)
texts_all-more Attribute n v ks ts = ap (λ xs. v ∷ xs) (values_of-append (nodes_all ks) (nodes_all ts))
texts_all-more Text n v ks ts = ap (λ xs. v ∷ xs) (values_of-append (nodes_all ks) (nodes_all ts))
texts_all-more Comment n v ks ts = ap (λ xs. v ∷ xs) (values_of-append (nodes_all ks) (nodes_all ts))
texts_all-more Instruction n v ks ts = ap (λ xs. v ∷ xs) (values_of-append (nodes_all ks) (nodes_all ts))

own-one : (k : Kind) (v w : List ℕ) (xs ys : List (List ℕ)) → (has_value k ≡ false → v ≡ []) → (has_value k ≡ false → w ≡ []) → own k v ++ xs ≡ own k w ++ ys → (v ≡ w) × (xs ≡ ys)
own-one Document v w xs ys a b e = (a refl ∙ sym (b refl), e)
own-one Element v w xs ys a b e = (a refl ∙ sym (b refl), e)
own-one Attribute v w xs ys a b e = (cc, cc)
own-one Text v w xs ys a b e = (cc, cc)
own-one Comment v w xs ys a b e = (cc, cc)
own-one Instruction v w xs ys a b e = (cc, cc)

leaf-node : (term : Term) (f : ℕ) (a b : Term) → term ≡ Leaf → term ≡ Node f a b → ⊥
leaf-node term f a b d e = let h : Leaf ≡ Node f a b = sym d ∙ e in absurd cc

same-pair : (p q : Kind × List ℕ) → Some p ≡ Some q → p ≡ q
same-pair p q e = cc

module _ (names : List (Kind × List ℕ)) where
  -- one code and one list of texts are of one list of nodes; what follows the texts is left
  pub codes-one : (ss ts : Trees) (term : Term) (x y : List (List ℕ)) → Codes names ss term → Codes names ts term → AreValued ss → AreValued ts → texts_all ss ++ x ≡ texts_all ts ++ y → (ss ≡ ts) × (x ≡ y)
  codes-one none none term x y c d u w e = (refl, e)
  codes-one none (more (node k n v ks) ts) term x y c d u w e = absurd (leaf-node term d.0 d.1 d.2 c d.6)
  codes-one (more (node k n v ks) ss) none term x y c d u w e = absurd (leaf-node term c.0 c.1 c.2 d c.6)
  codes-one (more (node k n v ks) ss) (more (node l m z ls) ts) term x y c d u w e =
      let nodes : Node c.0 c.1 c.2 ≡ Node d.0 d.1 d.2 = sym c.6 ∙ d.6 in
      let symbol : c.0 ≡ d.0 = cc in
      let below : d.1 ≡ c.1 = cc in
      let behind : d.2 ≡ c.2 = cc in
      let p : Kind × List ℕ = (k, n) in
      let q : Kind × List ℕ = (l, m) in
      let pair : p ≡ q = same-pair p q (sym c.3 ∙ ap (λ i. slice_get names i) symbol ∙ d.3) in
      let kinds : l ≡ k = sym (ap (λ r. r.0) pair) in
      let name : n ≡ m = ap (λ r. r.1) pair in
      let parts : own k v ++ (texts_all ks ++ (texts_all ss ++ x)) ≡ own k z ++ (texts_all ls ++ (texts_all ts ++ y)) =
      sym (apart k n v ks ss x) ∙ e ∙ apart l m z ls ts y ∙ ap (λ j. own j z ++ (texts_all ls ++ (texts_all ts ++ y))) kinds in
      let first = own-one k v z (texts_all ks ++ (texts_all ss ++ x)) (texts_all ls ++ (texts_all ts ++ y)) u.0.0 (subst (λ j. has_value j ≡ false → z ≡ []) kinds w.0.0) parts in
      let kids = codes-one ks ls c.1 (texts_all ss ++ x) (texts_all ts ++ y) c.4 (subst (Codes names ls) below d.4) u.0.1 w.0.1 first.1 in
      let rest = codes-one ss ts c.2 x y c.5 (subst (Codes names ts) behind d.5) u.1 w.1 kids.1 in
      let v-z : v ≡ z = first.0 in
      let ks-ls : ks ≡ ls = kids.0 in
      let ss-ts : ss ≡ ts = rest.0 in
      (cc, rest.1)
    where
      apart : (k : Kind) (n v : List ℕ) (ks ts : Trees) (x : List (List ℕ)) → texts_all (more (node k n v ks) ts) ++ x ≡ own k v ++ (texts_all ks ++ (texts_all ts ++ x))
      apart k n v ks ts x = ap (λ xs. xs ++ x) (texts_all-more k n v ks ts) ∙ append_assoc (own k v) (texts_all ks ++ texts_all ts) x ∙ ap (λ xs. own k v ++ xs) (append_assoc (texts_all ks) (texts_all ts) x)

no-value : (k : Kind) (v : List ℕ) → IsLawfulValue k v → has_value k ≡ false → v ≡ []
no-value Document v l h = l
no-value Element v l h = l
no-value Attribute v l h = cc
no-value Text v l h = cc
no-value Comment v l h = cc
no-value Instruction v l h = cc

mutual
  tree-valued : (t : Tree) → IsLawfulTree t → IsValued t
  tree-valued (node k n v ks) l = (no-value k v l.0.1, trees-valued ks l.2)

  trees-valued : (ts : Trees) → AreLawfulTrees ts → AreValued ts
  trees-valued none l = tt
  trees-valued (more t ts) l = (tree-valued t l.0, trees-valued ts l.1)

-- in a document only nodes whose kind has a value have one
pub document-valued : (t : Tree) → IsDocument t → IsValued t
document-valued t d = tree-valued t d.lawful

pub texts-one : (t : Tree) → texts_all (more t none) ≡ texts t
texts-one t = ap values_of (append-nil (nodes t))

first-of : (s t : Tree) → more s none ≡ more t none → s ≡ t
first-of s t e = cc

pub stands-for-one : (G : List Rule) (names : List (Kind × List ℕ)) (values : List (List ℕ)) (s t : Tree) → StandsFor G names values s → StandsFor G names values t → s ≡ t
stands-for-one G names values s t a b =
    let e : texts_all (more s none) ≡ texts_all (more t none) = texts-one s ∙ sym a.texts ∙ b.texts ∙ sym (texts-one t) in
    first-of s t (codes-one names (more s none) (more t none) (value G) [] [] a.code b.code (document-valued s a.document, tt) (document-valued t b.document, tt) (ap (λ xs. xs ++ []) e)).0

-- where no pair of kind and name stands twice, a list of nodes has one code
pub code-one : (names : List (Kind × List ℕ)) → AreDistinct names → (ts : Trees) (a b : Term) → Codes names ts a → Codes names ts b → a ≡ b
code-one names one none a b c d = c ∙ sym d
code-one names one (more (node k n v ks) ts) a b c d =
    let symbol : c.0 ≡ d.0 = one k n c.0 d.0 c.3 d.3 in
    let below : c.1 ≡ d.1 = code-one names one ks c.1 d.1 c.4 d.4 in
    let behind : c.2 ≡ d.2 = code-one names one ts c.2 d.2 c.5 d.5 in
    let same : Node c.0 c.1 c.2 ≡ Node d.0 d.1 d.2 = cc in
    c.6 ∙ same ∙ sym d.6
