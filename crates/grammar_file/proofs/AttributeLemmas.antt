-- Trees have lawful attributes exactly where the marks of their code have unlike ones.
use Rattle.std.proofs.Common.{◌≡◌, ℕ, Bool, true, false, List, [], ◌∷◌, ◌++◌, Option, Some, slice_get, refl, sym, ap, ◌∙◌, subst, append_assoc}
use Rattle.plain_tree.specs.declared.kind.Kind.{Kind}
use Rattle.plain_tree.specs.declared.kind.Kind.TheVariants.{Document, Element, Attribute, Text, Comment, Instruction}
use Rattle.plain_tree.specs.Tree.{Tree, node, Trees, none, more}
use Rattle.plain_tree.specs.Lawful.{IsNew, IsOfKind, AreElementKids, AreDocumentKids, AreLawfulTrees}
use Rattle.plain_tree.specs.NameTable.{AreDistinct}
use Rattle.rule_arena.specs.declared.label.Label.{Label}
use Rattle.slt_grammar.specs.Coding.{Codes}
use Rattle.slt_grammar.specs.Segments.{listed}
use Rattle.slt_grammar.specs.Terms.{Term, Leaf, Node, Hole}
use Rattle.grammar_file.specs.Marks.{mark_at, marks}
use Rattle.grammar_file.specs.Unlike.{is_attribute, IsNewIn, AreUnlike}
use Rattle.grammar_file.specs.declared.text_lists.Mark.{Mark}
use Rattle.grammar_file.specs.declared.text_lists.Mark.TheVariants.{Valued, Bare}
use Rattle.grammar_file.proofs.ChainLemmas.{false-true, tagged-kids, new-among}

same-pair : (p q : Kind × List ℕ) → Some p ≡ Some q → p ≡ q
same-pair p q e = cc

same-name : (n m : List ℕ) (p : Option (Kind × List ℕ)) → p ≡ Some (Attribute, n) → p ≡ Some (Attribute, m) → n ≡ m
same-name n m p e f = ap (λ pair. pair.1) (same-pair (Attribute, n) (Attribute, m) (sym e ∙ f))

pub document-kids : (rooted : Bool) (ts : Trees) → AreDocumentKids rooted ts → AreElementKids false ts
document-kids rooted none h = tt
document-kids rooted (more (node Document n v ks) ts) h = absurd h
document-kids rooted (more (node Element n v ks) ts) h = document-kids true ts h.1
document-kids rooted (more (node Attribute n v ks) ts) h = absurd h
document-kids rooted (more (node Text n v ks) ts) h = absurd h
document-kids rooted (more (node Comment n v ks) ts) h = document-kids rooted ts h
document-kids rooted (more (node Instruction n v ks) ts) h = document-kids rooted ts h

module _ (names : List (Kind × List ℕ)) where
  -- ---- marks that are joined
  new-append : (f : ℕ) (xs ys : List Mark) → IsNewIn names f xs → IsNewIn names f ys → IsNewIn names f (xs ++ ys)
  new-append f [] ys h k = k
  new-append f (Bare ∷ xs) ys h k = tt
  new-append f (Valued g ∷ xs) ys h k = λ a. ((h a).0, new-append f xs ys (h a).1 k)

  new-left : (f : ℕ) (xs ys : List Mark) → IsNewIn names f (xs ++ ys) → IsNewIn names f xs
  new-left f [] ys h = tt
  new-left f (Bare ∷ xs) ys h = tt
  new-left f (Valued g ∷ xs) ys h = λ a. ((h a).0, new-left f xs ys (h a).1)

  unlike-append : (xs ys : List Mark) → AreUnlike names xs → AreUnlike names ys → ((f : ℕ) → IsNewIn names f ys) → AreUnlike names (xs ++ ys)
  unlike-append [] ys h k other = k
  unlike-append (Bare ∷ xs) ys h k other = unlike-append xs ys h k other
  unlike-append (Valued f ∷ xs) ys h k other = ((λ a. new-append f xs ys (h.0 a) (other f)), unlike-append xs ys h.1 k other)

  pub unlike-left : (xs ys : List Mark) → AreUnlike names (xs ++ ys) → AreUnlike names xs
  unlike-left [] ys h = tt
  unlike-left (Bare ∷ xs) ys h = unlike-left xs ys h
  unlike-left (Valued f ∷ xs) ys h = ((λ a. new-left f xs ys (h.0 a)), unlike-left xs ys h.1)

  pub unlike-right : (xs ys : List Mark) → AreUnlike names (xs ++ ys) → AreUnlike names ys
  unlike-right [] ys h = h
  unlike-right (Bare ∷ xs) ys h = unlike-right xs ys h
  unlike-right (Valued f ∷ xs) ys h = unlike-right xs ys h.1

  -- ---- marks of codes
  pub marks-listed : (t : Term) (rest : List Label) → marks names (listed t rest) ≡ marks names (listed t []) ++ marks names rest
  marks-listed Leaf rest = refl
  marks-listed (Hole i) rest = refl
  marks-listed (Node f a b) rest =
      let own : List Mark = mark_at (slice_get names f) f in
      let p = marks-listed a (listed b rest) ∙ ap (λ xs. marks names (listed a []) ++ xs) (marks-listed b rest) in
      let q = marks-listed a (listed b []) in
      ap (λ xs. own ++ xs) (p ∙ sym (append_assoc (marks names (listed a [])) (marks names (listed b [])) (marks names rest)) ∙ ap (λ xs. xs ++ marks names rest) (sym q))
      ∙ sym (append_assoc own (marks names (listed a (listed b []))) (marks names rest))

  -- a node before others
  marks-node : (f : ℕ) (a b : Term) (pair : Option (Kind × List ℕ)) → slice_get names f ≡ pair → marks names (listed (Node f a b) []) ≡ mark_at pair f ++ (marks names (listed a []) ++ marks names (listed b []))
  marks-node f a b pair e = ap (λ p. mark_at p f ++ marks names (listed a (listed b []))) e ∙ ap (λ xs. mark_at pair f ++ xs) (marks-listed a (listed b []))

  -- a node without kids before others
  marks-single : (f : ℕ) (a b : Term) (pair : Option (Kind × List ℕ)) → slice_get names f ≡ pair → a ≡ Leaf → marks names (listed (Node f a b) []) ≡ mark_at pair f ++ marks names (listed b [])
  marks-single f a b pair e leaf = marks-node f a b pair e ∙ ap (λ t. mark_at pair f ++ (marks names (listed t []) ++ marks names (listed b []))) leaf

  leaf : (ks : Trees) (a : Term) → ks ≡ none → Codes names ks a → a ≡ Leaf
  leaf ks a e c = subst (λ x. Codes names x a) e c

  -- an attribute, and what isn't one
  attribute : (f : ℕ) (n : List ℕ) → slice_get names f ≡ Some (Attribute, n) → is_attribute (slice_get names f) ≡ true
  attribute f n e = ap is_attribute e

  no-attribute : (f : ℕ) (pair : Option (Kind × List ℕ)) → slice_get names f ≡ pair → is_attribute pair ≡ false → is_attribute (slice_get names f) ≡ true → ⊥
  no-attribute f pair e off a = false-true (sym off ∙ ap is_attribute (sym e) ∙ a)

  -- ---- from marks to trees
  pub new-name : AreDistinct names → (f : ℕ) (n : List ℕ) → slice_get names f ≡ Some (Attribute, n) → (ts : Trees) (term : Term) → Codes names ts term → AreElementKids true ts → AreLawfulTrees ts
      → IsNewIn names f (marks names (listed term [])) → IsNew n ts
  new-name one f n e none term c k l h = tt
  new-name one f n e (more (node Document m v ks) ts) term c k l h = absurd k
  new-name one f n e (more (node Element m v ks) ts) term c k l h = (λ x. cc, new-among n ts k)
  new-name one f n e (more (node Text m v ks) ts) term c k l h = (λ x. cc, new-among n ts k)
  new-name one f n e (more (node Comment m v ks) ts) term c k l h = (λ x. cc, new-among n ts k)
  new-name one f n e (more (node Instruction m v ks) ts) term c k l h = (λ x. cc, new-among n ts k)
  new-name one f n e (more (node Attribute m v ks) ts) term c k l h =
      let g = c.0 in
      let is : marks names (listed term []) ≡ Valued g ∷ marks names (listed c.2 []) = ap (λ t. marks names (listed t [])) c.6 ∙ marks-single g c.1 c.2 (Some (Attribute, m)) c.3 (leaf ks c.1 l.0.1 c.4) in
      let first : IsNewIn names f (Valued g ∷ marks names (listed c.2 [])) = subst (IsNewIn names f) is h in
      let p = first (attribute g m c.3) in (
        (λ x same. p.0 (one Attribute n f g e (c.3 ∙ ap (λ w. Some (Attribute, w)) (sym same)))),
        new-name one f n e ts c.2 c.5 k.2 l.1 p.1,
      )

  -- a node that is an attribute, before others
  pub new-first : AreDistinct names → (f : ℕ) (kind : Kind) (n : List ℕ) → slice_get names f ≡ Some (kind, n) → kind ≡ Attribute → (ks ts : Trees) (a b : Term) → ks ≡ none → Codes names ks a → Codes names ts b
      → AreElementKids true ts → AreLawfulTrees ts → AreUnlike names (mark_at (Some (kind, n)) f ++ marks names (listed a (listed b []))) → IsNew n ts
  new-first one f kind n e is ks ts a b bare below behind kids lawful u =
      let at = e ∙ ap (λ k. Some (k, n)) is in
      let own : mark_at (Some (kind, n)) f ≡ Valued f ∷ [] = ap (λ k. mark_at (Some (k, n)) f) is in
      let rest : marks names (listed a (listed b [])) ≡ marks names (listed b []) = ap (λ t. marks names (listed t (listed b []))) (leaf ks a bare below) in
      let all : AreUnlike names (Valued f ∷ marks names (listed b [])) = subst (λ xs. AreUnlike names (Valued f ∷ xs)) rest (subst (λ xs. AreUnlike names (xs ++ marks names (listed a (listed b [])))) own u) in
      new-name one f n at ts b behind kids lawful (all.0 (attribute f n at))

  -- ---- from trees to marks
  -- behind another node than an attribute
  new-behind : (f : ℕ) (ts : Trees) (term : Term) → Codes names ts term → AreElementKids false ts → IsNewIn names f (marks names (listed term []))
  new-behind f none term c k = subst (λ t. IsNewIn names f (marks names (listed t []))) (sym c) tt
  new-behind f (more (node Document m v ks) ts) term c k = absurd k
  new-behind f (more (node Attribute m v ks) ts) term c k = absurd (false-true k.0)
  new-behind f (more (node Element m v ks) ts) term c k = subst (IsNewIn names f) (sym (ap (λ t. marks names (listed t [])) c.6 ∙ marks-node c.0 c.1 c.2 (Some (Element, m)) c.3)) tt
  new-behind f (more (node Text m v ks) ts) term c k =
      subst (IsNewIn names f) (sym (ap (λ t. marks names (listed t [])) c.6 ∙ marks-node c.0 c.1 c.2 (Some (Text, m)) c.3)) (λ a. absurd (no-attribute c.0 (Some (Text, m)) c.3 refl a))
  new-behind f (more (node Comment m v ks) ts) term c k =
      subst (IsNewIn names f) (sym (ap (λ t. marks names (listed t [])) c.6 ∙ marks-node c.0 c.1 c.2 (Some (Comment, m)) c.3)) (λ a. absurd (no-attribute c.0 (Some (Comment, m)) c.3 refl a))
  new-behind f (more (node Instruction m v ks) ts) term c k =
      subst (IsNewIn names f) (sym (ap (λ t. marks names (listed t [])) c.6 ∙ marks-node c.0 c.1 c.2 (Some (Instruction, m)) c.3)) (λ a. absurd (no-attribute c.0 (Some (Instruction, m)) c.3 refl a))

  new-in : (f : ℕ) (n : List ℕ) → slice_get names f ≡ Some (Attribute, n) → (ts : Trees) (term : Term) → Codes names ts term → AreElementKids true ts → AreLawfulTrees ts → IsNew n ts → IsNewIn names f (marks names (listed term []))
  new-in f n e none term c k l h = subst (λ t. IsNewIn names f (marks names (listed t []))) (sym c) tt
  new-in f n e (more (node Document m v ks) ts) term c k l h = absurd k
  new-in f n e (more (node Element m v ks) ts) term c k l h = new-behind f (more (node Element m v ks) ts) term c k
  new-in f n e (more (node Text m v ks) ts) term c k l h = new-behind f (more (node Text m v ks) ts) term c k
  new-in f n e (more (node Comment m v ks) ts) term c k l h = new-behind f (more (node Comment m v ks) ts) term c k
  new-in f n e (more (node Instruction m v ks) ts) term c k l h = new-behind f (more (node Instruction m v ks) ts) term c k
  new-in f n e (more (node Attribute m v ks) ts) term c k l h =
      let g = c.0 in
      let is : marks names (listed term []) ≡ Valued g ∷ marks names (listed c.2 []) = ap (λ t. marks names (listed t [])) c.6 ∙ marks-single g c.1 c.2 (Some (Attribute, m)) c.3 (leaf ks c.1 l.0.1 c.4) in
      subst (IsNewIn names f) (sym is) (λ a. (
        (λ same. h.0 refl (same-name n m (slice_get names f) e (ap (slice_get names) same ∙ c.3))),
        new-in f n e ts c.2 c.5 k.2 l.1 h.1,
      ))

  -- a node with a text, and no kids, that isn't an attribute
  unlike-single : (f : ℕ) (pair : Kind × List ℕ) (a b term : Term) → slice_get names f ≡ Some pair → is_attribute (Some pair) ≡ false → mark_at (Some pair) f ≡ Valued f ∷ [] → a ≡ Leaf → term ≡ Node f a b
      → AreUnlike names (marks names (listed b [])) → AreUnlike names (marks names (listed term []))
  unlike-single f pair a b term e off valued leaf is h =
      subst (AreUnlike names) (sym (ap (λ t. marks names (listed t [])) is ∙ marks-single f a b (Some pair) e leaf ∙ ap (λ xs. xs ++ marks names (listed b [])) valued))
      ((λ x. absurd (no-attribute f (Some pair) e off x)), h)

  pub unlike : (ts : Trees) (term : Term) → Codes names ts term → AreElementKids true ts → AreLawfulTrees ts → AreUnlike names (marks names (listed term []))
  unlike none term c k l = subst (λ t. AreUnlike names (marks names (listed t []))) (sym c) tt
  unlike (more (node Document m v ks) ts) term c k l = absurd k
  unlike (more (node Element m v ks) ts) term c k l =
      subst (AreUnlike names) (sym (ap (λ t. marks names (listed t [])) c.6 ∙ marks-node c.0 c.1 c.2 (Some (Element, m)) c.3))
      (unlike-append (marks names (listed c.1 [])) (marks names (listed c.2 [])) (unlike ks c.1 c.4 l.0.1 l.0.2) (unlike ts c.2 c.5 (tagged-kids ts k) l.1) (λ f. new-behind f ts c.2 c.5 k))
  unlike (more (node Text m v ks) ts) term c k l = unlike-single c.0 (Text, m) c.1 c.2 term c.3 refl refl (leaf ks c.1 l.0.1 c.4) c.6 (unlike ts c.2 c.5 (tagged-kids ts k) l.1)
  unlike (more (node Comment m v ks) ts) term c k l = unlike-single c.0 (Comment, m) c.1 c.2 term c.3 refl refl (leaf ks c.1 l.0.1 c.4) c.6 (unlike ts c.2 c.5 (tagged-kids ts k) l.1)
  unlike (more (node Instruction m v ks) ts) term c k l = unlike-single c.0 (Instruction, m) c.1 c.2 term c.3 refl refl (leaf ks c.1 l.0.1 c.4) c.6 (unlike ts c.2 c.5 (tagged-kids ts k) l.1)
  unlike (more (node Attribute m v ks) ts) term c k l =
      let is : marks names (listed term []) ≡ Valued c.0 ∷ marks names (listed c.2 []) = ap (λ t. marks names (listed t [])) c.6 ∙ marks-single c.0 c.1 c.2 (Some (Attribute, m)) c.3 (leaf ks c.1 l.0.1 c.4) in
      subst (AreUnlike names) (sym is) ((λ a. new-in c.0 m c.3 ts c.2 c.5 k.2 l.1 k.1), unlike ts c.2 c.5 k.2 l.1)

  -- and those of a document
  pub unlike-document : (t : Tree) (term : Term) → IsOfKind Document t → Codes names (more t none) term → AreLawfulTrees (more t none) → AreUnlike names (marks names (listed term []))
  unlike-document (node Document n v ks) term i c l =
      let is : marks names (listed term []) ≡ Bare ∷ (marks names (listed c.1 []) ++ marks names (listed c.2 [])) = ap (λ t. marks names (listed t [])) c.6 ∙ marks-node c.0 c.1 c.2 (Some (Document, n)) c.3 in
      let last : marks names (listed c.2 []) ≡ [] = ap (λ t. marks names (listed t [])) c.5 in
      subst (AreUnlike names) (sym is) (unlike-append (marks names (listed c.1 [])) (marks names (listed c.2 [])) (unlike ks c.1 c.4 (tagged-kids ks (document-kids false ks l.0.1)) l.0.2)
      (subst (AreUnlike names) (sym last) tt) (λ f. subst (IsNewIn names f) (sym last) tt))
  unlike-document (node Element n v ks) term i c l = cc
  unlike-document (node Attribute n v ks) term i c l = cc
  unlike-document (node Text n v ks) term i c l = cc
  unlike-document (node Comment n v ks) term i c l = cc
  unlike-document (node Instruction n v ks) term i c l = cc
