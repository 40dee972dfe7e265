-- The body of a fragment's code means that code.
use Rattle.std.proofs.Common.{◌≡◌, ℕ, List, [], ◌∷◌, ◌++◌, length, get_or, take, drop, ap, sym, ◌∙◌, append_assoc, append-nil}
use Rattle.rule_arena.specs.declared.label.Label.{Label}
use Rattle.rule_arena.specs.declared.label.Label.TheVariants.{Param, Symbol}
use Rattle.plain_tree.specs.declared.kind.Kind.{Kind}
use Rattle.plain_tree.specs.Tree.{node, Trees, none, more}
use Rattle.slt_grammar.specs.Algebras.{apply, meanings, meaning}
use Rattle.slt_grammar.specs.Coding.{CodesTo}
use Rattle.slt_grammar.specs.Terms.{Term, Leaf, Node, Hole, holes_of, holes, substitute, term_algebra}
use Rattle.linked_edits.specs.Endings.{EndsInParam}
use Rattle.fcns_encoding.specs.Labels.{term_labels}
use Rattle.fcns_encoding.proofs.LabelLemmas.{labels-calls, labels-mean, labels-params, labels-term}
use Rattle.tree_updates.specs.CodePlaces.{IsBodyOf}
use Rattle.tree_updates.proofs.CodeChanges.{whole-stays}
use Rattle.tree_updates.proofs.CodeEdits.{codes-whole}

module _ (names : List (Kind × List ℕ)) (ranks : List ℕ) (fs : List (List Term → Term)) (arg : Term) where
  -- the labels of a code that ends in a parameter mean it with the argument at its end
  fragment-mean : (F : Trees) (front : Term) → CodesTo names (Hole 0) F front → (ys : List Label) (rest : List Term)
      → meanings term_algebra ranks fs (arg ∷ []) (term_labels front ++ ys) rest ≡ substitute front (arg ∷ []) ∷ meanings term_algebra ranks fs [] ys rest
  fragment-mean none front c ys rest = ap (λ t. meanings term_algebra ranks fs (arg ∷ []) (term_labels t ++ ys) rest) c ∙ ap (λ t. substitute t (arg ∷ []) ∷ meanings term_algebra ranks fs [] ys rest) (sym c)
  fragment-mean (more (node k m v ks) F) front c ys rest =
      let a : Term = c.1 in
      let b : Term = c.2 in
      let whole : holes_of a ≡ [] = codes-whole names ks a c.4 in
      let all : meanings term_algebra ranks fs (arg ∷ []) ((term_labels a ++ term_labels b) ++ ys) rest ≡ a ∷ substitute b (arg ∷ []) ∷ meanings term_algebra ranks fs [] ys rest =
      ap (λ ls. meanings term_algebra ranks fs (arg ∷ []) ls rest) (append_assoc (term_labels a) (term_labels b) ys)
      ∙ labels-mean ranks fs a (arg ∷ []) (term_labels b ++ ys) rest whole ∙ ap (λ ms. a ∷ ms) (fragment-mean F b c.5 ys rest) in
      let same : substitute a (arg ∷ []) ≡ a = whole-stays a (arg ∷ []) whole in
      ap (λ t. meanings term_algebra ranks fs (arg ∷ []) (term_labels t ++ ys) rest) c.6
      ∙ ap (λ (ms : List Term). apply term_algebra fs (Symbol c.0) (take 2 ms) ∷ drop 2 ms) all
      ∙ ap (λ x. Node c.0 x (substitute b (arg ∷ [])) ∷ meanings term_algebra ranks fs [] ys rest) (sym same)
      ∙ ap (λ t. substitute t (arg ∷ []) ∷ meanings term_algebra ranks fs [] ys rest) (sym c.6)

  pub fragment-means : (F : Trees) (front : Term) → CodesTo names (Hole 0) F front → meaning term_algebra ranks fs (term_labels front) (arg ∷ []) ≡ substitute front (arg ∷ [])
  fragment-means F front c =
      ap (λ (ms : List Term). get_or ms 0 Leaf) (ap (λ ls. meanings term_algebra ranks fs (arg ∷ []) ls []) (sym (append-nil (term_labels front))) ∙ fragment-mean F front c [] [])

-- a code that ends in a parameter, with that parameter at its end, is itself
pub fragment-own : (names : List (Kind × List ℕ)) (F : Trees) (front : Term) → CodesTo names (Hole 0) F front → substitute front (holes 0 1) ≡ front
fragment-own names none front c = ap (λ t. substitute t (holes 0 1)) c ∙ sym c
fragment-own names (more (node k m v ks) F) front c =
    ap (λ t. substitute t (holes 0 1)) c.6 ∙ ap (λ x. Node c.0 x (substitute c.2 (holes 0 1))) (whole-stays c.1 (holes 0 1) (codes-whole names ks c.1 c.4))
    ∙ ap (λ x. Node c.0 c.1 x) (fragment-own names F c.2 c.5) ∙ sym c.6

pub fragment-hole : (names : List (Kind × List ℕ)) (F : Trees) (front : Term) → CodesTo names (Hole 0) F front → holes_of front ≡ Hole 0 ∷ []
fragment-hole names none front c = ap holes_of c
fragment-hole names (more (node k m v ks) F) front c = ap holes_of c.6 ∙ ap (λ hs. hs ++ holes_of c.2) (codes-whole names ks c.1 c.4) ∙ fragment-hole names F c.2 c.5

-- and is the last of its labels
pub fragment-last : (names : List (Kind × List ℕ)) (F : Trees) (front : Term) → CodesTo names (Hole 0) F front → EndsInParam (term_labels front)
fragment-last names none front c = record { front = []; is = ap term_labels c }
fragment-last names (more (node k m v ks) F) front c =
    let r = fragment-last names F c.2 c.5 in
    record {
      front = Symbol c.0 ∷ (term_labels c.1 ++ r.front);
      is = ap term_labels c.6 ∙ ap (λ ls. Symbol c.0 ∷ (term_labels c.1 ++ ls)) r.is ∙ ap (λ ls. Symbol c.0 ∷ ls) (sym (append_assoc (term_labels c.1) r.front (Param ∷ [])));
    }

-- its labels are a body that may come around any term
pub fragment-body : (names : List (Kind × List ℕ)) (F : Trees) (front : Term) → CodesTo names (Hole 0) F front → IsBodyOf front (term_labels front)
fragment-body names F front c = record {
  plain = labels-calls 0 front;
  term = λ ranks. labels-term ranks front;
  linear = labels-params front ∙ ap length (fragment-hole names F front c);
  last = fragment-last names F front c;
  means = λ ranks fs. fragment-means names ranks fs (Hole 0) F front c ∙ fragment-own names F front c;
}
