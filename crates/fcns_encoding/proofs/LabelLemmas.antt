-- Bodies that are the labels of a term.
use Rattle.std.proofs.Common.{◌≡◌, ℕ, zero, suc, ◌<◌, List, [], ◌∷◌, ◌++◌, length, get_or, take, drop, refl, ap, sym, ◌∙◌, append_assoc, append-nil, length-append, arith}
use Rattle.rule_arena.proofs.PreorderLemmas.{AreTerms-append}
use Rattle.rule_arena.specs.declared.label.Label.{Label}
use Rattle.rule_arena.specs.declared.label.Label.TheVariants.{Symbol}
use Rattle.plain_tree.specs.Tree.{Tree, node, Trees, none, more}
use Rattle.plain_tree.specs.Numbers.{texts}
use Rattle.plain_tree.specs.Lawful.{IsDocument}
use Rattle.plain_tree.specs.NameTable.{AreDistinct}
use Rattle.slt_grammar.specs.Bodies.{arity, IsTerm, params, CallsBelow}
use Rattle.slt_grammar.specs.Algebras.{apply, meanings}
use Rattle.slt_grammar.specs.Terms.{Term, Leaf, Node, Hole, holes_of, term_algebra}
use Rattle.slt_grammar.specs.Grammars.{IsLawfulAt, IsGrammar, IsSwept, value}
use Rattle.slt_grammar.specs.Coding.{Codes}
use Rattle.slt_grammar.specs.Standing.{StandsFor}
use Rattle.slt_grammar.proofs.Meanings.{params-append}
use Rattle.slt_grammar.proofs.Keeping.{CallsBelow-append}
use Rattle.fcns_encoding.specs.Labels.{term_labels, one_rule}
use Rattle.fcns_encoding.specs.Interning.{Pair}
use Rattle.fcns_encoding.specs.Laws.{AreLawful}

split-nil : (xs ys : List Term) → xs ++ ys ≡ [] → (xs ≡ []) × (ys ≡ [])
split-nil [] ys e = (refl, e)
split-nil (x ∷ xs) ys e = (cc, cc)

pub labels-term : (ranks : List ℕ) (t : Term) → IsTerm ranks (term_labels t)
labels-term ranks Leaf = tt
labels-term ranks (Node f a b) = AreTerms-append (arity ranks) 1 1 (term_labels a) (term_labels b) (labels-term ranks a) (labels-term ranks b)
labels-term ranks (Hole i) = tt

pub labels-calls : (rule : ℕ) (t : Term) → CallsBelow rule (term_labels t)
labels-calls rule Leaf = tt
labels-calls rule (Node f a b) = CallsBelow-append rule (term_labels a) (term_labels b) (labels-calls rule a) (labels-calls rule b)
labels-calls rule (Hole i) = tt

pub labels-params : (t : Term) → params (term_labels t) ≡ length (holes_of t)
labels-params Leaf = refl
labels-params (Node f a b) = omega (arith, params-append (term_labels a) (term_labels b), length-append (holes_of a) (holes_of b), labels-params a, labels-params b)
labels-params (Hole i) = refl

-- the labels of a term without holes mean the term, before what follows
pub labels-mean : (ranks : List ℕ) (fs : List (List Term → Term)) (t : Term) (args : List Term) (ys : List Label) (rest : List Term) → holes_of t ≡ []
    → meanings term_algebra ranks fs args (term_labels t ++ ys) rest ≡ t ∷ meanings term_algebra ranks fs args ys rest
labels-mean ranks fs Leaf args ys rest e = refl
labels-mean ranks fs (Node f a b) args ys rest e =
    let h = split-nil (holes_of a) (holes_of b) e in
    let all : meanings term_algebra ranks fs args ((term_labels a ++ term_labels b) ++ ys) rest ≡ a ∷ b ∷ meanings term_algebra ranks fs args ys rest =
    ap (λ ls. meanings term_algebra ranks fs args ls rest) (append_assoc (term_labels a) (term_labels b) ys)
    ∙ labels-mean ranks fs a args (term_labels b ++ ys) rest h.0 ∙ ap (λ ms. a ∷ ms) (labels-mean ranks fs b args ys rest h.1) in
    ap (λ (ms : List Term). apply term_algebra fs (Symbol f) (take 2 ms) ∷ drop 2 ms) all
labels-mean ranks fs (Hole i) args ys rest e = cc

module _ (t : Term) (whole : holes_of t ≡ []) where
  pub value-one : value (one_rule t) ≡ t
  value-one =
      ap (λ ls. get_or (meanings term_algebra (0 ∷ []) [] [] ls []) 0 Leaf) (sym (append-nil (term_labels t)))
      ∙ ap (λ (ms : List Term). get_or ms 0 Leaf) (labels-mean (0 ∷ []) [] t [] [] [] whole)

  lawful-one : (r : ℕ) → r < 1 → IsLawfulAt (one_rule t) r
  lawful-one zero h = record {
    earlier = labels-calls 0 t;
    shaped = record {
      term = labels-term (0 ∷ []) t;
      small = omega arith;
      start = λ _. refl;
    };
    linear = labels-params t ∙ ap length whole;
  }
  lawful-one (suc r) h = absurd (omega arith)

  pub grammar-one : IsGrammar (one_rule t)
  grammar-one = record { some = omega arith; each = lawful-one }

  pub swept-one : IsSwept (one_rule t)
  swept-one = λ r h. absurd (omega arith)

pub one-rule-means : (t : Term) → holes_of t ≡ [] → IsGrammar (one_rule t) × IsSwept (one_rule t) × (value (one_rule t) ≡ t)
one-rule-means t whole = (grammar-one t whole, swept-one t whole, value-one t whole)

-- a code has no holes
pub codes-whole : (names : List Pair) (ts : Trees) (term : Term) → Codes names ts term → holes_of term ≡ []
codes-whole names none term c = ap holes_of c
codes-whole names (more (node k n v ks) ts) term c =
    ap holes_of c.6 ∙ ap (λ hs. hs ++ holes_of c.2) (codes-whole names ks c.1 c.4) ∙ codes-whole names ts c.2 c.5

pub one-rule-stands : (t : Tree) (names : List Pair) (term : Term) → IsDocument t → AreDistinct names → AreLawful names → Codes names (more t none) term
    → IsGrammar (one_rule term) × IsSwept (one_rule term) × StandsFor (one_rule term) names (texts t) t
one-rule-stands t names term is distinct lawful code =
    let whole = codes-whole names (more t none) term code in
    let e = value-one term whole in (
      grammar-one term whole,
      swept-one term whole,
      record {
        document = is;
        distinct = distinct;
        lawful = lawful;
        code = rw e code;
        texts = refl;
      },
    )
