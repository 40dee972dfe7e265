-- Bodies that are the code of trees, with a parameter at its end.
use Rattle.std.proofs.Common.{◌≡◌, ◌+◌, ◌-◌, ◌*◌, List, [], ◌∷◌, ◌++◌, length, ap, sym, ◌∙◌, subst, arith, length-append}
use Rattle.rule_arena.specs.declared.label.Label.{Label}
use Rattle.rule_arena.specs.declared.label.Label.TheVariants.{Bottom, Symbol, Call, Param}
use Rattle.plain_tree.specs.NodePairs.{Pair}
use Rattle.plain_tree.specs.Tree.{Tree, node, Trees, none, more, trees, node_count_all}
use Rattle.slt_grammar.specs.Algebras.{meaning, ranks_of, all_meanings}
use Rattle.slt_grammar.specs.Bodies.{CallsBelow, real_nodes}
use Rattle.slt_grammar.specs.Coding.{CodesTo}
use Rattle.slt_grammar.specs.Terms.{Term, Leaf, Node, Hole, holes, holes_of, term_algebra}
use Rattle.slt_grammar.specs.Wrapping.{IsWrapper}
use Rattle.slt_grammar.specs.declared.rules.Rule.{Rule}
use Rattle.fcns_encoding.specs.Labels.{term_labels}
use Rattle.fcns_encoding.proofs.LabelLemmas.{labels-calls, labels-params, labels-term}
use Rattle.linked_edits.specs.Endings.{EndsInParam}
use Rattle.tree_updates.specs.Fragments.{IsCodeOf}
use Rattle.tree_updates.proofs.FragmentBodies.{fragment-hole, fragment-last, fragment-means, fragment-own}

real-append : (xs ys : List Label) → real_nodes (xs ++ ys) ≡ real_nodes xs + real_nodes ys
real-append [] ys = omega arith
real-append (Param ∷ xs) ys = real-append xs ys
real-append (Bottom ∷ xs) ys = omega (arith, real-append xs ys)
real-append (Symbol f ∷ xs) ys = omega (arith, real-append xs ys)
real-append (Call q ∷ xs) ys = omega (arith, real-append xs ys)

labels-real : (t : Term) → real_nodes (term_labels t) + length (holes_of t) ≡ length (term_labels t)
labels-real Leaf = omega arith
labels-real (Node f a b) =
    omega (arith, real-append (term_labels a) (term_labels b), length-append (term_labels a) (term_labels b), length-append (holes_of a) (holes_of b), labels-real a, labels-real b)
labels-real (Hole i) = omega arith

module _ (names : List Pair) where
  -- each node has its symbol, and a bottom behind its kids
  code-labels : (last : Term) → length (term_labels last) ≡ 1 → (F : Trees) (term : Term) → CodesTo names last F term → length (term_labels term) ≡ 2 * node_count_all F + 1
  code-labels last one none term c = omega (arith, ap (λ t. length (term_labels t)) c, one)
  code-labels last one (more (node k m v ks) F) term c =
      let kids = code-labels Leaf (omega arith) ks c.1 c.4 in
      let rest = code-labels last one F c.2 c.5 in
      omega (arith, ap (λ t. length (term_labels t)) c.6, length-append (term_labels c.1) (term_labels c.2), kids, rest)

  module _ (F : List Tree) (body : List Label) (C : IsCodeOf names F body) where
    pub code-length : length body ≡ 2 * node_count_all (trees F) + 1
    code-length = ap length C.is ∙ code-labels (Hole 0) (omega arith) (trees F) C.front C.codes

    pub code-real : real_nodes body ≡ 2 * node_count_all (trees F)
    code-real = omega (arith, code-length, ap length C.is, ap real_nodes C.is, labels-real C.front, ap length (fragment-hole names (trees F) C.front C.codes))

    pub code-last : EndsInParam body
    code-last = subst EndsInParam (sym C.is) (fragment-last names (trees F) C.front C.codes)

    -- it is a body that can be put around a node
    pub code-wrapper : (G : List Rule) → IsWrapper G body
    code-wrapper G =
        subst (IsWrapper G) (sym C.is)
        (record { earlier = labels-calls (length G - 1) C.front; term = labels-term (ranks_of G) C.front; linear = labels-params C.front ∙ ap length (fragment-hole names (trees F) C.front C.codes) })

    -- and has no calls
    pub code-plain : CallsBelow 0 body
    code-plain = subst (CallsBelow 0) (sym C.is) (labels-calls 0 C.front)

    -- and means the code
    pub code-means : (G : List Rule) → meaning term_algebra (ranks_of G) (all_meanings term_algebra G) body (holes 0 1) ≡ C.front
    code-means G =
        ap (λ ls. meaning term_algebra (ranks_of G) (all_meanings term_algebra G) ls (holes 0 1)) C.is
        ∙ fragment-means names (ranks_of G) (all_meanings term_algebra G) (Hole 0) (trees F) C.front C.codes ∙ fragment-own names (trees F) C.front C.codes
