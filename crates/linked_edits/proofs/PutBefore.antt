-- What a body that ends in its parameter makes of the start's nodes, and of an index.
use Rattle.std.proofs.Common.{◌≡◌, ◌≢◌, ℕ, ◌+◌, List, [], ◌∷◌, ◌++◌, length, take, Some, None, ap, sym, ◌∙◌, subst, arith, length-append}
use Rattle.std.proofs.lemmas.List.{length-take-le, take_at}
use Rattle.rule_arena.specs.Preorder.{AreTerms, subterm, with_subterm}
use Rattle.rule_arena.specs.Terms.{Node, kids_of}
use Rattle.rule_arena.specs.declared.key.Key.{Key}
use Rattle.rule_arena.specs.declared.label.Label.{Label}
use Rattle.rule_arena.specs.declared.label.Label.TheVariants.{Param}
use Rattle.slt_grammar.specs.Algebras.{ranks_of}
use Rattle.slt_grammar.specs.Bodies.{IsTerm, params}
use Rattle.slt_grammar.specs.Copying.{copied}
use Rattle.slt_grammar.specs.Keyed.{IsKeyed, Keyed, key_at, nodes_at, rules_of}
use Rattle.slt_grammar.specs.KeyedEdits.{with_nodes}
use Rattle.slt_grammar.specs.Wrapping.{IsInStart, IsWrapped, IsWrapper, nodes_of}
use Rattle.slt_grammar.proofs.KeyedEdits.{length-with_nodes, nodes-with_nodes}
use Rattle.slt_grammar.proofs.KeyedLemmas.{key_at-within}
use Rattle.slt_grammar.proofs.Meanings.{params-append}
use Rattle.digram_index.specs.Keeping.{IsIndexBut}
use Rattle.digram_index.specs.Linked.{IsIndexOf, Linked, cell}
use Rattle.digram_index.specs.Partly.{IsPartOf, IsRight}
use Rattle.linked_edits.specs.Endings.{EndsInParam}
use Rattle.linked_edits.specs.Runs.{IsBetween, IsRun, start_of}
use Rattle.linked_edits.proofs.AroundParts.{EndsInCopies, ends-in-copies}
use Rattle.linked_edits.proofs.Kept.{all-linked, part-of}
use Rattle.linked_edits.proofs.WrappedIndex.{copies-run, near, near-or-not, subterm-is-term, wrapped-but}

-- nodes were put before the term of the node at a place, with as many parameters less than labels
pub record IsPutBefore (g h : Keyed) (r p labels : ℕ) : Type 0 where
  pub pre : List Node
  pub many : length pre + 1 ≡ labels
  pub all : AreTerms kids_of 1 (pre ++ subterm kids_of (nodes_at g.rules r) p)
  pub new : h.rules ≡ with_nodes g.rules r (with_subterm kids_of (nodes_at g.rules r) p (pre ++ subterm kids_of (nodes_at g.rules r) p))

module _ (g h : Keyed) (K : IsKeyed g) (K' : IsKeyed h) (at : Key) (S : IsInStart g.rules at) (body : List Label) (E : EndsInParam body) (B : IsWrapper (rules_of g.rules) body) (W : IsWrapped g.rules h.rules S.here.rule S.here.place at body) where
  abbrev r : ℕ
  r = S.here.rule

  abbrev p : ℕ
  p = S.here.place

  abbrev sub : List Node
  sub = subterm kids_of (nodes_at g.rules S.here.rule) S.here.place

  abbrev ranks : List ℕ
  ranks = ranks_of (rules_of g.rules)

  copies : EndsInCopies ranks at E.front sub W.keys
  copies = ends-in-copies ranks at sub (subterm-is-term g K at r p S.here.there) E.front W.keys (omega (arith, B.linear, ap params E.is, params-append E.front (Param ∷ [])))

  pub put-before : IsPutBefore g h S.here.rule S.here.place (length body)
  put-before = record {
    pre = copies.pre;
    many = omega (arith, copies.many, ap length E.is, length-append E.front (Param ∷ []));
    all = copies.terms 1 (subst (IsTerm ranks) E.is B.term);
    new = W.rules ∙ ap (λ (ls : List Label). with_nodes g.rules r (with_subterm kids_of (nodes_at g.rules r) p (copied (nodes_of ranks at ls) (sub ∷ []) W.keys))) E.is
        ∙ ap (λ (xs : List Node). with_nodes g.rules r (with_subterm kids_of (nodes_at g.rules r) p xs)) copies.whole;
  }

  -- what stands before the node stays
  pub put-front : take S.here.place (nodes_at h.rules (start_of h.rules)) ≡ take S.here.place (nodes_at g.rules (start_of g.rules))
  put-front =
      let ns : List Node = nodes_at g.rules r in
      let inside = key_at-within g.rules r p at S.here.there in
      let old : start_of g.rules ≡ r = omega (arith, S.start) in
      let new : start_of h.rules ≡ r = omega (arith, S.start, ap length W.rules ∙ length-with_nodes g.rules r _ inside.0) in
      let nodes = ap (λ H. nodes_at H r) W.rules ∙ nodes-with_nodes g.rules r _ inside.0 in
      ap (λ j. take p (nodes_at h.rules j)) new ∙ ap (take p) nodes ∙ take_at (take p ns) _ p (length-take-le p ns (omega (arith, inside.1))) ∙ ap (λ j. take p (nodes_at g.rules j)) (sym old)

  module _ (I mid : Linked) (A : IsIndexOf g I) (free : cell mid at.number ≡ None) (others : (k : ℕ) → k ≢ at.number → cell mid k ≡ cell I k) (rules : mid.rules ≡ I.rules) where
    but : IsIndexBut h mid (near g h K K' at r p S.start S.here.there put-before.pre put-before.all put-before.new)
    but = wrapped-but g h K K' at r p S.start S.here.there put-before.pre put-before.all put-before.new I mid A free others rules

    pub put-part : IsPartOf h mid
    put-part = part-of h (near g h K K' at r p S.start S.here.there put-before.pre put-before.all put-before.new) mid but (near-or-not g h K K' at r p S.start S.here.there put-before.pre put-before.all put-before.new)

    -- once the run of what was put there was linked
    pub put-index : (root : Key) → key_at h.rules (start_of h.rules) S.here.place ≡ Some root → (J : Linked) → IsPartOf h J
        → ((R : IsRun h.rules root at) (key : Key) → IsBetween h.rules R.place R.more key.number → IsRight h.rules J key)
        → ((R : IsRun h.rules root at) (k : ℕ) → (IsBetween h.rules R.place R.more k → ⊥) → cell J k ≡ cell mid k) → IsIndexOf h J
    put-index root e J' P right rest =
        let R = copies-run g h K K' at r p S.start S.here.there put-before.pre put-before.all put-before.new root e in
        all-linked h (near g h K K' at r p S.start S.here.there put-before.pre put-before.all put-before.new) mid but (near-or-not g h K K' at r p S.start S.here.there put-before.pre put-before.all put-before.new) J' P (right R) (rest R)

  -- the run of what was put there and the node
  abbrev pub put-run : (root : Key) → key_at h.rules (start_of h.rules) S.here.place ≡ Some root → IsRun h.rules root at
  put-run root e = copies-run g h K K' at r p S.start S.here.there put-before.pre put-before.all put-before.new root e

  -- which has as many nodes as the body has labels
  pub run-many : (root : Key) (R : IsRun h.rules root at) → key_at h.rules (start_of h.rules) S.here.place ≡ Some root → R.more + 1 ≡ length body
  run-many root R e =
      let Q = put-run root e in
      let first = K'.once root (start_of h.rules) R.place (start_of h.rules) Q.place R.first Q.first in
      let last = K'.once at (start_of h.rules) (R.place + R.more) (start_of h.rules) (Q.place + Q.more) R.last Q.last in
      omega (arith, first.1, last.1, put-before.many)
