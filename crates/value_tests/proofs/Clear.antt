-- Where no text is marked: the value stays, and its rules are apart as they are.
use Rattle.std.proofs.Common.{◌≡◌, ℕ, ◌+◌, ◌*◌, List, [], length, Option, Some, None, false, refl, sym, ap, ◌∙◌, arith}
use Rattle.plain_tree.specs.declared.kind.Kind.{Kind}
use Rattle.rule_arena.specs.declared.label.Label.{Label}
use Rattle.rule_arena.specs.declared.label.Label.TheVariants.{Symbol}
use Rattle.segment_counts.specs.Weights.{text_weight}
use Rattle.slt_grammar.specs.Algebras.{Algebra}
use Rattle.slt_grammar.specs.Automata.{Downward}
use Rattle.slt_grammar.specs.Grammars.{IsGrammar, value, no_rule}
use Rattle.slt_grammar.specs.Terms.{Term, Leaf, Node, Hole, up}
use Rattle.slt_grammar.specs.declared.rules.Rule.{Rule}
use Rattle.value_tests.specs.Isolated.{IsIsolated}
use Rattle.value_tests.specs.MarkLists.{mark_at, NoneIsMarked}
use Rattle.value_tests.specs.MarkedValues.{marked_value}
use Rattle.value_tests.specs.Relabelled.{relabelled}
use Rattle.value_tests.specs.TextPlaces.{sizes, placing, marked}
use Rattle.value_tests.proofs.Isolating.{rank-greatest}
use Rattle.value_tests.proofs.Sums.{sum_below-all, sum_below-zero}

module _ (w : Label → ℕ) (symbols : ℕ) (marks : ℕ → ℕ) (none : (place : ℕ) → marks place ≡ 0) where
  symbol-clear : (f : ℕ) (d : Option ℕ) → marked w symbols marks f d ≡ f
  symbol-clear f None = refl
  symbol-clear f (Some p) =
      let x : ℕ = w (Symbol f) in
      let e : f + symbols * (x * 0) ≡ f = omega arith in
      ap (λ m. f + symbols * (x * m)) (none p) ∙ e

  -- no node gets another symbol
  relabelled-clear : {S : Type 0} (A : Algebra S) (W : Downward S (Option ℕ)) (t : Term) (states : List S) (d : Option ℕ) → relabelled A W (marked w symbols marks) t states d ≡ t
  relabelled-clear A W Leaf states d = refl
  relabelled-clear A W (Hole i) states d = refl
  relabelled-clear A W (Node f a b) states d =
      let s = W.step f d (up A a states) (up A b states) in
      let new : Term → Option ℕ → Term = λ t d. relabelled A W (marked w symbols marks) t states d in
      ap (λ (g : ℕ). Node g (new a s.left) (new b s.right)) (symbol-clear f d)
      ∙ ap (λ (x : Term). Node f x (new b s.right)) (relabelled-clear A W a states s.left)
      ∙ ap (Node f a) (relabelled-clear A W b states s.right)

pub value-clear : (names : List (Kind × List ℕ)) (marks : List ℕ) (G : List Rule) → NoneIsMarked marks → value G ≡ marked_value names marks G
value-clear names marks G none =
    let w : Label → ℕ = text_weight names in
    sym (relabelled-clear w (length names) (mark_at marks) none (sizes w) (placing w) (value G) [] (Some 0))

-- rules of which none is alone
pub isolated-clear : (names : List (Kind × List ℕ)) (marks : List ℕ) (G : List Rule) → IsGrammar G → IsIsolated names marks G G
isolated-clear names marks G g =
    let zero = sum_below-zero (length G) (λ r. 0) (λ r l. refl) in
    let all = sum_below-all (λ (R : Rule). length R.body) G no_rule in
    record {
      grammar = g;
      is_alone = λ r. false;
      alone = omega (arith, zero);
      others = omega (arith, all);
      once = λ r l e. absurd (cc);
      callers = λ r q place l e there. absurd (cc);
      ranks = rank-greatest G;
    }
