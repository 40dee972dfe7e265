-- Over how many first terms the way to a parameter goes, by kept numbers.
use Rattle.std.proofs.Common.{◌≡◌, ℕ, zero, suc, ◌+◌, ◌*◌, ◌<◌, ◌≤◌, ◌^◌, List, [], ◌∷◌, ◌++◌, length, refl, ap, ◌∙◌, arith, sum_by, subst}
use Rattle.std.proofs.lemmas.List.Sums.{sum_by-cons, sum_by-append}
use Rattle.rule_arena.specs.Preorder.{AreTerms}
use Rattle.rule_arena.specs.declared.label.Label.{Label}
use Rattle.rule_arena.specs.declared.label.Label.TheVariants.{Bottom, Symbol, Call, Param}
use Rattle.slt_grammar.specs.Algebras.{ranks_of}
use Rattle.slt_grammar.specs.Bodies.{params, arity}
use Rattle.slt_grammar.specs.Grammars.{IsGrammar, value_at}
use Rattle.slt_grammar.specs.Segments.{preorder}
use Rattle.slt_grammar.specs.declared.rules.Rule.{Rule}
use Rattle.slt_grammar.proofs.RuleMeanings.{rank_at-ranks_of}
use Rattle.segment_counts.specs.Counting.{CountTable, told_before}
use Rattle.segment_counts.specs.Weights.{all_weight, node_weight, segments_sum}
use Rattle.segment_counts.specs.declared.counts.Measure.TheVariants as measure
use Rattle.segment_counts.proofs.Numbers.{segments_sum-param}
use Rattle.segment_counts.proofs.Telling.{told_before-is}
use Rattle.preorder_address.specs.Numberings.{AreCountsOf}
use Rattle.preorder_address.specs.Parents.{first_terms, until}
use Rattle.preorder_address.proofs.Lading.{label_arity, listed-term, sums-plain}
use Rattle.preorder_address.proofs.Loads.{shape-params}
use Rattle.preorder_address.proofs.ParentLists.{length-within, listed-calls, until-calls, until-split, params-until}
use Rattle.preorder_address.proofs.TreeKids.{nodes-within-all}

-- the segments up to a parameter are the labels before it, without parameters
sums-until : (w : Label → ℕ) → w Param ≡ 0 → (i : ℕ) (T : List Label) → i < params T → segments_sum w T 0 (suc i) ≡ sum_by w (until T i)
sums-until w z i [] h = absurd (omega arith)
sums-until w z zero (Param ∷ T) h = refl
sums-until w z (suc i) (Param ∷ T) h = omega (arith, segments_sum-param w T 0 (suc i), sums-until w z i T (omega arith), sum_by-cons w Param (until T i), z)
sums-until w z i (Bottom ∷ T) h = omega (arith, sums-plain w Bottom tt T i, sums-until w z i T h, sum_by-cons w Bottom (until T i))
sums-until w z i (Symbol f ∷ T) h = omega (arith, sums-plain w (Symbol f) tt T i, sums-until w z i T h, sum_by-cons w (Symbol f) (until T i))
sums-until w z i (Call q ∷ T) h = omega (arith, sums-plain w (Call q) tt T i, sums-until w z i T h, sum_by-cons w (Call q) (until T i))

module _ (G : List Rule) (g : IsGrammar G) (C : CountTable) (a : AreCountsOf G C) (q i : ℕ) (h : q < length G) (e : i < arity (ranks_of G) (Call q)) where
  abbrev T : List Label
  T = preorder G q

  pub param-there : i < params T
  param-there = omega (arith, e, shape-params G g (Call q) tt (h, tt))

  pub param-few : i < 8
  param-few = omega (arith, e, rank_at-ranks_of G q, (g.each q h).shaped.small)

  nodes-are : told_before measure.Nodes C.rows q (i + 1) ≡ sum_by node_weight (until T i)
  nodes-are =
      let z : i + 1 ≡ suc i = omega arith in
      ap (told_before measure.Nodes C.rows q) z ∙ told_before-is a.0 (length G) G C.rows a.1.numbers measure.Nodes q (suc i) h ∙ sums-until node_weight refl i T param-there

  all-are : told_before measure.All C.rows q (i + 1) ≡ sum_by all_weight (until T i)
  all-are =
      let z : i + 1 ≡ suc i = omega arith in
      ap (told_before measure.All C.rows q) z ∙ told_before-is a.0 (length G) G C.rows a.1.numbers measure.All q (suc i) h ∙ sums-until all_weight refl i T param-there

  until-within : (w : Label → ℕ) → sum_by w (until T i) ≤ sum_by w T
  until-within w = let s = until-split i T param-there in omega (arith, ap (sum_by w) s.1, sum_by-append w (until T i) (Param ∷ s.0))

  pub all-fit : told_before measure.All C.rows q (i + 1) < 2 ^ 64
  all-fit = omega (arith, all-are, until-within all_weight, a.1.numbers.small measure.All q h)

  pub nodes-few : told_before measure.Nodes C.rows q (i + 1) ≤ told_before measure.All C.rows q (i + 1)
  nodes-few = omega (arith, nodes-are, all-are, nodes-within-all (until T i))

  -- a symbol opens a term more, and a bottom or a parameter ends one
  pub first-terms : first_terms G (Call q) i + told_before measure.All C.rows q (i + 1) + i ≡ 2 * told_before measure.Nodes C.rows q (i + 1)
  first-terms =
      let s = until-split i T param-there in
      let t : AreTerms label_arity 1 (until T i ++ Param ∷ s.0) = subst (λ (ls : List Label). AreTerms label_arity 1 ls) s.1 (listed-term 0 (value_at G q) [] tt) in
      omega (arith, nodes-are, all-are, params-until i T param-there, length-within Param s.0 0 [] 0 [] (until T i) refl (until-calls i T (listed-calls (value_at G q) [] tt)) t)
