-- Kept numbers by what is added up.
use Rattle.std.proofs.Common.{◌≡◌, ℕ, suc, ◌+◌, ◌-◌, ◌<◌, ◌^◌, List, [], ◌∷◌, length, refl, ap, sym, ◌∙◌, arith, sum_by, zero, subst}
use Rattle.rule_arena.specs.declared.label.Label.{Label}
use Rattle.rule_arena.specs.declared.label.Label.TheVariants.{Bottom, Symbol, Call, Param}
use Rattle.slt_grammar.specs.Algebras.{ranks_of}
use Rattle.slt_grammar.specs.Bodies.{CallsBelow, arity, params}
use Rattle.slt_grammar.specs.Grammars.{IsGrammar}
use Rattle.slt_grammar.specs.Segments.{part_of, preorder}
use Rattle.slt_grammar.specs.declared.rules.Rule.{Rule}
use Rattle.slt_grammar.proofs.RuleMeanings.{rank_at-ranks_of}
use Rattle.slt_grammar.proofs.TourLemmas.{params-preorder, params-segment}
use Rattle.slt_grammar.proofs.Spreads.{IsPlain}
use Rattle.segment_counts.specs.Counting.{CountTable, told, told_before}
use Rattle.segment_counts.specs.Weights.{count, count_before, segments_sum}
use Rattle.segment_counts.specs.declared.counts.Measure.TheVariants as measure
use Rattle.segment_counts.proofs.Telling.{told_before-is}
use Rattle.slt_grammar.specs.Keyed.{KeyedRule, rules_of}
use Rattle.slt_grammar.proofs.KeyedLemmas.{length-rules_of}
use Rattle.preorder_address.specs.Numberings.{AreCountsOf}
use Rattle.preorder_address.specs.Sites.{laden, shape}
use Rattle.preorder_address.specs.Weighing.{AreCountsBy, IsSmallCall, measure_by, weight_of}
use Rattle.preorder_address.specs.declared.weigher.Weigher.{Weigher}
use Rattle.preorder_address.specs.declared.weigher.Weigher.TheVariants.{Texts, Nodes, All}
use Rattle.preorder_address.proofs.Lading.{laden-none, segments-all}

pub zero-param : (W : Weigher) → weight_of W Param ≡ 0
zero-param (Texts names) = refl
zero-param Nodes = refl
zero-param All = refl

module _ (G : List Rule) (C : CountTable) where
  pub told-of : (W : Weigher) → AreCountsBy W G C → (q i : ℕ) → q < length G → told (measure_by W) C.rows q i ≡ count (weight_of W) G q i
  told-of (Texts names) a q i h = a.numbers.each measure.Texts q i h
  told-of Nodes a q i h = a.1.numbers.each measure.Nodes q i h
  told-of All a q i h = a.1.numbers.each measure.All q i h

  told_before-of : (W : Weigher) → AreCountsBy W G C → (q i : ℕ) → q < length G → told_before (measure_by W) C.rows q i ≡ count_before (weight_of W) G q i
  told_before-of (Texts names) a q i h = told_before-is names.now (length G) G C.rows a.numbers measure.Texts q i h
  told_before-of Nodes a q i h = told_before-is a.0 (length G) G C.rows a.1.numbers measure.Nodes q i h
  told_before-of All a q i h = told_before-is a.0 (length G) G C.rows a.1.numbers measure.All q i h

  pub small-of : (W : Weigher) → AreCountsBy W G C → (q : ℕ) → q < length G → sum_by (weight_of W) (preorder G q) < 2 ^ 64
  small-of (Texts names) a q h = a.numbers.small measure.Texts q h
  small-of Nodes a q h = a.1.numbers.small measure.Nodes q h
  small-of All a q h = a.1.numbers.small measure.All q h

  -- all segments of a called rule are its value
  pub whole-of : (W : Weigher) → AreCountsBy W G C → IsGrammar G → (q kids : ℕ) → q < length G → kids ≡ arity (ranks_of G) (Call q) → told_before (measure_by W) C.rows q (kids + 1) ≡ sum_by (weight_of W) (preorder G q)
  whole-of W a g q kids h e =
      let p : kids + 1 ≡ suc (params (preorder G q)) = omega (arith, e, rank_at-ranks_of G q, params-preorder G q g h) in
      told_before-of W a q (kids + 1) h ∙ ap (segments_sum (weight_of W) (preorder G q) 0) p ∙ segments-all (weight_of W) (zero-param W) (preorder G q)

  pub small-call : (W : Weigher) → AreCountsBy W G C → IsGrammar G → (l : Label) (kids : ℕ) → CallsBelow (length G) (l ∷ []) → kids ≡ arity (ranks_of G) l → IsSmallCall (measure_by W) C l kids
  small-call W a g Bottom kids c e = tt
  small-call W a g (Symbol f) kids c e = tt
  small-call W a g (Call q) kids c e = omega (arith, whole-of W a g q kids c.0 e, small-of W a q c.0)
  small-call W a g Param kids c e = tt

pub part-params : (G : List Rule) (l : Label) (i : ℕ) → IsPlain l → params (part_of G l i) ≡ 0
part-params G Param i p = absurd p
part-params G (Call q) i p = params-segment i (preorder G q)
part-params G (Symbol f) i p = by_part i
  where
    by_part : (i : ℕ) → params (part_of G (Symbol f) i) ≡ 0
    by_part zero = refl
    by_part (suc i) = refl
part-params G Bottom i p = by_part i
  where
    by_part : (i : ℕ) → params (part_of G Bottom i) ≡ 0
    by_part zero = refl
    by_part (suc i) = refl

pub laden-part : (w : Label → ℕ) (args : List ℕ) (G : List Rule) (l : Label) (i : ℕ) → IsPlain l → laden w args (part_of G l i) ≡ sum_by w (part_of G l i)
laden-part w args G l i p = laden-none w args (part_of G l i) (part-params G l i p)

pub plain-of : (l : Label) → (l ≡ Param → ⊥) → IsPlain l
plain-of Bottom n = tt
plain-of (Symbol f) n = tt
plain-of (Call q) n = tt
plain-of Param n = n refl

-- what is kept of a call is what the called rule's value weighs
pub call-whole : (W : Weigher) (G : List Rule) (C : CountTable) → AreCountsBy W G C → IsGrammar G → (l : Label) (q : ℕ) → l ≡ Call q → (kids n : ℕ) → CallsBelow (length G) (l ∷ []) → kids ≡ arity (ranks_of G) l
    → n ≡ told_before (measure_by W) C.rows q (kids + 1) → n ≡ sum_by (weight_of W) (shape G l)
call-whole W G C a g l q e kids n c k d =
    let b : CallsBelow (length G) (Call q ∷ []) = subst (λ (m : Label). CallsBelow (length G) (m ∷ [])) e c in
    d ∙ whole-of G C W a g q kids b.0 (k ∙ ap (arity (ranks_of G)) e) ∙ sym (ap (λ m. sum_by (weight_of W) (shape G m)) e)

pub counts-of : (W : Weigher) (G : List Rule) (C : CountTable) → AreCountsBy W G C → AreCountsOf G C
counts-of (Texts names) G C a = (names.now, a)
counts-of Nodes G C a = a
counts-of All G C a = a

-- what the whole value weighs fits 64 bits
pub total-small : (W : Weigher) (G : List KeyedRule) (C : CountTable) → AreCountsBy W (rules_of G) C → IsGrammar (rules_of G) → sum_by (weight_of W) (preorder (rules_of G) (length G - 1)) < 2 ^ 64
total-small W G C a g =
    let n = length-rules_of G in
    small-of (rules_of G) C W a (length G - 1) (omega (arith, g.some, n))
