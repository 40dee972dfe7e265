-- A fold takes one occurrence of its digram away where the labels differ: what is linked anew has the call as a label.
use Rattle.std.proofs.Common.{◌≡◌, ◌≢◌, ◌⊎◌, inl, inr, ℕ, ◌+◌, Some, slice_get, refl, sym, ap, ◌∙◌, subst, arith}
use Rattle.std.proofs.lemmas.Bool.{cases_eq}
use Rattle.rule_arena.specs.Terms.{Node, kids_in}
use Rattle.rule_arena.specs.declared.key.Key.{Key}
use Rattle.rule_arena.proofs.NodeLemmas.{key_of_node}
use Rattle.slt_grammar.specs.Names.{Call}
use Rattle.slt_grammar.specs.Keyed.{Keyed, IsKeyed, nodes_at}
use Rattle.slt_grammar.specs.KeyedEdits.{FoldsInto, with_nodes, folded_nodes}
use Rattle.slt_grammar.specs.declared.digram.Digram.{Digram}
use Rattle.digram_index.specs.Digrams.{OccursAt}
use Rattle.digram_index.specs.Keeping.{IsIndexBut}
use Rattle.digram_index.specs.Linked.{Linked, cell, cell_count}
use Rattle.digram_index.proofs.Apartness.{Stands, stands, one-key}
use Rattle.digram_index.proofs.ParentLemmas.{parent-key, keyed_place}
use Rattle.pair_replace.specs.Chains.{IsLinkedAs, IsHead, upper_at}
use Rattle.pair_replace.specs.NewRules.{IsNewRule}
use Rattle.pair_replace.specs.Near.{IsAround}
use Rattle.pair_replace.proofs.ChainLemmas.{linked-upper}
use Rattle.pair_replace.proofs.Counts.{one-gone}
use Rattle.pair_replace.proofs.Digrams.{upper-small, lower-small}
use Rattle.pair_replace.proofs.FoldIndex.{around-test}
use Rattle.pair_replace.proofs.FoldedCalls.{labels-earlier}
use Rattle.pair_replace.proofs.NearFolds.{near-parent, merge-label, arrives}
use Rattle.pair_replace.proofs.NextFolds.{but-occurs, folds, far-from}

module _ (g h : Keyed) (K : IsKeyed g) (K' : IsKeyed h) (d : Digram) (rule : ℕ) (own : Key) (R : IsNewRule g.rules d rule own) (I J : Linked) (B : IsIndexBut g I (λ k. k ≡ own.number)) (B' : IsIndexBut h J (λ k. k ≡ own.number))
    (low : Key) (H : IsHead I d low.number) (differ : d.upper ≢ d.lower) where
  abbrev F : FoldsInto g.rules low rule
  F = folds g K d rule own R I B low H

  abbrev Near : ℕ → Type 0
  Near n = IsAround F.upper (kids_in (nodes_at g.rules F.here.rule) F.place) (kids_in (nodes_at g.rules F.here.rule) F.here.place) n

  one-node : (a b : Node) → Some a ≡ Some b → a ≡ b
  one-node a b z = cc

  one-up : (a b : Key × ℕ) → Some a ≡ Some b → a ≡ b
  one-up a b z = cc

  -- no occurrence of the digram is below the folded one
  not-below : (k : ℕ) → IsLinkedAs I d k → upper_at I k ≡ low.number → ⊥
  not-below k L e =
      let key : Key = record { number = k } in
      let Q = but-occurs g I own B key L.0 L.1.0 in
      let S = stands g.rules Q.rule Q.place key L.0 Q.there Q.here in
      let P = but-occurs g I own B low H.linked.0 H.linked.1.0 in
      let T = stands g.rules P.rule P.place low H.linked.0 P.there P.here in
      let z : S.up.key ≡ low = one-key S.up.key low (S.upper ∙ sym (linked-upper I d k L.0 L.1.0) ∙ e) in
      let o = K.once low Q.rule S.above P.rule P.place (key_of_node (nodes_at g.rules Q.rule) S.above S.up S.there ∙ ap Some z) P.there in
      let t : slice_get (nodes_at g.rules P.rule) P.place ≡ Some S.up =
      subst (λ (s : ℕ). slice_get (nodes_at g.rules s) P.place ≡ Some S.up) o.0 (subst (λ (s : ℕ). slice_get (nodes_at g.rules Q.rule) s ≡ Some S.up) o.1 S.there) in
      let y : S.up.label ≡ T.node.label = ap (λ (x : Node). x.label) (one-node S.up T.node (sym t ∙ T.here)) in
      differ (ap (λ (x : Digram). x.upper) (sym L.1.1) ∙ sym S.high ∙ y ∙ T.low ∙ ap (λ (x : Digram). x.lower) H.linked.1.1)

  not-before : (k : ℕ) → k ≢ low.number → Near k → IsLinkedAs I d k → ⊥
  not-before k n close L = far-from g K d rule own R I B low H k L n (λ e. not-below k L e) close

  module _ (made : h.rules ≡ with_nodes g.rules F.here.rule (folded_nodes (nodes_at g.rules F.here.rule) F.place F.upper F.here.place (Call rule))) where
    not-upper : d.upper ≡ Call rule → ⊥
    not-upper e = absurd (let l = upper-small rule d.upper d.lower (labels-earlier g K d rule own R) rule e in omega (arith, l))

    not-lower : d.lower ≡ Call rule → ⊥
    not-lower e = absurd (let l = lower-small rule d.upper d.lower (labels-earlier g K d rule own R) rule e in omega (arith, l))

    -- what is near has the call as a label
    not-after : (k : ℕ) → Near k → IsLinkedAs J d k → ⊥
    not-after k close L = by (cases_eq k F.upper.number)
      where
        key : Key
        key = record { number = k }

        Q : OccursAt h.rules (record { number = k }) L.0
        Q = but-occurs h J own B' (record { number = k }) L.0 L.1.0

        S : Stands h.rules Q.rule Q.place (record { number = k }) L.0
        S = stands h.rules Q.rule Q.place (record { number = k }) L.0 Q.there Q.here

        by : (k ≡ F.upper.number) ⊎ (k ≡ F.upper.number → ⊥) → ⊥
        by (inl z) = not-lower (ap (λ (x : Digram). x.lower) (sym L.1.1) ∙ sym S.low ∙ merge-label g h K low rule F made K' Q.rule Q.place S.node S.here (S.key_here ∙ one-key (record { number = k }) F.upper z))
        by (inr n) =
            let p = near-parent g h K low rule F made K' Q.rule Q.place (record { number = k }) Q.there close (λ e. n (ap (λ (x : Key). x.number) e)) in
            let u : (S.up.key, L.0.digram.place) ≡ (F.upper, p.0) = one-up (S.up.key, L.0.digram.place) (F.upper, p.0) (sym (parent-key (nodes_at h.rules Q.rule) Q.place ∙ ap keyed_place S.parent) ∙ p.1) in
            not-upper (ap (λ (x : Digram). x.upper) (sym L.1.1) ∙ sym S.high ∙ merge-label g h K low rule F made K' Q.rule S.above S.up S.there (ap (λ (x : Key × ℕ). x.0) u))

    gone : IsLinkedAs J d low.number → ⊥
    gone L =
        let Q = but-occurs h J own B' low L.0 L.1.0 in
        (arrives g h K low rule F made Q.rule Q.place low Q.there).1.1 refl

    pub fewer : ((n : ℕ) → (Near n → ⊥) → cell J n ≡ cell I n) → cell_count d J.cells + 1 ≡ cell_count d I.cells
    fewer others = one-gone I J d low.number H.linked gone (λ k n. by k n (around-test F.upper (kids_in (nodes_at g.rules F.here.rule) F.place) (kids_in (nodes_at g.rules F.here.rule) F.here.place) k))
      where
        by : (k : ℕ) → k ≢ low.number → Near k ⊎ (Near k → ⊥) → (cell J k ≡ cell I k) ⊎ ((IsLinkedAs I d k → ⊥) × (IsLinkedAs J d k → ⊥))
        by k n (inl z) = inr (λ L. not-before k n z L, λ L. not-after k z L)
        by k n (inr f) = inl (others k f)
