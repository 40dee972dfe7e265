-- Routes by kept numbers are those by the counts of the grammar.
use Rattle.std.proofs.Common.{◌≡◌, ℕ, zero, suc, ◌+◌, ◌*◌, ◌<◌, ◌≤◌, ◌^◌, List, [], ◌∷◌, length, get_or, refl, ap, sym, ◌∙◌, arith, sum_by, Option, Some, None, subst}
use Rattle.std.proofs.lemmas.Option.{slice_get-get_or}
use Rattle.rule_arena.specs.Terms.{Node}
use Rattle.rule_arena.specs.declared.label.Label.{Label}
use Rattle.rule_arena.specs.declared.label.Label.TheVariants.{Bottom, Symbol, Call, Param}
use Rattle.slt_grammar.specs.Bodies.{CallsBelow}
use Rattle.slt_grammar.specs.Grammars.{whole}
use Rattle.slt_grammar.specs.Keyed.{Keyed, KeyedRule, IsKeyed, rules_of}
use Rattle.slt_grammar.specs.Segments.{node_tour, part_of, preorder}
use Rattle.slt_grammar.specs.Tours.{Stop}
use Rattle.slt_grammar.specs.declared.level.Level.{Level}
use Rattle.slt_grammar.proofs.KeyedLemmas.{length-rules_of}
use Rattle.segment_counts.specs.Counting.{CountTable, told_before}
use Rattle.segment_counts.specs.Weights.{count_before}
use Rattle.preorder_address.specs.Descents.{IsWithin, levels_at}
use Rattle.preorder_address.specs.Numberings.{AreCountsOf, measure_of, weigh_by}
use Rattle.preorder_address.specs.Routes.{Found, onward, routed, route, sought, stop_weight, chosen, past}
use Rattle.preorder_address.specs.Told.{told_weight, told_route, told_levels, IsOnward, IsFoundWith, IsTold, AreTold, steps_for}
use Rattle.preorder_address.specs.declared.descent.Wanted.{Wanted}
use Rattle.preorder_address.specs.declared.numbering.Numbering.{Numbering}
use Rattle.preorder_address.proofs.Arriving.{falls, descents-arrive}
use Rattle.preorder_address.proofs.Descending.{small-next, inside-next}
use Rattle.preorder_address.proofs.Locating.{chain-nodes, nodes-few}
use Rattle.preorder_address.proofs.Routing.{Each, found-below}
use Rattle.preorder_address.proofs.Told.{tour-same, told-sum, each-next}
use Rattle.preorder_address.proofs.Weighing.{told-by}

sought-same : (W V : Stop Node → ℕ) (ms : List (Stop Node)) (n : ℕ) → Each (λ m. W m ≡ V m) ms → sought W ms n ≡ sought V ms n
sought-same W V [] n e = refl
sought-same W V (m ∷ ms) n e = ap (λ k. chosen (past n k) (record { at = m; offset = n }) (λ j. sought W ms j)) e.0 ∙ by_past (past n (V m)) (λ k. sought-same W V ms k e.1)
  where
    by_past : (o : Option ℕ) → ((k : ℕ) → sought W ms k ≡ sought V ms k) → chosen o (record { at = m; offset = n }) (λ j. sought W ms j) ≡ chosen o (record { at = m; offset = n }) (λ j. sought V ms j)
    by_past None ih = refl
    by_past (Some k) ih = ih k

module _ (g : Keyed) (K : IsKeyed g) (C : CountTable) (a : AreCountsOf (rules_of g.rules) C) (by : Numbering) where
  abbrev w : Label → ℕ
  w l = weigh_by by l

  onward-told : (r : ℕ) (l : Label) (f h : ℕ → List Level) → CallsBelow r (l ∷ []) → ((q : ℕ) → q < r → f q ≡ h q) → onward l f ≡ onward l h
  onward-told r Bottom f h c e = refl
  onward-told r (Symbol s) f h c e = refl
  onward-told r (Call q) f h c e = e q c.0
  onward-told r Param f h c e = refl

  routed-told : (r n : ℕ) (o : Option Found) (f h : ℕ → ℕ → ℕ → List Level) → r < length g.rules → sought (stop_weight (weigh_by by) g.rules) (node_tour g.rules r) n ≡ o → ((q i k : ℕ) → q < r → f q i k ≡ h q i k) → routed r o f ≡ routed r o h
  routed-told r n None f h b e s = refl
  routed-told r n (Some m) f h b e s =
      ap (λ ls. record { rule = r; key = m.at.item.key } ∷ ls)
      (onward-told r m.at.item.label (λ q. f q m.at.part m.offset) (λ q. h q m.at.part m.offset) (found-below (weigh_by by) g.rules K.grammar r n m b e) (λ q l. s q m.at.part m.offset l))

  route-told : (most r n : ℕ) → r < length g.rules → told_route by C g.rules most r n ≡ route (weigh_by by) g.rules most r n
  route-told zero r n h = refl
  route-told (suc most) r n h =
      ap (λ o. routed r o (λ q i o. told_route by C g.rules most q (told_before (measure_of by) C.rows q i + o))) (sought-same (told_weight by C) (stop_weight (weigh_by by) g.rules) (node_tour g.rules r) n (tour-same g K C a by r h))
      ∙ routed-told r n (sought (stop_weight (weigh_by by) g.rules) (node_tour g.rules r) n) _ _ h refl
      (λ q i k l. ap (λ j. told_route by C g.rules most q (j + k)) (told-by (rules_of g.rules) C a by q i (omega (arith, l, h, length-rules_of g.rules))) ∙ route-told most q (count_before (weigh_by by) (rules_of g.rules) q i + k) (omega arith))

  is-told : (most r n : ℕ) → r < length g.rules → n < sum_by (weigh_by by) (preorder (rules_of g.rules) r) → IsTold by C g.rules most r n
  is-told zero r n h b = tt
  is-told (suc most) r n h b =
      let none : KeyedRule = record { rank = 0; nodes = [] } in
      let f = falls (told_weight by C) (node_tour g.rules r) n (omega (arith, b, told-sum g K C a by r h)) in
      let e = subst (λ (ms : List (Stop Node)). Each (λ m. told_weight by C m ≡ stop_weight (weigh_by by) g.rules m) ms) f.split (tour-same g K C a by r h) in
      let s = each-next (λ m. told_weight by C m ≡ stop_weight (weigh_by by) g.rules m) f.passed f.found.at f.rest e in
      let d = sym (sought-same (told_weight by C) (stop_weight (weigh_by by) g.rules) (node_tour g.rules r) n (tour-same g K C a by r h)) ∙ f.sought_is in
      let c = found-below (weigh_by by) g.rules K.grammar r n f.found h d in (
        (get_or g.rules r none, slice_get-get_or g.rules r none h),
        subst (λ (o : Option Found). IsFoundWith o (λ q i o. (told_before (measure_of by) C.rows q i + o < 2 ^ 64) × IsTold by C g.rules most q (told_before (measure_of by) C.rows q i + o))) (sym f.sought_is)
            (by_label f.found.at.item.label f.found.at.part f.found.offset c (omega (arith, f.inside, s)) (λ q i k l v. is-told most q (told_before (measure_of by) C.rows q i + k) l v)),
      )
    where
      by_label : (l : Label) (i o : ℕ) → CallsBelow r (l ∷ []) → o < sum_by (weigh_by by) (part_of (rules_of g.rules) l i)
          → ((q i k : ℕ) → q < length g.rules → told_before (measure_of by) C.rows q i + k < sum_by (weigh_by by) (preorder (rules_of g.rules) q) → IsTold by C g.rules most q (told_before (measure_of by) C.rows q i + k))
          → IsOnward l (λ q. (told_before (measure_of by) C.rows q i + o < 2 ^ 64) × IsTold by C g.rules most q (told_before (measure_of by) C.rows q i + o))
      by_label Bottom i o c s ih = tt
      by_label (Symbol f) i o c s ih = tt
      by_label (Call q) i o c s ih =
          let v = inside-next g.rules K.grammar C a by r h (Call q) i o s c in
          (small-next g.rules K.grammar C a by r h (Call q) i o s c, ih q i o v.0 v.1)
      by_label Param i o c s ih = tt

  pub over-ready : (next : Option Wanted) → IsWithin by g.rules next → AreTold by C g.rules next
  over-ready None i = tt
  over-ready (Some wanted) i = is-told (suc wanted.rule) wanted.rule wanted.number i.0 i.1

  pub over-levels : (next : Option Wanted) → IsWithin by g.rules next → told_levels by C g.rules next ≡ levels_at by g.rules next
  over-levels None i = refl
  over-levels (Some wanted) i = route-told (suc wanted.rule) wanted.rule wanted.number i.0

  pub over-steps : (next : Option Wanted) → IsWithin by g.rules next → steps_for g.rules (levels_at by g.rules next) ≤ 4 * whole (rules_of g.rules)
  over-steps None i = omega arith
  over-steps (Some wanted) i =
      let v = descents-arrive by g wanted.rule wanted.number K i.0 i.1 in
      omega (arith, chain-nodes g K wanted.rule (levels_at by g.rules (Some wanted)) v.label v.chain, nodes-few g.rules wanted.rule)
