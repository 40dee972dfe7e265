-- One level of a route by kept numbers.
use Rattle.std.proofs.Common.{◌≡◌, ℕ, zero, suc, ◌+◌, ◌-◌, ◌<◌, ◌≤◌, ◌^◌, List, [], ◌∷◌, length, refl, ap, ◌∙◌, arith, sum_by, Option, Some, None, subst, ◌⊎◌, inl, inr}
use Rattle.std.proofs.lemmas.Bool.{cases_lt}
use Rattle.std.proofs.lemmas.List.Sums.{sum_by-cons}
use Rattle.std.proofs.lemmas.Option.{slice_get_within}
use Rattle.rule_arena.specs.NodeKey.{NodeKey as Key}
use Rattle.rule_arena.specs.Terms.{Node, kids_of}
use Rattle.rule_arena.specs.declared.label.Label.{Label}
use Rattle.rule_arena.specs.declared.label.Label.TheVariants.{Bottom, Symbol, Call, Param}
use Rattle.slt_grammar.specs.Bodies.{CallsBelow}
use Rattle.slt_grammar.specs.Keyed.{Keyed, IsKeyed, nodes_at}
use Rattle.slt_grammar.specs.Segments.{node_tour}
use Rattle.slt_grammar.specs.Tours.{Stop, stop}
use Rattle.slt_grammar.specs.declared.level.Level.{Level}
use Rattle.slt_grammar.specs.declared.tour_walk.TourWalk.{TourWalk}
use Rattle.slt_grammar.proofs.KeyedLemmas.{body_at-rules_of, length-rules_of}
use Rattle.segment_counts.specs.Counting.{CountTable, told_before}
use Rattle.preorder_address.specs.Descents.{IsSmallNext, told_next}
use Rattle.preorder_address.specs.Numberings.{measure_of}
use Rattle.preorder_address.specs.Routes.{Found, onward, routed, sought}
use Rattle.preorder_address.specs.Stops.{FallsBy}
use Rattle.preorder_address.specs.Told.{told_weight, told_route, told_levels, IsOnward, IsFoundWith, IsTold, AreTold}
use Rattle.preorder_address.specs.declared.numbering.Numbering.{Numbering}
use Rattle.preorder_address.proofs.Finding.{sought-falls}
use Rattle.preorder_address.proofs.Routing.{calls-each, each-tour, sought-in}
use Rattle.preorder_address.proofs.Seeking.{sought-later}

-- a number that is found is one of the stops'
pub sought-within : (W : Stop Node → ℕ) (ms : List (Stop Node)) (n : ℕ) (P : ℕ → ℕ → ℕ → Type 0) → IsFoundWith (sought W ms n) P → n < sum_by W ms
sought-within W [] n P f = absurd f
sought-within W (m ∷ ms) n P f = by_weight (cases_lt n (W m)) (λ h. sought-within W ms (n - W m) P h)
  where
    by_weight : (n < W m) ⊎ (W m ≤ n) → (IsFoundWith (sought W ms (n - W m)) P → n - W m < sum_by W ms) → n < sum_by W (m ∷ ms)
    by_weight (inl l) ih = omega (arith, l, sum_by-cons W m ms)
    by_weight (inr g) ih = omega (arith, g, sum_by-cons W m ms, ih (subst (λ (o : Option Found). IsFoundWith o P) (sought-later W m ms n g) f))

module _ (by : Numbering) (C : CountTable) (g : Keyed) (K : IsKeyed g) where
  abbrev W : Stop Node → ℕ
  W m = told_weight by C m

  onward-less : (l : Label) (P Q : ℕ → Type 0) → ((q : ℕ) → P q → Q q) → IsOnward l P → IsOnward l Q
  onward-less Bottom P Q f p = tt
  onward-less (Symbol s) P Q f p = tt
  onward-less (Call q) P Q f p = f q p
  onward-less Param P Q f p = tt

  found-less : (o : Option Found) (P Q : ℕ → ℕ → ℕ → Type 0) → ((q i k : ℕ) → P q i k → Q q i k) → IsFoundWith o P → IsFoundWith o Q
  found-less None P Q f p = p
  found-less (Some m) P Q f p = onward-less m.at.item.label (λ q. P q m.at.part m.offset) (λ q. Q q m.at.part m.offset) (λ q. f q m.at.part m.offset) p

  told-less : (j k r n : ℕ) → j ≤ k → IsTold by C g.rules k r n → IsTold by C g.rules j r n
  told-less zero k r n h t = tt
  told-less (suc j) zero r n h t = absurd (omega arith)
  told-less (suc j) (suc k) r n h t = (
    t.0,
    found-less (sought (told_weight by C) (node_tour g.rules r) n) (λ q i o. (told_before (measure_of by) C.rows q i + o < 2 ^ 64) × IsTold by C g.rules k q (told_before (measure_of by) C.rows q i + o))
        (λ q i o. (told_before (measure_of by) C.rows q i + o < 2 ^ 64) × IsTold by C g.rules j q (told_before (measure_of by) C.rows q i + o))
        (λ q i o p. (p.0, told-less j k q (told_before (measure_of by) C.rows q i + o) (omega arith) p.1)) t.1,
  )

  calls-found : (r n : ℕ) (f : Found) → r < length g.rules → sought (told_weight by C) (node_tour g.rules r) n ≡ Some f → CallsBelow r (f.at.item.label ∷ [])
  calls-found r n f h e =
      let l = (K.grammar.each r (omega (arith, h, length-rules_of g.rules))).earlier in
      let c = calls-each r (nodes_at g.rules r) (subst (λ ls. CallsBelow r ls) (body_at-rules_of g.rules r) l) in
      sought-in (λ m. CallsBelow r (m.item.label ∷ [])) (told_weight by C) (node_tour g.rules r) n f (each-tour (λ x. CallsBelow r (x.label ∷ [])) kids_of ([] ∷ []) (nodes_at g.rules r) c (tt, tt)) e

  onward-same : (r : ℕ) (l : Label) (f h : ℕ → List Level) → CallsBelow r (l ∷ []) → ((q : ℕ) → q < r → f q ≡ h q) → onward l f ≡ onward l h
  onward-same r Bottom f h c e = refl
  onward-same r (Symbol s) f h c e = refl
  onward-same r (Call q) f h c e = e q c.0
  onward-same r Param f h c e = refl

  routed-same : (r n : ℕ) (o : Option Found) (f h : ℕ → ℕ → ℕ → List Level) → r < length g.rules → sought (told_weight by C) (node_tour g.rules r) n ≡ o → ((q i k : ℕ) → q < r → f q i k ≡ h q i k) → routed r o f ≡ routed r o h
  routed-same r n None f h b e s = refl
  routed-same r n (Some m) f h b e s = ap (λ ls. record { rule = r; key = m.at.item.key } ∷ ls) (onward-same r m.at.item.label (λ q. f q m.at.part m.offset) (λ q. h q m.at.part m.offset) (calls-found r n m b e) (λ q l. s q m.at.part m.offset l))

  route-same : (j k r n : ℕ) → r < j → r < k → r < length g.rules → told_route by C g.rules j r n ≡ told_route by C g.rules k r n
  route-same zero k r n a b h = absurd (omega arith)
  route-same (suc j) zero r n a b h = absurd (omega arith)
  route-same (suc j) (suc k) r n a b h =
      routed-same r n (sought (told_weight by C) (node_tour g.rules r) n) _ _ h refl (λ q i o l. route-same j k q (told_before (measure_of by) C.rows q i + o) (omega arith) (omega arith) (omega arith))

  module _ (r n : ℕ) (t : IsTold by C g.rules (suc r) r n) where
    pub rule-there : r < length g.rules
    rule-there = slice_get_within g.rules r t.0.0 t.0.1

    pub number-there : n < sum_by (told_weight by C) (node_tour g.rules r)
    number-there = sought-within (told_weight by C) (node_tour g.rules r) n _ t.1

    module _ (walk : TourWalk) (key : Key) (kids : ℕ) (label : Label) (part offset : ℕ) (calls : CallsBelow r (label ∷ []))
        (falls : FallsBy (told_weight by C) g.rules r n walk (stop (record { key = key; label = label; kids = kids }) part) offset) where
      found : sought (told_weight by C) (node_tour g.rules r) n ≡ Some (record { at = stop (record { key = key; label = label; kids = kids }) part; offset = offset })
      found = sought-falls (told_weight by C) g.rules r n walk (stop (record { key = key; label = label; kids = kids }) part) offset falls

      is_onward : IsOnward label (λ q. (told_before (measure_of by) C.rows q part + offset < 2 ^ 64) × IsTold by C g.rules r q (told_before (measure_of by) C.rows q part + offset))
      is_onward = subst (λ (o : Option Found). IsFoundWith o (λ q i o. (told_before (measure_of by) C.rows q i + o < 2 ^ 64) × IsTold by C g.rules r q (told_before (measure_of by) C.rows q i + o))) found t.1

      pub told-small : IsSmallNext by C label part offset
      told-small = by_label label is_onward
        where
          by_label : (l : Label) → IsOnward l (λ q. (told_before (measure_of by) C.rows q part + offset < 2 ^ 64) × IsTold by C g.rules r q (told_before (measure_of by) C.rows q part + offset)) → IsSmallNext by C l part offset
          by_label Bottom p = tt
          by_label (Symbol s) p = tt
          by_label (Call q) p = p.0
          by_label Param p = tt

      pub told-ready : AreTold by C g.rules (told_next by C label part offset)
      told-ready = by_label label calls is_onward
        where
          by_label : (l : Label) → CallsBelow r (l ∷ []) → IsOnward l (λ q. (told_before (measure_of by) C.rows q part + offset < 2 ^ 64) × IsTold by C g.rules r q (told_before (measure_of by) C.rows q part + offset)) → AreTold by C g.rules (told_next by C l part offset)
          by_label Bottom c p = tt
          by_label (Symbol s) c p = tt
          by_label (Call q) c p = told-less (suc q) r q (told_before (measure_of by) C.rows q part + offset) (omega (arith, c.0)) p.1
          by_label Param c p = tt

      pub told-next : told_route by C g.rules (suc r) r n ≡ record { rule = r; key = key } ∷ told_levels by C g.rules (told_next by C label part offset)
      told-next = ap (λ o. routed r o (λ q i k. told_route by C g.rules r q (told_before (measure_of by) C.rows q i + k))) found ∙ by_label label calls
        where
          by_label : (l : Label) → CallsBelow r (l ∷ []) → record { rule = r; key = key } ∷ onward l (λ q. told_route by C g.rules r q (told_before (measure_of by) C.rows q part + offset))
              ≡ record { rule = r; key = key } ∷ told_levels by C g.rules (told_next by C l part offset)
          by_label Bottom c = refl
          by_label (Symbol s) c = refl
          by_label (Call q) c = ap (λ ls. record { rule = r; key = key } ∷ ls) (route-same r (suc q) q (told_before (measure_of by) C.rows q part + offset) c.0 (omega arith) (omega (arith, c.0, rule-there)))
          by_label Param c = refl
