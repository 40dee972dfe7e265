-- Routes by kept numbers stay the same where the rules of their levels do.
use Rattle.std.specs.Prelude.{◌≡◌, ℕ, zero, suc, ◌+◌, ◌*◌, ◌<◌, ◌^◌, List, [], ◌∷◌, length, Option, Some, None, slice_get, unwrap_or, sum_by, refl}
use Rattle.std.proofs.Common.{ap, sym, ◌∙◌, subst}
use Rattle.std.proofs.lemmas.Option.{unwrap_or-slice_get}
use Rattle.std.proofs.lemmas.List.Sums.{sum_by-cons}
use Rattle.rule_arena.specs.Terms.{kids_of}
use Rattle.rule_arena.specs.declared.label.Label.{Label}
use Rattle.rule_arena.specs.declared.label.Label.TheVariants.{Bottom, Symbol, Call, Param}
use Rattle.slt_grammar.specs.Keyed.{KeyedRule, nodes_at}
use Rattle.slt_grammar.specs.Segments.{node_tour}
use Rattle.slt_grammar.specs.Tours.{tour}
use Rattle.slt_grammar.specs.Ways.{HaveSameRules}
use Rattle.slt_grammar.specs.declared.level.Level.{Level}
use Rattle.segment_counts.specs.Counting.{CountTable, told_before}
use Rattle.preorder_address.specs.Numberings.{measure_of}
use Rattle.preorder_address.specs.Routes.{Found, onward, routed, sought}
use Rattle.preorder_address.specs.Told.{told_weight, told_route, told_levels, IsOnward, IsFoundWith, IsTold, AreTold, steps_for}
use Rattle.preorder_address.specs.declared.descent.Wanted.{Wanted}
use Rattle.preorder_address.specs.declared.numbering.Numbering.{Numbering}

same-nodes : (G H : List KeyedRule) (r : ℕ) → slice_get H r ≡ slice_get G r → nodes_at H r ≡ nodes_at G r
same-nodes G H r e =
    let none : KeyedRule = record { rank = 0; nodes = [] } in
    ap (λ (R : KeyedRule). R.nodes) (sym (unwrap_or-slice_get H r none) ∙ ap (λ o. unwrap_or o none) e ∙ unwrap_or-slice_get G r none)

module _ (G H : List KeyedRule) (P Q : ℕ → Type 0) (f h : ℕ → List Level) (stays : (q : ℕ) → P q → HaveSameRules (f q) G H → Q q × (h q ≡ f q)) where
  onward-stays : (l : Label) → IsOnward l P → HaveSameRules (onward l f) G H → IsOnward l Q × (onward l h ≡ onward l f)
  onward-stays (Call q) p s = stays q p s
  onward-stays Bottom p s = (tt, refl)
  onward-stays (Symbol s) p e = (tt, refl)
  onward-stays Param p s = (tt, refl)

module _ (by : Numbering) (C : CountTable) (G H : List KeyedRule) where
  found-stays : (r : ℕ) (o : Option Found) (P Q : ℕ → ℕ → ℕ → Type 0) (f h : ℕ → ℕ → ℕ → List Level) → ((q i k : ℕ) → P q i k → HaveSameRules (f q i k) G H → Q q i k × (h q i k ≡ f q i k))
      → IsFoundWith o P → HaveSameRules (routed r o f) G H → (slice_get H r ≡ slice_get G r) × IsFoundWith o Q × (routed r o h ≡ routed r o f)
  found-stays r None P Q f h stays p s = absurd p
  found-stays r (Some m) P Q f h stays p s =
      let t = onward-stays G H (λ q. P q m.at.part m.offset) (λ q. Q q m.at.part m.offset) (λ q. f q m.at.part m.offset) (λ q. h q m.at.part m.offset) (λ q. stays q m.at.part m.offset) m.at.item.label p s.1 in
      (s.0, t.0, ap (λ ls. record { rule = r; key = m.at.item.key } ∷ ls) t.1)

  told-stays : (most r n : ℕ) → IsTold by C G most r n → HaveSameRules (told_route by C G most r n) G H → IsTold by C H most r n × (told_route by C H most r n ≡ told_route by C G most r n)
  told-stays zero r n t s = (tt, refl)
  told-stays (suc most) r n t s =
      let f = λ (q i o : ℕ). told_route by C G most q (told_before (measure_of by) C.rows q i + o) in
      let h = λ (q i o : ℕ). told_route by C H most q (told_before (measure_of by) C.rows q i + o) in
      let P = λ (q i o : ℕ). (told_before (measure_of by) C.rows q i + o < 2 ^ 64) × IsTold by C G most q (told_before (measure_of by) C.rows q i + o) in
      let Q = λ (q i o : ℕ). (told_before (measure_of by) C.rows q i + o < 2 ^ 64) × IsTold by C H most q (told_before (measure_of by) C.rows q i + o) in
      let o = sought (told_weight by C) (node_tour G r) n in
      let g = found-stays r o P Q f h (λ q i k p e. let d = told-stays most q (told_before (measure_of by) C.rows q i + k) p.1 e in ((p.0, d.0), d.1)) t.1 s in
      let same = ap (λ ns. sought (told_weight by C) (tour kids_of ([] ∷ []) ns) n) (same-nodes G H r g.0) in (
        ((t.0.0, g.0 ∙ t.0.1), subst (λ (k : Option Found). IsFoundWith k Q) (sym same) g.1),
        ap (λ k. routed r k h) same ∙ g.2,
      )

  pub ready-stays : (next : Option Wanted) → AreTold by C G next → HaveSameRules (told_levels by C G next) G H → AreTold by C H next
  ready-stays None t s = tt
  ready-stays (Some wanted) t s = (told-stays (suc wanted.rule) wanted.rule wanted.number t s).0

  pub levels-stay : (next : Option Wanted) → AreTold by C G next → HaveSameRules (told_levels by C G next) G H → told_levels by C H next ≡ told_levels by C G next
  levels-stay None t s = refl
  levels-stay (Some wanted) t s = (told-stays (suc wanted.rule) wanted.rule wanted.number t s).1

  same-steps : (ls : List Level) → HaveSameRules ls G H → sum_by (λ l. length (nodes_at H l.rule)) ls ≡ sum_by (λ l. length (nodes_at G l.rule)) ls
  same-steps [] s = refl
  same-steps (l ∷ ls) s =
      let f = λ (l : Level). length (nodes_at G l.rule) in
      let h = λ (l : Level). length (nodes_at H l.rule) in
      sum_by-cons h l ls ∙ ap (λ ns. length ns + sum_by h ls) (same-nodes G H l.rule s.0) ∙ ap (λ k. length (nodes_at G l.rule) + k) (same-steps ls s.1) ∙ sym (sum_by-cons f l ls)

  pub steps-stay : (next : Option Wanted) → AreTold by C G next → HaveSameRules (told_levels by C G next) G H → steps_for H (told_levels by C H next) ≡ steps_for G (told_levels by C G next)
  steps-stay next t s = ap (steps_for H) (levels-stay next t s) ∙ ap (λ k. 4 * k) (same-steps (told_levels by C G next) s)
