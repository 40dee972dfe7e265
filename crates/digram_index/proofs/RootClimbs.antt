-- The root of a body, found by climbing.
use Rattle.std.proofs.Common.{◌≡◌, ℕ, zero, suc, ◌+◌, ◌-◌, ◌<◌, length, Option, Some, None, IsSome, IsTrue, refl, sym, ap, ◌∙◌, subst, arith}
use Rattle.rule_arena.specs.Terms.{parent_in}
use Rattle.rule_arena.specs.declared.key.Key.{Key}
use Rattle.slt_grammar.specs.Keyed.{Keyed, IsKeyed, key_at, nodes_at}
use Rattle.slt_grammar.specs.KeyedEdits.{Stands}
use Rattle.slt_grammar.proofs.KeyedLemmas.{key_at-within, nodes-are-term}
use Rattle.slt_grammar.proofs.Parents.{parent-inner}
use Rattle.digram_index.specs.Linked.{Linked, is_marked}
use Rattle.digram_index.specs.Marking.{MarksStart}
use Rattle.digram_index.proofs.Apartness.{one-key}
use Rattle.digram_index.proofs.Climbs.{all_before, climbs}
use Rattle.digram_index.proofs.Kids.{child-of}

-- two keys stand in one rule
pub record AreInOne (g : Keyed) (key here : Key) : Type 0 where
  pub low : Stands g.rules key
  pub at : ℕ
  pub there : key_at g.rules low.rule at ≡ Some here

module _ (g : Keyed) (K : IsKeyed g) (key here : Key) (I : AreInOne g key here) where
  -- what is marked stands in the start, and so does what stands in one rule with it
  pub marked-in-start : (L : Linked) → MarksStart g.rules L → IsTrue (is_marked L here.number) → (S : Stands g.rules key) → S.rule + 1 ≡ length g.rules
  marked-in-start L M m S =
      let w = M here.number m in
      let e : key_at g.rules (length g.rules - 1) w.place ≡ Some here = w.there ∙ ap Some (one-key w.key here w.number) in
      let o = K.once here I.low.rule I.at (length g.rules - 1) w.place I.there e in
      let u = K.once key S.rule S.place I.low.rule I.low.place S.there I.low.there in
      let b = key_at-within g.rules S.rule S.place key S.there in
      omega (arith, o.0, u.0, b.0)

module _ (g : Keyed) (K : IsKeyed g) (key here : Key) (I : AreInOne g key here) (parent : Option (Key × ℕ)) (told : (r p : ℕ) → key_at g.rules r p ≡ Some here → parent_in (nodes_at g.rules r) p ≡ parent) where
  is_parent : parent_in (nodes_at g.rules I.low.rule) I.at ≡ parent
  is_parent = told I.low.rule I.at I.there

  pub climbs-on : (up : Key) (c : ℕ) → parent ≡ Some (up, c) → AreInOne g key up × (all_before g.rules up.number < all_before g.rules here.number)
  climbs-on up c e =
      let w = key_at-within g.rules I.low.rule I.at here I.there in
      let C = child-of (nodes_at g.rules I.low.rule) I.at (up, c) (nodes-are-term g K I.low.rule w.0) (is_parent ∙ e) in
      (record { low = I.low; at = C.above; there = C.there }, climbs g K I.low.rule I.at C.above here up I.there C.there C.before)

  pub climbs-to-root : parent ≡ None → (S : Stands g.rules key) → key_at g.rules S.rule 0 ≡ Some here
  climbs-to-root e S =
      let o = K.once key S.rule S.place I.low.rule I.low.place S.there I.low.there in
      ap (λ (r : ℕ). key_at g.rules r 0) o.0 ∙ ap (λ (p : ℕ). key_at g.rules I.low.rule p) (sym (first I.at refl)) ∙ I.there
    where
      first : (h : ℕ) → I.at ≡ h → I.at ≡ 0
      first zero z = z
      first (suc h) z =
          let w = key_at-within g.rules I.low.rule I.at here I.there in
          let s = parent-inner (nodes_at g.rules I.low.rule) I.at (nodes-are-term g K I.low.rule w.0) w.1 (omega (arith, z)) in
          absurd (let y : IsSome {T = Key × ℕ} None = subst (λ (x : Option (Key × ℕ)). IsSome x) (is_parent ∙ e) s in cc)
