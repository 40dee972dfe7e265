-- A node that waits to be freed is no child.
use Rattle.std.proofs.Common.{◌≡◌, ◌⊎◌, inl, inr, ℕ, suc, ◌+◌, ◌-◌, ◌<◌, ◌≤◌, List, Option, Some, None, sym, ap, ◌∙◌, arith}
use Rattle.slab.specs.Slab.{Slab, get}
use Rattle.rule_arena.specs.Linked.{Cell}
use Rattle.rule_arena.specs.Siblings.{parent_at, Tied, IsNoChild}
use Rattle.rule_arena.specs.Slots.{flatten, RootAt}
use Rattle.rule_arena.specs.Terms.{Node, key_in}
use Rattle.rule_arena.specs.declared.key.Key.{Key}
use Rattle.rule_arena.proofs.CutLemmas.{among}
use Rattle.rule_arena.proofs.FreeLemmas.{Once, Frees, place, no_child_left, key_in-drop}
use Rattle.rule_arena.proofs.TiedLemmas.{parent_there}

pub no_child_now : (was now : Slab Cell) (ns : List Node) (once : Once ns) (waiting : Option (Key × ℕ)) (link : Key × ℕ) (F : Frees was now ns waiting) (is : waiting ≡ Some link) (root : ℕ) → RootAt (get was) root ns → Tied was → IsNoChild now link.0.number
no_child_now was now ns once waiting link F is root R T n c i k e f h = elim (among ns n) [
  | inl l ↦
      let p = T n c i k (sym (F.others n l) ∙ e) f in
      let q = parent_there (get was) root ns R F.done link.0 (record { number = n }, suc i) (place was now ns once waiting link F is) (ap (λ (j : ℕ). parent_at (get was j)) (sym h) ∙ p) in
      l q.0 q.1
  | inr x ↦ elim (below_or x.0 F.done) [
    | inl b ↦ let z : None ≡ Some c = sym (F.free x.0 (record { number = n }) b x.1) ∙ e in absurd (cc)
    | inr b ↦
        let d : F.done + (x.0 - F.done) ≡ x.0 = omega (arith, b) in
        let m : key_in (flatten F.left) (x.0 - F.done) ≡ Some (record { number = n }) = ap (λ (ms : List Node). key_in ms (x.0 - F.done)) F.parts ∙ key_in-drop ns F.done (x.0 - F.done) ∙ ap (λ (j : ℕ). key_in ns j) d ∙ x.1 in
        no_child_left was now ns once waiting link F is (x.0 - F.done) i c (record { number = n }) k m e f h
  ]
]
  where
    below_or : (a b : ℕ) → (a < b) ⊎ (b ≤ a)
    below_or a b = grind arith
