-- What rises at most so much has room in so many places.
use Rattle.std.proofs.Common.{◌≡◌, ℕ, suc, ◌+◌, ◌-◌, ◌<◌, ◌≤◌, List, [], ◌∷◌, take, Bool, true, false, refl, sym, arith, subst}
use Rattle.std.specs.Prelude.{nat_lt, if◌then◌else◌}
use Rattle.std.proofs.lemmas.Bool.{ltb-true}
use Rattle.std.proofs.lemmas.List.Sums.{sum_by-cons}
use Rattle.rule_arena.specs.declared.label.Label.{Label}
use Rattle.rule_arena.specs.declared.label.Label.TheVariants.{Bottom, Symbol, Call, Param}
use Rattle.segment_counts.specs.Weights.{node_weight}
use Rattle.value_cursor.specs.Cursors.{BeginsAtNode, left_of}
use Rattle.value_cursor.specs.Rises.{RisesAtMost, close_weight, closes, opens}
use Rattle.value_cursor.specs.Tokens.{tokens}
use Rattle.value_cursor.specs.declared.cursor.Cursor.{Cursor}
use Rattle.store_core.specs.Walking.{AreEnough, HasRoom}
use Rattle.tree_updates.specs.declared.store.Store.{Store}

-- beside n open nodes
room-risen : (places n : ℕ) (ls : List Label) → ((k : ℕ) → n + opens (take k ls) ≤ closes (take k ls) + places) → HasRoom places n (tokens n ls)
room-risen places n [] h = tt
room-risen places n (Symbol f ∷ ls) h =
    let e : n + 1 ≡ suc n = omega arith in
    let rest : HasRoom places (suc n) (tokens (suc n) ls) = room-risen places (suc n) ls (λ k. omega (arith, h (suc k), sum_by-cons node_weight (Symbol f) (take k ls), sum_by-cons close_weight (Symbol f) (take k ls))) in
    (omega (arith, h 1), subst (λ m. HasRoom places m (tokens (suc n) ls)) (sym e) rest)
room-risen places n (Bottom ∷ ls) h = (tt, until (nat_lt 1 n) refl (λ l. room-risen places (n - 1) ls (λ k. omega (arith, l, h (suc k), sum_by-cons node_weight Bottom (take k ls), sum_by-cons close_weight Bottom (take k ls)))))
  where
    until : (b : Bool) → nat_lt 1 n ≡ b → (1 < n → HasRoom places (n - 1) (tokens (n - 1) ls)) → HasRoom places (n - 1) (if b then tokens (n - 1) ls else [])
    until true e r = r (ltb-true 1 n e)
    until false e r = tt
room-risen places n (Call q ∷ ls) h = room-risen places n ls (λ k. omega (arith, h (suc k), sum_by-cons node_weight (Call q) (take k ls), sum_by-cons close_weight (Call q) (take k ls)))
room-risen places n (Param ∷ ls) h = room-risen places n ls (λ k. omega (arith, h (suc k), sum_by-cons node_weight Param (take k ls), sum_by-cons close_weight Param (take k ls)))

-- so many places as the labels that are left of each cursor rise are enough for any node
pub rise-enough : (s : Store) (places : ℕ) → ((number : ℕ) (c : Cursor) → BeginsAtNode s.grammar.rules number c → RisesAtMost places (left_of s.grammar.rules c)) → (number : ℕ) → AreEnough s number places
rise-enough s places rises number c b =
    subst (λ (n : ℕ). HasRoom places 0 (tokens n (left_of s.grammar.rules c))) (sym b.none_open) (room-risen places 0 (left_of s.grammar.rules c) (λ k. omega (arith, rises number c b k)))
