use Rattle.std.proofs.Common.{◌≡◌, ◌∙◌, ◌<◌, ◌+◌, ◌++◌, ◌∷◌, [], ℕ, zero, suc, List, length, take, set, Some, slice_get, ap, sym, refl, arith}
use Rattle.rule_arena.specs.declared.key.Key.{Key}
use Rattle.slt_grammar.proofs.Collections.{take-there}
use Rattle.slt_grammar.proofs.reading.children.Goals as goal

set-taken : (xs : List Key) (i : ℕ) (v : Key) → i < length xs → take (suc i) (set xs i v) ≡ take i xs ++ v ∷ []
set-taken [] i v h = absurd (omega arith)
set-taken (x ∷ xs) zero v h = refl
set-taken (x ∷ xs) (suc i) v h = ap (λ (zs : List Key). x ∷ zs) (set-taken xs i v (omega arith))

pub loop-i-preserved : goal.loop-i-preserved
loop-i-preserved c =
    let z : c.loop-i.i + 1 ≡ suc c.loop-i.i = omega arith in
    let h : c.loop-i.i < length c.loop-i.keys = omega (arith, c.loop-i-test.true, c.len-len.ensures.few, c.requires.room, c.loop-i.auto.keys) in
    let e : slice_get c.look-item.result.kids c.loop-i.i ≡ Some c.unwrap.result = sym c.get.ensures ∙ c.unwrap.ensures in
    ap (λ (n : ℕ). take n (set c.loop-i.keys c.loop-i.i c.unwrap.result)) z
    ∙ set-taken c.loop-i.keys c.loop-i.i c.unwrap.result h
    ∙ ap (λ (zs : List Key). zs ++ c.unwrap.result ∷ []) c.loop-i.invariant
    ∙ sym (take-there c.look-item.result.kids c.loop-i.i c.unwrap.result e)
    ∙ ap (λ (n : ℕ). take n c.look-item.result.kids) (sym z)
