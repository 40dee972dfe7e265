use Rattle.std.proofs.Common.{◌≡◌, ℕ, zero, suc, List, [], ◌∷◌, ◌++◌, ◌+◌, length, get_or, refl, ap, ◌∙◌, length-append, arith}
use Rattle.rule_arena.specs.declared.key.Key.{Key}
use Rattle.digram_index.specs.Uppers.{numbers_of}
use Rattle.digram_index.proofs.uppers.fill.Goals as goal

-- a key of the number 0 behind the others changes no number
pushed-number : (ks : List Key) (key : Key) → key ≡ record { number = 0 } → (k : ℕ) → get_or (numbers_of (ks ++ key ∷ [])) k 0 ≡ get_or (numbers_of ks) k 0
pushed-number [] key e zero = ap (λ (x : Key). x.number) e
pushed-number [] key e (suc k) = refl
pushed-number (x ∷ xs) key e zero = refl
pushed-number (x ∷ xs) key e (suc k) = pushed-number xs key e k

pub loop-preserved : goal.loop-preserved
loop-preserved c =
    let e = c.in_ok-push.ensures.items in
    let n = ap length e ∙ length-append c.loop.keys.items (c.of.result ∷ []) in
    record {
      numbers = λ k. ap (λ (ks : List Key). get_or (numbers_of ks) k 0) e ∙ pushed-number c.loop.keys.items c.of.result c.of.ensures k ∙ c.loop.invariant.numbers k;
      more = let h = c.loop.invariant.more in let m : length c.push.new.self.items ≡ length c.loop.keys.items + 1 = n in omega arith;
      counted = let h = c.loop.invariant.counted in let m : length c.push.new.self.items ≡ length c.loop.keys.items + 1 = n in omega arith;
    }
