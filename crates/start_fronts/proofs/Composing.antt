-- Changes one after another.
use Rattle.std.proofs.Common.{◌≢◌, zero, suc, List, [], ◌∷◌, ◌++◌, All, refl, ◌∙◌, arith}
use Rattle.rule_arena.specs.declared.key.Key.{Key}
use Rattle.slt_grammar.specs.Keyed.{KeyedRule}
use Rattle.start_fronts.specs.Before.{KeepsBefore}

pub keeps-all : (G : List KeyedRule) → KeepsBefore [] G G
keeps-all G key place there apart = record { now = place; there = there; same = refl }

-- what holds of lists one after another holds of each
pub all-front : {X : Type 0} (P : X → Type 0) (xs ys : List X) → All P (xs ++ ys) → All P xs
all-front P [] ys a k d h = absurd (omega (arith, h))
all-front P (x ∷ xs) ys a zero d h = a zero d (omega arith)
all-front P (x ∷ xs) ys a (suc k) d h = all-front P xs ys (λ i e l. a (suc i) e (omega (arith, l))) k d (omega (arith, h))

pub all-back : {X : Type 0} (P : X → Type 0) (xs ys : List X) → All P (xs ++ ys) → All P ys
all-back P [] ys a = a
all-back P (x ∷ xs) ys a = all-back P xs ys (λ i e l. a (suc i) e (omega (arith, l)))

pub keeps-both : (first second : List Key) (G H K : List KeyedRule) → KeepsBefore first G H → KeepsBefore second H K → KeepsBefore (first ++ second) G K
keeps-both first second G H K a b key place there apart =
    let s = a key place there (all-front (λ k. k ≢ key) first second apart) in
    let t = b key s.now s.there (all-back (λ k. k ≢ key) first second apart) in
    record { now = t.now; there = t.there; same = t.same ∙ s.same }
