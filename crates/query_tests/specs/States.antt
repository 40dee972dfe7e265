-- Equal states of the tests' automata are identical.
use Rattle.std.proofs.Common.{◌≡◌, Bool, true, false, refl, sym, ap}
use Rattle.std.proofs.Math.Bool.{beq, true≢false}
use Rattle.query_tests.specs.declared.automaton.Seen.{Seen}
use Rattle.query_tests.specs.declared.automaton.Below.{Below}
use Rattle.query_tests.specs.declared.marked_texts.Chain.{Chain}

same_bool : (b c : Bool) → beq b c ≡ true → b ≡ c
same_bool true true e = refl
same_bool true false e = absurd (true≢false (sym e))
same_bool false true e = absurd (true≢false (sym e))
same_bool false false e = refl

pub same_seen : (a b : Seen) → beq a.has_b b.has_b ≡ true → a ≡ b
same_seen a b e = ap (λ (x : Bool). record { has_b = x }) (same_bool a.has_b b.has_b e)

pub same_below : (a b : Below) → beq a.an_a b.an_a ≡ true → a ≡ b
same_below a b e = ap (λ (x : Bool). record { an_a = x }) (same_bool a.an_a b.an_a e)

pub same_chain : (a b : Chain) → beq a.has_marked b.has_marked ≡ true → a ≡ b
same_chain a b e = ap (λ (x : Bool). record { has_marked = x }) (same_bool a.has_marked b.has_marked e)
