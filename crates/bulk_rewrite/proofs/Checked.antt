-- A check of rules that are a swept grammar finds no fault.
use Rattle.std.proofs.Common.{◌≡◌, List, refl, inl, inr, arith}
use Rattle.slt_grammar.specs.Faults.{Shows}
use Rattle.slt_grammar.specs.Grammars.{IsGrammar, IsSwept}
use Rattle.slt_grammar.specs.declared.rules.Rule.{Rule}
use Rattle.slt_grammar.specs.declared.checking.GrammarError.{GrammarError}
use Rattle.slt_grammar.specs.declared.checking.GrammarError.TheVariants.{Rank, Linear, Order, Unused, Memory}

pub is-memory : (H : List Rule) (e : GrammarError) → IsGrammar H → IsSwept H → Shows H e → e ≡ Memory
is-memory H (Order r) g swept s = absurd (s.1 (g.each r s.0.there).earlier)
is-memory H (Rank r) g swept (inl s) = let some = g.some in absurd (omega (arith, s.0))
is-memory H (Rank r) g swept (inr s) = absurd (s.2 (g.each r s.0.there).shaped)
is-memory H (Linear r) g swept s = absurd (s.3 (g.each r s.0.there).linear)
is-memory H (Unused r) g swept s = let k = swept r s.there in let z = s.uncalled in absurd (omega arith)
is-memory H Memory g swept s = refl
