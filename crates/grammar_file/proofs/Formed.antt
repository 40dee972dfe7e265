-- The rules of a grammar, each behind those before it.
use Rattle.std.proofs.Common.{◌≡◌, ℕ, zero, suc, ◌+◌, ◌<◌, ◌≤◌, List, [], ◌∷◌, ◌++◌, length, get_or, inl, inr, refl, sym, subst, arith, append_assoc}
use Rattle.rule_arena.specs.Preorder.{AreTerms}
use Rattle.rule_arena.specs.declared.label.Label.{Label}
use Rattle.rule_arena.specs.declared.label.Label.TheVariants.{Bottom, Symbol, Call, Param}
use Rattle.slt_grammar.specs.Algebras.{ranks_of}
use Rattle.slt_grammar.specs.Bodies.{arity, CallsBelow}
use Rattle.slt_grammar.specs.Faults.{Shows}
use Rattle.slt_grammar.specs.Grammars.{IsGrammar, IsSwept, no_rule}
use Rattle.slt_grammar.specs.declared.checking.GrammarError.{GrammarError}
use Rattle.slt_grammar.specs.declared.checking.GrammarError.TheVariants.{Rank, Linear, Order, Unused, Memory}
use Rattle.slt_grammar.specs.declared.rules.Rule.{Rule}
use Rattle.grammar_file.specs.Forming.{IsBody, AreFormed}

-- ---- the ranks of the rules before are enough
ranks-before : (P Rs : List Rule) (q : ℕ) → q < length P → get_or (ranks_of (P ++ Rs)) q 0 ≡ get_or (ranks_of P) q 0
ranks-before [] Rs q h = absurd (omega arith)
ranks-before (Q ∷ P) Rs zero h = refl
ranks-before (Q ∷ P) Rs (suc q) h = ranks-before P Rs q (omega arith)

terms-before : (P Rs : List Rule) (n : ℕ) (ls : List Label) → CallsBelow (length P) ls → AreTerms (arity (ranks_of (P ++ Rs))) n ls → AreTerms (arity (ranks_of P)) n ls
terms-before P Rs zero [] below t = tt
terms-before P Rs zero (l ∷ ls) below t = absurd t
terms-before P Rs (suc n) [] below t = absurd t
terms-before P Rs (suc n) (Bottom ∷ ls) below t = terms-before P Rs _ ls below t
terms-before P Rs (suc n) (Param ∷ ls) below t = terms-before P Rs _ ls below t
terms-before P Rs (suc n) (Symbol f ∷ ls) below t = terms-before P Rs _ ls below t
terms-before P Rs (suc n) (Call q ∷ ls) below t =
    terms-before P Rs (get_or (ranks_of P) q 0 + n) ls below.1 (subst (λ k. AreTerms (arity (ranks_of (P ++ Rs))) (k + n) ls) (ranks-before P Rs q below.0) t)

rule-here : (P : List Rule) (R : Rule) (Rs : List Rule) → get_or (P ++ R ∷ Rs) (length P) no_rule ≡ R
rule-here [] R Rs = refl
rule-here (Q ∷ P) R Rs = rule-here P R Rs

rule-there : (P : List Rule) (R : Rule) (Rs : List Rule) → length P < length (P ++ R ∷ Rs)
rule-there [] R Rs = omega arith
rule-there (Q ∷ P) R Rs = omega (arith, rule-there P R Rs)

formed-behind : (P Rs : List Rule) → IsGrammar (P ++ Rs) → AreFormed P Rs
formed-behind P [] g = tt
formed-behind P (R ∷ Rs) g =
    let lawful = g.each (length P) (rule-there P R Rs) in
    let here = rule-here P R Rs in
    let small : R.rank ≤ 8 = subst (λ (T : Rule). T.rank ≤ 8) here lawful.shaped.small in
    let earlier : CallsBelow (length P) R.body = subst (λ (T : Rule). CallsBelow (length P) T.body) here lawful.earlier in
    let term = subst (λ (T : Rule). AreTerms (arity (ranks_of (P ++ R ∷ Rs))) 1 T.body) here lawful.shaped.term in
    let body : IsBody P R.body = record { term = terms-before P (R ∷ Rs) 1 R.body earlier term; earlier = earlier } in
    (record { small = small; body = body }, formed-behind (P ++ R ∷ []) Rs (subst IsGrammar (sym (append_assoc P (R ∷ []) Rs)) g))

pub grammar-formed : (G : List Rule) → IsGrammar G → AreFormed [] G
grammar-formed = formed-behind []

-- what check finds is a fault
pub faulty : (G : List Rule) (e : GrammarError) → (e ≡ Memory → ⊥) → Shows G e → IsGrammar G → IsSwept G → ⊥
faulty G (Order r) other shows g swept = shows.1 (g.each r shows.0.there).earlier
faulty G (Rank r) other (inl (none, at)) g swept = omega (arith, g.some)
faulty G (Rank r) other (inr (reached, below, not)) g swept = not (g.each r reached.there).shaped
faulty G (Linear r) other shows g swept = shows.3 (g.each r shows.0.there).linear
faulty G (Unused r) other shows g swept = omega (arith, swept r shows.there, shows.uncalled)
faulty G Memory other shows g swept = other refl
