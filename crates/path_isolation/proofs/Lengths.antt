-- The levels of a chain are levels of rules that are there, and their bodies are few.
use Rattle.std.proofs.Common.{◌≡◌, ℕ, zero, suc, ◌+◌, ◌<◌, ◌≤◌, List, [], ◌∷◌, length, None, subst, arith}
use Rattle.slt_grammar.specs.Keyed.{KeyedRule, nodes_at, rules_of}
use Rattle.slt_grammar.specs.KeyedEdits.{label_at}
use Rattle.rule_arena.specs.Terms.{Node, key_in}
use Rattle.slt_grammar.specs.Grammars.{IsGrammar, whole}
use Rattle.slt_grammar.specs.declared.level.Level.{Level}
use Rattle.slt_grammar.specs.declared.rules.Rule.{Rule}
use Rattle.std.proofs.lemmas.List.Sums.{sum_by-take-le}
use Rattle.slt_grammar.proofs.CallCounts.{sum-more}
use Rattle.slt_grammar.proofs.KeyedLemmas.{length-rules_of}
use Rattle.path_isolation.specs.Chains.{IsChain, Leads}
use Rattle.path_isolation.proofs.ChainLemmas.{earlier}
use Rattle.path_isolation.proofs.Walks.{length-body}

-- each level is of one of the rules
abbrev pub AreOfRules : List KeyedRule → List Level → Type 0
AreOfRules G [] = Unit {0}
AreOfRules G (m ∷ ls) = (m.rule < length G) × AreOfRules G ls

leads-in : (G : List KeyedRule) (r p : ℕ) (ls : List Level) (ps : List ℕ) → IsGrammar (rules_of G) → r < length G → Leads G (label_at G r p) ls ps → AreOfRules G ls
leads-in G r p [] ps g h L = tt
leads-in G r p (m ∷ ls) [] g h L = absurd L
leads-in G r p (m ∷ ls) (q ∷ ps) g h L =
    let k = earlier G r p m.rule g h L.0 in
    let i : m.rule < length G = omega (arith, k, h) in
    (i, leads-in G m.rule q ls ps g i L.2)

pub levels-in : (G : List KeyedRule) (lv : List Level) (qs : List ℕ) (l : Level) (ls : List Level) → IsGrammar (rules_of G) → IsChain G lv qs → lv ≡ l ∷ ls → AreOfRules G ls
levels-in G lv [] l ls g c e = absurd (subst (λ xs. IsChain G xs []) e c)
levels-in G lv (p ∷ ps) l ls g c e =
    let d : IsChain G (l ∷ ls) (p ∷ ps) = subst (λ xs. IsChain G xs (p ∷ ps)) e c in
    leads-in G l.rule p ls ps g (omega (arith, d.0)) d.2

-- a body is no longer than all bodies
pub body-fits : (G : List KeyedRule) (r : ℕ) → r < length G → length (nodes_at G r) ≤ whole (rules_of G)
body-fits G r h =
    let f : Rule → ℕ = λ R. length R.body in
    let n = length-rules_of G in
    omega (arith, sum-more f (rules_of G) r (omega (arith, h, n)), sum_by-take-le f (rules_of G) (r + 1), length-body G r)

-- where no node stands the nodes are passed
pub all-passed : (ns : List Node) (p : ℕ) → key_in ns p ≡ None → length ns ≤ p
all-passed [] p e = omega arith
all-passed (n ∷ ns) zero e = absurd (cc)
all-passed (n ∷ ns) (suc p) e = let h = all-passed ns p e in omega arith
