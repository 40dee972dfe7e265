-- What labels, bodies and rules mean in an algebra: once for values, for states and for counts.
use Rattle.std.specs.Prelude.{ℕ, List, [], ◌∷◌, ◌++◌, take, drop, map, get_or}
use Rattle.rule_arena.specs.declared.label.Label.{Label}
use Rattle.rule_arena.specs.declared.label.Label.TheVariants.{Bottom, Symbol, Call, Param}
use Rattle.slt_grammar.specs.Bodies.{arity}
use Rattle.slt_grammar.specs.declared.rules.Rule.{Rule}

-- what bottom means, and a symbol over the meanings of its two children
pub record Algebra (S : Type 0) : Type 0 where
  pub bottom : S
  pub node : ℕ → S → S → S

-- what a label means over the meanings of its children, where each rule is a function of its arguments' meanings
abbrev pub apply : {S : Type 0} → Algebra S → List (List S → S) → Label → List S → S
apply A rules Bottom kids = A.bottom
apply A rules (Symbol f) kids = A.node f (get_or kids 0 A.bottom) (get_or kids 1 A.bottom)
apply A rules (Call q) kids = get_or rules q (λ _. A.bottom) kids
apply A rules Param kids = A.bottom

-- the meanings of terms in preorder, and then the rest; the parameters take the arguments one after another
abbrev pub meanings : {S : Type 0} → Algebra S → List ℕ → List (List S → S) → List S → List Label → List S → List S
meanings A ranks rules args [] rest = rest
meanings A ranks rules args (Param ∷ ls) rest = get_or args 0 A.bottom ∷ meanings A ranks rules (drop 1 args) ls rest
meanings A ranks rules args (l ∷ ls) rest =
    let all = meanings A ranks rules args ls rest in
    apply A rules l (take (arity ranks l) all) ∷ drop (arity ranks l) all

-- what a body means as a function of its arguments' meanings
abbrev pub meaning : {S : Type 0} → Algebra S → List ℕ → List (List S → S) → List Label → List S → S
meaning A ranks rules body args = get_or (meanings A ranks rules args body []) 0 A.bottom

-- the meanings of rules, one after another, behind those of the rules before them
abbrev pub rule_meanings : {S : Type 0} → Algebra S → List ℕ → List (List S → S) → List Rule → List (List S → S)
rule_meanings A ranks before [] = before
rule_meanings A ranks before (R ∷ Rs) = rule_meanings A ranks (before ++ meaning A ranks before R.body ∷ []) Rs

abbrev pub ranks_of : List Rule → List ℕ
ranks_of = map (λ R. R.rank)

-- the meanings of all rules of a grammar
abbrev pub all_meanings : {S : Type 0} → Algebra S → List Rule → List (List S → S)
all_meanings A G = rule_meanings A (ranks_of G) [] G
