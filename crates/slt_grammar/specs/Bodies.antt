-- Bodies of rules: terms as their labels in preorder.
use Rattle.std.specs.Prelude.{ℕ, suc, ◌+◌, List, [], ◌∷◌, get_or, if◌then◌else◌, eqb, ◌<◌}
use Rattle.rule_arena.specs.Preorder.{AreTerms}
use Rattle.rule_arena.specs.declared.label.Label.{Label}
use Rattle.rule_arena.specs.declared.label.Label.TheVariants.{Bottom, Symbol, Call, Param}

-- how many children a node has, by the ranks of the rules
abbrev pub arity : List ℕ → Label → ℕ
arity ranks Bottom = 0
arity ranks (Symbol f) = 2
arity ranks (Call q) = get_or ranks q 0
arity ranks Param = 0

-- the labels are exactly one term
abbrev pub IsTerm : List ℕ → List Label → Type 0
IsTerm ranks body = AreTerms (arity ranks) 1 body

-- how many parameters a body has
abbrev pub params : List Label → ℕ
params [] = 0
params (Param ∷ ls) = suc (params ls)
params (l ∷ ls) = params ls

-- how many nodes that are no parameters
abbrev pub real_nodes : List Label → ℕ
real_nodes [] = 0
real_nodes (Param ∷ ls) = real_nodes ls
real_nodes (l ∷ ls) = suc (real_nodes ls)

-- the calls name rules before this one
abbrev pub CallsBelow : ℕ → List Label → Type 0
CallsBelow rule [] = Unit {0}
CallsBelow rule (Call q ∷ ls) = (q < rule) × CallsBelow rule ls
CallsBelow rule (l ∷ ls) = CallsBelow rule ls

-- how often a body calls a rule
abbrev pub calls_in : ℕ → List Label → ℕ
calls_in rule [] = 0
calls_in rule (Call q ∷ ls) = (if eqb q rule then 1 else 0) + calls_in rule ls
calls_in rule (l ∷ ls) = calls_in rule ls
