-- Lists of rules that are changed at one place.
use Rattle.std.specs.Prelude.{ℕ, zero, suc, ◌+◌, List, [], ◌∷◌, ◌++◌, map, take, drop}
use Rattle.rule_arena.specs.Preorder.{span, terms}
use Rattle.rule_arena.specs.declared.label.Label.{Label}
use Rattle.rule_arena.specs.declared.label.Label.TheVariants.{Bottom, Symbol, Call, Param}
use Rattle.slt_grammar.specs.Bodies.{arity}
use Rattle.slt_grammar.specs.Grammars.{rank_at}
use Rattle.slt_grammar.specs.declared.rules.Rule.{Rule}

-- the parameters have the arguments in their places, one after another
abbrev pub put : List Label → List (List Label) → List Label
put [] args = []
put (Param ∷ ls) [] = Param ∷ put ls []
put (Param ∷ ls) (a ∷ args) = a ++ put ls args
put (l ∷ ls) args = l ∷ put ls args

-- a body whose call at a place, of a rule of this rank and body, is replaced by that body over the call's arguments
abbrev pub inlined : List ℕ → ℕ → List Label → List Label → ℕ → List Label
inlined ranks rank callee body place =
    let rest = drop (place + 1) body in
    take place body ++ (put callee (terms (arity ranks) rank rest) ++ drop (span (arity ranks) rank rest) rest)

-- the rules with another body for one of them
abbrev pub with_body : List Rule → ℕ → List Label → List Rule
with_body G r body = take r G ++ record { rank = rank_at G r; body = body } ∷ drop (r + 1) G

-- a rule's place once a rule was put before the rule at place
abbrev pub shifted : ℕ → ℕ → ℕ
shifted zero q = suc q
shifted (suc place) zero = zero
shifted (suc place) (suc q) = suc (shifted place q)

abbrev pub shifted_label : ℕ → Label → Label
shifted_label place Bottom = Bottom
shifted_label place (Symbol f) = Symbol f
shifted_label place (Call q) = Call (shifted place q)
shifted_label place Param = Param

abbrev pub shifted_rule : ℕ → Rule → Rule
shifted_rule place R = record { rank = R.rank; body = map (shifted_label place) R.body }

-- the rules with one put before the rule at place, whose own calls name the old places
abbrev pub rule_added : List Rule → ℕ → Rule → List Rule
rule_added G place R = take place G ++ R ∷ map (shifted_rule place) (drop place G)
