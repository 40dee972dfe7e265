-- What stands before and behind a node in the preorder of terms that are given by labels.
use Rattle.std.specs.Prelude.{ℕ, zero, suc, ◌+◌, List, [], ◌∷◌, ◌++◌, take, drop, get_or, sum_by}
use Rattle.rule_arena.specs.declared.label.Label.{Label}
use Rattle.rule_arena.specs.declared.label.Label.TheVariants.{Param}
use Rattle.slt_grammar.specs.Algebras.{Algebra, meanings, ranks_of, all_meanings}
use Rattle.slt_grammar.specs.Bodies.{arity}
use Rattle.slt_grammar.specs.Grammars.{body_at}
use Rattle.slt_grammar.specs.Keyed.{KeyedRule, rules_of}
use Rattle.slt_grammar.specs.declared.level.Level.{Level}
use Rattle.slt_grammar.specs.Segments.{listed, part_of, piece, spread}
use Rattle.slt_grammar.specs.Terms.{Term, Leaf, term_algebra}
use Rattle.slt_grammar.specs.Tours.{Stop, once_closed, entered}
use Rattle.slt_grammar.specs.declared.rules.Rule.{Rule}

-- how much stops stand for
abbrev pub stops_weight : (Label → ℕ) → List Rule → List (Stop Label) → ℕ
stops_weight w G ms = sum_by (λ m. sum_by w (piece G m)) ms

-- what the children of the node at a place mean
abbrev pub kids_meaning : {S : Type 0} → Algebra S → List ℕ → List (List S → S) → List S → ℕ → List Label → List S → List S
kids_meaning A ranks fs args p [] rest = []
kids_meaning A ranks fs args zero (l ∷ ls) rest = take (arity ranks l) (meanings A ranks fs args ls rest)
kids_meaning A ranks fs args (suc p) (Param ∷ ls) rest = kids_meaning A ranks fs (drop 1 args) p ls rest
kids_meaning A ranks fs args (suc p) (l ∷ ls) rest = kids_meaning A ranks fs args p ls rest

-- the preorder before the node at a place, where the parameters take the arguments one after another, and then the rest
abbrev pub before_spread : List Rule → List Term → List (List (Stop Label)) → ℕ → List Label → List Label → List Label
before_spread G args afters zero ls rest = rest
before_spread G args afters (suc p) [] rest = rest
before_spread G args afters (suc p) (Param ∷ ls) rest = listed (get_or args 0 Leaf) (spread (piece G) (get_or afters 0 []) (before_spread G (drop 1 args) (drop 1 afters) p ls rest))
before_spread G args afters (suc p) (l ∷ ls) rest =
    part_of G l 0 ++ spread (piece G) (once_closed (arity (ranks_of G) l) (get_or afters 0 [])) (before_spread G args (entered (arity (ranks_of G)) l afters) p ls rest)

-- how much stands before the node at a place, where the parameters take the arguments one after another
abbrev pub number_before : (Label → ℕ) → List Rule → List Term → List (List (Stop Label)) → ℕ → List Label → ℕ
number_before w G args afters zero ls = 0
number_before w G args afters (suc p) [] = 0
number_before w G args afters (suc p) (Param ∷ ls) =
    sum_by w (listed (get_or args 0 Leaf) []) + (stops_weight w G (get_or afters 0 []) + number_before w G (drop 1 args) (drop 1 afters) p ls)
number_before w G args afters (suc p) (l ∷ ls) =
    sum_by w (part_of G l 0) + (stops_weight w G (once_closed (arity (ranks_of G) l) (get_or afters 0 [])) + number_before w G args (entered (arity (ranks_of G)) l afters) p ls)

-- how much stands before the end of a chain in what its first rule is over arguments
abbrev pub chain_number : (Label → ℕ) → List KeyedRule → List Level → List ℕ → List Term → ℕ
chain_number w G [] ps args = 0
chain_number w G (m ∷ ls) [] args = 0
chain_number w G (m ∷ ls) (p ∷ ps) args =
    number_before w (rules_of G) args ([] ∷ []) p (body_at (rules_of G) m.rule)
    + chain_number w G ls ps (kids_meaning term_algebra (ranks_of (rules_of G)) (all_meanings term_algebra (rules_of G)) args p (body_at (rules_of G) m.rule) [])
