-- Rules for pairs: a symbol whose first child is a call without arguments, with what stands behind them as the parameter.
use Rattle.std.specs.Prelude.{◌≡◌, ℕ, ◌+◌, List, [], ◌∷◌, ◌++◌, Option, Some, None, slice_get, length, map}
use Rattle.std.specs.List.{position}
use Rattle.rule_arena.specs.declared.label.Label.{Label}
use Rattle.rule_arena.specs.declared.label.Label.TheVariants.{Symbol, Call, Param}
use Rattle.slt_grammar.specs.Grammars.{rank_at}
use Rattle.slt_grammar.specs.declared.rules.Rule.{Rule}
use Rattle.fcns_encoding.specs.declared.pair_rules.Pair.{Pair}
use Rattle.fcns_encoding.specs.contracts.pair_rules.PairPartialEq.TheImpl.{eq-value}

-- the rule of a pair
abbrev pub pair_rule : Pair → Rule
pair_rule p = record { rank = 1; body = Symbol p.symbol ∷ Call p.rule ∷ Param ∷ [] }

-- the place of a pair among those that have rules
abbrev pub place_of : List Pair → Pair → Option ℕ
place_of pairs p = position (eq-value.it p) pairs

-- a pair before labels, or a call of its rule where it has one
abbrev pub pair_before : Option ℕ → ℕ → Pair → List Label → List Label
pair_before None above p ls = Symbol p.symbol ∷ Call p.rule ∷ ls
pair_before (Some place) above p ls = Call (above + place) ∷ ls

-- the labels of a body in which pairs are calls of their rules, which stand from a place on
abbrev pub paired : List Pair → ℕ → List Label → List Label
paired pairs above [] = []
paired pairs above (Symbol f ∷ Call q ∷ ls) =
    let p : Pair = record { symbol = f; rule = q } in
    pair_before (place_of pairs p) above p (paired pairs above ls)
paired pairs above (l ∷ ls) = l ∷ paired pairs above ls

abbrev pub paired_rule : List Pair → ℕ → Rule → Rule
paired_rule pairs above R = record { rank = R.rank; body = paired pairs above R.body }

-- the rules before the start, those of the pairs, and the start
abbrev pub with_pairs : List Pair → List Rule → Rule → List Rule
with_pairs pairs before start = (before ++ map pair_rule pairs) ++ paired_rule pairs (length before) start ∷ []

-- the symbol stands before the call, which is then its first child
abbrev pub StandsAt : Pair → List Label → ℕ → Type 0
StandsAt p ls i = (slice_get ls i ≡ Some (Symbol p.symbol)) × (slice_get ls (i + 1) ≡ Some (Call p.rule))

-- the pair stands among the labels, and its rule has no parameters
pub record IsFound (rules : List Rule) (ls : List Label) (p : Pair) : Type 0 where
  pub at : ℕ
  pub stands : StandsAt p ls at
  pub plain : rank_at rules p.rule ≡ 0

abbrev pub AreFound : List Rule → List Label → List Pair → Type 0
AreFound rules ls pairs = (i : ℕ) (p : Pair) → slice_get pairs i ≡ Some p → IsFound rules ls p

-- each of the pairs is found at its place
abbrev pub AreApart : List Pair → Type 0
AreApart pairs = (i : ℕ) (p : Pair) → slice_get pairs i ≡ Some p → place_of pairs p ≡ Some i
