-- Rules for leaves: a symbol whose first child is bottom, with what stands behind it as the parameter.
use Rattle.std.specs.Prelude.{◌≡◌, ℕ, ◌+◌, ◌<◌, List, [], ◌∷◌, ◌++◌, Option, Some, None, slice_get, get_or, length, map}
use Rattle.rule_arena.specs.declared.label.Label.{Label}
use Rattle.rule_arena.specs.declared.label.Label.TheVariants.{Bottom, Symbol, Call, Param}
use Rattle.slt_grammar.specs.Grammars.{body_at}
use Rattle.slt_grammar.specs.declared.rules.Rule.{Rule}

-- the rule of a leaf's symbol
abbrev pub leaf_rule : ℕ → Rule
leaf_rule symbol = record { rank = 1; body = Symbol symbol ∷ Bottom ∷ Param ∷ [] }

-- a symbol and a bottom before labels, or a call of the symbol's rule where it has one
abbrev pub leaf_before : Option ℕ → ℕ → List Label → List Label
leaf_before None symbol ls = Symbol symbol ∷ Bottom ∷ ls
leaf_before (Some rule) symbol ls = Call rule ∷ ls

-- a symbol before labels, together with a bottom where that comes first
abbrev pub symbol_before : List (Option ℕ) → ℕ → List Label → List Label
symbol_before places symbol (Bottom ∷ ls) = leaf_before (get_or places symbol None) symbol ls
symbol_before places symbol ls = Symbol symbol ∷ ls

-- the labels of a body in which leaves are calls of the rules at these places, and all other rules stand behind those
abbrev pub joined : List (Option ℕ) → ℕ → List Label → List Label
joined places leaves [] = []
joined places leaves (Symbol f ∷ ls) = symbol_before places f (joined places leaves ls)
joined places leaves (Call q ∷ ls) = Call (leaves + q) ∷ joined places leaves ls
joined places leaves (l ∷ ls) = l ∷ joined places leaves ls

abbrev pub joined_rule : List (Option ℕ) → ℕ → Rule → Rule
joined_rule places leaves R = record { rank = R.rank; body = joined places leaves R.body }

-- the rules of these symbols, and behind them the others
abbrev pub with_leaves : List ℕ → List (Option ℕ) → List Rule → List Rule
with_leaves symbols places G = map leaf_rule symbols ++ map (joined_rule places (length symbols)) G

-- the symbol stands before a bottom, which is then its first child
abbrev pub HasLeaf : ℕ → List Label → Type 0
HasLeaf symbol ls = (i : ℕ) × (slice_get ls i ≡ Some (Symbol symbol)) × (slice_get ls (i + 1) ≡ Some Bottom)

-- a symbol that is counted has a leaf in a rule
abbrev pub AreSeen : List Rule → List ℕ → Type 0
AreSeen G counts = (f : ℕ) → 0 < get_or counts f 0 → (r : ℕ) × (r < length G) × HasLeaf f (body_at G r)

-- the places are those of these symbols
pub record AreLeaves (places : List (Option ℕ)) (symbols : List ℕ) : Type 0 where
  pub told : (f i : ℕ) → get_or places f None ≡ Some i → slice_get symbols i ≡ Some f
  pub back : (i f : ℕ) → slice_get symbols i ≡ Some f → get_or places f None ≡ Some i

-- the rules are those of some symbols that are counted, at these places
pub record AreLeafRules (counts : List ℕ) (places : List (Option ℕ)) (G : List Rule) : Type 0 where
  pub symbols : List ℕ
  pub are : G ≡ map leaf_rule symbols
  pub leaves : AreLeaves places symbols
  pub counted : (i f : ℕ) → slice_get symbols i ≡ Some f → 0 < get_or counts f 0
