-- Where in the list of a document's texts those of a term stand, and which symbols nodes get by the marks of their texts.
use Rattle.std.specs.Prelude.{◌≡◌, ◌<◌, ◌≤◌, ℕ, suc, ◌+◌, ◌*◌, List, [], ◌∷◌, Option, Some, None, false}
use Rattle.rule_arena.specs.declared.label.Label.{Label}
use Rattle.rule_arena.specs.declared.label.Label.TheVariants.{Symbol}
use Rattle.slt_grammar.specs.Algebras.{Algebra}
use Rattle.slt_grammar.specs.Automata.{Downward}

-- the place behind so many texts; none where no text is marked
abbrev pub moved : Option ℕ → ℕ → Option ℕ
moved None n = None
moved (Some p) n = Some (p + n)

-- no text is marked among n from a place on
abbrev pub IsClear : (ℕ → ℕ) → ℕ → ℕ → Type 0
IsClear marks from n = (i : ℕ) → from ≤ i → i < from + n → marks i ≡ 0

-- how many texts labels have
module _ (w : Label → ℕ) where
  -- how many texts a term has
  abbrev pub sizes : Algebra ℕ
  sizes = record { bottom = 0; node = λ f a b. w (Symbol f) + (a + b) }

  -- the place in the list of texts at which a term begins, from that of the root
  abbrev pub placing : Downward ℕ (Option ℕ)
  placing = record { start = Some 0; step = λ f d a b. record { hit = false; left = moved d (w (Symbol f)); right = moved d (w (Symbol f) + a) } }

  -- A node whose text has a mark, 1 or more, gets one of other symbols: those of a mark stand behind all symbols of the marks before it.
  abbrev pub marked : ℕ → (ℕ → ℕ) → ℕ → Option ℕ → ℕ
  marked symbols marks f None = f
  marked symbols marks f (Some p) = f + symbols * (w (Symbol f) * marks p)

-- Along a call of a rule with parameters: `count i` is how many texts its segment i has, and the sizes are those of its arguments.
module _ (count : ℕ → ℕ) where
  -- the places at which the arguments begin
  abbrev pub places : ℕ → List ℕ → ℕ → List ℕ
  places i [] p = []
  places i (s ∷ ss) p = (p + count i) ∷ places (suc i) ss (p + count i + s)

  -- how many texts there are
  abbrev pub whole_size : ℕ → List ℕ → ℕ
  whole_size i [] = count i
  whole_size i (s ∷ ss) = count i + (s + whole_size (suc i) ss)

  -- no text of the segments is marked
  abbrev pub AreClear : (ℕ → ℕ) → ℕ → List ℕ → ℕ → Type 0
  AreClear marks i [] p = IsClear marks p (count i)
  AreClear marks i (s ∷ ss) p = IsClear marks p (count i) × AreClear marks (suc i) ss (p + count i + s)
