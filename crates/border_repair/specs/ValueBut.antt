-- The value with the calls of the first rule left in it, as labels.
use Rattle.std.specs.Prelude.{ℕ, zero, suc, ◌+◌, ◌*◌, ◌-◌, List, [], ◌∷◌, ◌++◌, length, get_or, drop, None}
use Rattle.rule_arena.specs.declared.label.Label.{Label}
use Rattle.rule_arena.specs.declared.label.Label.TheVariants.{Bottom, Symbol, Call}
use Rattle.slt_grammar.specs.Algebras.{Algebra, rule_meanings, ranks_of}
use Rattle.slt_grammar.specs.Bodies.{calls_in}
use Rattle.slt_grammar.specs.declared.rules.Rule.{Rule}
use Rattle.slt_grammar.specs.declared.digram.Digram.{Digram}
use Rattle.slt_grammar.proofs.Substitutions.{joined}
use Rattle.border_repair.specs.Digrams.{is}
use Rattle.border_repair.specs.Edges.{all_edges}
use Rattle.border_repair.specs.Weighing.{Above, Rim}

-- labels in preorder as meanings
abbrev pub label_algebra : Algebra (List Label)
label_algebra = record { bottom = Bottom ∷ []; node = λ f a b. Symbol f ∷ (a ++ b) }

-- the meanings of rules where the first one is this function
abbrev pub but_meanings : {S : Type 0} → Algebra S → (List S → S) → List Rule → List (List S → S)
but_meanings A first G = rule_meanings A (ranks_of G) (first ∷ []) (drop 1 G)

-- the start's body with all calls replaced but those of the first rule
abbrev pub value_but : List Rule → List Label
value_but G = get_or (but_meanings label_algebra (λ kids. Call 0 ∷ joined kids) G) (length G - 1) (λ _. label_algebra.bottom) []

-- what each use of a rule adds, where these are its calls
abbrev pub adds_before : (ℕ → ℕ) → (ℕ → List Label) → ℕ → (ℕ → ℕ) → ℕ
adds_before own lists zero used = 0
adds_before own lists (suc r) used = used r * own r + adds_before own lists r (λ q. used q + used r * calls_in q (lists r))

-- a rule of which nothing is known but its rank
abbrev pub nones : ℕ → List Above
nones zero = []
nones (suc n) = None ∷ nones n

abbrev pub unknown : List ℕ → ℕ → Rim
unknown ranks q = record { root = None; borders = nones (get_or ranks q 0) }

-- how many nodes of terms with calls are symbols of the digram over a child of it, where neither is a call
abbrev pub pairs_in : Digram → List ℕ → List Label → ℕ
pairs_in d ranks ls = all_edges (is d) (unknown ranks) (None ∷ []) ls
