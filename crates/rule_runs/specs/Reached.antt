-- The states that runs over shared rules meet, and what it is to read each once.
use Rattle.std.specs.Prelude.{◌≡◌, ◌≢◌, ℕ, suc, ◌*◌, ◌≤◌, List, [], ◌∷◌, ◌++◌, length, take, drop, get_or, sum_by, Some, slice_get, All, AllPairs}
use Rattle.rule_arena.specs.declared.label.Label.{Label}
use Rattle.rule_arena.specs.declared.label.Label.TheVariants.{Bottom, Symbol, Call, Param}
use Rattle.slt_grammar.specs.Bodies.{params}
use Rattle.slt_grammar.specs.Algebras.{Algebra, meanings, ranks_of, all_meanings}
use Rattle.slt_grammar.specs.Automata.{Downward, handed}
use Rattle.slt_grammar.specs.Grammars.{body_at, rank_at, value_at}
use Rattle.slt_grammar.specs.declared.rules.Rule.{Rule}

-- a rule and the states of its arguments
abbrev pub RuleStates : Type 0 → Type 0
RuleStates S = ℕ × List S

module _ {S : Type 0} (A : Algebra S) (G : List Rule) where
  -- the states of the terms that labels are, with states of the parameters among them
  abbrev pub states_of : List S → List Label → List S
  states_of args ls = meanings A (ranks_of G) (all_meanings A G) args ls []

  -- the states of the terms that begin at a place of a body or behind it
  abbrev pub states_from : ℕ → List S → List Label → List S
  states_from place args body = states_of (drop (params (take place body)) args) (drop place body)

  -- the states of the arguments of a call of a rule at a place of a body
  abbrev pub argument_states : ℕ → List S → List Label → ℕ → List S
  argument_states q args body place = take (rank_at G q) (states_from (suc place) args body)

-- The pairs of a rule and argument states that a run upward meets: the start, and what the bodies of such pairs call.
pub data Uses (S : Type 0) (A : Algebra S) (G : List Rule) : ℕ → List S → Type 0 where
  at_start : (r : ℕ) → suc r ≡ length G → Uses S A G r []
  at_call : (r : ℕ) (args : List S) (place q : ℕ) → Uses S A G r args → slice_get (body_at G r) place ≡ Some (Call q) → Uses S A G q (argument_states A G q args (body_at G r) place)

module _ {S D : Type 0} (A : Algebra S) (W : Downward S D) (G : List Rule) where
  -- the down states of a node's children, from its own and from the states of its children
  abbrev pub handed_out : Label → List S → D → List D
  handed_out Bottom kids d = []
  handed_out (Symbol f) kids d =
      let s = W.step f d (get_or kids 0 A.bottom) (get_or kids 1 A.bottom) in
      s.left ∷ s.right ∷ []
  handed_out (Call q) kids d = handed A W (value_at G q) (take (rank_at G q) kids) d
  handed_out Param kids d = []

  -- the down state of each node of terms, from those of their roots and the states of their parameters
  abbrev pub downs : List S → List D → List Label → List D
  downs args open_downs [] = []
  downs args open_downs (Param ∷ ls) = get_or open_downs 0 W.start ∷ downs (drop 1 args) (drop 1 open_downs) ls
  downs args open_downs (l ∷ ls) =
      let d = get_or open_downs 0 W.start in
      d ∷ downs args (handed_out l (states_of A G args ls) d ++ drop 1 open_downs) ls

-- The triples that a run downward meets: the start with the root's down state, and what the bodies of such triples call.
pub data Falls (S D : Type 0) (A : Algebra S) (W : Downward S D) (G : List Rule) : ℕ → List S → D → Type 0 where
  at_start : (r : ℕ) → suc r ≡ length G → Falls S D A W G r [] W.start
  at_call : (r : ℕ) (args : List S) (d : D) (place q : ℕ) → Falls S D A W G r args d → slice_get (body_at G r) place ≡ Some (Call q)
      → Falls S D A W G q (argument_states A G q args (body_at G r) place) (get_or (downs A W G args (d ∷ []) (body_at G r)) place W.start)

-- the steps read the bodies of different pairs that a run upward meets, each once, with at most two steps a node
pub record ReadsOnce {S : Type 0} (A : Algebra S) (G : List Rule) (pairs : List (RuleStates S)) (steps : ℕ) : Type 0 where
  pub met : All (λ p. Uses S A G p.0 p.1) pairs
  pub distinct : AllPairs (λ p q. p ≢ q) pairs
  pub bound : steps ≤ 2 * sum_by (λ p. length (body_at G p.0)) pairs

-- the same of the triples that a run downward meets
pub record FallsOnce {S D : Type 0} (A : Algebra S) (W : Downward S D) (G : List Rule) (triples : List (RuleStates S × D)) (steps : ℕ) : Type 0 where
  pub met : All (λ t. Falls S D A W G t.0.0 t.0.1 t.1) triples
  pub distinct : AllPairs (λ t u. t ≢ u) triples
  pub bound : steps ≤ 2 * sum_by (λ t. length (body_at G t.0.0)) triples
