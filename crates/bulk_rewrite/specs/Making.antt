-- The rules that a rewriting makes of triples of a rule, states of its arguments and a down state.
use Rattle.std.specs.Prelude.{◌≡◌, ◌≢◌, ◌≤◌, ◌-◌, ℕ, List, [], ◌∷◌, ◌++◌, false, Option, Some, None, All, AllPairs, length, take, drop, get_or, slice_get}
use Rattle.rule_arena.specs.declared.label.Label.{Label}
use Rattle.rule_arena.specs.declared.label.Label.TheVariants.{Bottom, Symbol, Call, Param}
use Rattle.slt_grammar.specs.Algebras.{Algebra}
use Rattle.slt_grammar.specs.Automata.{Downward, handed}
use Rattle.slt_grammar.specs.Bodies.{real_nodes}
use Rattle.slt_grammar.specs.Grammars.{body_at, rank_at, value_at, no_rule}
use Rattle.slt_grammar.specs.declared.rules.Rule.{Rule}
use Rattle.rule_runs.specs.Reached.{RuleStates, Falls, states_of}
use Rattle.rule_runs.specs.Risen.{IsPair}
use Rattle.rule_runs.specs.Walks.{kids_of}
use Rattle.bulk_rewrite.specs.Rewriting.{Rewriting, kept_count, unless}

-- a label of a rewritten body, where a call tells its triple
pub data Made (S D : Type 0) : Type 0 where
  MadeBottom : Made S D
  MadeParam : Made S D
  MadeSymbol : ℕ → Made S D
  MadeCall : RuleStates S → D → Made S D

-- a symbol in front, if there is one
abbrev pub named : {S D : Type 0} → Option ℕ → List (Made S D) → List (Made S D)
named None ms = ms
named (Some f) ms = MadeSymbol f ∷ ms

module _ {S D : Type 0} (A : Algebra S) (W : Downward S D) (G : List Rule) (R : Rewriting D) where
  -- what is made of labels, from the states of the parameters among them and the down states of the terms that they are
  abbrev pub making : List S → List D → List Label → List (Made S D)
  making args ds [] = []
  making args ds (Param ∷ ls) = unless (R.lost (get_or ds 0 W.start)) MadeParam (making (drop 1 args) (drop 1 ds) ls)
  making args ds (Bottom ∷ ls) = unless (R.lost (get_or ds 0 W.start)) MadeBottom (making args (drop 1 ds) ls)
  making args ds (Symbol f ∷ ls) =
      let d = get_or ds 0 W.start in
      let kids = states_of A G args ls in
      let s = W.step f d (get_or kids 0 A.bottom) (get_or kids 1 A.bottom) in
      named (R.becomes f d s.hit) (making args (s.left ∷ s.right ∷ drop 1 ds) ls)
  making args ds (Call q ∷ ls) =
      let d = get_or ds 0 W.start in
      let kids = kids_of A W G q args ls in
      unless (R.lost d) (MadeCall (q, kids) d) (making args (handed A W (value_at G q) kids d ++ drop 1 ds) ls)

-- the label is this one, where a call has the place of its triple
abbrev pub IsNamed : {S D : Type 0} → List (RuleStates S × D) → Made S D → Label → Type 0
IsNamed ts MadeBottom l = l ≡ Bottom
IsNamed ts MadeParam l = l ≡ Param
IsNamed ts (MadeSymbol f) l = l ≡ Symbol f
IsNamed ts (MadeCall k d) l = (i : ℕ) × (l ≡ Call i) × (slice_get ts i ≡ Some (k, d))

abbrev pub AreNamed : {S D : Type 0} → List (RuleStates S × D) → List (Made S D) → List Label → Type 0
AreNamed ts [] [] = Unit {0}
AreNamed ts [] (l ∷ ls) = ⊥
AreNamed ts (m ∷ ms) [] = ⊥
AreNamed ts (m ∷ ms) (l ∷ ls) = IsNamed ts m l × AreNamed ts ms ls

module _ {S D : Type 0} (A : Algebra S) (W : Downward S D) (G : List Rule) (R : Rewriting D) where
  -- a rule that is made of a triple, where its calls are of these triples
  pub record IsMade (ts : List (RuleStates S × D)) (k : RuleStates S) (d : D) (made : Rule) : Type 0 where
    pub pair : IsPair G k
    pub here : R.lost d ≡ false
    pub body : AreNamed ts (making A W G R k.1 (d ∷ []) (body_at G k.0)) made.body
    pub rank : made.rank ≡ kept_count R (handed A W (value_at G k.0) k.1 d)

  -- a rule is made of each triple, with calls of rules before it
  pub record AreMade (ts : List (RuleStates S × D)) (H : List Rule) : Type 0 where
    pub many : length H ≡ length ts
    pub each : (i : ℕ) (k : RuleStates S) (d : D) → slice_get ts i ≡ Some (k, d) → IsMade (take i ts) k d (get_or H i no_rule)

  -- the rules are made of different triples that a run downward meets, the last one of the start's
  pub record AreMadeOnce (H : List Rule) : Type 0 where
    pub triples : List (RuleStates S × D)
    pub made : AreMade triples H
    pub met : All (λ t. Falls S D A W G t.0.0 t.0.1 t.1) triples
    pub distinct : AllPairs (λ t u. t ≢ u) triples
    pub start : (before : List (RuleStates S × D)) × (triples ≡ before ++ ((length G - 1, []), W.start) ∷ [])

module _ {S D : Type 0} (A : Algebra S) (W : Downward S D) (G : List Rule) where
  -- there is a rule for each of different triples that a run downward meets, none of more nodes or parameters than the rule that it comes from
  pub record AreFew (H : List Rule) : Type 0 where
    pub triples : List (RuleStates S × D)
    pub many : length H ≡ length triples
    pub met : All (λ t. Falls S D A W G t.0.0 t.0.1 t.1) triples
    pub distinct : AllPairs (λ t u. t ≢ u) triples
    pub small : (i : ℕ) (k : RuleStates S) (d : D) → slice_get triples i ≡ Some (k, d) → real_nodes (body_at H i) ≤ real_nodes (body_at G k.0)
    pub ranks : (i : ℕ) (k : RuleStates S) (d : D) → slice_get triples i ≡ Some (k, d) → rank_at H i ≤ rank_at G k.0
