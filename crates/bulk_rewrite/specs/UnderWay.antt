-- The rules of a rewriting while they are made.
use Rattle.std.specs.Prelude.{◌≡◌, ◌≢◌, ◌⊎◌, ◌<◌, ◌+◌, ℕ, List, [], ◌∷◌, ◌++◌, map, length, reverse, sum_by, All, AllPairs}
use Rattle.slt_grammar.specs.Algebras.{Algebra}
use Rattle.slt_grammar.specs.Automata.{Downward}
use Rattle.slt_grammar.specs.Grammars.{body_at}
use Rattle.slt_grammar.specs.declared.rules.Rule.{Rule}
use Rattle.rule_runs.specs.Descents.{triple_at}
use Rattle.rule_runs.specs.Notes.{AreKept, HasBody}
use Rattle.rule_runs.specs.Reached.{RuleStates, Falls}
use Rattle.rule_runs.specs.Risen.{pair_at}
use Rattle.bulk_rewrite.specs.Rewriting.{Rewriting}
use Rattle.bulk_rewrite.specs.Making.{Made, MadeCall, making as labels_made, AreNamed, AreMade}
use Rattle.bulk_rewrite.specs.Frames.{triples, HasHanded, Standing, AreWaiting, frame_cost}
use Rattle.bulk_rewrite.specs.declared.frame.Frame.{Frame}
use Rattle.bulk_rewrite.specs.declared.making.Making.{Making}

-- a call of the triple is among these labels
abbrev pub HasCall : {S D : Type 0} → RuleStates S × D → List (Made S D) → Type 0
HasCall t [] = ⊥
HasCall t (m ∷ ms) = (m ≡ MadeCall t.0 t.1) ⊎ HasCall t ms

-- what is made of one of the triples calls this one
abbrev pub IsCalledBy : {S D : Type 0} → Algebra S → Downward S D → List Rule → Rewriting D → RuleStates S × D → List (RuleStates S × D) → Type 0
IsCalledBy A W G R t [] = ⊥
IsCalledBy A W G R t (u ∷ us) = HasCall t (labels_made A W G R u.0.1 (u.1 ∷ []) (body_at G u.0.0)) ⊎ IsCalledBy A W G R t us

-- the bodies that wait, the innermost first
abbrev pub outer : {S D : Type 0} → Making S D → List (Frame D)
outer m = reverse m.frames.items

module _ {S D : Type 0} (ks : List (RuleStates S)) (m : Making S D) where
  -- the triples that have their rules
  abbrev pub done_triples : List (RuleStates S × D)
  done_triples = triples ks m.known

  -- those, and those of the bodies that are open
  abbrev pub all_triples : List (RuleStates S × D)
  all_triples = done_triples ++ (triple_at ks m.frame.spot ∷ map (λ f. triple_at ks f.spot) (outer m))

module _ {S D : Type 0} (A : Algebra S) (W : Downward S D) (G : List Rule) (R : Rewriting D) (ks : List (RuleStates S)) (m : Making S D) where
  -- the rules that are made, and the bodies that are open
  pub record AreTables : Type 0 where
    pub kept : AreKept A G ks m.bodies
    pub outer_read : All (λ f. HasBody m.bodies f.spot.pair) (outer m)
    pub there : m.frame.spot.pair < length ks
    pub waiting : AreWaiting A W G R ks (done_triples ks m) m.frame.spot (outer m)
    pub hands : All (λ e. HasHanded A W G R ks e.0 e.1) m.known
    pub made : AreMade A W G R (done_triples ks m) m.rules
    pub met : All (λ t. Falls S D A W G t.0.0 t.0.1 t.1) (all_triples ks m)
    pub distinct : AllPairs (λ t u. t ≢ u) (all_triples ks m)
    pub called : All (λ t. IsCalledBy A W G R t (all_triples ks m)) (done_triples ks m)

  -- the innermost body is read down to a place
  pub record IsUnderWay : Type 0 where
    pub tables : AreTables
    pub read : HasBody m.bodies m.frame.spot.pair
    pub stands : Standing A W G R ks (done_triples ks m) m.frame

  -- the innermost body is whole
  pub record IsWhole : Type 0 where
    pub tables : AreTables
    pub here : HasHanded A W G R ks m.frame.spot m.frame.handed.items
    pub named : AreNamed (done_triples ks m) (labels_made A W G R (pair_at ks m.frame.spot.pair).1 (m.frame.spot.down ∷ []) (body_at G (pair_at ks m.frame.spot.pair).0)) m.frame.body

-- a bound on what is left to do in the bodies that wait
abbrev pub outer_cost : {S D : Type 0} → List Rule → List (RuleStates S) → Making S D → ℕ
outer_cost G ks m = sum_by (frame_cost G ks) (outer m)

-- and in all
abbrev pub making_cost : {S D : Type 0} → List Rule → List (RuleStates S) → Making S D → ℕ
making_cost G ks m = frame_cost G ks m.frame + outer_cost G ks m
