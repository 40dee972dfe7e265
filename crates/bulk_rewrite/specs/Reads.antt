-- What is read while all nodes are edited that an automaton hits.
use Rattle.std.specs.Prelude.{ℕ, ◌+◌, ◌*◌, ◌≤◌, List}
use Rattle.slt_grammar.specs.Algebras.{Algebra}
use Rattle.slt_grammar.specs.Automata.{Downward}
use Rattle.slt_grammar.specs.declared.rules.Rule.{Rule}
use Rattle.rule_runs.specs.Reached.{RuleStates, ReadsOnce, FallsOnce}

-- The steps are no more than those of so many runs, each of which reads the bodies of different pairs that a run upward meets, each once, with
-- at most two steps a node.
pub record ReadsInRuns {S : Type 0} (A : Algebra S) (G : List Rule) (runs steps : ℕ) : Type 0 where
  pub pairs : List (RuleStates S)
  pub each : ℕ
  pub reads : ReadsOnce A G pairs each
  pub bound : steps ≤ runs * each

-- The steps are no more than those of so many runs and of one more, which reads the bodies of different triples that a run downward meets,
-- each once, with at most two steps a node.
pub record ReadsInRunsAndFall {S D : Type 0} (A : Algebra S) (W : Downward S D) (G : List Rule) (runs steps : ℕ) : Type 0 where
  pub run_steps : ℕ
  pub fall_steps : ℕ
  pub triples : List (RuleStates S × D)
  pub rises : ReadsInRuns A G runs run_steps
  pub falls : FallsOnce A W G triples fall_steps
  pub bound : steps ≤ run_steps + fall_steps
