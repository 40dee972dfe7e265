-- What runs read together.
use Rattle.std.proofs.Common.{◌≡◌, ℕ, suc, ◌+◌, ◌*◌, ◌<◌, ◌≤◌, ◌⊎◌, inl, inr, List, [], ◌∷◌, length, take, sum_by, Some, slice_get, refl, arith}
use Rattle.std.proofs.lemmas.Bool.{cases_lt}
use Rattle.std.proofs.lemmas.List.Elements.{All-nil}
use Rattle.std.proofs.lemmas.List.Sums.{sum_by-cons}
use Rattle.std.proofs.Math.Nat.{mul-le-mul_left}
use Rattle.slt_grammar.specs.Algebras.{Algebra}
use Rattle.slt_grammar.specs.Automata.{Downward}
use Rattle.slt_grammar.specs.Grammars.{body_at, whole}
use Rattle.slt_grammar.specs.declared.rules.Rule.{Rule}
use Rattle.rule_runs.specs.Reached.{RuleStates, Uses, ReadsOnce, FallsOnce}
use Rattle.rule_runs.specs.Risen.{IsRun, keys}
use Rattle.rule_runs.proofs.Triples.{falls-none}
use Rattle.bulk_rewrite.specs.Making.{AreMadeOnce}
use Rattle.bulk_rewrite.specs.Reads.{ReadsInRuns, ReadsInRunsAndFall}
use Rattle.bulk_rewrite.specs.Rewriting.{Rewriting}
use Rattle.bulk_rewrite.proofs.Bodies.{made-few}

times-sum : (m n e : ℕ) → (m + n) * e ≡ m * e + n * e
times-sum m n e = grind arith

-- how many nodes the bodies of the pairs of a table have
abbrev pub nodes_met : {S : Type 0} → List Rule → List (RuleStates S × S) → ℕ
nodes_met G known = sum_by (λ k. length (body_at G k.0)) (keys known)

module _ {S : Type 0} (A : Algebra S) (G : List Rule) where
  -- nothing is read
  pub runs-none : (runs steps : ℕ) → steps ≤ 0 → ReadsInRuns A G runs steps
  runs-none runs steps le =
      let none : ReadsOnce A G [] 0 = record { met = All-nil (λ (p : RuleStates S). Uses S A G p.0 p.1); distinct = λ i j d l m. absurd (omega arith); bound = omega arith } in
      record { pairs = []; each = 0; reads = none; bound = omega (arith, le) }

  -- there is one run
  pub runs-one : (pairs : List (RuleStates S)) (steps : ℕ) → ReadsOnce A G pairs steps → ReadsInRuns A G 1 steps
  runs-one pairs steps reads = record { pairs = pairs; each = steps; reads = reads; bound = omega arith }

  -- there are runs over what one upward found
  pub runs-known : (known : List (RuleStates S × S)) (runs steps : ℕ) → IsRun A G known → steps ≤ runs * (2 * nodes_met G known) → ReadsInRuns A G runs steps
  runs-known known runs steps run le = record { pairs = keys known; each = 2 * nodes_met G known; reads = record { met = run.met; distinct = run.distinct; bound = omega arith }; bound = le }

  -- there are more of them
  pub runs-both : (m n s t u : ℕ) → ReadsInRuns A G m s → ReadsInRuns A G n t → u ≤ s + t → ReadsInRuns A G (m + n) u
  runs-both m n s t u a b le = by (cases_lt a.each b.each)
    where
      by : (a.each < b.each) ⊎ (b.each ≤ a.each) → ReadsInRuns A G (m + n) u
      by (inl l) =
          let more : m * a.each ≤ m * b.each = mul-le-mul_left m (omega arith) in
          record { pairs = b.pairs; each = b.each; reads = b.reads; bound = omega (arith, le, a.bound, b.bound, more, times-sum m n b.each) }
      by (inr l) =
          let more : n * b.each ≤ n * a.each = mul-le-mul_left n l in
          record { pairs = a.pairs; each = a.each; reads = a.reads; bound = omega (arith, le, a.bound, b.bound, more, times-sum m n a.each) }

  -- a run upward, and others over what it found
  pub runs-risen : (pairs : List (RuleStates S)) (known : List (RuleStates S × S)) (runs s t u : ℕ) → ReadsOnce A G pairs s → IsRun A G known → t ≤ runs * (2 * nodes_met G known) → u ≤ s + t → ReadsInRuns A G (1 + runs) u
  runs-risen pairs known runs s t u reads run le all = runs-both 1 runs s t u (runs-one pairs s reads) (runs-known known runs t run le) all

  -- a run upward alone
  pub runs-more : (runs : ℕ) (pairs : List (RuleStates S)) (steps : ℕ) → ReadsOnce A G pairs steps → ReadsInRuns A G (1 + runs) steps
  runs-more runs pairs steps reads = runs-both 1 runs steps 0 steps (runs-one pairs steps reads) (runs-none runs 0 (omega arith)) (omega arith)

  -- where one run takes few steps, so do all
  pub runs-few : (runs steps most : ℕ) → ReadsInRuns A G runs steps → ((pairs : List (RuleStates S)) (n : ℕ) → ReadsOnce A G pairs n → n ≤ most) → steps ≤ runs * most
  runs-few runs steps most r few =
      let all : runs * r.each ≤ runs * most = mul-le-mul_left runs (few r.pairs r.each r.reads) in
      omega (arith, all, r.bound)

module _ {S D : Type 0} (A : Algebra S) (W : Downward S D) (G : List Rule) where
  -- there is no run over triples
  pub falls-not : (runs steps : ℕ) → ReadsInRuns A G runs steps → ReadsInRunsAndFall A W G runs steps
  falls-not runs steps r = record { run_steps = steps; fall_steps = 0; triples = []; rises = r; falls = falls-none A W G 0 (omega arith); bound = omega arith }

  -- there is one
  pub falls-one : (triples : List (RuleStates S × D)) (runs s t u : ℕ) → ReadsInRuns A G runs s → FallsOnce A W G triples t → u ≤ s + t → ReadsInRunsAndFall A W G runs u
  falls-one triples runs s t u r f le = record { run_steps = s; fall_steps = t; triples = triples; rises = r; falls = f; bound = le }

  -- there are more runs beside it
  pub falls-both : (m n s t u : ℕ) → ReadsInRuns A G m s → ReadsInRunsAndFall A W G n t → u ≤ s + t → ReadsInRunsAndFall A W G (m + n) u
  falls-both m n s t u a b le = record {
    run_steps = s + b.run_steps;
    fall_steps = b.fall_steps;
    triples = b.triples;
    rises = runs-both A G m n s b.run_steps (s + b.run_steps) a b.rises (omega arith);
    falls = b.falls;
    bound = omega (arith, le, b.bound);
  }

  -- where one run of each kind takes few steps, so do all
  pub runs-and-fall-few : (runs steps most other : ℕ) → ReadsInRunsAndFall A W G runs steps → ((pairs : List (RuleStates S)) (n : ℕ) → ReadsOnce A G pairs n → n ≤ most)
      → ((triples : List (RuleStates S × D)) (n : ℕ) → FallsOnce A W G triples n → n ≤ other) → steps ≤ runs * most + other
  runs-and-fall-few runs steps most other r few fewer =
      let all = runs-few A G runs r.run_steps most r.rises few in
      let one = fewer r.triples r.fall_steps r.falls in
      omega (arith, all, one, r.bound)

  -- rules have no more nodes than the bodies of the triples that they are made of
  whole-below : (H : List Rule) (ts : List (RuleStates S × D)) → length H ≡ length ts → ((i : ℕ) (t : RuleStates S × D) → slice_get ts i ≡ Some t → length (body_at H i) ≤ length (body_at G t.0.0)) → whole H ≤ sum_by (λ t. length (body_at G t.0.0)) ts
  whole-below [] [] e h = omega arith
  whole-below [] (t ∷ ts) e h = absurd (omega arith)
  whole-below (R ∷ H) [] e h = absurd (omega arith)
  whole-below (R ∷ H) (t ∷ ts) e h =
      omega (arith, h 0 t refl, whole-below H ts (omega arith) (λ i u at. h (suc i) u at), sum_by-cons (λ (Q : Rule). length Q.body) R H, sum_by-cons (λ (u : RuleStates S × D). length (body_at G u.0.0)) t ts)

  -- so a run that reads each of the rules that are made once reads as few nodes
  pub falls-made : (R : Rewriting D) (H : List Rule) (once : AreMadeOnce A W G R H) (steps : ℕ) → steps ≤ 2 * whole H → FallsOnce A W G once.triples steps
  falls-made R H once steps le =
      let below : (i : ℕ) (t : RuleStates S × D) → slice_get once.triples i ≡ Some t → length (body_at H i) ≤ length (body_at G t.0.0) =
      λ i t at. (made-few A W G R (take i once.triples) (body_at G t.0.0) t.0.1 (t.1 ∷ []) (body_at H i) (once.made.each i t.0 t.1 at).body).0 in
      let all = whole-below H once.triples once.made.many below in
      record { met = once.met; distinct = once.distinct; bound = omega arith }
