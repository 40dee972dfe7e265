use Rattle.std.proofs.Common.{◌≡◌, ◌≤◌, ◌+◌, ◌-◌, ◌*◌, ◌++◌, ◌∷◌, IsTrue, length, reverse, sum_by, All}
use Rattle.slt_grammar.specs.Grammars.{body_at}
use Rattle.slt_grammar.specs.Keyed.{rules_of}
use Rattle.rule_runs.specs.Reached.{ReadsOnce}
use Rattle.rule_runs.specs.Entries.{key_of}
use Rattle.rule_runs.specs.Risen.{IsPair, state_at, keys}
use Rattle.rule_runs.specs.Frames.{AreFrames, AreStacked, keys_of, cost, AreNoting, IsClosing}
use Rattle.rule_runs.specs.Notes.{AreNotesFrom}
use Rattle.rule_runs.proofs.Keeping.{Keeps}
use Rattle.rule_runs.proofs.rising.run_on.Given as goal

abbrev pub decreases-bodies : goal.decreases-bodies
decreases-bodies g l = cost (rules_of l.grammar.rules) l.frame + sum_by (cost (rules_of l.grammar.rules)) (reverse l.frames.items)

abbrev pub invariant-bodies : goal.invariant-bodies
invariant-bodies g l =
    let A = g.A.Rising.algebra l.automaton in
    let G = rules_of l.grammar.rules in
    record {
      right : All (λ e. e.1 ≡ state_at A G e.0) l.known;
      pairs : All (IsPair G) (keys l.known);
      frames : AreFrames A G l.frame (reverse l.frames.items);
      stacked : AreStacked A G l.frame (reverse l.frames.items) (reverse l.stack.items) (reverse l.labels.items);
      reads : ReadsOnce A G (keys l.known ++ (key_of l.frame.pair ∷ keys_of (reverse l.frames.items))) (2 * length (body_at G l.fn.frame.pair.rule) + (l.steps - l.fn.steps));
      closing : IsClosing A G l.known l.frame (reverse l.frames.items);
      counted : l.fn.steps ≤ l.steps;
      kept : Keeps A G l.noted (keys l.known) l.bodies;
      noted : IsTrue l.noted → AreNotesFrom A G (keys l.known) l.frame.left l.frame.pair.states.items (body_at G l.frame.pair.rule) l.notes.top;
      outer : IsTrue l.noted → AreNoting A G (keys l.known) (key_of l.frame.pair) (reverse l.frames.items) l.notes.below;
    }
