use Rattle.rule_runs.specs.Entries.{key_of}
use Rattle.rule_runs.specs.Risen.{AreKnown, keys}
use Rattle.rule_runs.specs.Notes.{AreNotesFrom}
use Rattle.std.proofs.Common.{◌≡◌, ◌≤◌, IsTrue, reverse}
use Rattle.slt_grammar.specs.Grammars.{body_at}
use Rattle.slt_grammar.specs.Keyed.{rules_of}
use Rattle.rule_runs.specs.Frames.{Stands, GivesWay, own, ahead}
use Rattle.rule_runs.proofs.frame.advance.Given as goal

abbrev pub decreases-nodes : goal.decreases-nodes
decreases-nodes g l = l.frame.left

abbrev pub invariant-nodes : goal.invariant-nodes
invariant-nodes g l =
    let A = g.A.Rising.algebra l.automaton in
    let G = rules_of l.grammar.rules in
    record {
      stands : Stands A G l.frame;
      states : GivesWay (own A G l.initial.frame) (own A G l.frame) (reverse l.initial.stack.items) (reverse l.stack.items);
      labels : GivesWay (ahead G l.initial.frame) (ahead G l.frame) (reverse l.initial.labels.items) (reverse l.labels.items);
      closed : AreKnown A G l.known (key_of l.frame.pair) l.frame.left;
      noted : IsTrue l.noted → AreNotesFrom A G (keys l.known) l.frame.left l.frame.pair.states.items (body_at G l.frame.pair.rule) l.notes.top;
      below : l.notes.below ≡ l.initial.notes.below;
      same : l.frame.pair ≡ l.initial.frame.pair;
      fewer : l.frame.left ≤ l.initial.frame.left;
    }
