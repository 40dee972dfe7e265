use Rattle.std.proofs.Common.{◌≡◌, ◌≤◌, ◌+◌, ◌-◌, ◌*◌, ◌++◌, length, take}
use Rattle.slt_grammar.specs.Keyed.{key_at, nodes_at, labels_of}
use Rattle.rule_runs.proofs.body.append_body.Given as goal

abbrev pub invariant-nodes : goal.invariant-nodes
invariant-nodes g l =
    let n = length l.labels.items - length l.initial.labels.items in
    record {
      here : key_at l.grammar.rules l.rule n ≡ l.next;
      read : l.labels.items ≡ l.initial.labels.items ++ take n (labels_of (nodes_at l.grammar.rules l.rule));
      few : n ≤ length (nodes_at l.grammar.rules l.rule);
      more : length l.initial.labels.items ≤ length l.labels.items;
      steps : l.steps ≡ l.initial.steps + 2 * n;
    }

abbrev pub decreases-nodes : goal.decreases-nodes
decreases-nodes g l = length (nodes_at l.grammar.rules l.rule) - (length l.labels.items - length l.initial.labels.items)
