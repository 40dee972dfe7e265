use Rattle.std.proofs.Common.{◌≡◌, ◌≤◌, ◌+◌, ◌∷◌, ℕ, List, length}
use Rattle.slt_grammar.specs.declared.level.Level.{Level}
use Rattle.start_fronts.specs.Isolating.{KeepsButFirst}
use Rattle.digram_index.specs.Linked.{IsIndexOf}
use Rattle.path_isolation.specs.Chains.{IsChain, weight_of}
use Rattle.path_isolation.specs.Isolations.{Walk, room_along}
use Rattle.path_isolation.proofs.linked.isolate_linked.Given as goal

abbrev pub invariant-loop-level : goal.invariant-loop-level
invariant-loop-level g l = record {
  ready : g.W.Way.ready l.way l.grammar.rules;
  walk : (ps : List ℕ) → IsChain l.fn.grammar.rules (g.W.Way.levels l.fn.way l.fn.grammar.rules) ps
      → Walk l.fn.grammar.rules (g.W.Way.levels l.fn.way l.fn.grammar.rules) ps l.grammar.rules l.here (g.W.Way.levels l.way l.grammar.rules);
  before : (x : Level) (xs : List Level) → g.W.Way.levels l.fn.way l.fn.grammar.rules ≡ x ∷ xs → KeepsButFirst l.fn.grammar.rules l.grammar.rules x.key l.here;
  spare : l.fn.grammar.spare_nodes + weight_of length l.grammar.rules (g.W.Way.levels l.way l.grammar.rules) ≤ l.grammar.spare_nodes + room_along l.fn.grammar.rules (g.W.Way.levels l.fn.way l.fn.grammar.rules);
  index : IsIndexOf l.grammar l.index;
  links : l.fn.index.spare_links + weight_of length l.grammar.rules (g.W.Way.levels l.way l.grammar.rules) ≤ l.index.spare_links + room_along l.fn.grammar.rules (g.W.Way.levels l.fn.way l.fn.grammar.rules);
  numbers : l.index.spare_rules ≡ l.fn.index.spare_rules;
  cells : length l.fn.index.cells ≤ length l.index.cells;
  limit : l.grammar.limit ≡ l.fn.grammar.limit;
  spare_rules : l.grammar.spare_rules ≡ l.fn.grammar.spare_rules;
  steps : l.steps + g.W.Way.most l.way l.grammar.rules ≤ l.fn.steps + g.W.Way.most l.fn.way l.fn.grammar.rules;
}

abbrev pub decreases-loop-level : goal.decreases-loop-level
decreases-loop-level g l = length (g.W.Way.levels l.way l.grammar.rules)
