use Rattle.std.proofs.Common.{◌≡◌, ◌∷◌, List, length}
use Rattle.xml_nodes.specs.Machine.{Event}
use Rattle.fcns_encoding.specs.Cells.{terms_of, AreUsed}
use Rattle.fcns_encoding.specs.Folding.{Builds, Taking, waiting, begun_in}
use Rattle.fcns_encoding.specs.Interning.{Pair}
use Rattle.fcns_encoding.proofs.kids.take_kids.Given as goal

abbrev pub invariant-loop-part : goal.invariant-loop-part
invariant-loop-part l = record {
  taking : (names : List Pair) (log : List Event) → Builds names (terms_of l.fn.subterms) l.fn.stack.items log → Taking names (terms_of l.subterms) l.stack.items log l.code;
  used : AreUsed l.fn.subterms (waiting l.fn.stack.items) → AreUsed l.subterms (l.code ∷ waiting l.stack.items);
  depth : begun_in l.stack.items ≡ begun_in l.fn.stack.items;
}

abbrev pub decreases-loop-part : goal.decreases-loop-part
decreases-loop-part l = length l.stack.items
