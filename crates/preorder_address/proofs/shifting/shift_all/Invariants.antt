use Rattle.std.proofs.Common.{◌≡◌, ◌≤◌, ◌-◌, All, drop, length, take}
use Rattle.std.specs.Option.{option_to_list}
use Rattle.preorder_address.specs.Shifted.{IsLeft}
use Rattle.preorder_address.proofs.shifting.shift_all.Given as goal

abbrev pub invariant-loop-next : goal.invariant-loop-next
invariant-loop-next l = record {
  few : l.kept ≤ l.next;
  within : l.next ≤ length l.marks;
  rest : drop l.next l.marks ≡ drop l.next l.fn.marks;
  left : All (IsLeft l.shift (option_to_list l.gone) l.fn.marks) (take l.kept l.marks);
}

abbrev pub decreases-loop-next : goal.decreases-loop-next
decreases-loop-next l = length l.marks - l.next
