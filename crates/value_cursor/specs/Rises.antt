-- How many more nodes are open than at the beginning while labels are passed.
use Rattle.std.specs.Prelude.{◌≡◌, ℕ, ◌+◌, ◌-◌, ◌<◌, ◌≤◌, List, [], get_or, max, set, sum_by, take}
use Rattle.rule_arena.specs.declared.label.Label.{Label}
use Rattle.rule_arena.specs.declared.label.Label.TheVariants.{Bottom, Param}
use Rattle.slt_grammar.specs.Segments.{preorder, segment}
use Rattle.slt_grammar.specs.declared.rules.Rule.{Rule}
use Rattle.segment_counts.specs.Weights.{node_weight}
use Rattle.value_cursor.specs.declared.rises.Passed.{Passed}
use Rattle.value_cursor.specs.declared.rises.Rising.{Rising}

-- a bottom closes a node
abbrev pub close_weight : Label → ℕ
close_weight Bottom = 1
close_weight l = 0

-- how many nodes a list of labels opens, and how many it closes
abbrev pub opens : List Label → ℕ
opens = sum_by node_weight

abbrev pub closes : List Label → ℕ
closes = sum_by close_weight

-- at each place at most so many more are open than at the beginning
abbrev pub RisesAtMost : ℕ → List Label → Type 0
RisesAtMost most ls = (n : ℕ) → opens (take n ls) ≤ closes (take n ls) + most

-- and that is the least such number
pub record IsRise (most : ℕ) (ls : List Label) : Type 0 where
  pub bound : RisesAtMost most ls
  pub least : (m : ℕ) → RisesAtMost m ls → most ≤ m

-- what is known of labels that a walk passes
pub record IsOf (p : Passed) (ls : List Label) : Type 0 where
  pub opened : p.opened ≡ opens ls
  pub closed : p.closed ≡ closes ls
  pub rise : IsRise p.rise ls

-- the number that is kept of a rule's segment
abbrev pub risen : List (List ℕ) → ℕ → ℕ → ℕ
risen rows q i = get_or (get_or rows q []) i 0

-- the rows of the rules before k
abbrev pub AreRises : ℕ → List Rule → List (List ℕ) → Type 0
AreRises k G rows = (q i : ℕ) → q < k → IsRise (risen rows q i) (segment i (preorder G q))

-- what one stop does to the rises along a tour: a parameter ends its segment, and other labels are passed in it
abbrev pub Passes : Label → Passed → Rising → Rising → Type 0
Passes Param p s t = t ≡ record { most = s.most; at = s.at + 1; opened = 0; closed = 0 }
Passes l p s t = t ≡ record {
  most = set s.most s.at (max (get_or s.most s.at 0) (s.opened + p.rise - s.closed));
  at = s.at;
  opened = s.opened + p.opened;
  closed = s.closed + p.closed;
}
