-- Rules made of a table of subterms: one for each number that is marked, and one for the last.
use Rattle.std.specs.Prelude.{◌≡◌, ℕ, zero, suc, ◌+◌, ◌<◌, ◌≤◌, eqb, Bool, true, false, ◌||◌, List, [], ◌∷◌, ◌++◌, Option, Some, None, slice_get, get_or, length, if◌then◌else◌}
use Rattle.rule_arena.specs.declared.label.Label.{Label}
use Rattle.rule_arena.specs.declared.label.Label.TheVariants.{Bottom, Symbol, Call}
use Rattle.slt_grammar.specs.declared.rules.Rule.{Rule}
use Rattle.fcns_encoding.specs.Cells.{numbered}
use Rattle.fcns_encoding.specs.Marks.{one_if}
use Rattle.fcns_encoding.specs.declared.subterms.Cell.{Cell}
use Rattle.fcns_encoding.specs.declared.shared_rules.Written.{Written}
use Rattle.fcns_encoding.specs.declared.shared_rules.Written.TheVariants.{Whole, Over}

-- the number has a rule: each that is marked, and the last
abbrev pub is_ruled : List Bool → List Cell → ℕ → Bool
is_ruled marks cells zero = false
is_ruled marks cells (suc k) = eqb (suc k) (length cells) || get_or marks (suc k) false

-- the place of a number's rule: how many numbers below it have one
abbrev pub rule_place : List Bool → List Cell → ℕ → ℕ
rule_place marks cells zero = 0
rule_place marks cells (suc k) = rule_place marks cells k + one_if (is_ruled marks cells k)

-- what stands for a number where it is used: a call of its rule, if it has one, or a symbol and what stands for the numbers below
abbrev pub part_of : List Bool → List Cell → ℕ → Cell → List Label → List Label → List Label
part_of marks cells number c first second = if is_ruled marks cells number then Call (rule_place marks cells number) ∷ [] else Symbol c.symbol ∷ (first ++ second)

abbrev pub part_at : List Bool → List Cell → ℕ → List Label
part_at marks cells number = get_or (numbered (Bottom ∷ []) (part_of marks cells) cells) number (Bottom ∷ [])

-- the body of a cell's rule
abbrev pub body_of : List Bool → List Cell → Cell → List Label
body_of marks cells c = Symbol c.symbol ∷ (part_at marks cells c.first ++ part_at marks cells c.second)

abbrev pub rule_of : List Bool → List Cell → Cell → Rule
rule_of marks cells c = record { rank = 0; body = body_of marks cells c }

-- the rules of the first of all cells
abbrev pub rules_for : List Bool → List Cell → ℕ → List Cell → List Rule
rules_for marks all number [] = []
rules_for marks all number (c ∷ cs) = (if is_ruled marks all number then rule_of marks all c ∷ [] else []) ++ rules_for marks all (suc number) cs

-- the rules of a table
abbrev pub rules_of_cells : List Bool → List Cell → List Rule
rules_of_cells marks cells = rules_for marks cells 1 cells

-- The numbers up to this one have the places of their rules, if they have one, and no other has a place.
pub record ArePlaces (marks : List Bool) (cells : List Cell) (at : ℕ) (places : List (Option ℕ)) : Type 0 where
  pub ruled : (k : ℕ) → k ≤ at → is_ruled marks cells k ≡ true → slice_get places k ≡ Some (Some (rule_place marks cells k))
  pub others : (k : ℕ) → k ≤ at → is_ruled marks cells k ≡ false → slice_get places k ≡ Some None
  pub later : (k : ℕ) → at < k → k < length places → slice_get places k ≡ Some None

-- what stands for a number: a label, or a cell over numbers below it
abbrev pub Stands : List Bool → List Cell → ℕ → Written → Type 0
Stands marks cells number (Whole label) = part_at marks cells number ≡ label ∷ []
Stands marks cells number (Over c) = (part_at marks cells number ≡ body_of marks cells c) × (c.first ≤ number) × (c.second ≤ number)

-- no number is above this one
abbrev pub AreBelow : ℕ → List ℕ → Type 0
AreBelow at [] = Unit {0}
AreBelow at (k ∷ ks) = (k ≤ at) × AreBelow at ks

-- what stands for the numbers on a stack, the top first
abbrev pub pending : List Bool → List Cell → List ℕ → List Label
pending marks cells [] = []
pending marks cells (k ∷ ks) = pending marks cells ks ++ part_at marks cells k
