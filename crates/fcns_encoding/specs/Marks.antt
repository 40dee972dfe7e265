-- Which numbers of a table of subterms get a rule: those that are used often, and large ones that are used less often.
use Rattle.std.specs.Prelude.{◌≡◌, ℕ, ◌+◌, ◌-◌, ◌^◌, ◌<◌, ◌≤◌, min, nat_le, eqb, Bool, true, false, ◌||◌, ◌&&◌, List, [], ◌∷◌, Some, length, map, slice_get, if◌then◌else◌}
use Rattle.fcns_encoding.specs.Cells.{numbered}
use Rattle.fcns_encoding.specs.declared.sharing.Sharing.{Sharing}
use Rattle.fcns_encoding.specs.declared.subterms.Cell.{Cell}

-- the numbers that cells use
abbrev pub used_by : List Cell → List ℕ
used_by [] = []
used_by (c ∷ cs) = c.first ∷ c.second ∷ used_by cs

-- one where the test holds
abbrev pub one_if : Bool → ℕ
one_if true = 1
one_if false = 0

-- how often a number stands in a list
abbrev pub times : ℕ → List ℕ → ℕ
times number [] = 0
times number (k ∷ ks) = one_if (eqb k number) + times number ks

-- what a count of 32 bits says: the greatest number there is, where the count is greater
abbrev pub capped : ℕ → ℕ
capped n = min n (2 ^ 32 - 1)

-- each number has how often it stands in the list
abbrev pub AreCounted : List ℕ → List ℕ → Type 0
AreCounted numbers uses = (k : ℕ) → k < length uses → slice_get uses k ≡ Some (capped (times k numbers))

-- so many uses of a body of so many labels make a rule
abbrev pub is_shared : Sharing → ℕ → ℕ → Bool
is_shared sharing uses labels = nat_le sharing.uses uses || (nat_le sharing.large_uses uses && nat_le sharing.large labels)

-- two uses make a rule, however small it is
abbrev pub SharesTwice : Sharing → Type 0
SharesTwice sharing = (uses labels : ℕ) → 2 ≤ uses → is_shared sharing uses labels ≡ true

-- Whether a number gets a rule, and how many labels stand for it where it is used.
pub record Mark : Type 0 where
  pub ruled : Bool
  pub labels : ℕ

-- bottom is one label
abbrev pub bottom_mark : Mark
bottom_mark = record { ruled = false; labels = 1 }

-- where there is a rule, one label stands for the number: a call
abbrev pub mark_with : Bool → ℕ → Mark
mark_with ruled labels = record { ruled = ruled; labels = if ruled then 1 else labels }

-- how many labels the body of a cell has, by what stands for its numbers
abbrev pub labels_over : Mark → Mark → ℕ
labels_over first second = first.labels + second.labels + 1

-- the mark of a cell's number, by those of the numbers that it uses
abbrev pub mark_of : Sharing → List ℕ → ℕ → Cell → Mark → Mark → Mark
mark_of sharing used number c first second = mark_with (is_shared sharing (times number used) (labels_over first second)) (labels_over first second)

-- how many labels are written for each number, as 32 bits count them
abbrev pub capped_labels : List Mark → List ℕ
capped_labels marks = map (λ (m : Mark). capped m.labels) marks

-- the marks of all numbers
abbrev pub all_marks : Sharing → List ℕ → List Cell → List Mark
all_marks sharing used cells = numbered bottom_mark (mark_of sharing used) cells

-- which numbers of a table get a rule
abbrev pub marks_of : Sharing → List Cell → List Bool
marks_of sharing cells = map (λ (m : Mark). m.ruled) (all_marks sharing (used_by cells) cells)
