-- How a thread is kept in twelve bytes.
use Rattle.std.specs.Prelude.{◌≡◌, ◌<◌, ◌-◌, ◌^◌, ℕ, Option, Some, None, ltb, cond}
use Rattle.digram_index.specs.declared.thread.Place.{Place}
use Rattle.digram_index.specs.declared.thread.Place.TheVariants.{Item, Group}
use Rattle.digram_index.specs.declared.thread.Thread.{Thread}

-- the place of a number: the items' numbers, and from 2^31 on those of the groups
abbrev pub place_from : ℕ → Place
place_from n = cond (ltb n (2 ^ 31)) (Item n) (Group (n - 2 ^ 31))

-- the group of a number, and from 2^31 on none
abbrev pub group_from : ℕ → Option ℕ
group_from n = cond (ltb n (2 ^ 31)) (Some n) None

-- a place has a number
abbrev pub IsSmall : Place → Type 0
IsSmall (Item k) = k < 2 ^ 31
IsSmall (Group g) = g < 2 ^ 31

-- a thread has numbers
pub record IsPackable (t : Thread) : Type 0 where
  pub group : (g : ℕ) → t.group ≡ Some g → g < 2 ^ 31
  pub before : IsSmall t.before
  pub after : IsSmall t.after
