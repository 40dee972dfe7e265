-- How long a name at the front of bytes is.
use Rattle.std.specs.Prelude.{◌≡◌, ℕ, ◌<◌, ◌≤◌, false, List, length, take}
use Rattle.plain_tree.specs.XmlNames.{is_name}
use Rattle.plain_tree.specs.Lawful.{IsName}

-- so many bytes are the longest Name at the front, or none where no Name begins there
pub record IsNameLength (bytes : List ℕ) (n : ℕ) : Type 0 where
  pub within : n ≤ length bytes
  pub named : 0 < n → IsName (take n bytes)
  pub longest : (k : ℕ) → n < k → k ≤ length bytes → is_name (take k bytes) ≡ false
