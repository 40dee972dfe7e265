-- Why a reading is not done to its end.
use Rattle.std.specs.Prelude.{◌≤◌, ◌^◌, ℕ, List, length, Option, IfSome}
use Rattle.tree_outside.specs.Files.{Told}
use Rattle.tree_outside.specs.Outside.{Rose}
use Rattle.xml_profile.specs.Reading.{IsBad}
use Rattle.store_core.specs.Feeding.{HasLeft}
use Rattle.store_core.specs.declared.answer.Refusal.{Refusal}
use Rattle.store_core.specs.declared.answer.Refusal.TheVariants as no

-- why an open file is not read to its end: a read failed, it has 2^30 bytes or more, or there is no memory
abbrev pub StopsReading : Refusal → Option Told → ℕ → ℕ → Type 0
StopsReading no.ReadFault told before now = Rose before now
StopsReading no.LongFile told before now = IfSome told (λ t. 2 ^ 30 ≤ length t.left)
StopsReading no.Memory told before now = Unit {0}
StopsReading _ told before now = ⊥

-- why no document is read of it: the same, or its bytes spell none
abbrev pub StopsDocument : Refusal → Option Told → ℕ → ℕ → Type 0
StopsDocument (no.BadXml at) told before now = (bytes : List ℕ) × HasLeft told bytes × IsBad bytes at
StopsDocument refusal told before now = StopsReading refusal told before now
