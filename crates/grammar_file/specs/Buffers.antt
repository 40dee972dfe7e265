-- What the calls of a buffer do to its sink and to what it holds.
use Rattle.std.specs.Prelude.{◌≡◌, ℕ, ◌+◌, ◌<◌, ◌^◌, List, ◌++◌, length, Option, Result, OnOk, MatchResult}
use Rattle.tree_outside.specs.Outside.{Gets, GetsFront, HasCause}
use Rattle.tree_outside.specs.Shelf.{Kept, Keeps, Loses}

-- what is seen of a buffer: what its sink tells, which borrow of the sink it has, the bytes that it holds, and how many were put
pub record Seen : Type 0 where
  pub got : Option (List ℕ)
  pub kept : Kept
  pub faults : ℕ
  pub sink : ℕ
  pub held : List ℕ
  pub count : ℕ

-- what the sink got since, and then what is held, is what was held, and then these bytes
pub record Adds (old new : Seen) (bytes : List ℕ) : Type 0 where
  pub written : List ℕ
  pub got : Gets old.got new.got written
  pub whole : written ++ new.held ≡ old.held ++ bytes

-- these bytes were put, or the sink failed, and got a front of what was held and them
pub record Puts {E : Type 0} (old new : Seen) (result : Result (Unit {0}) E) (bytes : List ℕ) : Type 0 where
  pub content : MatchResult result (λ _. Adds old new bytes) (λ _. GetsFront old.got new.got (old.held ++ bytes))
  pub count : OnOk result (old.count + length bytes < 2 ^ 128 → new.count ≡ old.count + length bytes)
  pub kept : Keeps old.kept new.kept
  pub lost : Loses old.kept old.got new.got result
  pub cause : HasCause old.faults new.faults result
  pub same_reference : new.sink ≡ old.sink
