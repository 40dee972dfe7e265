-- What the calls of a shelf do to what it tells.
use Rattle.std.specs.Prelude.{◌≡◌, ℕ, List, [], ◌++◌, take, Bool, is_some, unwrap_or, Option, Some, None, Result, IfSome, OnErr, MatchResult}
use Rattle.std.specs.FinMap.{get, insert}
use Rattle.std.specs.Option.{option_map, option_map_or, option_and_then}
use Rattle.tree_outside.specs.Files.{Files, Told}
use Rattle.tree_outside.specs.Outside.{Stays}

-- where it tells what was there before, it tells this now
abbrev pub Becomes : Option Told → Option Told → (Told → Told) → Type 0
Becomes old new f = IfSome old (λ t. new ≡ Some (f t))

abbrev pub nothing_open : Told → Told
nothing_open t = record t { left = [] }

abbrev pub file_opened : List ℕ → Told → Told
file_opened name t = record t { left = unwrap_or (get t.files name) [] }

abbrev pub nothing_pending : Told → Told
nothing_pending t = record t { pending = None }

abbrev pub created : List ℕ → Told → Told
created name t = record t { name = name; pending = Some [] }

abbrev pub appended : List ℕ → Told → Told
appended bytes t = record t { pending = option_map (λ xs. xs ++ bytes) t.pending }

-- the pending bytes stand under the pending name
abbrev pub sealed : Told → Told
sealed t = record t { files = option_map_or (λ xs. insert t.files t.name xs) t.pending t.files; pending = None }

abbrev pub Opens : {E : Type 0} → Option Told → Option Told → Result Bool E → List ℕ → Type 0
Opens old new result name = MatchResult result
    (λ found. Becomes old new (file_opened name) × IfSome old (λ t. found ≡ is_some (get t.files name)))
    (λ _. Becomes old new nothing_open)

-- these bytes were taken from the front of the open file
abbrev pub TakesFile : Option Told → Option Told → List ℕ → Type 0
TakesFile old new bytes = IfSome old (λ t. (rest : List ℕ) × (t.left ≡ bytes ++ rest) × (new ≡ Some (record t { left = rest })))

-- a read takes from the open file
abbrev pub ReadsFile : {E : Type 0} → Option Told → Option Told → Result ℕ E → List ℕ → Type 0
ReadsFile old new result buf = MatchResult result
    (λ n. TakesFile old new (take n buf) × (n ≡ 0 → IfSome old (λ t. t.left ≡ [])))
    (λ _. Becomes old new (λ t. t))

abbrev pub Changes : {E : Type 0} → Option Told → Option Told → Result (Unit {0}) E → (Told → Told) → Type 0
Changes old new result f = MatchResult result (λ _. Becomes old new f) (λ _. Becomes old new nothing_pending)

-- what an `append` never changes of what a shelf tells
pub record Beside : Type 0 where
  pub files : Files
  pub left : List ℕ
  pub name : List ℕ

abbrev pub beside : Told → Beside
beside t = record { files = t.files; left = t.left; name = t.name }

-- what no write changes of a sink: which shelf it writes to, if one, and what is beside the pending bytes there
pub record Kept : Type 0 where
  pub lender : Option ℕ
  pub beside : Option Beside

pub record Keeps (old new : Kept) : Type 0 where
  pub lender : new.lender ≡ old.lender
  pub beside : Stays old.beside new.beside

-- a failed write to a shelf that told the pending bytes leaves none pending
abbrev pub Loses : {T E : Type 0} → Kept → Option (List ℕ) → Option (List ℕ) → Result T E → Type 0
Loses kept old new result = OnErr result (IfSome kept.lender (λ _. IfSome old (λ _. new ≡ None)))

-- a sink that writes to no shelf
abbrev pub alone : Kept
alone = record { lender = None; beside = None }

-- the bytes of the pending file
abbrev pub pending_bytes : Option Told → Option (List ℕ)
pending_bytes told = option_and_then (λ t. t.pending) told

abbrev pub beside_of : Option Told → Option Beside
beside_of told = option_map beside told
