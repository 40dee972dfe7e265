-- What reading at the front of bytes comes to.
use Rattle.std.specs.Prelude.{◌≡◌, ℕ, List, ◌++◌, Result, Ok, Err}
use Rattle.grammar_file.specs.declared.error.FileError.{FileError}
use Rattle.grammar_file.specs.declared.error.FileError.TheVariants.{Bad, TooMany, Memory}

-- no value of this sort has its bytes at the front
abbrev pub BeginsNone : {A : Type 0} → (A → Type 0) → (A → List ℕ) → List ℕ → Type 0
BeginsNone {A} sort bytes_of bytes = (x : A) (more : List ℕ) → sort x → bytes ≡ bytes_of x ++ more → ⊥

-- why reading was refused: Bad says this of the bytes, Memory nothing; TooMany doesn't come
abbrev pub Fails : FileError → Type 0 → Type 0
Fails Bad this = this
Fails TooMany this = ⊥
Fails Memory this = Unit {0}

-- A value of this sort was read, as it is seen: its bytes stood at the front, and the new ones behind them. It is bad where no
-- such value's bytes stand there.
abbrev pub ReadsAs : {A B : Type 0} → (B → A) → (A → Type 0) → (A → List ℕ) → List ℕ → Result B FileError → List ℕ → Type 0
ReadsAs seen sort bytes_of old (Ok x) new = sort (seen x) × (old ≡ bytes_of (seen x) ++ new)
ReadsAs seen sort bytes_of old (Err e) new = Fails e (BeginsNone sort bytes_of old)

-- and as it is
abbrev pub Reads : {A : Type 0} → (A → Type 0) → (A → List ℕ) → List ℕ → Result A FileError → List ℕ → Type 0
Reads = ReadsAs (λ x. x)
