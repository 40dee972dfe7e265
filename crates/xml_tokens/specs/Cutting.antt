-- Lists of bytes, cut.
use Rattle.std.specs.Prelude.{◌≡◌, ℕ, ◌==◌, Bool, true, false, not, ◌||◌, ◌&&◌, List, [], ◌∷◌, ◌++◌, Option, Some, None, option_map, if◌then◌else◌}
use Rattle.std.specs.Str.{bytes_eq}

-- the list up to where the test first fails
abbrev pub front : (ℕ → Bool) → List ℕ → List ℕ
front p [] = []
front p (c ∷ cs) = if p c then c ∷ front p cs else []

-- and from there on
abbrev pub back : (ℕ → Bool) → List ℕ → List ℕ
back p [] = []
back p (c ∷ cs) = if p c then back p cs else c ∷ cs

-- d is another byte than c
abbrev pub is_other : ℕ → ℕ → Bool
is_other c d = not (d == c)

-- what stands behind the word at the front
abbrev pub behind : List ℕ → List ℕ → Option (List ℕ)
behind [] bytes = Some bytes
behind (w ∷ ws) [] = None
behind (w ∷ ws) (c ∷ cs) = if c == w then behind ws cs else None

-- what stands before the word at the end
abbrev pub before : List ℕ → List ℕ → Option (List ℕ)
before word [] = if bytes_eq [] word then Some [] else None
before word (c ∷ cs) = if bytes_eq (c ∷ cs) word then Some [] else option_map (λ front. c ∷ front) (before word cs)

-- R holds of a text at the front of the bytes, and after follows
pub record Begins (R : List ℕ → Type 0) (bytes after : List ℕ) : Type 0 where
  pub text : List ℕ
  pub spelled : R text
  pub whole : bytes ≡ text ++ after
