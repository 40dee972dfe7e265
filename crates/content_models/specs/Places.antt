-- What it means that the places of a model are right.
use Rattle.std.specs.Prelude.{◌≡◌, ◌↔◌, ℕ, suc, ◌+◌, List, [], ◌∷◌, Bool, true}
use Rattle.content_models.specs.Models.{Model, Named, Nothing, Then, Either, Optional, Any, Some, Joined, Matches}
use Rattle.content_models.specs.Matching.{places}

-- the names are a match of the model before names in K
abbrev pub Before : Model → (List (List ℕ) → Type 0) → List (List ℕ) → Type 0
Before m K = Joined (Matches m) K

-- marks says exactly from which places of a model the names can be read to the model's end, and behind it on in K
abbrev pub AreOpen : ℕ → Model → (ℕ → Bool) → (List (List ℕ) → Type 0) → List (List ℕ) → Type 0
AreOpen at (Named name) marks K names = (marks at ≡ true) ↔ Before (Named name) K names
AreOpen at Nothing marks K names = Unit {0}
AreOpen at (Then a b) marks K names = AreOpen at a marks (Before b K) names × AreOpen (at + places a) b marks K names
AreOpen at (Either a b) marks K names = AreOpen at a marks K names × AreOpen (at + places a) b marks K names
AreOpen at (Optional a) marks K names = AreOpen at a marks K names
AreOpen at (Any a) marks K names = AreOpen at a marks (Before (Any a) K) names
AreOpen at (Some a) marks K names = AreOpen at a marks (Before (Any a) K) names

-- the marks from this number on are these
abbrev pub Agree : ℕ → List Bool → (ℕ → Bool) → Type 0
Agree at [] marks = Unit {0}
Agree at (b ∷ bs) marks = (marks at ≡ b) × Agree (suc at) bs marks
