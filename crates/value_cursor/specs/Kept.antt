-- Segments of rules that are kept as tokens.
use Rattle.std.specs.Prelude.{◌≡◌, ℕ, ◌-◌, ◌≤◌, List, [], ◌∷◌, ◌++◌, Option, Some, None, All, drop, length, map, take, vec_capacity}
use Rattle.rule_arena.specs.declared.label.Label.{Label}
use Rattle.rule_arena.specs.declared.label.Label.TheVariants.{Bottom, Symbol}
use Rattle.slt_grammar.specs.Keyed.{KeyedRule, rules_of}
use Rattle.slt_grammar.specs.Segments.{preorder, segment}
use Rattle.value_cursor.specs.declared.cursor.Token.{Token}
use Rattle.value_cursor.specs.declared.cursor.Token.TheVariants.{Open, Close}
use Rattle.value_cursor.specs.declared.kept.Entry.{Entry}
use Rattle.value_cursor.specs.declared.kept.Entry.TheVariants.{Free, Long, Kept}
use Rattle.value_cursor.specs.declared.kept.KeptSegments.{KeptSegments}

-- the label that a token tells
abbrev pub label_of : Token → Label
label_of (Open f) = Symbol f
label_of Close = Bottom

abbrev pub labels_of : List Token → List Label
labels_of = map label_of

-- the tokens from one place up to another
abbrev pub between : ℕ → ℕ → List Token → List Token
between start end ts = take (end - start) (drop start ts)

-- what is told again
abbrev pub again_of : KeptSegments → List Token
again_of k = between k.at k.end k.tokens.items

-- where the entry is a segment's, the tokens at its places are those of the segment
abbrev pub IsKept : List KeyedRule → List Token → Entry → Type 0
IsKept G ts Free = Unit {0}
IsKept G ts Long = Unit {0}
IsKept G ts (Kept rule part start end) = (end ≤ length ts) × (labels_of (between start end ts) ≡ segment part (preorder (rules_of G) rule))

-- the segments are those of these rules, and there is room for more
pub record AreKept (G : List KeyedRule) (k : KeptSegments) : Type 0 where
  pub entries : All (IsKept G k.tokens.items) k.entries.items
  pub places : length k.entries.items ≡ 1024
  pub none_open : k.spare.items ≡ []
  pub spare_room : length G ≤ vec_capacity k.spare
  pub room : 16384 ≤ vec_capacity k.tokens
  pub within : k.end ≤ length k.tokens.items

-- the first token tells the first label, and None exactly where none was left
abbrev pub GivenLeft : Option Token → List Label → List Label → Type 0
GivenLeft None old new = (old ≡ []) × (new ≡ [])
GivenLeft (Some t) old new = old ≡ label_of t ∷ new

-- some tokens were added, which tell these labels up to those that are left
pub record Told (all left : List Label) (old new : List Token) : Type 0 where
  pub more : List Token
  pub added : new ≡ old ++ more
  pub all_told : all ≡ labels_of more ++ left
