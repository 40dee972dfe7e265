-- Places as bits of words: where reading can go on behind each place of a model.
use Rattle.std.specs.Prelude.{ℕ, ◌+◌, ◌*◌, ◌^◌, ◌==◌, List, [], ◌∷◌, ◌++◌, bit_and, bit_or, Bool, true, false, ◌||◌, ◌&&◌, not}
use Rattle.std.specs.Int.{bit_at}
use Rattle.std.specs.Str.{bytes_eq}
use Rattle.content_models.specs.declared.ways.Front.{Front}
use Rattle.content_models.specs.declared.ways.Way.{Way}
use Rattle.content_models.specs.Matching.{places}
use Rattle.content_models.specs.Models.{Model, Named, Nothing, Then, Either, Optional, Any, Some}

-- a name in a model, and where reading can go on behind it
pub record Place : Type 0 where
  pub name : List ℕ
  pub next : Way

abbrev pub to_end : Way
to_end = record { set = 0; end = true }

-- a set, where it is wanted
abbrev pub only : Bool → ℕ → ℕ
only true n = n
only false n = 0

abbrev pub front_then : Front → Front → Front
front_then a b = record { set = bit_or a.set (only a.nullable b.set); nullable = a.nullable && b.nullable }

abbrev pub front_either : Front → Front → Front
front_either a b = record { set = bit_or a.set b.set; nullable = a.nullable || b.nullable }

abbrev pub front_optional : Front → Front
front_optional a = record { set = a.set; nullable = true }

-- where a model begins whose first place has this number
abbrev pub front_of : ℕ → Model → Front
front_of at (Named name) = record { set = 2 ^ at; nullable = false }
front_of at Nothing = record { set = 0; nullable = true }
front_of at (Then a b) = front_then (front_of at a) (front_of (at + places a) b)
front_of at (Either a b) = front_either (front_of at a) (front_of (at + places a) b)
front_of at (Optional a) = front_optional (front_of at a)
front_of at (Any a) = front_optional (front_of at a)
front_of at (Some a) = front_of at a

-- where reading can go on before what begins so, behind which it can go on that way
abbrev pub ahead : Front → Way → Way
ahead f w = record { set = bit_or f.set (only f.nullable w.set); end = f.nullable && w.end }

abbrev pub way_of : ℕ → Model → Way → Way
way_of at m w = ahead (front_of at m) w

-- the places of a model
abbrev pub places_of : ℕ → Model → Way → List Place
places_of at (Named name) behind = record { name = name; next = behind } ∷ []
places_of at Nothing behind = []
places_of at (Then a b) behind = places_of at a (way_of (at + places a) b behind) ++ places_of (at + places a) b behind
places_of at (Either a b) behind = places_of at a behind ++ places_of (at + places a) b behind
places_of at (Optional a) behind = places_of at a behind
places_of at (Any a) behind = places_of at a (way_of at (Any a) behind)
places_of at (Some a) behind = places_of at a (way_of at (Any a) behind)

-- a chain that can be read from the places of a set, and has no name or some, can be read that way
abbrev pub leads : Way → ℕ → Bool → Bool
leads w set ended = not (bit_and w.set set == 0) || (w.end && ended)

abbrev pub marks : ℕ → ℕ → Bool
marks set i = bit_at set i == 1

abbrev pub truth : Bool → ℕ
truth true = 1
truth false = 0

-- the word of truths, the first lowest
abbrev pub word : List Bool → ℕ
word [] = 0
word (b ∷ bs) = truth b + 2 * word bs

-- a place takes a name, where the chain can be read behind it
abbrev pub takes : List ℕ → ℕ → Bool → Place → Bool
takes name set ended p = bytes_eq p.name name && leads p.next set ended
