-- A model is compiled in two passes over its postfix code: forward for the fronts, backward for the places.
use Rattle.std.specs.Prelude.{◌≡◌, ℕ, zero, suc, ◌+◌, ◌^◌, List, [], ◌∷◌, get_or, drop, length, Bool, true, false, ◌||◌, ◌&&◌, Some, slice_get}
use Rattle.std.specs.List.{list_any}
use Rattle.std.specs.Str.{bytes_eq}
use Rattle.plain_tree.specs.declared.kind.Kind.{Kind}
use Rattle.plain_tree.specs.declared.kind.Kind.TheVariants.{Element}
use Rattle.content_models.specs.declared.ways.Spot.{Spot}
use Rattle.content_models.specs.Compiled.{any_place}
use Rattle.content_models.specs.declared.postfix.Op.{Op}
use Rattle.content_models.specs.declared.postfix.Op.TheVariants.{Push, PushNothing, Join, Choose, MakeOptional, MakeAny, MakeSome}
use Rattle.content_models.specs.declared.ways.Front.{Front}
use Rattle.content_models.specs.declared.ways.Way.{Way}
use Rattle.content_models.specs.Ways.{Place, ahead, front_either, front_optional, front_then, to_end}

abbrev pub no_front : Front
no_front = record { set = 0; nullable = false }

-- an operation with the front of its last operand
pub record Step : Type 0 where
  pub op : Op
  pub front : Front

abbrev pub top_of : List Front → Front
top_of fs = get_or fs 0 no_front

abbrev pub second_of : List Front → Front
second_of fs = get_or fs 1 no_front

-- the front of the operand that a pass backward asks for
abbrev pub operand : Op → List Front → Front
operand (Push w) fs = no_front
operand PushNothing fs = no_front
operand _ fs = top_of fs

-- what an operation makes of the fronts of its operands, the last first, where the next place has this number
abbrev pub fronts_after : ℕ → Op → List Front → List Front
fronts_after at (Push w) fs = record { set = 2 ^ at; nullable = false } ∷ fs
fronts_after at PushNothing fs = record { set = 0; nullable = true } ∷ fs
fronts_after at Join fs = front_then (second_of fs) (top_of fs) ∷ drop 2 fs
fronts_after at Choose fs = front_either (second_of fs) (top_of fs) ∷ drop 2 fs
fronts_after at MakeOptional fs = front_optional (top_of fs) ∷ drop 1 fs
fronts_after at MakeAny fs = front_optional (top_of fs) ∷ drop 1 fs
fronts_after at MakeSome fs = top_of fs ∷ drop 1 fs

abbrev pub places_after : ℕ → Op → ℕ
places_after at (Push w) = at + 1
places_after at _ = at

-- the steps of the forward pass, put on those before, the last first
abbrev pub forward : ℕ → List Front → List Op → List Step → List Step
forward at fs [] done = done
forward at fs (op ∷ ops) done = forward (places_after at op) (fronts_after at op fs) ops (record { op = op; front = operand op fs } ∷ done)

-- the fronts that are left
abbrev pub fronts_left : ℕ → List Front → List Op → List Front
fronts_left at fs [] = fs
fronts_left at fs (op ∷ ops) = fronts_left (places_after at op) (fronts_after at op fs) ops

-- the first so many steps of code, the last first
abbrev pub steps_of : List Op → List Front → ℕ → List Step
steps_of ops fronts zero = []
steps_of ops fronts (suc k) = record { op = get_or ops k PushNothing; front = get_or fronts k no_front } ∷ steps_of ops fronts k

-- the ways behind the operands of an operation, the last operand first
abbrev pub ways_before : Op → Front → Way → List Way → List Way
ways_before (Push n) f w ws = ws
ways_before PushNothing f w ws = ws
ways_before Join f w ws = w ∷ ahead f w ∷ ws
ways_before Choose f w ws = w ∷ w ∷ ws
ways_before MakeOptional f w ws = w ∷ ws
ways_before MakeAny f w ws = ahead (front_optional f) w ∷ ws
ways_before MakeSome f w ws = ahead (front_optional f) w ∷ ws

abbrev pub place_on : Op → Way → List Place → List Place
place_on (Push n) w ps = record { name = n; next = w } ∷ ps
place_on _ w ps = ps

-- the places of the backward pass, from the last step on, put before those behind
abbrev pub backward : List Way → List Step → List Place → List Place
backward ws [] ps = ps
backward [] (s ∷ steps) ps = ps
backward (w ∷ ws) (s ∷ steps) ps = backward (ways_before s.op s.front w ws) steps (place_on s.op w ps)

-- the tests that pass for a row pass with these places too, from this number on, of the model with this number
abbrev pub Adds : List (Kind × List ℕ) → ℕ → ℕ → List Place → List (List Spot) → List (List Spot) → Type 0
Adds names i at ps old new =
    (f : ℕ) (name : List ℕ) → slice_get names f ≡ Some (Element, name) → (test : Spot → Bool)
    → list_any test (get_or new f []) ≡ (list_any test (get_or old f []) || any_place name test i at ps)

-- with one spot, of this name
abbrev pub AddsOne : List (Kind × List ℕ) → List ℕ → Spot → List (List Spot) → List (List Spot) → Type 0
AddsOne names own spot old new =
    (f : ℕ) (name : List ℕ) → slice_get names f ≡ Some (Element, name) → (test : Spot → Bool)
    → list_any test (get_or new f []) ≡ (list_any test (get_or old f []) || (bytes_eq own name && test spot))

-- the places that a pass backward gives
abbrev pub all_places : List Op → List Front → List Place
all_places code fronts = backward (to_end ∷ []) (steps_of code fronts (length code)) []
