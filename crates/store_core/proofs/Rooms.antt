-- Room for what is written, and for the nodes that are open.
use Rattle.std.proofs.Common.{ℕ, suc, ◌+◌, ◌-◌, ◌*◌, ◌≤◌, ◌^◌, List, [], ◌∷◌, Bool, true, false, length, drop, sum_by, Some, None, slice_get, arith}
use Rattle.std.specs.Prelude.{nat_lt, if◌then◌else◌}
use Rattle.std.specs.Option.{option_map}
use Rattle.std.proofs.lemmas.List.Sums.{sum_by-cons}
use Rattle.plain_tree.specs.declared.kind.Kind.{Kind}
use Rattle.plain_tree.specs.declared.kind.Kind.TheVariants.{Document, Element, Attribute, Text, Comment, Instruction}
use Rattle.rule_arena.specs.declared.label.Label.{Label}
use Rattle.rule_arena.specs.declared.label.Label.TheVariants.{Bottom, Symbol, Call, Param}
use Rattle.segment_counts.specs.Weights.{node_weight}
use Rattle.value_cursor.specs.Tokens.{tokens}
use Rattle.value_cursor.specs.declared.cursor.Token.{Token}
use Rattle.value_cursor.specs.declared.cursor.Token.TheVariants.{Open, Close}
use Rattle.xml_nodes.specs.Pen.{Leaf}
use Rattle.store_core.specs.Saving.{Named, Place, begin_call, end_call, texts_past, call_at, place_after, element_count, depth_of, most_text}
use Rattle.store_core.specs.Walking.{HasPlace, HasRoom, open_after, opens}

opens-until : (b : Bool) (ts : List Token) (m : ℕ) → opens ts ≤ m → opens (if b then ts else []) ≤ m
opens-until true ts m h = h
opens-until false ts m h = omega arith

-- no more nodes begin than there are symbols
pub opens-few : (n : ℕ) (ls : List Label) → opens (tokens n ls) ≤ sum_by node_weight ls
opens-few n [] = omega arith
opens-few n (Bottom ∷ ls) = omega (arith, sum_by-cons node_weight Bottom ls, opens-until (nat_lt 1 n) (tokens (n - 1) ls) (sum_by node_weight ls) (opens-few (n - 1) ls))
opens-few n (Symbol f ∷ ls) = omega (arith, sum_by-cons node_weight (Symbol f) ls, opens-few (suc n) ls)
opens-few n (Call q ∷ ls) = omega (arith, sum_by-cons node_weight (Call q) ls, opens-few n ls)
opens-few n (Param ∷ ls) = omega (arith, sum_by-cons node_weight Param ls, opens-few n ls)

-- For each element that is open there is room for its end tag, for each node that is left for both tags of an element, and for each
-- text that is left for a leaf.
abbrev pub reserved : List (Kind × List ℕ) → Place → List Token → ℕ
reserved names place left = (2 ^ 63 + 8) * depth_of names place.outer + (2 ^ 64 + 16) * opens left + 2 ^ 66 * length place.texts

-- no more elements are open than nodes are
pub depth-few : (names : List (Kind × List ℕ)) (outer : List ℕ) → depth_of names outer ≤ length outer
depth-few names [] = omega arith
depth-few names (f ∷ outer) = omega (arith, depth-few names outer, one_at_most (slice_get names f)) where
  one_at_most : (named : Named) → element_count named ≤ 1
  one_at_most None = omega arith
  one_at_most (Some (Document, name)) = omega arith
  one_at_most (Some (Element, name)) = omega arith
  one_at_most (Some (Attribute, name)) = omega arith
  one_at_most (Some (Text, name)) = omega arith
  one_at_most (Some (Comment, name)) = omega arith
  one_at_most (Some (Instruction, name)) = omega arith

leaf_room : (k : Kind) (name : List ℕ) (texts : List (List ℕ)) → most_text (option_map (Leaf k name) (slice_get texts 0)) + 2 ^ 66 * length (drop 1 texts) ≤ 2 ^ 66 * length texts
leaf_room k name [] = omega arith
leaf_room k name (x ∷ xs) = omega arith

-- what a node's first call writes, and its end tag, have room
begin_room : (named : Named) (texts : List (List ℕ)) → most_text (begin_call named texts) + (2 ^ 63 + 8) * element_count named + 2 ^ 66 * length (texts_past named texts) ≤ (2 ^ 64 + 16) + 2 ^ 66 * length texts
begin_room None texts = omega arith
begin_room (Some (Document, name)) texts = omega arith
begin_room (Some (Element, name)) texts = omega arith
begin_room (Some (Attribute, name)) texts = omega (arith, leaf_room Attribute name texts)
begin_room (Some (Text, name)) texts = omega (arith, leaf_room Text name texts)
begin_room (Some (Comment, name)) texts = omega (arith, leaf_room Comment name texts)
begin_room (Some (Instruction, name)) texts = omega (arith, leaf_room Instruction name texts)

end_room : (named : Named) → most_text (end_call named) ≤ (2 ^ 63 + 8) * element_count named
end_room None = omega arith
end_room (Some (Document, name)) = omega arith
end_room (Some (Element, name)) = omega arith
end_room (Some (Attribute, name)) = omega arith
end_room (Some (Text, name)) = omega arith
end_room (Some (Comment, name)) = omega arith
end_room (Some (Instruction, name)) = omega arith

-- a token's call has room in what is reserved, beside what is reserved behind it
pub token_room : (names : List (Kind × List ℕ)) (place : Place) (t : Token) (rest : List Token)
    → most_text (call_at names place t) + reserved names (place_after names place t) rest ≤ reserved names place (t ∷ rest)
token_room names place (Open f) rest = omega (arith, begin_room (slice_get names f) place.texts)
token_room names place Close rest = at_end place.outer where
  at_end : (outer : List ℕ) → most_text (call_at names (record { outer = outer; texts = place.texts }) Close) + reserved names (record { outer = drop 1 outer; texts = place.texts }) rest ≤ reserved names (record { outer = outer; texts = place.texts }) (Close ∷ rest)
  at_end [] = omega arith
  at_end (f ∷ outer) = omega (arith, end_room (slice_get names f))

place-more : (less room n : ℕ) (t : Token) → less ≤ room → HasPlace less n t → HasPlace room n t
place-more less room n (Open f) h p = omega arith
place-more less room n Close h p = tt

-- more room is enough too
pub room-more : (less room n : ℕ) (ts : List Token) → less ≤ room → HasRoom less n ts → HasRoom room n ts
room-more less room n [] h r = tt
room-more less room n (t ∷ ts) h r = (place-more less room n t h r.0, room-more less room (open_after n t) ts h r.1)

-- a token opens one of the nodes that are left, at most
pub open-few : (n : ℕ) (t : Token) (rest : List Token) → open_after n t + opens rest ≤ n + opens (t ∷ rest)
open-few n (Open f) rest = omega arith
open-few n Close rest = omega arith

-- where the nodes that are open behind a token have room, its node has a place
pub place-behind : (room n : ℕ) (t : Token) → open_after n t ≤ room → HasPlace room n t
place-behind room n (Open f) h = omega arith
place-behind room n Close h = tt

-- a place for each node is enough
pub room-for-each : (room n : ℕ) (ts : List Token) → n + opens ts ≤ room → HasRoom room n ts
room-for-each room n [] h = tt
room-for-each room n (Open f ∷ ts) h = (omega arith, room-for-each room (n + 1) ts (omega arith))
room-for-each room n (Close ∷ ts) h = (tt, room-for-each room (n - 1) ts (omega arith))
