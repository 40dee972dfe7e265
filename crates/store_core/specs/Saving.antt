-- The calls of a writer that the tokens of a node ask for.
use Rattle.std.specs.Prelude.{ℕ, ◌+◌, ◌^◌, true, List, [], ◌∷◌, drop, length, Option, Some, None, slice_get, if◌then◌else◌}
use Rattle.std.specs.Option.{option_map, option_and_then}
use Rattle.tree_outside.specs.ByteCounts.{counted}
use Rattle.plain_tree.specs.declared.kind.Kind.{Kind}
use Rattle.plain_tree.specs.declared.kind.Kind.TheVariants.{Document, Element, Attribute, Text, Comment, Instruction}
use Rattle.plain_tree.specs.Numbers.{has_value}
use Rattle.value_cursor.specs.declared.cursor.Token.{Token}
use Rattle.value_cursor.specs.declared.cursor.Token.TheVariants as token
use Rattle.xml_nodes.specs.Pen.{Call, Open, Leaf, Close, Pen, call_text, pen_after, new_pen, calls_text}

-- a kind and a name, where a symbol has one
abbrev pub Named : Type 0
Named = Option (Kind × List ℕ)

-- where a walk along tokens stands: the symbols of the nodes that are open, the innermost first, and the texts that are left
pub record Place : Type 0 where
  pub outer : List ℕ
  pub texts : List (List ℕ)

-- before the first token
abbrev pub start_place : List (List ℕ) → Place
start_place texts = record { outer = []; texts = texts }

-- the call that begins a node: an element is opened, any other is written whole, with the next text
abbrev pub begin_call : Named → List (List ℕ) → Option Call
begin_call None texts = None
begin_call (Some (Document, name)) texts = None
begin_call (Some (Element, name)) texts = Some (Open name)
begin_call (Some (Attribute, name)) texts = option_map (Leaf Attribute name) (slice_get texts 0)
begin_call (Some (Text, name)) texts = option_map (Leaf Text name) (slice_get texts 0)
begin_call (Some (Comment, name)) texts = option_map (Leaf Comment name) (slice_get texts 0)
begin_call (Some (Instruction, name)) texts = option_map (Leaf Instruction name) (slice_get texts 0)

-- the texts that are left behind it
abbrev pub texts_past : Named → List (List ℕ) → List (List ℕ)
texts_past None texts = texts
texts_past (Some (kind, name)) texts = if has_value kind then drop 1 texts else texts

-- the call that ends a node: an element is closed
abbrev pub end_call : Named → Option Call
end_call (Some (Element, name)) = Some (Close name)
end_call named = None

-- the call for a token, if one
abbrev pub call_at : List (Kind × List ℕ) → Place → Token → Option Call
call_at names place token.Close = option_and_then (λ f. end_call (slice_get names f)) (slice_get place.outer 0)
call_at names place (token.Open f) = begin_call (slice_get names f) place.texts

-- one token further
abbrev pub place_after : List (Kind × List ℕ) → Place → Token → Place
place_after names place token.Close = record { outer = drop 1 place.outer; texts = place.texts }
place_after names place (token.Open f) = record { outer = f ∷ place.outer; texts = texts_past (slice_get names f) place.texts }

-- the call, if there is one, and then the others
abbrev pub with_call : Option Call → List Call → List Call
with_call None cs = cs
with_call (Some c) cs = c ∷ cs

-- the calls for tokens
abbrev pub token_calls : List (Kind × List ℕ) → Place → List Token → List Call
token_calls names place [] = []
token_calls names place (t ∷ ts) = with_call (call_at names place t) (token_calls names (place_after names place t) ts)

-- what is written of tokens, with these texts
abbrev pub tokens_text : List (Kind × List ℕ) → List (List ℕ) → List Token → List ℕ
tokens_text names texts ts = calls_text (new_pen true) (token_calls names (start_place texts) ts)

-- 1 for an element
abbrev pub element_count : Named → ℕ
element_count (Some (Element, name)) = 1
element_count named = 0

-- how many of the symbols are elements
abbrev pub depth_of : List (Kind × List ℕ) → List ℕ → ℕ
depth_of names [] = 0
depth_of names (f ∷ outer) = element_count (slice_get names f) + depth_of names outer

-- what a call writes, if there is one
abbrev pub text_at : Pen → Option Call → List ℕ
text_at pen None = []
text_at pen (Some call) = call_text pen call

-- at most so many bytes are that
abbrev pub most_text : Option Call → ℕ
most_text None = 0
most_text (Some (Open name)) = 2 ^ 63 + 8
most_text (Some (Close name)) = 2 ^ 63 + 8
most_text (Some (Leaf kind name value)) = 2 ^ 66

-- the pen after it
abbrev pub pen_past : Pen → Option Call → Pen
pen_past pen None = pen
pen_past pen (Some call) = pen_after pen call

-- how many bytes were written after it
abbrev pub count_past : ℕ → Pen → Option Call → ℕ
count_past count pen None = count
count_past count pen (Some call) = counted count (length (call_text pen call))
