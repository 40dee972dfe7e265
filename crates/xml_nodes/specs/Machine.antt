-- The machine on tokens: what is open, and which calls of a builder each token makes.
use Rattle.std.specs.Prelude.{◌≡◌, ℕ, ◌==◌, Bool, true, false, ◌&&◌, nat_le, List, [], ◌∷◌, ◌++◌, Option, Some, None, map, bytes_eq, if◌then◌else◌}
use Rattle.std.specs.Char.{encode_utf8}
use Rattle.plain_tree.specs.declared.kind.Kind.{Kind}
use Rattle.plain_tree.specs.declared.kind.Kind.TheVariants as kind
use Rattle.plain_tree.specs.Tree.{Tree, node, Trees, none, more}
use Rattle.plain_tree.specs.XmlNames.{is_space}
use Rattle.xml_tokens.specs.Tokens.{Token, Character, Reference, Section, Start, Empty, End, Comment, Instruction, Declaration, Doctype}
use Rattle.xml_nodes.specs.declared.stage.Stage.{Stage}
use Rattle.xml_nodes.specs.declared.stage.Stage.TheVariants.{Front, Marked, Prolog, Typed, Inside, Epilog}

-- a call of a builder
pub data Event : Type 0 where
  Opened : (name : List ℕ) → Event
  Leaf : (kind : Kind) (name value : List ℕ) → Event
  Closed : Event

abbrev mutual
  -- the calls of a tree, and then these; a document has none but those of its kids
  pub events : Tree → List Event → List Event
  events (node kind.Element n v ks) next = Opened n ∷ events_all ks (Closed ∷ next)
  events (node kind.Document n v ks) next = events_all ks next
  events (node k n v ks) next = Leaf k n v ∷ next

  pub events_all : Trees → List Event → List Event
  events_all none next = next
  events_all (more t ts) next = events t (events_all ts next)

-- the innermost name is the first; the text is what the run of pieces so far gives, brackets how many ] stand at its end as
-- characters, 2 at most
pub record State : Type 0 where
  pub stage : Stage
  pub names : List (List ℕ)
  pub text : List ℕ
  pub brackets : ℕ

-- the state behind a token and its calls, None where it may not stand there
abbrev pub Stepped : Type 0
Stepped = Option (State × List Event)

abbrev pub at_stage : State → Stage → State
at_stage s stage = record { stage = stage; names = s.names; text = s.text; brackets = s.brackets }

abbrev pub with_text : State → List ℕ → ℕ → State
with_text s text brackets = record { stage = s.stage; names = s.names; text = text; brackets = brackets }

-- with these elements open, and no text
abbrev pub opened_at : Stage → List (List ℕ) → State
opened_at stage names = record { stage = stage; names = names; text = []; brackets = 0 }

-- the text so far is a leaf, where there is any
abbrev pub text_leaf : List ℕ → List Event
text_leaf [] = []
text_leaf (c ∷ cs) = Leaf kind.Text [] (c ∷ cs) ∷ []

abbrev pub attribute_leaves : List (List ℕ × List ℕ) → List Event
attribute_leaves = map (λ a. Leaf kind.Attribute a.0 a.1)

-- behind white space, a comment or an instruction no declaration may come
abbrev pub passed : Stage → Stage
passed Front = Prolog
passed Marked = Prolog
passed stage = stage

abbrev pub may_declare : Stage → Bool
may_declare Front = true
may_declare Marked = true
may_declare stage = false

abbrev pub may_type : Stage → Bool
may_type Front = true
may_type Marked = true
may_type Prolog = true
may_type stage = false

abbrev pub may_root : Stage → Bool
may_root Front = true
may_root Marked = true
may_root Prolog = true
may_root Typed = true
may_root stage = false

abbrev pub is_front : Stage → Bool
is_front Front = true
is_front stage = false

-- a character outside the root: white space, or at the front the mark of the order of bytes
abbrev pub outer_character : State → ℕ → Stepped
outer_character s c =
    if is_space c then Some (at_stage s (passed s.stage), []) else (if is_front s.stage && (c == 0xFEFF) then Some (at_stage s Marked, []) else None)

-- a token outside the root
abbrev pub outer_step : State → Token → Stepped
outer_step s (Character c) = outer_character s c
outer_step s (Start n attrs) =
    if may_root s.stage
    then Some (record { stage = Inside; names = n ∷ s.names; text = s.text; brackets = s.brackets }, Opened n ∷ attribute_leaves attrs)
    else None
outer_step s (Empty n attrs) = if may_root s.stage then Some (at_stage s Epilog, Opened n ∷ (attribute_leaves attrs ++ Closed ∷ [])) else None
outer_step s (Comment v) = Some (at_stage s (passed s.stage), Leaf kind.Comment [] v ∷ [])
outer_step s (Instruction n v) = Some (at_stage s (passed s.stage), Leaf kind.Instruction n v ∷ [])
outer_step s Declaration = if may_declare s.stage then Some (at_stage s Prolog, []) else None
outer_step s Doctype = if may_type s.stage then Some (at_stage s Typed, []) else None
outer_step s t = None

-- 93 is ]
abbrev pub brackets_after : ℕ → ℕ → ℕ
brackets_after brackets c = if c == 93 then (if nat_le 1 brackets then 2 else 1) else 0

-- behind an end tag, by the elements that are still open
abbrev pub left : List (List ℕ) → Stage
left [] = Epilog
left (n ∷ names) = Inside

abbrev pub end_step : List (List ℕ) → List ℕ → List ℕ → Stepped
end_step [] text n = None
end_step (m ∷ names) text n = if bytes_eq m n then Some (opened_at (left names) names, text_leaf text ++ Closed ∷ []) else None

-- a token inside the root; a > behind ]] may not stand there
abbrev pub inner_step : State → Token → Stepped
inner_step s (Character c) = if (c == 62) && nat_le 2 s.brackets then None else Some (with_text s (s.text ++ encode_utf8 c) (brackets_after s.brackets c), [])
inner_step s (Reference c) = Some (with_text s (s.text ++ encode_utf8 c) 0, [])
inner_step s (Section v) = Some (with_text s (s.text ++ v) 0, [])
inner_step s (Start n attrs) = Some (opened_at s.stage (n ∷ s.names), text_leaf s.text ++ Opened n ∷ attribute_leaves attrs)
inner_step s (Empty n attrs) = Some (opened_at s.stage s.names, text_leaf s.text ++ Opened n ∷ (attribute_leaves attrs ++ Closed ∷ []))
inner_step s (End n) = end_step s.names s.text n
inner_step s (Comment v) = Some (opened_at s.stage s.names, text_leaf s.text ++ Leaf kind.Comment [] v ∷ [])
inner_step s (Instruction n v) = Some (opened_at s.stage s.names, text_leaf s.text ++ Leaf kind.Instruction n v ∷ [])
inner_step s t = None

abbrev pub step_at : Stage → State → Token → Stepped
step_at Inside s t = inner_step s t
step_at stage s t = outer_step s t

abbrev pub step : State → Token → Stepped
step s t = step_at s.stage s t

-- with these calls before
abbrev pub calls_before : List Event → Stepped → Stepped
calls_before es None = None
calls_before es (Some (s, fs)) = Some (s, es ++ fs)

abbrev pub then_on : Stepped → (State → Stepped) → Stepped
then_on None f = None
then_on (Some (s, es)) f = calls_before es (f s)

-- all the tokens
abbrev pub steps : State → List Token → Stepped
steps s [] = Some (s, [])
steps s (t ∷ ts) = then_on (step s t) (λ r. steps r ts)

-- what a run of characters without <, & and ] does inside the root: only its first may end ]]>
abbrev pub run_step : State → List ℕ → Stepped
run_step s [] = Some (s, [])
run_step s (c ∷ cs) = if (c == 62) && nat_le 2 s.brackets then None else Some (with_text s (s.text ++ c ∷ cs) 0, [])

-- before a document, and behind it
abbrev pub start : State
start = opened_at Front []

abbrev pub end : State
end = opened_at Epilog []

-- A fragment is read as the content of an element without a name, which no end tag of a document closes.
abbrev pub fragment_start : State
fragment_start = opened_at Inside ([] ∷ [])

-- what a node below a document has beside its calls: an element no value, the others no kids
abbrev mutual
  pub IsShaped : Tree → Type 0
  IsShaped (node kind.Element n v ks) = (v ≡ []) × AreShaped ks
  IsShaped (node kind.Document n v ks) = ⊥
  IsShaped (node k n v ks) = ks ≡ none

  pub AreShaped : Trees → Type 0
  AreShaped none = Unit {0}
  AreShaped (more t ts) = IsShaped t × AreShaped ts
