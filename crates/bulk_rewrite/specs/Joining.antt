-- Nodes that are taken out, where texts that meet become one.
use Rattle.std.specs.Prelude.{◌≡◌, ℕ, suc, ◌+◌, ◌&&◌, List, [], ◌∷◌, Bool, true, false, Option, Some, None, slice_index_or, if◌then◌else◌}
use Rattle.plain_tree.specs.declared.kind.Kind.{Kind}
use Rattle.plain_tree.specs.declared.kind.Kind.TheVariants.{Document, Element, Attribute, Text, Comment, Instruction}
use Rattle.plain_tree.specs.Numbers.{has_value}
use Rattle.plain_tree.specs.Tree.{Tree, node, Trees, none, more, node_count, node_count_all}
use Rattle.plain_tree.specs.Joined.{behind_text, join_front}
use Rattle.slt_grammar.specs.Automata.{Downward}
use Rattle.slt_grammar.specs.declared.automata.Fell.{Fell}
use Rattle.bulk_rewrite.specs.Rewriting.{Rewriting}
pub use Rattle.bulk_rewrite.specs.declared.joining.Before.{Before}
pub use Rattle.bulk_rewrite.specs.declared.joining.Before.TheVariants.{NoText, JustText, GapText}
pub use Rattle.bulk_rewrite.specs.declared.joining.Marked.{Marked}
pub use Rattle.bulk_rewrite.specs.declared.joining.Marked.TheVariants.{Lost, At}
pub use Rattle.bulk_rewrite.specs.declared.sparing.Depth.{Depth}
pub use Rattle.bulk_rewrite.specs.declared.sparing.Depth.TheVariants.{AtTop, AtRoot, Below}
pub use Rattle.bulk_rewrite.specs.declared.sparing.AtDepth.{AtDepth}

-- a node is taken out
abbrev pub gapped : Before → Before
gapped NoText = NoText
gapped JustText = GapText
gapped GapText = GapText

abbrev pub is_gap : Before → Bool
is_gap NoText = false
is_gap JustText = false
is_gap GapText = true

abbrev pub is_text : Kind → Bool
is_text Text = true
is_text Document = false
is_text Element = false
is_text Attribute = false
is_text Comment = false
is_text Instruction = false

-- it stands below a node that is taken out
abbrev pub is_lost : {D : Type 0} → Marked D → Bool
is_lost Lost = true
is_lost (At d m) = false

-- whether a node gives way to what is behind it: it is hit, or a text that meets the text before
abbrev pub gives_way : Bool → Bool → Before → Bool
gives_way hit text m = if hit then true else (text && is_gap m)

-- what stands before what is behind a node
abbrev pub before_rest : Bool → Bool → Before → Before
before_rest hit text m = if hit then gapped m else (if text then JustText else NoText)

abbrev pub joining_step : {D : Type 0} → Bool → Before → Fell D → Fell (Marked D)
joining_step text m s = record {
  hit = s.hit;
  left = if gives_way s.hit text m then Lost else At s.left NoText;
  right = At s.right (before_rest s.hit text m);
}

module _ {S D : Type 0} (W : Downward S D) (texts : ℕ → Bool) where
  abbrev pub step_joining : ℕ → Marked D → S → S → Fell (Marked D)
  step_joining f Lost k r = record { hit = false; left = Lost; right = Lost }
  step_joining f (At d m) k r = joining_step (texts f) m (W.step f d k r)

  abbrev pub joining_run : Downward S (Marked D)
  joining_run = record { start = At W.start NoText; step = step_joining }

abbrev pub kept_symbol : {D : Type 0} → (ℕ → Bool) → ℕ → Marked D → Bool → Option ℕ
kept_symbol texts f Lost hit = None
kept_symbol texts f (At d m) hit = if gives_way hit (texts f) m then None else Some f

abbrev pub joining : {D : Type 0} → (ℕ → Bool) → Rewriting (Marked D)
joining texts = record { lost = is_lost; becomes = kept_symbol texts }

-- trees that are kept, each with whether a node was taken out since the one before it
abbrev pub Rests : Type 0
Rests = List (Bool × Tree)

-- the first of them is a text behind a node that was taken out
abbrev pub begins_met : Rests → Bool
begins_met ((true, node Text name value kids) ∷ ts) = true
begins_met ts = false

-- a text meets the next one
abbrev pub meets : Tree → Rests → Bool
meets (node Text name value kids) ts = begins_met ts
meets t ts = false

-- the trees, where texts that meet become one
abbrev pub joined_rests : Rests → Trees
joined_rests [] = none
joined_rests ((gap, t) ∷ ts) = if meets t ts then join_front t (joined_rests ts) else more t (joined_rests ts)

abbrev mutual
  -- a tree whose root is not taken, without the nodes of some numbers and all below them, and with texts that meet as one
  pub deleted : (ℕ → Bool) → ℕ → Tree → Tree
  deleted taken n (node kind name value kids) = node kind name value (joined_rests (kept_rests taken (suc n) false kids))

  -- what is kept of trees, the first of which has a number
  pub kept_rests : (ℕ → Bool) → ℕ → Bool → Trees → Rests
  kept_rests taken n gap none = []
  kept_rests taken n gap (more t ts) = if taken n then kept_rests taken (n + node_count t) true ts else (gap, deleted taken n t) ∷ kept_rests taken (n + node_count t) false ts

-- what of trees is no part of the text before them
abbrev pub behind_met : Rests → Trees
behind_met ts = if begins_met ts then behind_text (joined_rests ts) else joined_rests ts

abbrev pub behind_mark : Before → Rests → Trees
behind_mark NoText ts = joined_rests ts
behind_mark JustText ts = behind_met ts
behind_mark GapText ts = behind_met ts

-- whether a node was taken out since the kept one before
abbrev pub gap_of : Before → Bool → Bool
gap_of NoText gap = gap
gap_of JustText gap = false
gap_of GapText gap = true

-- no element among a document's kids, the first of which has a number, is taken out
abbrev pub RootStays : (ℕ → Bool) → ℕ → Trees → Type 0
RootStays taken n none = Unit {0}
RootStays taken n (more (node Element name value kids) ts) = (taken n ≡ false) × RootStays taken (n + (node_count_all kids + 1)) ts
RootStays taken n (more (node kind name value kids) ts) = RootStays taken (n + (node_count_all kids + 1)) ts

-- neither the document nor its root element is taken out
abbrev pub MayDelete : (ℕ → Bool) → Tree → Type 0
MayDelete taken (node kind name value kids) = (taken 0 ≡ false) × RootStays taken 1 kids

abbrev pub is_element : Kind → Bool
is_element Document = false
is_element Element = true
is_element Attribute = false
is_element Text = false
is_element Comment = false
is_element Instruction = false

abbrev pub deeper : Depth → Depth
deeper AtTop = AtRoot
deeper AtRoot = Below
deeper Below = Below

-- a node that must stay: the document, or the root element
abbrev pub must_stay : Depth → Bool → Bool
must_stay AtTop element = true
must_stay AtRoot element = element
must_stay Below element = false

-- the run that hits what is hit and must stay
abbrev pub sparing_run : {S D : Type 0} → Downward S D → (ℕ → Bool) → Downward S (AtDepth D)
sparing_run W elements = record {
  start = record { down = W.start; depth = AtTop };
  step = λ f o k r. let s = W.step f o.down k r in record { hit = s.hit && must_stay o.depth (elements f); left = record { down = s.left; depth = deeper o.depth }; right = record { down = s.right; depth = o.depth } };
}

-- which symbols are of texts, which of elements, and which of nodes with a value, by the kinds of the first symbols
abbrev pub texts_in : List Kind → ℕ → Bool
texts_in kinds f = is_text (slice_index_or kinds f Document)

abbrev pub elements_in : List Kind → ℕ → Bool
elements_in kinds f = is_element (slice_index_or kinds f Document)

abbrev pub valued_in : List Kind → ℕ → Bool
valued_in kinds f = has_value (slice_index_or kinds f Document)
