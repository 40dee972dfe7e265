-- The calls that write a tree, and what each of them writes.
use Rattle.std.specs.Prelude.{◌≡◌, ℕ, ◌+◌, ◌-◌, ◌==◌, Bool, true, false, ◌&&◌, List, [], ◌∷◌, ◌++◌, codes, if◌then◌else◌}
use Rattle.plain_tree.specs.declared.kind.Kind.{Kind}
use Rattle.plain_tree.specs.declared.kind.Kind.TheVariants as kind
use Rattle.plain_tree.specs.Tree.{Tree, node, Trees, none, more}
use Rattle.xml_nodes.specs.Saved.{leaf_text, element_end, is_attribute, before_kid, spelling, saved_bytes}

-- a call of the writer
pub data Call : Type 0 where
  Open : (name : List ℕ) → Call
  Leaf : (kind : Kind) (name value : List ℕ) → Call
  Close : (name : List ℕ) → Call

abbrev mutual
  -- the calls of a tree, and then these (a document stands below no other node; there it would be an element)
  pub calls : Tree → List Call → List Call
  calls (node kind.Element name value kids) next = Open name ∷ calls_all kids (Close name ∷ next)
  calls (node kind.Document name value kids) next = Open name ∷ calls_all kids (Close name ∷ next)
  calls (node k name value kids) next = Leaf k name value ∷ next

  pub calls_all : Trees → List Call → List Call
  calls_all none next = next
  calls_all (more t ts) next = calls t (calls_all ts next)

-- the calls of a document are those of its kids
abbrev pub document_calls : Tree → List Call
document_calls (node k name value kids) = calls_all kids []

-- whether outermost items end their line, how many elements are open, and whether the last start tag is
pub record Pen : Type 0 where
  pub lines : Bool
  pub depth : ℕ
  pub in_tag : Bool

-- before the first call
abbrev pub new_pen : Bool → Pen
new_pen lines = record { lines = lines; depth = 0; in_tag = false }

-- > where the last start tag is still open
abbrev pub ended_tag : Bool → List ℕ
ended_tag in_tag = if in_tag then codes ">" else []

abbrev pub is_attribute_kind : Kind → Bool
is_attribute_kind kind.Attribute = true
is_attribute_kind k = false

-- in front of a leaf: a space where the tag goes on, > where it ends
abbrev pub before_leaf : Bool → Bool → List ℕ
before_leaf in_tag attribute = if in_tag then (if attribute then codes " " else codes ">") else []

-- neither an element nor the document
abbrev pub is_leaf : Kind → Bool
is_leaf kind.Document = false
is_leaf kind.Element = false
is_leaf k = true

-- a line feed outside all elements
abbrev pub line_end : Bool → ℕ → List ℕ
line_end lines depth = if lines && (depth == 0) then 10 ∷ [] else []

-- what a call writes
abbrev pub call_text : Pen → Call → List ℕ
call_text pen (Open name) = ended_tag pen.in_tag ++ 60 ∷ name
call_text pen (Leaf k name value) = (before_leaf pen.in_tag (is_attribute_kind k) ++ leaf_text k name value) ++ line_end pen.lines pen.depth
call_text pen (Close name) = element_end pen.in_tag name ++ line_end pen.lines (pen.depth - 1)

-- and how it leaves the pen
abbrev pub pen_after : Pen → Call → Pen
pen_after pen (Open name) = record { lines = pen.lines; depth = pen.depth + 1; in_tag = true }
pen_after pen (Leaf k name value) = record { lines = pen.lines; depth = pen.depth; in_tag = pen.in_tag && is_attribute_kind k }
pen_after pen (Close name) = record { lines = pen.lines; depth = pen.depth - 1; in_tag = false }

-- what calls one after the other write
abbrev pub calls_text : Pen → List Call → List ℕ
calls_text pen [] = []
calls_text pen (c ∷ cs) = call_text pen c ++ calls_text (pen_after pen c) cs

-- The calls of a tree write its spelling, behind what stands in front of it, with a line feed where it stands outside all elements.
abbrev pub CallsWriteTree : Type 0
CallsWriteTree = (t : Tree) (pen : Pen) (next : List Call) →
    calls_text pen (calls t next)
    ≡ ((before_kid pen.in_tag t ++ spelling t) ++ line_end pen.lines pen.depth) ++ calls_text (record pen { in_tag = pen.in_tag && is_attribute t }) next

-- The calls of a document write its saved bytes.
abbrev pub CallsSaveDocument : Type 0
CallsSaveDocument = (t : Tree) → calls_text (new_pen true) (document_calls t) ≡ saved_bytes t
