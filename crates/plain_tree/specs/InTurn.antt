-- An edit by which texts meet, as edits by which none do, one after another: a text that stays gets the value of all that meet, and the others
-- don't come, or go.
use Rattle.std.specs.Prelude.{ℕ, zero, suc, ◌+◌, ◌-◌, ◌≤◌, List, [], ◌∷◌, ◌++◌, Option, None, Some, if◌then◌else◌}
use Rattle.plain_tree.specs.declared.edit.Edit.{Edit}
use Rattle.plain_tree.specs.declared.edit.Edit.TheVariants.{Insert, Append, Delete, Value, Copy}
use Rattle.plain_tree.specs.declared.kind.Kind.TheVariants.{Text}
use Rattle.plain_tree.specs.Edits.{number_of, others, placed}
use Rattle.plain_tree.specs.Lawful.{IsDocument}
use Rattle.plain_tree.specs.Siblings.{from_node, first_kids, text_before}
use Rattle.plain_tree.specs.Tree.{Tree, node, Trees, none, more, trees, node_count, node_count_all}

-- the value of the text that is the first of them, if one is
abbrev pub first_text : Trees → Option (List ℕ)
first_text (more (node Text m v ks) ts) = Some v
first_text ts = None

-- the value of the text that is the last of them, if one is
abbrev pub last_text : Trees → Option (List ℕ)
last_text none = None
last_text (more t none) = first_text (more t none)
last_text (more t (more s ts)) = last_text (more s ts)

-- the value of the text that stands just before node n, if one does
abbrev pub text_before_node : ℕ → Trees → Option (List ℕ)
text_before_node zero ts = None
text_before_node (suc n) ts = if text_before (from_node n ts) then (first_text (from_node n ts)) else None

abbrev pub all_but_last : List Tree → List Tree
all_but_last [] = []
all_but_last (t ∷ []) = []
all_but_last (t ∷ s ∷ ts) = t ∷ all_but_last (s ∷ ts)

-- node n goes; where it stands between a text and another, which has the number next, these become one
abbrev pub delete_edits : (n next : ℕ) → Option (List ℕ) → Option (List ℕ) → List Edit
delete_edits n next (Some x) (Some y) = Value (n - 1) (x ++ y) ∷ Delete next ∷ Delete n ∷ []
delete_edits n next x y = Delete n ∷ []

-- an equal node comes before node n; where it is a text, it becomes one with it, and with a text before them
abbrev pub copy_edits : ℕ → Option (List ℕ) → Option (List ℕ) → List Edit
copy_edits n (Some x) (Some z) = Value (n - 1) (x ++ (z ++ z)) ∷ Delete n ∷ []
copy_edits n None (Some z) = Value n (z ++ z) ∷ []
copy_edits n x z = Copy n ∷ []

-- the trees come before node n, if there are any
abbrev pub insert_any : ℕ → List Tree → List Edit
insert_any n [] = []
insert_any n (t ∷ ts) = Insert n (t ∷ ts) ∷ []

-- the last of them and node n are texts, if they are, with these values, and become one
abbrev pub insert_before : ℕ → Option (List ℕ) → Option (List ℕ) → List Tree → List Edit
insert_before n (Some y) (Some z) ts = Value n (y ++ z) ∷ insert_any n (all_but_last ts)
insert_before n y z ts = insert_any n ts

-- and what stands just before node n and the first of them
abbrev pub insert_edits : ℕ → Option (List ℕ) → Option (List ℕ) → Option (List ℕ) → List Tree → List Edit
insert_edits n (Some x) (Some y) (Some z) (t ∷ []) = Value (n - 1) (x ++ (y ++ z)) ∷ Delete n ∷ []
insert_edits n (Some x) (Some y) z (t ∷ ts) = Value (n - 1) (x ++ y) ∷ insert_before n (last_text (trees ts)) z ts
insert_edits n x y z ts = insert_before n (last_text (trees ts)) z ts

-- the trees come behind the last kid of node n, if there are any
abbrev pub append_any : ℕ → List Tree → List Edit
append_any n [] = []
append_any n (t ∷ ts) = Append n (t ∷ ts) ∷ []

-- that kid, which has the number last, and the first of them are texts, if they are, with these values, and become one
abbrev pub append_edits : (n last : ℕ) → Option (List ℕ) → Option (List ℕ) → List Tree → List Edit
append_edits n last (Some x) (Some y) (t ∷ ts) = Value last (x ++ y) ∷ append_any n ts
append_edits n last x y ts = append_any n ts

-- the edits by which no texts meet that an edit comes to, where node n and the siblings behind it are here
abbrev pub edits_at : Option (List ℕ) → Trees → Edit → List Edit
edits_at x here (Insert n fragment) = insert_edits n x (first_text (trees fragment)) (first_text here) fragment
edits_at x here (Append n fragment) = append_edits n (n + node_count_all (first_kids here)) (last_text (first_kids here)) (first_text (trees fragment)) fragment
edits_at x here (Delete n) = delete_edits n (n + (node_count_all (first_kids here) + 1)) x (first_text (others here))
edits_at x here (Copy n) = copy_edits n x (first_text here)
edits_at x here e = e ∷ []

abbrev pub plain_edits : Tree → Edit → List Edit
plain_edits t e = edits_at (text_before_node (number_of e) (more t none)) (from_node (number_of e) (more t none)) e

-- the document after such edits
abbrev pub in_turn : Tree → List Edit → Tree
in_turn t [] = t
in_turn t (e ∷ es) = in_turn (placed t e) es

-- each of them leaves a document of at most so many nodes
abbrev pub LeaveDocuments : ℕ → Tree → List Edit → Type 0
LeaveDocuments most t [] = Unit {0}
LeaveDocuments most t (e ∷ es) = IsDocument (placed t e) × (node_count (placed t e) ≤ most) × LeaveDocuments most (placed t e) es
